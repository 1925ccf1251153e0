-- When a Close has its turn no other call of its client waits, and so no Open of its handle.
use Rattle.std.proofs.Common.{◌≡◌, ◌≤◌, ◌+◌, ℕ, List, [], ◌∷◌, Bool, true, false, cond, Some, refl, sym, ap, subst, ◌∙◌, arith}
use Rattle.std.specs.Prelude.{◌||◌, ◌==◌, All, find}
use Rattle.std.specs.Option.{option_map}
use Rattle.std.specs.List.{list_any, sum_by}
use Rattle.std.proofs.lemmas.Bool.{and_parts, eqb-true}
use Rattle.std.proofs.lemmas.Bool.Decides.{nat_tests}
use Rattle.std.proofs.lemmas.List.Elements.{All-head, All-tail}
use Rattle.std.proofs.lemmas.List.Sums.{sum_by-cons}
use Rattle.gate_core.specs.declared.pending.Pending.{Pending}
use Rattle.gate_core.specs.declared.pending.Waiting.{Waiting}
use Rattle.gate_core.specs.Gate.{is_numbered, without}
use Rattle.tags_cell.specs.declared.messages.calls.Call.{Call}
use Rattle.tags_cell.specs.declared.messages.calls.Call.TheVariants as calls
use Rattle.master_parts.specs.declared.handles.HandleKey.{HandleKey}
use Rattle.master_parts.specs.declared.pending.Task.{Task}
use Rattle.master_parts.specs.declared.pending.Task.TheVariants as tasks
use Rattle.master_parts.specs.declared.pending.Work.{Work}
use Rattle.master_parts.specs.declared.pending.Work.TheVariants as works
use Rattle.master_state.specs.State.{MasterState, task_at}
use Rattle.master_parts.specs.Keys.{key_of}
use Rattle.master_state.specs.Lookups.{kept_of, noted}
use Rattle.master_state.specs.CallsWaiting.{is_by, is_call}
use Rattle.over_core.specs.Kept.{IsOwnTask, IsOwnCall, work_count, is_unanswered, unanswered}
use Rattle.master_laws.specs.Closed.{opens_as, work_opens, task_opens, waits_to_open, CloseClosesForGood}
use Rattle.master_laws.proofs.AfterSweeps.{done_gate}
use Rattle.master_laws.proofs.Closes.{close_plan, closed_so, close_closes}

-- ---- one call that waits

itself : (n : ℕ) → (n == n) ≡ true
itself n = grind (arith, nat_tests)

-- the Open of a handle is a call of the handle's client
of_client : (key : HandleKey) (client number : ℕ) (call : Call) → opens_as key client number call ≡ true → key.client ≡ client
of_client key client number (calls.Open opening) h = eqb-true key.client client (and_parts (key.client == client) (key.number == number) h).0
of_client key client number _ h = absurd cc

by_work : (key : HandleKey) (client number : ℕ) (work : Work) → work_opens key client number work ≡ true → (is_call work ≡ true) × (key.client ≡ client)
by_work key client number (works.Calls call sequencer) h = (refl, of_client key client number call h)
by_work key client number (works.Starts principal received) h = absurd cc

is_own : (key : HandleKey) (task : Task) → task_opens key task ≡ true → is_by is_call key.client task ≡ true
is_own key (tasks.Asked asked) h =
    let t = by_work key asked.client asked.number asked.work h in
    rw (t.0, ← t.1, itself key.client) refl
is_own key (tasks.Tidies idle) h = absurd cc

-- ---- how many calls of a client wait

one_if : (b : Bool) → cond {A = ℕ} b 1 0 ≡ 0 → b ≡ false
one_if true h = absurd (omega (arith, h))
one_if false h = refl

no_part : (all one rest : ℕ) → all ≡ one + rest → all ≡ 0 → (one ≡ 0) × (rest ≡ 0)
no_part all one rest h k = (omega (arith, h, k), omega (arith, h, k))

none_opens : (key : HandleKey) (ws : List (Waiting Task)) → sum_by (work_count is_call key.client) ws ≡ 0 → list_any (λ (w : Waiting Task). task_opens key w.change.body) ws ≡ false
none_opens key [] h = refl
none_opens key (w ∷ ws) h =
    let t = no_part (sum_by (work_count is_call key.client) (w ∷ ws)) (work_count is_call key.client w) (sum_by (work_count is_call key.client) ws) (sum_by-cons (work_count is_call key.client) w ws) h in
    let other : is_by is_call key.client w.change.body ≡ false = one_if (is_by is_call key.client w.change.body) t.0 in
    (elim (task_opens key w.change.body) as (λ b. task_opens key w.change.body ≡ b → (b || list_any (λ (v : Waiting Task). task_opens key v.change.body) ws) ≡ false) [
      | true ↦ (λ opens. let own = is_own key w.change.body opens in absurd cc)
      | false ↦ (λ opens. none_opens key ws t.1)
    ]) refl

one_more : (all one rest less : ℕ) → all ≡ one + rest → rest ≡ less + 1 → all ≡ (one + less) + 1
one_more all one rest less h k = omega (arith, h, k)

its_own : (all one rest : ℕ) → all ≡ one + rest → one ≡ 1 → all ≡ rest + 1
its_own all one rest h k = omega (arith, h, k)

-- one fewer waits, where a call of the client has left
one_fewer : (client number : ℕ) (ws : List (Waiting Task)) (task : Task) → is_by is_call client task ≡ true → task_at number ws ≡ Some task → sum_by (work_count is_call client) ws ≡ sum_by (work_count is_call client) (without number ws) + 1
one_fewer client number [] task call = λ is. absurd cc
one_fewer client number (w ∷ ws) task call =
    let all = sum_by-cons (work_count is_call client) w ws in
    elim (is_numbered number w) as (λ b. option_map (λ (change : Pending Task). change.body) (option_map (λ (v : Waiting Task). v.change) (cond b (Some w) (find (is_numbered number) ws))) ≡ Some task → sum_by (work_count is_call client) (w ∷ ws) ≡ sum_by (work_count is_call client) (cond b ws (w ∷ without number ws)) + 1) [
      | true ↦ (λ is.
          let same : w.change.body ≡ task = cc in
          let counts : work_count is_call client w ≡ 1 = ap (λ b. cond b 1 0) (ap (is_by is_call client) same ∙ call) in
          its_own (sum_by (work_count is_call client) (w ∷ ws)) (work_count is_call client w) (sum_by (work_count is_call client) ws) all counts)
      | false ↦ (λ is.
          let fewer = one_more (sum_by (work_count is_call client) (w ∷ ws)) (work_count is_call client w) (sum_by (work_count is_call client) ws) (sum_by (work_count is_call client) (without number ws)) all (one_fewer client number ws task call is) in
          fewer ∙ ap (λ n. n + 1) (sym (sum_by-cons (work_count is_call client) w (without number ws))))
    ]

-- ---- the Close

found_own : (secret : List ℕ) (number : ℕ) (ws : List (Waiting Task)) (task : Task) → All (λ (w : Waiting Task). IsOwnTask secret w.change.body) ws → task_at number ws ≡ Some task → IsOwnTask secret task
found_own secret number [] task own = λ is. absurd cc
found_own secret number (w ∷ ws) task own =
    elim (is_numbered number w) as (λ b. option_map (λ (change : Pending Task). change.body) (option_map (λ (v : Waiting Task). v.change) (cond b (Some w) (find (is_numbered number) ws))) ≡ Some task → IsOwnTask secret task) [
      | true ↦ (λ is. let same : w.change.body ≡ task = cc in subst (IsOwnTask secret) same (All-head (λ (v : Waiting Task). IsOwnTask secret v.change.body) w ws own))
      | false ↦ (λ is. found_own secret number ws task (All-tail (λ (v : Waiting Task). IsOwnTask secret v.change.body) w ws own) is)
    ]

at_most_one : (b : Bool) → cond b 1 0 ≤ 1
at_most_one true = omega arith
at_most_one false = omega arith

none_beside : (all rest locks one : ℕ) → all + locks ≤ one → one ≤ 1 → all ≡ rest + 1 → rest ≡ 0
none_beside all rest locks one h k l = omega (arith, h, k, l)

pub close_closes_for_good : CloseClosesForGood
close_closes_for_good cell rows s new now number told asked bytes sequencer handle kept h turn reads =
    let there : MasterState = noted s now in
    let call : is_by is_call asked.client (tasks.Asked asked) ≡ true = rw (turn.work, itself asked.client) refl in
    let own_task : IsOwnTask s.secret (tasks.Asked asked) = found_own s.secret number s.gate.waiting (tasks.Asked asked) kept.own turn.waits in
    let own : handle.client ≡ asked.client = subst (IsOwnCall s.secret asked.client) turn.work own_task handle reads in
    let fewer = one_fewer asked.client number s.gate.waiting (tasks.Asked asked) call turn.waits in
    let none =
    none_beside (sum_by (work_count is_call asked.client) s.gate.waiting) (sum_by (work_count is_call asked.client) (without number s.gate.waiting)) 0 (unanswered (kept_of s asked.client))
    (kept.one_call.0 asked.client) (at_most_one (is_unanswered (kept_of s asked.client))) fewer in
    let unasked = none_opens (key_of handle) (without number s.gate.waiting) (ap (λ q. sum_by (work_count is_call q) (without number s.gate.waiting)) own ∙ none) in
    let is = closed_so s new now number told asked bytes sequencer handle h turn reads in
    record {
      closed = (close_closes s new now number told asked bytes sequencer handle h turn reads).0;
      unasked =
          ap (λ p. waits_to_open (key_of handle) p.0) is
          ∙ ap (λ gate. list_any (λ (w : Waiting Task). task_opens (key_of handle) w.change.body) gate.waiting) (done_gate there (close_plan there number asked bytes handle).update)
          ∙ unasked;
    }
