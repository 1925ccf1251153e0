-- A client waits with one call at most, in the gate or for a lock, beside the one by which it ends its session.
use Rattle.std.proofs.Common.{◌≡◌, ◌≢◌, ℕ, ◌+◌, ◌≤◌, List, [], ◌∷◌, ◌++◌, Bool, true, false, cond, Option, Some, None, refl, sym, ap, ◌∙◌, arith}
use Rattle.std.specs.Prelude.{◌&&◌, ◌||◌, ◌==◌, is_some, unwrap_or}
use Rattle.std.specs.Option.{option_map, option_map_or}
use Rattle.std.specs.List.{sum_by}
use Rattle.std.specs.List.Sorted.{IsStrictlySortedBy}
use Rattle.std.specs.Map.{keys_of, lookup, values_of, remove_entry}
use Rattle.std.specs.BTreeMap.{is_at}
use Rattle.std.specs.Ordering.{nat_cmp}
use Rattle.std.specs.Cmp.{nat_cmp_total}
use Rattle.std.proofs.lemmas.Bool.{eqb-true}
use Rattle.std.proofs.lemmas.Bool.Decides.{nat_tests}
use Rattle.std.proofs.lemmas.List.Sums.{sum_by-cons, sum_by-append, sum_by_push}
use Rattle.std.proofs.lemmas.Map.Entries.{sum_by-insert_entry, sum_by-remove_entry}
use Rattle.gate_core.specs.declared.pending.Waiting.{Waiting}
use Rattle.tags_cell.specs.declared.messages.outs.Reply.{Reply}
use Rattle.session_core.specs.declared.records.LastCall.{LastCall}
use Rattle.session_core.specs.declared.records.Session.{Session}
use Rattle.session_core.specs.Session.{keeping}
use Rattle.session_core.specs.Sessions.{SessionTable, session_of, kept_of, is_live, with_session, without}
use Rattle.collections.proofs.OneKey.{lookup_removed_apart}
use Rattle.session_core.proofs.OneClient.{kept_session, other_session}
use Rattle.lock_core.specs.State.{LockState, lock_of}
use Rattle.lock_core.specs.Locks.{LockTable, lock_at, with_lock}
use Rattle.master_parts.specs.declared.pending.WaitingRequest.{WaitingRequest}
use Rattle.master_parts.specs.declared.pending.Task.{Task}
use Rattle.master_parts.specs.declared.pending.Work.{Work}
use Rattle.master_parts.specs.declared.pending.Task.TheVariants as tasks
use Rattle.master_parts.specs.declared.pending.Work.TheVariants as works
use Rattle.master_state.specs.CallsWaiting.{is_by, is_call, has_call}
use Rattle.over_core.specs.Kept.{is_other_call, work_count, waits_count, count_of, count_in, is_unanswered, unanswered, AreOneOf, AreOne}
use Rattle.over_core.proofs.SessionReads.{keeps_in}

-- ---- numbers

to_same : (a b c : ℕ) → a ≤ b → b ≡ c → a ≤ c
to_same a b c h k = omega (arith, h, k)

pub none_counts : (a b : ℕ) → a ≤ b → b ≡ 0 → a ≡ 0
none_counts a b h k = omega (arith, h, k)

at_least_none : (a b : ℕ) → a ≡ 0 → a ≤ b
at_least_none a b h = omega (arith, h)

same_client : (a b : ℕ) → (a == b) ≡ true → a ≡ b
same_client a b h = eqb-true a b h

other_client : (a b : ℕ) → (a == b) ≡ false → a ≢ b
other_client a b h same = absurd (grind (arith, nat_tests))

one_itself : (n : ℕ) → (n == n) ≡ true
one_itself n = grind (arith, nat_tests)

turned : (a b : ℕ) → (a == b) ≡ false → (b == a) ≡ false
turned a b h = grind (arith, nat_tests)

abbrev pub one_if : Bool → ℕ
one_if b = cond b 1 0

pub at_most_one : (b : Bool) → one_if b ≤ 1
at_most_one true = omega arith
at_most_one false = omega arith

not_counted : (b c : Bool) → c ≡ false → one_if (b && c) ≡ 0
not_counted true c h = rw h refl
not_counted false c h = refl

-- ---- sessions

-- the same last calls
kind_same : (kind : Work → Bool) (waiting : List (Waiting Task)) (locks : LockTable) (old new : SessionTable Reply) → ((q : ℕ) → kept_of new q ≡ kept_of old q) → AreOneOf kind waiting locks old → AreOneOf kind waiting locks new
kind_same kind waiting locks old new same h q = to_same (count_of kind waiting locks q) (unanswered (kept_of old q)) (unanswered (kept_of new q)) (h q) (ap unanswered (sym (same q)))

-- another last call of a client of which none waits
kind_recorded : (kind : Work → Bool) (waiting : List (Waiting Task)) (locks : LockTable) (sessions : SessionTable Reply) (client : ℕ) (kept : LastCall Reply) → count_of kind waiting locks client ≡ 0 → AreOneOf kind waiting locks sessions → AreOneOf kind waiting locks (with_session sessions client (keeping kept))
kind_recorded kind waiting locks sessions client kept none h q =
    (elim (q == client) as (λ b. (q == client) ≡ b → count_of kind waiting locks q ≤ unanswered (kept_of (with_session sessions client (keeping kept)) q)) [
      | true ↦ (λ c. at_least_none (count_of kind waiting locks q) (unanswered (kept_of (with_session sessions client (keeping kept)) q)) (ap (count_of kind waiting locks) (same_client q client c) ∙ none))
      | false ↦ (λ c.
          to_same (count_of kind waiting locks q) (unanswered (kept_of sessions q)) (unanswered (kept_of (with_session sessions client (keeping kept)) q)) (h q)
          (ap (λ o. unanswered (keeps_in o)) (sym (other_session sessions client (keeping kept) q (other_client q client c)))))
    ]) refl

-- a client of which none waits has no session any more
kind_retired : (kind : Work → Bool) (waiting : List (Waiting Task)) (locks : LockTable) (sessions : SessionTable Reply) (client : ℕ) → count_of kind waiting locks client ≡ 0 → AreOneOf kind waiting locks sessions → AreOneOf kind waiting locks (without sessions client)
kind_retired kind waiting locks sessions client none h q =
    (elim (q == client) as (λ b. (q == client) ≡ b → count_of kind waiting locks q ≤ unanswered (kept_of (without sessions client) q)) [
      | true ↦ (λ c. at_least_none (count_of kind waiting locks q) (unanswered (kept_of (without sessions client) q)) (ap (count_of kind waiting locks) (same_client q client c) ∙ none))
      | false ↦ (λ c.
          to_same (count_of kind waiting locks q) (unanswered (kept_of sessions q)) (unanswered (kept_of (without sessions client) q)) (h q)
          (ap (λ o. unanswered (keeps_in o)) (sym (lookup_removed_apart client q (other_client q client c) sessions.sessions))))
    ]) refl

-- ---- the gate

plus_none : (a b c d e : ℕ) → a ≡ b + c → c ≡ 0 → b + d ≤ e → a + d ≤ e
plus_none a b c d e h k l = omega (arith, h, k, l)

plus_one : (a b c d e : ℕ) → a ≡ b + c → c ≤ 1 → b + d ≡ 0 → e ≡ 1 → a + d ≤ e
plus_one a b c d e h k l m = omega (arith, h, k, l, m)

-- what a client asked for, where it waits
abbrev pub asked_waiting : ℕ → List (List ℕ) → WaitingRequest → Waiting Task
asked_waiting number touched asked = record { number = number; change = record { touched = touched; body = tasks.Asked asked } }

-- a change that waits and is no call
kind_started : (kind : Work → Bool) (waiting : List (Waiting Task)) (locks : LockTable) (sessions : SessionTable Reply) (w : Waiting Task) → ((q : ℕ) → is_by kind q w.change.body ≡ false) → AreOneOf kind waiting locks sessions → AreOneOf kind (waiting ++ w ∷ []) locks sessions
kind_started kind waiting locks sessions w none h q =
    plus_none (sum_by (work_count kind q) (waiting ++ w ∷ [])) (sum_by (work_count kind q) waiting) (work_count kind q w) (sum_by (waits_count q) (values_of locks)) (unanswered (kept_of sessions q))
    (sum_by_push (work_count kind q) waiting w) (ap one_if (none q)) (h q)

there : (sessions : SessionTable Reply) (client : ℕ) → is_live sessions client ≡ true → is_some (session_of sessions client) ≡ true
there sessions client live =
    (elim (session_of sessions client) as (λ o. option_map_or (λ (session : Session Reply). session.live) o false ≡ true → is_some o ≡ true) [
      | None ↦ (λ h. absurd cc)
      | Some session ↦ (λ h. refl)
    ]) live

unreplied : (kept : LastCall Reply) → kept.reply ≡ None → unanswered (Some kept) ≡ 1
unreplied kept h = rw h refl

-- a call that waits, of a client of which none waited
kind_called : (kind : Work → Bool) (waiting : List (Waiting Task)) (locks : LockTable) (sessions : SessionTable Reply) (client : ℕ) (kept : LastCall Reply) (number : ℕ) (touched : List (List ℕ)) (asked : WaitingRequest) → asked.client ≡ client → kept.reply ≡ None → is_live sessions client ≡ true → count_of kind waiting locks client ≡ 0
    → AreOneOf kind waiting locks sessions → AreOneOf kind (waiting ++ asked_waiting number touched asked ∷ []) locks (with_session sessions client (keeping kept))
kind_called kind waiting locks sessions client kept number touched asked own pending live none h q =
    let w : Waiting Task = asked_waiting number touched asked in
    let after : SessionTable Reply = with_session sessions client (keeping kept) in
    let locked : ℕ = sum_by (waits_count q) (values_of locks) in
    (elim (client == q) as (λ b. (client == q) ≡ b → sum_by (work_count kind q) (waiting ++ w ∷ []) + locked ≤ unanswered (kept_of after q)) [
      | true ↦ (λ c.
          let is : client ≡ q = same_client client q c in
          let own_kept : kept_of after q ≡ Some kept = ap (λ n. kept_of after n) (sym is) ∙ kept_session sessions client kept (there sessions client live) in
          plus_one (sum_by (work_count kind q) (waiting ++ w ∷ [])) (sum_by (work_count kind q) waiting) (work_count kind q w) locked (unanswered (kept_of after q))
          (sum_by_push (work_count kind q) waiting w) (at_most_one (kind asked.work && asked.client == q)) (ap (count_of kind waiting locks) (sym is) ∙ none) (ap unanswered own_kept ∙ unreplied kept pending))
      | false ↦ (λ c.
          let apart : (asked.client == q) ≡ false = ap (λ n. n == q) own ∙ c in
          plus_none (sum_by (work_count kind q) (waiting ++ w ∷ [])) (sum_by (work_count kind q) waiting) (work_count kind q w) locked (unanswered (kept_of after q))
          (sum_by_push (work_count kind q) waiting w) (not_counted (kind asked.work) (asked.client == q) apart)
          (kind_recorded kind waiting locks sessions client kept none h q))
    ]) refl

-- the last call of a client is another one that has no reply yet
kind_open : (kind : Work → Bool) (waiting : List (Waiting Task)) (locks : LockTable) (sessions : SessionTable Reply) (client : ℕ) (kept : LastCall Reply) → kept.reply ≡ None → is_live sessions client ≡ true → AreOneOf kind waiting locks sessions → AreOneOf kind waiting locks (with_session sessions client (keeping kept))
kind_open kind waiting locks sessions client kept pending live h q =
    let after : SessionTable Reply = with_session sessions client (keeping kept) in
    (elim (q == client) as (λ b. (q == client) ≡ b → count_of kind waiting locks q ≤ unanswered (kept_of after q)) [
      | true ↦ (λ c.
          let own : kept_of after q ≡ Some kept = ap (kept_of after) (same_client q client c) ∙ kept_session sessions client kept (there sessions client live) in
          at_most (count_of kind waiting locks q) (unanswered (kept_of sessions q)) (unanswered (kept_of after q)) (h q) (at_most_one (is_unanswered (kept_of sessions q))) (ap unanswered own ∙ unreplied kept pending))
      | false ↦ (λ c.
          to_same (count_of kind waiting locks q) (unanswered (kept_of sessions q)) (unanswered (kept_of after q)) (h q)
          (ap (λ o. unanswered (keeps_in o)) (sym (other_session sessions client (keeping kept) q (other_client q client c)))))
    ]) refl
  where
    at_most : (a b c : ℕ) → a ≤ b → b ≤ 1 → c ≡ 1 → a ≤ c
    at_most a b c k l m = omega (arith, k, l, m)

-- work of another kind that waits, of a client whose last call it is then
kind_beside_one : (kind : Work → Bool) (waiting : List (Waiting Task)) (locks : LockTable) (sessions : SessionTable Reply) (client : ℕ) (kept : LastCall Reply) (number : ℕ) (touched : List (List ℕ)) (asked : WaitingRequest) → kind asked.work ≡ false → kept.reply ≡ None → is_live sessions client ≡ true
    → AreOneOf kind waiting locks sessions → AreOneOf kind (waiting ++ asked_waiting number touched asked ∷ []) locks (with_session sessions client (keeping kept))
kind_beside_one kind waiting locks sessions client kept number touched asked apart pending live h q =
    let w : Waiting Task = asked_waiting number touched asked in
    let after : SessionTable Reply = with_session sessions client (keeping kept) in
    let locked : ℕ = sum_by (waits_count q) (values_of locks) in
    plus_none (sum_by (work_count kind q) (waiting ++ w ∷ [])) (sum_by (work_count kind q) waiting) (work_count kind q w) locked (unanswered (kept_of after q))
    (sum_by_push (work_count kind q) waiting w) (first_not (kind asked.work) (asked.client == q) apart)
    (kind_open kind waiting locks sessions client kept pending live h q)
  where
    first_not : (b c : Bool) → b ≡ false → one_if (b && c) ≡ 0
    first_not true c e = cc
    first_not false c e = refl

-- one that leaves the gate
pub gate_less : (kind : Work → Bool) (q : ℕ) (front : List (Waiting Task)) (w : Waiting Task) (back : List (Waiting Task)) → sum_by (work_count kind q) (front ++ w ∷ back) ≡ sum_by (work_count kind q) (front ++ back) + work_count kind q w
gate_less kind q front w back =
    let a = sum_by-append (work_count kind q) front (w ∷ back) in
    let b = sum_by-append (work_count kind q) front back in
    let c = sum_by-cons (work_count kind q) w back in
    middle (sum_by (work_count kind q) (front ++ w ∷ back)) (sum_by (work_count kind q) front) (sum_by (work_count kind q) (w ∷ back)) (work_count kind q w) (sum_by (work_count kind q) back) (sum_by (work_count kind q) (front ++ back)) a c b
  where
    middle : (all f wb c b fb : ℕ) → all ≡ f + wb → wb ≡ c + b → fb ≡ f + b → all ≡ fb + c
    middle all f wb c b fb h k l = omega (arith, h, k, l)

less_still : (all rest c d e : ℕ) → all ≡ rest + c → all + d ≤ e → rest + d ≤ e
less_still all rest c d e h k = omega (arith, h, k)

kind_less : (kind : Work → Bool) (front : List (Waiting Task)) (w : Waiting Task) (back : List (Waiting Task)) (locks : LockTable) (sessions : SessionTable Reply) → AreOneOf kind (front ++ w ∷ back) locks sessions → AreOneOf kind (front ++ back) locks sessions
kind_less kind front w back locks sessions h q =
    less_still (sum_by (work_count kind q) (front ++ w ∷ back)) (sum_by (work_count kind q) (front ++ back)) (work_count kind q w) (sum_by (waits_count q) (values_of locks)) (unanswered (kept_of sessions q)) (gate_less kind q front w back) (h q)

none_left : (all rest c d e : ℕ) → all ≡ rest + c → c ≡ 1 → e ≤ 1 → all + d ≤ e → rest + d ≡ 0
none_left all rest c d e h k l m = omega (arith, h, k, l, m)

own_call : (work : Bool) (client : ℕ) → work ≡ true → one_if (work && client == client) ≡ 1
own_call work client h = rw (h, one_itself client) refl

-- a call that has left the gate: no other of its client waits
kind_beside : (kind : Work → Bool) (front : List (Waiting Task)) (number : ℕ) (touched : List (List ℕ)) (asked : WaitingRequest) (back : List (Waiting Task)) (locks : LockTable) (sessions : SessionTable Reply) → kind asked.work ≡ true → AreOneOf kind (front ++ asked_waiting number touched asked ∷ back) locks sessions
    → count_of kind (front ++ back) locks asked.client ≡ 0
kind_beside kind front number touched asked back locks sessions call h =
    let w : Waiting Task = asked_waiting number touched asked in
    let q : ℕ = asked.client in
    none_left (sum_by (work_count kind q) (front ++ w ∷ back)) (sum_by (work_count kind q) (front ++ back)) (work_count kind q w) (sum_by (waits_count q) (values_of locks)) (unanswered (kept_of sessions q))
    (gate_less kind q front w back) (own_call (kind asked.work) q call) (at_most_one (is_unanswered (kept_of sessions q))) (h q)

-- ---- locks

counted : (client : ℕ) (o : Option LockState) → unwrap_or (option_map (waits_count client) o) 0 ≡ waits_count client (unwrap_or o (lock_of 0))
counted client None = refl
counted client (Some lock) = refl

-- another lock at an instance
pub sum_put : (client : ℕ) (locks : LockTable) (instance : ℕ) (lock : LockState) → IsStrictlySortedBy nat_cmp (keys_of locks) → sum_by (waits_count client) (values_of (with_lock locks instance lock)) + waits_count client (lock_at locks instance) ≡ sum_by (waits_count client) (values_of locks) + waits_count client lock
sum_put client locks instance lock sorted =
    ap (λ n. sum_by (waits_count client) (values_of (with_lock locks instance lock)) + n) (sym (counted client (lookup (is_at (nat_cmp instance)) locks)))
    ∙ sum_by-insert_entry (waits_count client) nat_cmp_total locks instance lock sorted

-- the lock of a node that goes
pub sum_gone : (client : ℕ) (locks : LockTable) (instance : ℕ) → sum_by (waits_count client) (values_of (remove_entry (is_at (nat_cmp instance)) locks)) + waits_count client (lock_at locks instance) ≡ sum_by (waits_count client) (values_of locks)
sum_gone client locks instance =
    ap (λ n. sum_by (waits_count client) (values_of (remove_entry (is_at (nat_cmp instance)) locks)) + n) (sym (counted client (lookup (is_at (nat_cmp instance)) locks)))
    ∙ sum_by-remove_entry (waits_count client) (is_at (nat_cmp instance)) locks

fewer : (sum new old more less e : ℕ) → new + old ≡ sum + more → more ≤ old → less + sum ≤ e → less + new ≤ e
fewer sum new old more less e h k l = omega (arith, h, k, l)

-- no more wait for it
kind_put : (kind : Work → Bool) (waiting : List (Waiting Task)) (locks : LockTable) (sessions : SessionTable Reply) (instance : ℕ) (lock : LockState) → IsStrictlySortedBy nat_cmp (keys_of locks) → ((q : ℕ) → waits_count q lock ≤ waits_count q (lock_at locks instance)) → AreOneOf kind waiting locks sessions → AreOneOf kind waiting (with_lock locks instance lock) sessions
kind_put kind waiting locks sessions instance lock sorted less h q =
    fewer (sum_by (waits_count q) (values_of locks)) (sum_by (waits_count q) (values_of (with_lock locks instance lock))) (waits_count q (lock_at locks instance)) (waits_count q lock) (sum_by (work_count kind q) waiting) (unanswered (kept_of sessions q))
    (sum_put q locks instance lock sorted) (less q) (h q)

moved : (all rest c sum new old more e : ℕ) → all ≡ rest + c → new + old ≡ sum + more → more ≡ old + c → all + sum ≤ e → rest + new ≤ e
moved all rest c sum new old more e h k l m = omega (arith, h, k, l, m)

-- a call that leaves the gate and waits for a lock
kind_awaited : (kind : Work → Bool) (front : List (Waiting Task)) (w : Waiting Task) (back : List (Waiting Task)) (locks : LockTable) (sessions : SessionTable Reply) (instance : ℕ) (lock : LockState) → IsStrictlySortedBy nat_cmp (keys_of locks) → ((q : ℕ) → waits_count q lock ≡ waits_count q (lock_at locks instance) + work_count kind q w) → AreOneOf kind (front ++ w ∷ back) locks sessions
    → AreOneOf kind (front ++ back) (with_lock locks instance lock) sessions
kind_awaited kind front w back locks sessions instance lock sorted more h q =
    moved (sum_by (work_count kind q) (front ++ w ∷ back)) (sum_by (work_count kind q) (front ++ back)) (work_count kind q w) (sum_by (waits_count q) (values_of locks)) (sum_by (waits_count q) (values_of (with_lock locks instance lock))) (waits_count q (lock_at locks instance)) (waits_count q lock) (unanswered (kept_of sessions q))
    (gate_less kind q front w back) (sum_put q locks instance lock sorted) (more q) (h q)

-- ---- both kinds of calls

other_is_call : (work : Work) → is_other_call work ≡ true → is_call work ≡ true
other_is_call (works.Starts principal received) h = cc
other_is_call (works.Calls call sequencer) h = refl

no_call : (kind : Bool) (b : Bool) → (true && b) ≡ false → (kind && b) ≡ false
no_call true b h = h
no_call false b h = refl

none_other : (q : ℕ) (task : Task) → is_by is_call q task ≡ false → is_by is_other_call q task ≡ false
none_other q (tasks.Tidies idle) h = refl
none_other q (tasks.Asked asked) h = by_work asked.work asked.client h
  where
    by_work : (work : Work) (client : ℕ) → (is_call work && client == q) ≡ false → (is_other_call work && client == q) ≡ false
    by_work (works.Starts principal received) client k = refl
    by_work (works.Calls call sequencer) client k = no_call (is_other_call (works.Calls call sequencer)) (client == q) k

one_or_none : (a b : Bool) → (a ≡ false → b ≡ false) → one_if b ≤ one_if a
one_or_none true b h = at_most_one b
one_or_none false b h = rw (h refl) (omega arith)

-- no more calls of one kind wait than calls
pub others_less : (q : ℕ) (waiting : List (Waiting Task)) → sum_by (work_count is_other_call q) waiting ≤ sum_by (work_count is_call q) waiting
others_less q [] = omega arith
others_less q (w ∷ waiting) =
    both (sum_by (work_count is_other_call q) (w ∷ waiting)) (work_count is_other_call q w) (sum_by (work_count is_other_call q) waiting) (sum_by (work_count is_call q) (w ∷ waiting)) (work_count is_call q w) (sum_by (work_count is_call q) waiting)
    (sum_by-cons (work_count is_other_call q) w waiting) (sum_by-cons (work_count is_call q) w waiting)
    (one_or_none (is_by is_call q w.change.body) (is_by is_other_call q w.change.body) (none_other q w.change.body)) (others_less q waiting)
  where
    both : (all first rest more one others : ℕ) → all ≡ first + rest → more ≡ one + others → first ≤ one → rest ≤ others → all ≤ more
    both all first rest more one others h k l m = omega (arith, h, k, l, m)

-- a client of which no call waits in the gate
pub none_in_gate : (q : ℕ) (waiting : List (Waiting Task)) → has_call q waiting ≡ false → sum_by (work_count is_call q) waiting ≡ 0
none_in_gate q [] h = refl
none_in_gate q (w ∷ waiting) h =
    let t = neither (is_by is_call q w.change.body) (has_call q waiting) h in
    sum_by-cons (work_count is_call q) w waiting ∙ no_sum (work_count is_call q w) (sum_by (work_count is_call q) waiting) (ap one_if t.0) (none_in_gate q waiting t.1)
  where
    neither : (a b : Bool) → (a || b) ≡ false → (a ≡ false) × (b ≡ false)
    neither true b e = cc
    neither false b e = (refl, e)

    no_sum : (a b : ℕ) → a ≡ 0 → b ≡ 0 → a + b ≡ 0
    no_sum a b e k = omega (arith, e, k)

abbrev no_locks : LockTable
no_locks = []

nobody : (q : ℕ) → sum_by (waits_count q) (values_of no_locks) ≡ 0
nobody q = refl

-- none of them waits in the gate ..
in_gate : (q : ℕ) (waiting : List (Waiting Task)) (locks : LockTable) → count_in waiting locks q ≡ 0 → count_of is_call waiting [] q ≡ 0
in_gate q waiting locks none = first (sum_by (work_count is_call q) waiting) (sum_by (waits_count q) (values_of locks)) (sum_by (waits_count q) (values_of no_locks)) none (nobody q)
  where
    first : (calls waits empty : ℕ) → calls + waits ≡ 0 → empty ≡ 0 → calls + empty ≡ 0
    first calls waits empty h k = omega (arith, h, k)

-- .. nor one of the other kind anywhere
of_others : (q : ℕ) (waiting : List (Waiting Task)) (locks : LockTable) → count_in waiting locks q ≡ 0 → count_of is_other_call waiting locks q ≡ 0
of_others q waiting locks none = second (sum_by (work_count is_call q) waiting) (sum_by (work_count is_other_call q) waiting) (sum_by (waits_count q) (values_of locks)) none (others_less q waiting)
  where
    second : (calls others waits : ℕ) → calls + waits ≡ 0 → others ≤ calls → others + waits ≡ 0
    second calls others waits h k = omega (arith, h, k)

-- and both together are all
pub none_at_all : (q : ℕ) (waiting : List (Waiting Task)) (locks : LockTable) → count_of is_call waiting [] q ≡ 0 → count_of is_other_call waiting locks q ≡ 0 → count_in waiting locks q ≡ 0
none_at_all q waiting locks h k = all (sum_by (work_count is_call q) waiting) (sum_by (waits_count q) (values_of no_locks)) (sum_by (work_count is_other_call q) waiting) (sum_by (waits_count q) (values_of locks)) h k
  where
    all : (calls empty others waits : ℕ) → calls + empty ≡ 0 → others + waits ≡ 0 → calls + waits ≡ 0
    all calls empty others waits e l = omega (arith, e, l)

-- the same last calls
pub one_same : (waiting : List (Waiting Task)) (locks : LockTable) (old new : SessionTable Reply) → ((q : ℕ) → kept_of new q ≡ kept_of old q) → AreOne waiting locks old → AreOne waiting locks new
one_same waiting locks old new same h = (kind_same is_call waiting [] old new same h.0, kind_same is_other_call waiting locks old new same h.1)

-- another last call of a client of which none waits
pub one_recorded : (waiting : List (Waiting Task)) (locks : LockTable) (sessions : SessionTable Reply) (client : ℕ) (kept : LastCall Reply) → count_in waiting locks client ≡ 0 → AreOne waiting locks sessions → AreOne waiting locks (with_session sessions client (keeping kept))
one_recorded waiting locks sessions client kept none h =
    (kind_recorded is_call waiting [] sessions client kept (in_gate client waiting locks none) h.0, kind_recorded is_other_call waiting locks sessions client kept (of_others client waiting locks none) h.1)

-- a client of which none waits has no session any more
pub one_retired : (waiting : List (Waiting Task)) (locks : LockTable) (sessions : SessionTable Reply) (client : ℕ) → count_in waiting locks client ≡ 0 → AreOne waiting locks sessions → AreOne waiting locks (without sessions client)
one_retired waiting locks sessions client none h =
    (kind_retired is_call waiting [] sessions client (in_gate client waiting locks none) h.0, kind_retired is_other_call waiting locks sessions client (of_others client waiting locks none) h.1)

-- a change that waits and is no call
pub one_started : (waiting : List (Waiting Task)) (locks : LockTable) (sessions : SessionTable Reply) (w : Waiting Task) → ((q : ℕ) → is_by is_call q w.change.body ≡ false) → AreOne waiting locks sessions → AreOne (waiting ++ w ∷ []) locks sessions
one_started waiting locks sessions w none h = (kind_started is_call waiting [] sessions w none h.0, kind_started is_other_call waiting locks sessions w (λ q. none_other q w.change.body (none q)) h.1)

-- a call that waits, of a client of which none waited
pub one_called : (waiting : List (Waiting Task)) (locks : LockTable) (sessions : SessionTable Reply) (client : ℕ) (kept : LastCall Reply) (number : ℕ) (touched : List (List ℕ)) (asked : WaitingRequest) → asked.client ≡ client → kept.reply ≡ None → is_live sessions client ≡ true → count_in waiting locks client ≡ 0
    → AreOne waiting locks sessions → AreOne (waiting ++ asked_waiting number touched asked ∷ []) locks (with_session sessions client (keeping kept))
one_called waiting locks sessions client kept number touched asked own pending live none h = (
  kind_called is_call waiting [] sessions client kept number touched asked own pending live (in_gate client waiting locks none) h.0,
  kind_called is_other_call waiting locks sessions client kept number touched asked own pending live (of_others client waiting locks none) h.1,
)

-- another last call that has no reply yet
pub one_open : (waiting : List (Waiting Task)) (locks : LockTable) (sessions : SessionTable Reply) (client : ℕ) (kept : LastCall Reply) → kept.reply ≡ None → is_live sessions client ≡ true → AreOne waiting locks sessions → AreOne waiting locks (with_session sessions client (keeping kept))
one_open waiting locks sessions client kept pending live h = (kind_open is_call waiting [] sessions client kept pending live h.0, kind_open is_other_call waiting locks sessions client kept pending live h.1)

-- a call by which a client ends its session, which may wait for a lock
pub one_beside : (waiting : List (Waiting Task)) (locks : LockTable) (sessions : SessionTable Reply) (client : ℕ) (kept : LastCall Reply) (number : ℕ) (touched : List (List ℕ)) (asked : WaitingRequest) → asked.client ≡ client → kept.reply ≡ None → is_live sessions client ≡ true → is_other_call asked.work ≡ false → has_call client waiting ≡ false
    → AreOne waiting locks sessions → AreOne (waiting ++ asked_waiting number touched asked ∷ []) locks (with_session sessions client (keeping kept))
one_beside waiting locks sessions client kept number touched asked own pending live leave alone h = (
  kind_called is_call waiting [] sessions client kept number touched asked own pending live (none_of (sum_by (work_count is_call client) waiting) (sum_by (waits_count client) (values_of no_locks)) (none_in_gate client waiting alone) (nobody client)) h.0,
  kind_beside_one is_other_call waiting locks sessions client kept number touched asked leave pending live h.1,
)
  where
    none_of : (a b : ℕ) → a ≡ 0 → b ≡ 0 → a + b ≡ 0
    none_of a b e k = omega (arith, e, k)

-- one that leaves the gate
pub one_less : (front : List (Waiting Task)) (w : Waiting Task) (back : List (Waiting Task)) (locks : LockTable) (sessions : SessionTable Reply) → AreOne (front ++ w ∷ back) locks sessions → AreOne (front ++ back) locks sessions
one_less front w back locks sessions h = (kind_less is_call front w back [] sessions h.0, kind_less is_other_call front w back locks sessions h.1)

-- a call that has left the gate: no other of its client waits in it ..
pub none_behind : (front : List (Waiting Task)) (number : ℕ) (touched : List (List ℕ)) (asked : WaitingRequest) (back : List (Waiting Task)) (locks : LockTable) (sessions : SessionTable Reply) → is_call asked.work ≡ true → AreOne (front ++ asked_waiting number touched asked ∷ back) locks sessions
    → sum_by (work_count is_call asked.client) (front ++ back) ≡ 0
none_behind front number touched asked back locks sessions call h =
    first (sum_by (work_count is_call asked.client) (front ++ back)) (sum_by (waits_count asked.client) (values_of no_locks)) (kind_beside is_call front number touched asked back [] sessions call h.0)
  where
    first : (a b : ℕ) → a + b ≡ 0 → a ≡ 0
    first a b e = omega (arith, e)

-- .. nor for a lock, but where it ends the session
pub none_beside : (front : List (Waiting Task)) (number : ℕ) (touched : List (List ℕ)) (asked : WaitingRequest) (back : List (Waiting Task)) (locks : LockTable) (sessions : SessionTable Reply) → is_other_call asked.work ≡ true → AreOne (front ++ asked_waiting number touched asked ∷ back) locks sessions
    → count_in (front ++ back) locks asked.client ≡ 0
none_beside front number touched asked back locks sessions other h =
    none_at_all asked.client (front ++ back) locks (kind_beside is_call front number touched asked back [] sessions (other_is_call asked.work other) h.0) (kind_beside is_other_call front number touched asked back locks sessions other h.1)

-- no more wait for a lock
pub one_put : (waiting : List (Waiting Task)) (locks : LockTable) (sessions : SessionTable Reply) (instance : ℕ) (lock : LockState) → IsStrictlySortedBy nat_cmp (keys_of locks) → ((q : ℕ) → waits_count q lock ≤ waits_count q (lock_at locks instance)) → AreOne waiting locks sessions → AreOne waiting (with_lock locks instance lock) sessions
one_put waiting locks sessions instance lock sorted less h = (h.0, kind_put is_other_call waiting locks sessions instance lock sorted less h.1)

-- a call that leaves the gate and waits for a lock
pub one_awaited : (front : List (Waiting Task)) (w : Waiting Task) (back : List (Waiting Task)) (locks : LockTable) (sessions : SessionTable Reply) (instance : ℕ) (lock : LockState) → IsStrictlySortedBy nat_cmp (keys_of locks) → ((q : ℕ) → waits_count q lock ≡ waits_count q (lock_at locks instance) + work_count is_other_call q w) → AreOne (front ++ w ∷ back) locks sessions
    → AreOne (front ++ back) (with_lock locks instance lock) sessions
one_awaited front w back locks sessions instance lock sorted more h = (kind_less is_call front w back [] sessions h.0, kind_awaited is_other_call front w back locks sessions instance lock sorted more h.1)
