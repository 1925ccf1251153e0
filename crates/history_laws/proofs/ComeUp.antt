-- A master that came up goes on by its steps; that of a history is one.
use Rattle.std.proofs.Common.{◌≡◌, ℕ, ◌≤◌, List, [], ◌∷◌, ◌++◌, Bool, true, false, cond, zero, suc, Option, Some, None, refl, sym, ap, ◌∙◌, subst, arith}
use Rattle.std.specs.Prelude.{Result, Ok, Err, fold, not, nat_lt, ◌-◌, ◌^◌, ◌==◌, ◌&&◌}
use Rattle.std.specs.Option.{option_map_or}
use Rattle.std.specs.List.{list_all, slice_get}
use Rattle.std.proofs.lemmas.Bool.{and_parts}
use Rattle.std.proofs.lemmas.Bool.Decides.{nat_tests}
use Rattle.std.proofs.lemmas.List.Sums.{fold-append}
use Rattle.lease_core.specs.Lease.{longest_lease}
use Rattle.node_core.specs.declared.lines.Line.{Line}
use Rattle.node_core.specs.declared.refusals.Fault.{Fault}
use Rattle.node_core.specs.declared.refusals.Fault.TheVariants as faults
use Rattle.rows_cell.specs.declared.settings.MasterTerms.{MasterTerms}
use Rattle.rows_cell.specs.declared.tables.Rows.{Rows}
use Rattle.rows_cell.specs.Rows.{changed_rows}
use Rattle.rows_cell.specs.Sound.{sound}
use Rattle.rows_cell.proofs.SoundChanges.{epoch_sound}
use Rattle.tags_cell.specs.Messages.{request_client}
use Rattle.tags_cell.specs.Numbers.{is_client_number}
use Rattle.tags_cell.specs.declared.messages.requests.Request.{Request}
use Rattle.master_parts.specs.declared.pending.Taken.{Taken}
use Rattle.master_state.specs.State.{MasterState, master_of}
use Rattle.cell_core.specs.Effect.{is_last}
use Rattle.cell_core.specs.Step.{take_step, is_past_end}
use Rattle.over_core.specs.declared.swept.Swept.{Swept}
use Rattle.over_core.specs.Sweep.{sweep_step, beats_step}
use Rattle.over_core.specs.Up.{up_step, up_edits, master_by}
use Rattle.over_core.proofs.KeptByUps.{up_kept}
use Rattle.world_steps.specs.declared.mail.Message.{Message}
use Rattle.world_steps.specs.Messages.{as_request, request_at}
use Rattle.world_steps.specs.Made.{AreInOrder}
use Rattle.master_laws.specs.Closed.{MasterStep, left_by, master_behind}
use Rattle.master_laws.specs.Closed.MasterStep.{Takes as TakesOne, Sweeps as SweepsOnce, Beats as AnswersOne}
use Rattle.master_laws.specs.Waits.{is_of_client}
use Rattle.history_laws.specs.Parts.{Parts, nothing_yet, Deed, ComesUp, FallsComingUp, Takes, Sweeps, FallsSweeping, AnswersBeat, Goes, Begins, Asks, Beats, Hears}
use Rattle.history_laws.specs.Histories.{Clocks, Entry, Does, History}
use Rattle.history_laws.specs.ComeUp.{Since, up_at, and_then, IsUpSince, deed_since, entry_since, since_in, MastersHaveComeUp}
use Rattle.history_laws.proofs.Unheard.{unheard_are}

-- ---- steps more

pub both_true : (a b : Bool) → a ≡ true → b ≡ true → (a && b) ≡ true
both_true true b h k = k
both_true false b h k = cc

pub all_joined : {X : Type 0} (test : X → Bool) (xs ys : List X) → list_all test xs ≡ true → list_all test ys ≡ true → list_all test (xs ++ ys) ≡ true
all_joined test [] ys h k = k
all_joined test (x ∷ xs) ys h k =
    let t = and_parts (test x) (list_all test xs) h in
    both_true (test x) (list_all test (xs ++ ys)) t.0 (all_joined test xs ys t.1 k)

pub goes_on : (lease : ℕ) (since : Since) (s new : MasterState) (more : List MasterStep) → IsUpSince lease since s → list_all is_of_client more ≡ true → new ≡ fold master_behind s more → IsUpSince lease (and_then since more) new
goes_on lease since s new more h of_clients is = record {
  cell = h.cell;
  rows = h.rows;
  limits = h.limits;
  kept = h.kept;
  is_lease = h.is_lease;
  of_clients = all_joined is_of_client since.steps more h.of_clients of_clients;
  is = is ∙ ap (λ (m : MasterState). fold master_behind m more) h.is ∙ sym (fold-append master_behind (master_of h.rows (record { lease = lease; limits = h.limits }) since.up) since.steps more);
}

pub is_behind : {A : Type 0} (s next : MasterState) (did : A) (r : Result (MasterState × A) Fault) → r ≡ Ok (next, did) → next ≡ left_by s r
is_behind {A} s next did r h = sym (ap (λ (x : Result (MasterState × A) Fault). left_by s x) h)

pub of_client : (now : ℕ) (request : Request) → is_client_number (request_client request) ≡ true → list_all is_of_client (TakesOne now request ∷ []) ≡ true
of_client now request numbered = both_true (is_client_number (request_client request)) true numbered refl

pub has_taken : (lease : ℕ) (since : Since) (s next : MasterState) (now : ℕ) (request : Request) (taken : Taken) → IsUpSince lease since s → is_client_number (request_client request) ≡ true → take_step s now request ≡ Ok (next, taken) → IsUpSince lease (and_then since (TakesOne now request ∷ [])) next
has_taken lease since s next now request taken h numbered step = goes_on lease since s next (TakesOne now request ∷ []) h (of_client now request numbered) (is_behind s next taken (take_step s now request) step)

pub has_swept : (lease : ℕ) (since : Since) (s next : MasterState) (now : ℕ) (done : Swept) → IsUpSince lease since s → sweep_step s now ≡ Ok (next, done) → IsUpSince lease (and_then since (SweepsOnce now ∷ [])) next
has_swept lease since s next now done h step = goes_on lease since s next (SweepsOnce now ∷ []) h refl (is_behind s next done (sweep_step s now) step)

pub has_answered : (lease : ℕ) (since : Since) (s next : MasterState) (now : ℕ) (done : Swept) → IsUpSince lease since s → beats_step s now ≡ Ok (next, done) → IsUpSince lease (and_then since (AnswersOne now ∷ [])) next
has_answered lease since s next now done h step = goes_on lease since s next (AnswersOne now ∷ []) h refl (is_behind s next done (beats_step s now) step)

-- ---- a master that comes up

not_last : (epoch : ℕ) → is_last epoch ≡ false → nat_lt epoch (2 ^ 63 - 1) ≡ true
not_last epoch more = grind (arith, nat_tests)

not_false : (b : Bool) → not b ≡ false → b ≡ true
not_false true h = refl
not_false false h = cc

module _ (cell : List ℕ) (rows : Rows) (terms : MasterTerms) (now : ℕ) (range : terms.lease ≤ longest_lease) (order : AreInOrder rows) where
  abbrev next_rows : Rows
  next_rows = changed_rows rows (up_edits rows)

  pub begins_so : sound cell rows ≡ true → is_last rows.epoch ≡ false → IsUpSince terms.lease (up_at now) (master_of next_rows terms now)
  begins_so are_sound more = record {
    cell = cell;
    rows = next_rows;
    limits = terms.limits;
    kept = up_kept cell next_rows terms now (epoch_sound cell rows are_sound (not_last rows.epoch more)) order.sessions order.locks order.names;
    is_lease = range;
    of_clients = refl;
    is = refl;
  }

  comes_by : (late damaged last : Bool) (master : MasterState) → is_past_end now ≡ late → not (sound cell rows) ≡ damaged → is_last rows.epoch ≡ last
      → (let r : Result MasterState Fault = cond late (Err faults.Exhausted) (master_by terms now (cond damaged (Err faults.StoreDamaged) (cond last (Err faults.Exhausted) (Ok next_rows)))) in r) ≡ Ok master
      → IsUpSince terms.lease (up_at now) master
  comes_by true damaged last master is_late is_damaged is_end h = cc
  comes_by false true last master is_late is_damaged is_end h = cc
  comes_by false false true master is_late is_damaged is_end h = cc
  comes_by false false false master is_late is_damaged is_end h =
      let is : master_of next_rows terms now ≡ master = cc in
      subst (IsUpSince terms.lease (up_at now)) is (begins_so (not_false (sound cell rows) is_damaged) is_end)

  pub has_begun : (master : MasterState) → up_step cell rows terms now ≡ Ok master → IsUpSince terms.lease (up_at now) master
  has_begun master h = comes_by (is_past_end now) (not (sound cell rows)) (is_last rows.epoch) master refl refl refl h

-- ---- where one is up

abbrev pub IfUp : ℕ → Since → Option MasterState → Type 0
IfUp lease since None = Unit {0}
IfUp lease since (Some s) = IsUpSince lease since s

pub that_one : (lease : ℕ) (since : Since) (m : Option MasterState) (s : MasterState) → m ≡ Some s → IfUp lease since m → IsUpSince lease since s
that_one lease since None s up h = cc
that_one lease since (Some other) s up h = let is : other ≡ s = cc in subst (IsUpSince lease since) is h

pub none_up : (lease : ℕ) (since : Since) (m : Option MasterState) → m ≡ None → IfUp lease since m
none_up lease since None none = tt
none_up lease since (Some s) none = cc

-- ---- messages stay where they were told

get_stays : {X : Type 0} (xs ys : List X) (i : ℕ) (x : X) → slice_get xs i ≡ Some x → slice_get (xs ++ ys) i ≡ Some x
get_stays [] ys zero x h = cc
get_stays [] ys (suc i) x h = cc
get_stays (y ∷ xs) ys zero x h = h
get_stays (y ∷ xs) ys (suc i) x h = get_stays xs ys i x h

request_by : (b : Bool) (xs ys : List Message) (i : ℕ) (r : Request) → option_map_or as_request (cond b None (slice_get xs i)) None ≡ Some r → option_map_or as_request (cond b None (slice_get (xs ++ ys) i)) None ≡ Some r
request_by true xs ys i r h = h
request_by false xs ys i r h =
    (elim (slice_get xs i) as (λ o. slice_get xs i ≡ o → option_map_or as_request o None ≡ Some r → option_map_or as_request (slice_get (xs ++ ys) i) None ≡ Some r) [
      | None ↦ (λ is k. cc)
      | Some m ↦ (λ is k. ap (λ o. option_map_or as_request o None) (get_stays xs ys i m is) ∙ k)
    ]) refl h

request_stays : (xs ys : List Message) (at : ℕ) (r : Request) → request_at xs at ≡ Some r → request_at (xs ++ ys) at ≡ Some r
request_stays xs ys at r h = request_by (at == 0) xs ys (at - 1) r h

-- ---- a history

pub sees_on : (p end : Parts) (entries : List Entry) (printed : List Line) → History p entries printed end → (at : ℕ) (r : Request) → request_at p.told at ≡ Some r → request_at end.told at ≡ Some r
sees_on p end entries printed h at r was =
    let grows = unheard_are p end [] entries printed h in
    subst (λ (u : List Message). request_at u at ≡ Some r) (sym grows.1) (request_stays p.told grows.0 at r was)

module _ (terms : MasterTerms) (range : terms.lease ≤ longest_lease) where
  abbrev lease : ℕ
  lease = terms.lease

  -- the master, where one is up, and the terms that the next one goes by
  abbrev Stands : Since → Parts → Type 0
  Stands since p = IfUp lease since p.master × (p.terms ≡ terms)

  module _ (told : List Message) (p : Parts) (clocks : Clocks) (since : Since) (sees : (at : ℕ) (r : Request) → request_at p.told at ≡ Some r → request_at told at ≡ Some r) (h : IfUp lease since p.master) (same : p.terms ≡ terms) where
    abbrev now : ℕ
    now = clocks.master

    abbrev Behind : Deed → Parts → Type 0
    Behind deed new = Stands (deed_since told since now deed) new

    deed_up : (deed : Deed) (new : Parts) (printed : List Line) → Does p clocks deed new printed → Behind deed new
    deed_up ComesUp new printed t =
        let step : up_step p.cell p.rows terms now ≡ Ok t.master = subst (λ (x : MasterTerms). up_step p.cell p.rows x now ≡ Ok t.master) same t.step in
        subst (Behind ComesUp) (sym t.left) (has_begun p.cell p.rows terms now range t.ordered t.master step, same)
    deed_up FallsComingUp new printed t = subst (Behind FallsComingUp) (sym t.left) (h, same)
    deed_up (Takes at) new printed t =
        let P : Option Request → Type 0 = λ o. IsUpSince lease (and_then since (option_map_or (λ request. TakesOne now request ∷ []) o [])) t.next in
        let found : request_at told at ≡ Some t.request = sees at t.request t.was_told in
        let mine : P (Some t.request) = has_taken lease since t.master t.next now t.request t.taken (that_one lease since p.master t.master t.up h) t.numbered t.step in
        subst (Behind (Takes at)) (sym t.left) (subst P (sym found) mine, same)
    deed_up Sweeps new printed t = subst (Behind Sweeps) (sym t.left) (has_swept lease since t.master t.next now t.swept (that_one lease since p.master t.master t.up h) t.step, same)
    deed_up FallsSweeping new printed t = subst (Behind FallsSweeping) (sym t.left) (tt, same)
    deed_up AnswersBeat new printed t = subst (Behind AnswersBeat) (sym t.left) (has_answered lease since t.master t.next now t.swept (that_one lease since p.master t.master t.up h) t.step, same)
    deed_up Goes new printed t = subst (Behind Goes) (sym t.left) (tt, same)
    deed_up (Begins number principal) new printed t = subst (Behind (Begins number principal)) (sym t.left) (h, same)
    deed_up (Asks number ask) new printed t = subst (Behind (Asks number ask)) (sym t.left) (h, same)
    deed_up (Beats number) new printed t = subst (Behind (Beats number)) (sym t.left) (h, same)
    deed_up (Hears at) new printed t = subst (Behind (Hears at)) (sym t.left) (h, same)

  history_up : (entries : List Entry) (p end : Parts) (printed : List Line) (since : Since) → IfUp lease since p.master → p.terms ≡ terms → History p entries printed end → IfUp lease (fold (entry_since end.told) since entries) end.master
  history_up [] p end printed since up same h = subst (λ (q : Parts). IfUp lease since q.master) (sym h.1) up
  history_up (entry ∷ entries) p end printed since up same h =
      let one = deed_up end.told p entry.clocks since (sees_on p end (entry ∷ entries) printed h) up same entry.deed h.0 h.1 h.3 in
      history_up entries h.0 end h.2 (entry_since end.told since entry) one.0 one.1 h.4

pub masters_have : MastersHaveComeUp
masters_have cell rows terms entries printed end s range h up =
    that_one terms.lease (since_in end.told entries) end.master s up (history_up terms range entries (nothing_yet cell rows terms) end printed (up_at 0) tt refl h)
