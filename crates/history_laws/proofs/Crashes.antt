-- Histories over a store, with crashes between them, are runs of a world with crashes between them.
use Rattle.std.proofs.Common.{◌≡◌, ◌≢◌, ◌⊎◌, ℕ, ◌+◌, ◌≤◌, List, [], ◌∷◌, ◌++◌, Bool, true, false, cond, map, Option, Some, None, refl, sym, ap, ◌∙◌, subst, arith, inl, inr}
use Rattle.std.proofs.lemmas.List.{append-nil}
use Rattle.std.specs.Prelude.{Result, Ok, Err}
use Rattle.std.specs.Option.{option_map_or}
use Rattle.lease_core.specs.Lease.{longest_lease}
use Rattle.coherence.specs.Slice.{IsIn}
use Rattle.node_core.specs.declared.lines.Line.{Line}
use Rattle.node_core.specs.declared.lines.Line.TheVariants as lines
use Rattle.node_core.specs.declared.refusals.Fault.{Fault}
use Rattle.node_core.specs.declared.refusals.Fault.TheVariants as faults
use Rattle.node_core.specs.Nodes.{Nodes}
use Rattle.rows_cell.specs.declared.settings.MasterTerms.{MasterTerms}
use Rattle.rows_cell.specs.declared.tables.Rows.{Rows}
use Rattle.rows_cell.specs.declared.tables.Edit.{Edit}
use Rattle.rows_cell.specs.Rows.{changed_rows, map_of}
use Rattle.rows_cell.specs.Stores.{Store, IsUnread, IsRefused, MayLeave}
use Rattle.client_core.specs.State.{ClientState}
use Rattle.client_core.specs.declared.parts.targets.Outstanding.{Outstanding}
use Rattle.master_state.specs.State.{MasterState}
use Rattle.cell_core.specs.Step.{is_past_end}
use Rattle.over_core.specs.Sweep.{left_after, sweep_step, sweep_edits, sweep_frees, IsHeldUp, MayHoldUp, MayLeaveUp}
use Rattle.over_core.specs.Up.{up_step, up_commit, next_epoch, master_by, StaysDown}
use Rattle.world_steps.specs.declared.mail.Message.{Message}
use Rattle.world_steps.specs.declared.steps.Step.{Step}
use Rattle.world_steps.specs.declared.steps.Step.TheVariants as steps
use Rattle.world_steps.specs.World.{WorldState, WorldView, opened, new_world, store_in, world_step, world_up, came_up, came_up_edits, world_sweep, swept, without_quiet, ticked, step_edits, step_frees, IsAt, IsAtUp, IsOutsideUp, IsStored}
use Rattle.world_steps.specs.Made.{IsTyped, AnyStep}
use Rattle.world_cell.specs.Consistent.{IsConsistent, HasAsked, Holds}
use Rattle.world_cell.specs.Crashes.{CrashedRuns}
use Rattle.world_cell.specs.Runs.{AnyRun}
use Rattle.world_cell.specs.Served.{ServesPresent}
use Rattle.world_cell.proofs.ClocksByRuns.{run_consistent}
use Rattle.world_cell.proofs.ConsistentSteps.{new_holds}
use Rattle.world_cell.proofs.CrashLaws.{crashes_hold}
use Rattle.world_cell.proofs.CrashRuns.{IsSafeWorld, crashes_keep}
use Rattle.world_cell.proofs.MembersFound.{member_at}
use Rattle.world_cell.proofs.SureRuns.{run_sure}
use Rattle.world_cell.proofs.WorldCases.{step_sweeps}
use Rattle.history_laws.specs.Parts.{Parts, Deed, ComesUp, FallsComingUp, Takes, Sweeps, FallsSweeping, AnswersBeat, Goes, Begins, Asks, Beats, Hears}
use Rattle.history_laws.specs.Histories.{Clocks, Entry, Does, GoOn, AreFair}
use Rattle.history_laws.specs.Crashes.{RefusedRowsMayStand, StoredParts, nothing_over, deed_edits, deed_frees, StoredDeed, Done, SweepRefused, UpRefused, DoneBy, SweepRefusedBy, UpRefusedBy, DoesStored, StoredEntry, StoredHistory, life_of, as_clocked}
use Rattle.history_laws.specs.Crashes.{crashed_over, CrashedHistories, entries_then, HoldsStored, GoesAlongStored, IsBehindCrashes, CrashedHistoriesAreRuns, CrashedHistoriesHold, CachesShowWhatCrashesLeave, CachesAnswerWhatCrashesLeave}
use Rattle.history_laws.proofs.Ticking.{IsTimelyWorld, Ticks, ticks_by}
use Rattle.history_laws.proofs.Mirrored.{Mirrors, found_client, ticked_mirrors}
use Rattle.history_laws.proofs.Deeds.{Follows, goes_alone, takes, sweeps, falls_sweeping, answers_beat, goes, asks, beats, hears, comes_up, falls_coming_up, joined, joins_step, joins_mirrors, joins_ticks}
use Rattle.history_laws.proofs.Histories.{alone, beside, run_append, masters_clock, shows_clocks, no_clocks, goes_on_from, began, began_mirrors, last_on, answer_on}

-- ---- a world over a store

abbrev pub world_over : WorldState → Store → WorldView
world_over w store = record { world = w; may_leave = store.may_leave; refusals = store.refusals; doubt = store.doubt }

-- the store is that of the parts
pub record IsTheirs (o : StoredParts) : Type 0 where
  pub rows : o.store.rows ≡ o.parts.rows
  pub cell : o.store.cell ≡ o.parts.cell

at_up : (m : Option MasterState) (v : WorldView) → IsAtUp m v v
at_up None v = (store_in v, record { cell = refl; counted = refl; doubted = omega arith; same = λ sure. refl }, refl)
at_up (Some s) v = refl

-- a step is made by the world of before, where its store is read as it is
is_at : (step : Step) (v : WorldView) → IsAt step v v
is_at (steps.Up now) v = at_up v.world.master v
is_at (steps.CutUp now commit) v = at_up v.world.master v
is_at (steps.Join number principal) v = refl
is_at (steps.Ask number ask) v = refl
is_at (steps.Beat number) v = refl
is_at (steps.Tick ticks) v = refl
is_at (steps.Take number) v = refl
is_at (steps.Give number) v = refl
is_at steps.Sweep v = refl
is_at steps.Beats v = refl
is_at steps.Down v = refl
is_at (steps.CutSweep commit) v = refl

made_step : (w next : WorldState) (old new : Store) (step : Step) (printed : List Line) → world_step w step ≡ Ok (next, printed) → IsTyped w step → IsStored (step_frees w step) (step_edits w step) (world_over w old) (world_over next new) → AnyStep (world_over w old) step (world_over next new) printed
made_step w next old new step printed is typed stored = inl (world_over w old, is_at step (world_over w old), record { is_step = is; typed = typed; stored = stored })

-- ---- what deeds leave of the rows

pub record Leaves (p : Parts) (now : ℕ) (deed : Deed) (new : Parts) : Type 0 where
  pub rows : new.rows ≡ changed_rows p.rows (deed_edits p now deed)
  pub cell : new.cell ≡ p.cell

swept_rows : (p : Parts) (now : ℕ) (s : MasterState) → p.master ≡ Some s → changed_rows p.rows (sweep_edits s now) ≡ changed_rows p.rows (option_map_or (λ master. sweep_edits master now) p.master [])
swept_rows p now s up = ap (λ m. changed_rows p.rows (option_map_or (λ master. sweep_edits master now) m [])) (sym up)

deed_leaves : (p : Parts) (clocks : Clocks) (deed : Deed) (new : Parts) (printed : List Line) → Does p clocks deed new printed → Leaves p clocks.master deed new
deed_leaves p clocks ComesUp new printed t = record { rows = ap (λ (q : Parts). q.rows) t.left; cell = ap (λ (q : Parts). q.cell) t.left }
deed_leaves p clocks FallsComingUp new printed t = record { rows = ap (λ (q : Parts). q.rows) t.left; cell = ap (λ (q : Parts). q.cell) t.left }
deed_leaves p clocks (Takes at) new printed t = record { rows = ap (λ (q : Parts). q.rows) t.left; cell = ap (λ (q : Parts). q.cell) t.left }
deed_leaves p clocks Sweeps new printed t =
    record { rows = ap (λ (q : Parts). q.rows) t.left ∙ swept_rows p clocks.master t.master t.up; cell = ap (λ (q : Parts). q.cell) t.left }
deed_leaves p clocks FallsSweeping new printed t =
    record { rows = ap (λ (q : Parts). q.rows) t.left ∙ swept_rows p clocks.master t.master t.up; cell = ap (λ (q : Parts). q.cell) t.left }
deed_leaves p clocks AnswersBeat new printed t = record { rows = ap (λ (q : Parts). q.rows) t.left; cell = ap (λ (q : Parts). q.cell) t.left }
deed_leaves p clocks Goes new printed t = record { rows = ap (λ (q : Parts). q.rows) t.left; cell = ap (λ (q : Parts). q.cell) t.left }
deed_leaves p clocks (Begins number principal) new printed t = record { rows = ap (λ (q : Parts). q.rows) t.left; cell = ap (λ (q : Parts). q.cell) t.left }
deed_leaves p clocks (Asks number ask) new printed t = record { rows = ap (λ (q : Parts). q.rows) t.left; cell = ap (λ (q : Parts). q.cell) t.left }
deed_leaves p clocks (Beats number) new printed t = record { rows = ap (λ (q : Parts). q.rows) t.left; cell = ap (λ (q : Parts). q.cell) t.left }
deed_leaves p clocks (Hears at) new printed t = record { rows = ap (λ (q : Parts). q.rows) t.left; cell = ap (λ (q : Parts). q.cell) t.left }

done_theirs : (o new : StoredParts) (clocks : Clocks) (deed : Deed) (printed : List Line) → IsTheirs o → DoneBy o clocks deed new printed → IsTheirs new
done_theirs o new clocks deed printed theirs d =
    let edits = deed_edits o.parts clocks.master deed in
    let leaves = deed_leaves o.parts clocks deed new.parts printed d.does in
    record { rows = d.stands.rows ∙ ap (λ (r : Rows). changed_rows r edits) theirs.rows ∙ sym leaves.rows; cell = d.stands.cell ∙ theirs.cell ∙ sym leaves.cell }

-- ---- the doubt in a store only grows

kept_doubts : (terms : MasterTerms) (now : ℕ) (fault : Fault) (old new read : Store) → old.doubt ≤ read.doubt → ((up_step read.cell read.rows terms now ≡ Err fault) × (new ≡ read)) ⊎ IsRefused fault (up_commit (up_step read.cell read.rows terms now) read.rows) read new → old.doubt ≤ new.doubt
kept_doubts terms now fault old new read on (inl same) = subst (λ (s : Store). old.doubt ≤ s.doubt) (sym same.1) on
kept_doubts terms now fault old new read on (inr refused) = let later = refused.doubted in omega (arith, on, later)

down_doubts : (terms : MasterTerms) (now : ℕ) (fault : Fault) (old new : Store) → StaysDown terms now fault old new → old.doubt ≤ new.doubt
down_doubts terms now fault old new (inl late) = subst (λ (s : Store). old.doubt ≤ s.doubt) (sym late.2) (omega arith)
down_doubts terms now fault old new (inr (early, inl unread)) = unread.doubted
down_doubts terms now fault old new (inr (early, inr kept)) = kept_doubts terms now fault old new kept.read kept.was_read.doubted kept.why

held_doubts : (now : ℕ) (s : MasterState) (fault : Fault) (old new : Store) → ((sweep_step s now ≡ Err fault) × (new ≡ old)) ⊎ IsHeldUp fault (sweep_frees s now) (sweep_edits s now) old new → old.doubt ≤ new.doubt
held_doubts now s fault old new (inl same) = subst (λ (t : Store). old.doubt ≤ t.doubt) (sym same.1) (omega arith)
held_doubts now s fault old new (inr held) = held.doubted

pub does_doubts : (o new : StoredParts) (clocks : Clocks) (deed : StoredDeed) (printed : List Line) → DoesStored o clocks deed new printed → o.store.doubt ≤ new.store.doubt
does_doubts o new clocks (Done deed) printed d = d.stands.doubted
does_doubts o new clocks SweepRefused printed t =
    subst (λ (n : StoredParts). o.store.doubt ≤ n.store.doubt) (sym t.left) (held_doubts clocks.master t.master t.fault o.store t.store t.why)
does_doubts o new clocks UpRefused printed t =
    subst (λ (n : StoredParts). o.store.doubt ≤ n.store.doubt) (sym t.left) (down_doubts o.parts.terms clocks.master t.fault o.store t.store t.why)

history_doubts : (o : StoredParts) (entries : List StoredEntry) (printed : List Line) (end : StoredParts) → StoredHistory o entries printed end → o.store.doubt ≤ end.store.doubt
history_doubts o [] printed end h = subst (λ (n : StoredParts). o.store.doubt ≤ n.store.doubt) (sym h.1) (omega arith)
history_doubts o (entry ∷ entries) printed end h =
    let first = does_doubts o h.0 entry.clocks entry.deed h.1 h.3 in
    let later = history_doubts h.0 entries h.2 end h.4 in
    omega (arith, first, later)

crashes_doubt : (o : StoredParts) (histories : List (List StoredEntry)) (printed : List (List Line)) (end : StoredParts) → CrashedHistories o histories printed end → o.store.doubt ≤ end.store.doubt
crashes_doubt o [] printed end h = subst (λ (n : StoredParts). o.store.doubt ≤ n.store.doubt) (sym h.1) (omega arith)
crashes_doubt o (entries ∷ others) printed end h =
    let first : o.store.doubt ≤ h.0.store.doubt = history_doubts o entries h.1 h.0 h.4 in
    let later : h.0.store.doubt ≤ end.store.doubt = crashes_doubt (crashed_over h.0 h.3) others h.2 end h.6 in
    omega (arith, first, later)

pub none_before : (before after : ℕ) → before ≤ after → after ≡ 0 → before ≡ 0
none_before before after h none = omega (arith, h, none)

-- ---- a sweep that is refused

same_left : (freed : Bool) (edits : List Edit) (rows : Rows) (old new : List Rows) → new ≡ old → MayLeaveUp freed edits rows old new
same_left true edits rows old new same = inl same
same_left false [] rows old new same = same
same_left false (edit ∷ edits) rows old new same = inl same

module _ (w : WorldState) (s : MasterState) (now : ℕ) (up : w.master ≡ Some s) (clock : w.clock ≡ now) (old new : Store) (rows : old.rows ≡ w.rows) (fault : Fault) where
  frees_is : step_frees w steps.Sweep ≡ sweep_frees s now
  frees_is = ap (λ m. option_map_or (λ master. sweep_frees master w.clock) m false) up ∙ ap (λ t. sweep_frees s t) clock

  edits_is : step_edits w steps.Sweep ≡ sweep_edits s now
  edits_is = ap (λ m. option_map_or (λ master. sweep_edits master w.clock) m []) up ∙ ap (λ t. sweep_edits s t) clock

  refuses_itself : sweep_step s now ≡ Err fault → world_step w steps.Sweep ≡ Err fault
  refuses_itself step =
      let at : sweep_step s w.clock ≡ Err fault = ap (sweep_step s) clock ∙ step in
      step_sweeps w ∙ ap (λ m. without_quiet (world_sweep w m)) up ∙ ap (λ r. without_quiet (swept w s r)) at

  refuses_sweep : ((sweep_step s now ≡ Err fault) × (new ≡ old)) ⊎ IsHeldUp fault (sweep_frees s now) (sweep_edits s now) old new → AnyStep (world_over w old) steps.Sweep (world_over w new) (lines.Refused fault ∷ [])
  refuses_sweep (inl same) = inr (
    world_over w old,
    refl,
    record {
      fault = fault;
      why = inl (refuses_itself same.0, ap (λ (t : Store). t.refusals) same.1);
      left = record {
        same = refl;
        leave = same_left (step_frees w steps.Sweep) (step_edits w steps.Sweep) w.rows old.may_leave new.may_leave (ap (λ (t : Store). t.may_leave) same.1);
        doubted = held_doubts now s fault old new (inl same);
      };
      line = refl;
    },
  )
  refuses_sweep (inr held) = inr (
    world_over w old,
    refl,
    record {
      fault = fault;
      why = inr (subst (λ (b : Bool). MayHoldUp b (step_edits w steps.Sweep) fault old.refusals new.refusals) (sym frees_is)
          (subst (λ (es : List Edit). MayHoldUp (sweep_frees s now) es fault old.refusals new.refusals) (sym edits_is) held.why));
      left = record {
        same = refl;
        leave = subst (λ (b : Bool). MayLeaveUp b (step_edits w steps.Sweep) w.rows old.may_leave new.may_leave) (sym frees_is)
            (subst (λ (es : List Edit). MayLeaveUp (sweep_frees s now) es w.rows old.may_leave new.may_leave) (sym edits_is)
            (subst (λ (r : Rows). MayLeaveUp (sweep_frees s now) (sweep_edits s now) r old.may_leave new.may_leave) rows held.leave));
        doubted = held.doubted;
      };
      line = refl;
    },
  )

held_rows : (now : ℕ) (s : MasterState) (fault : Fault) (old new : Store) → ((sweep_step s now ≡ Err fault) × (new ≡ old)) ⊎ IsHeldUp fault (sweep_frees s now) (sweep_edits s now) old new → (new.rows ≡ old.rows) × (new.cell ≡ old.cell)
held_rows now s fault old new (inl same) = (ap (λ (t : Store). t.rows) same.1, ap (λ (t : Store). t.cell) same.1)
held_rows now s fault old new (inr held) = (held.rows, held.cell)

-- what is refused may stand after a crash
left_too : (freed : Bool) (edits : List Edit) (rows : Rows) (leave : List Rows) → edits ≢ [] → MayLeaveUp freed edits rows leave (leave ++ changed_rows rows edits ∷ [])
left_too true edits rows leave some = inr refl
left_too false [] rows leave some = absurd (some refl)
left_too false (edit ∷ edits) rows leave some = inr refl

held_too : (freed : Bool) (edits : List Edit) (count : ℕ) → edits ≢ [] → MayHoldUp freed edits faults.StoreRefused count (count + 1)
held_too true edits count some = refl
held_too false [] count some = absurd (some refl)
held_too false (edit ∷ edits) count some = refl

last_is_in : {A : Type 0} (x : A) (xs : List A) → IsIn x (xs ++ x ∷ [])
last_is_in x [] = inl refl
last_is_in x (y ∷ ys) = inr (last_is_in x ys)

pub refused_may_stand : RefusedRowsMayStand
refused_may_stand o clocks master up some =
    let old : Store = o.store in
    let freed = sweep_frees master clocks.master in
    let edits = sweep_edits master clocks.master in
    let rows : Rows = changed_rows old.rows edits in
    let new : Store = record old { may_leave = old.may_leave ++ rows ∷ []; refusals = old.refusals + 1 } in
    let held : IsHeldUp faults.StoreRefused freed edits old new = record {
      cell = refl;
      rows = refl;
      leave = left_too freed edits old.rows old.may_leave some;
      why = held_too freed edits old.refusals some;
      doubted = omega arith;
    } in
    (new, record { master = master; fault = faults.StoreRefused; store = new; up = up; why = inr held; left = refl; prints = refl }, last_is_in rows old.may_leave)

-- ---- a master that doesn't come up

past_end : (cell : List ℕ) (rows : Rows) (terms : MasterTerms) (now : ℕ) → is_past_end now ≡ true → up_step cell rows terms now ≡ Err faults.Exhausted
past_end cell rows terms now past = ap (λ (b : Bool). let r : Result MasterState Fault = cond b (Err faults.Exhausted) (master_by terms now (next_epoch cell rows)) in r) past

step_ups : (w : WorldState) (now : ℕ) → world_step w (steps.Up now) ≡ world_up w now w.master
unfolding world_step
step_ups w now = refl

same_leave : (edits : List Edit) (rows : Rows) (old new : List Rows) → new ≡ old → MayLeave edits rows old new
same_leave [] rows old new same = same
same_leave (edit ∷ edits) rows old new same = inl same

module _ (w : WorldState) (now : ℕ) (none : w.master ≡ None) (old new : Store) (fault : Fault) where
  -- the store as the world shows it
  abbrev shown : Store
  shown = store_in (world_over w old)

  ups_so : (r : Result MasterState Fault) → up_step w.cell w.rows w.terms now ≡ r → world_step w (steps.Up now) ≡ came_up w now r
  ups_so r is = step_ups w now ∙ ap (world_up w now) none ∙ ap (came_up w now) is

  edits_so : step_edits w (steps.Up now) ≡ up_commit (up_step w.cell w.rows w.terms now) w.rows
  edits_so = ap (came_up_edits w now) none

  -- the table refuses it
  refuses_up : up_step w.cell w.rows w.terms now ≡ Err fault → new ≡ shown → AnyStep (world_over w old) (steps.Up now) (world_over w new) (lines.Refused fault ∷ [])
  refuses_up step same = inr (
    world_over w old,
    at_up w.master (world_over w old),
    record {
      fault = fault;
      why = inl (ups_so (Err fault) step, ap (λ (t : Store). t.refusals) same);
      left = record {
        same = refl;
        leave = same_leave (step_edits w (steps.Up now)) w.rows old.may_leave new.may_leave (ap (λ (t : Store). t.may_leave) same);
        doubted = subst (λ (t : Store). old.doubt ≤ t.doubt) (sym same) (omega arith);
      };
      line = refl;
    },
  )

  -- or its store does
  outside_up : IsOutsideUp None now fault (world_over w old) (world_over w new) → MayLeave (up_commit (up_step w.cell w.rows w.terms now) w.rows) w.rows old.may_leave new.may_leave → old.doubt ≤ new.doubt
      → AnyStep (world_over w old) (steps.Up now) (world_over w new) (lines.Refused fault ∷ [])
  outside_up why leave doubted = inr (
    world_over w old,
    at_up w.master (world_over w old),
    record {
      fault = fault;
      why = inr (subst (λ (m : Option MasterState). IsOutsideUp m now fault (world_over w old) (world_over w new)) (sym none) why);
      left = record {
        same = refl;
        leave = subst (λ (es : List Edit). MayLeave es w.rows old.may_leave new.may_leave) (sym edits_so) leave;
        doubted = doubted;
      };
      line = refl;
    },
  )

  unread_so : IsUnread fault shown new → IsUnread fault shown (store_in (world_over w new))
  unread_so unread =
      let is : store_in (world_over w new) ≡ new = ap (λ (c : List ℕ). record new { cell = c; rows = w.rows }) (sym unread.cell) ∙ ap (λ (r : Rows). record new { rows = r }) (sym unread.rows) in
      subst (IsUnread fault shown) (sym is) unread

  kept_so : is_past_end now ≡ false → (read : Store) → read ≡ shown → ((up_step read.cell read.rows w.terms now ≡ Err fault) × (new ≡ read)) ⊎ IsRefused fault (up_commit (up_step read.cell read.rows w.terms now) read.rows) read new → AnyStep (world_over w old) (steps.Up now) (world_over w new) (lines.Refused fault ∷ [])
  kept_so early read same (inl own) = refuses_up (subst (λ (t : Store). up_step t.cell t.rows w.terms now ≡ Err fault) same own.0) (own.1 ∙ same)
  kept_so early read same (inr refused) =
      let r : IsRefused fault (up_commit (up_step w.cell w.rows w.terms now) w.rows) shown new = subst (λ (t : Store). IsRefused fault (up_commit (up_step t.cell t.rows w.terms now) t.rows) t new) same refused in
      outside_up (inr (early, inr r.why)) r.leave r.doubted

  stays_down : new.doubt ≡ 0 → StaysDown w.terms now fault shown new → AnyStep (world_over w old) (steps.Up now) (world_over w new) (lines.Refused fault ∷ [])
  stays_down sure (inl late) = refuses_up (past_end w.cell w.rows w.terms now late.0 ∙ ap (λ f. let r : Result MasterState Fault = Err f in r) (sym late.1)) late.2
  stays_down sure (inr (early, inl unread)) =
      outside_up (inr (early, inl (unread_so unread))) (same_leave (up_commit (up_step w.cell w.rows w.terms now) w.rows) w.rows old.may_leave new.may_leave unread.leave) unread.doubted
  stays_down sure (inr (early, inr kept)) = kept_so early kept.read (as_shown kept.why) kept.why
    where
      as_shown : ((up_step kept.read.cell kept.read.rows w.terms now ≡ Err fault) × (new ≡ kept.read)) ⊎ IsRefused fault (up_commit (up_step kept.read.cell kept.read.rows w.terms now) kept.read.rows) kept.read new → kept.read ≡ shown
      as_shown (inl own) = kept.was_read.same (ap (λ (t : Store). t.doubt) (sym own.1) ∙ sure)
      as_shown (inr refused) = kept.was_read.same (none_before kept.read.doubt new.doubt refused.doubted sure)

  stays_rows : new.doubt ≡ 0 → StaysDown w.terms now fault shown new → (new.rows ≡ w.rows) × (new.cell ≡ w.cell)
  stays_rows sure (inl late) = (ap (λ (t : Store). t.rows) late.2, ap (λ (t : Store). t.cell) late.2)
  stays_rows sure (inr (early, inl unread)) = (unread.rows, unread.cell)
  stays_rows sure (inr (early, inr kept)) = by_why kept.why
    where
      by_why : ((up_step kept.read.cell kept.read.rows w.terms now ≡ Err fault) × (new ≡ kept.read)) ⊎ IsRefused fault (up_commit (up_step kept.read.cell kept.read.rows w.terms now) kept.read.rows) kept.read new → (new.rows ≡ w.rows) × (new.cell ≡ w.cell)
      by_why (inl own) =
          let is : new ≡ shown = own.1 ∙ kept.was_read.same (ap (λ (t : Store). t.doubt) (sym own.1) ∙ sure) in
          (ap (λ (t : Store). t.rows) is, ap (λ (t : Store). t.cell) is)
      by_why (inr refused) =
          let is : kept.read ≡ shown = kept.was_read.same (none_before kept.read.doubt new.doubt refused.doubted sure) in
          (refused.rows ∙ ap (λ (t : Store). t.rows) is, refused.cell ∙ ap (λ (t : Store). t.cell) is)

-- ---- an entry

-- the steps of a world that it is, from one that holds what the parts hold
pub record StoredSteps (w : WorldState) (o : StoredParts) (rest : List Entry) (now : Clocks) (new : StoredParts) (printed : List Line) : Type 0 where
  pub made : List Step
  pub behind : WorldState
  pub run : AnyRun (world_over w o.store) made printed (world_over behind new.store)
  pub mirrors : Mirrors new.parts behind
  pub theirs : IsTheirs new
  pub timely : IsTimelyWorld behind rest now

tick_step : (w : WorldState) (store : Store) (rest : List Entry) (now : Clocks) (ticks : Ticks w rest now) → AnyStep (world_over w store) (steps.Tick (ticks_by w ticks.gain ticks.step)) (world_over (ticked w (ticks_by w ticks.gain ticks.step)) store) []
tick_step w store rest now ticks =
    made_step w (ticked w (ticks_by w ticks.gain ticks.step)) store store (steps.Tick (ticks_by w ticks.gain ticks.step)) [] ticks.is_step tt (record { leave = refl; counted = refl; doubted = omega arith })

module _ (o : StoredParts) (w : WorldState) (rest : List Entry) (now : Clocks) (same : Mirrors o.parts w) (theirs : IsTheirs o) (ticks : Ticks w rest now) where
  abbrev pub there : WorldState
  there = ticked w (ticks_by w ticks.gain ticks.step)

  pub there_mirrors : Mirrors o.parts there
  there_mirrors = ticked_mirrors o.parts w (ticks_by w ticks.gain ticks.step) same

  -- a tick, and a step by which the parts stay
  then_refused : (step : Step) (store : Store) (fault : Fault) (new : StoredParts) (printed : List Line) → new ≡ record o { store = store } → printed ≡ lines.Refused fault ∷ [] → (store.rows ≡ o.store.rows) × (store.cell ≡ o.store.cell)
      → AnyStep (world_over there o.store) step (world_over there store) (lines.Refused fault ∷ []) → StoredSteps w o rest now new printed
  then_refused step store fault new printed left prints stays does =
      subst (λ (n : StoredParts). StoredSteps w o rest now n printed) (sym left)
      (subst (λ (told : List Line). StoredSteps w o rest now (record o { store = store }) told) (sym prints) (record {
        made = steps.Tick (ticks_by w ticks.gain ticks.step) ∷ step ∷ [];
        behind = there;
        run = (
          world_over there o.store,
          [],
          lines.Refused fault ∷ [],
          tick_step w o.store rest now ticks,
          (world_over there store, lines.Refused fault ∷ [], [], does, (refl, refl), refl),
          refl,
        );
        mirrors = there_mirrors;
        theirs = record { rows = stays.0 ∙ theirs.rows; cell = stays.1 ∙ theirs.cell };
        timely = ticks.timely;
      }))

  sweep_refused : (new : StoredParts) (printed : List Line) → SweepRefusedBy o now.master new printed → StoredSteps w o rest now new printed
  sweep_refused new printed t =
      let up : there.master ≡ Some t.master = same.master ∙ t.up in
      let clock : there.clock ≡ now.master = masters_clock there.master now there.clock ticks.timely.master t.master up in
      let rows : o.store.rows ≡ there.rows = theirs.rows ∙ sym same.rows in
      then_refused steps.Sweep t.store t.fault new printed t.left t.prints (held_rows now.master t.master t.fault o.store t.store t.why)
      (refuses_sweep there t.master now.master up clock o.store t.store rows t.fault t.why)

  up_refused : (new : StoredParts) (printed : List Line) → new.store.doubt ≡ 0 → UpRefusedBy o now.master new printed → StoredSteps w o rest now new printed
  up_refused new printed sure t =
      let none : there.master ≡ None = same.master ∙ t.none in
      let rows : o.store.rows ≡ there.rows = theirs.rows ∙ sym same.rows in
      let cell : o.store.cell ≡ there.cell = theirs.cell ∙ sym same.cell in
      let undoubted : t.store.doubt ≡ 0 = ap (λ (n : StoredParts). n.store.doubt) (sym t.left) ∙ sure in
      let is : o.store ≡ store_in (world_over there o.store) = ap (λ (r : Rows). record o.store { rows = r }) rows ∙ ap (λ (c : List ℕ). record o.store { cell = c; rows = there.rows }) cell in
      let terms : o.parts.terms ≡ there.terms = sym same.terms in
      let h : StaysDown there.terms now.master t.fault (store_in (world_over there o.store)) t.store =
      subst (λ (e : MasterTerms). StaysDown e now.master t.fault (store_in (world_over there o.store)) t.store) terms (subst (λ (s : Store). StaysDown o.parts.terms now.master t.fault s t.store) is t.why) in
      let stays = stays_rows there now.master none o.store t.store t.fault undoubted h in
      then_refused (steps.Up now.master) t.store t.fault new printed t.left t.prints (stays.0 ∙ sym rows, stays.1 ∙ sym cell)
      (stays_down there now.master none o.store t.store t.fault undoubted h)

  -- a tick, and the step of a deed
  then_done : (deed : Deed) (new : StoredParts) (printed : List Line) → DoneBy o now deed new printed → Follows there o.parts deed rest now new.parts printed → StoredSteps w o rest now new printed
  then_done deed new printed d f =
      let edits = deed_edits o.parts now.master deed in
      let freed = deed_frees o.parts now.master deed in
      let its = done_theirs o new now deed printed theirs d in
      let rows : new.store.rows ≡ f.behind.rows = its.rows ∙ sym f.mirrors.rows in
      let V : WorldView = world_over there o.store in
      let N : WorldView = world_over f.behind new.store in
      let first : IsStored freed edits V N = record { leave = d.stands.leave ∙ ap (left_after freed edits o.store.may_leave) rows; counted = d.stands.counted; doubted = d.stands.doubted } in
      let stored : IsStored (step_frees there f.step) (step_edits there f.step) V N =
      subst (λ (b : Bool). IsStored b (step_edits there f.step) V N) (sym f.frees) (subst (λ (es : List Edit). IsStored freed es V N) (sym f.edits) first) in
      record {
        made = steps.Tick (ticks_by w ticks.gain ticks.step) ∷ f.step ∷ [];
        behind = f.behind;
        run = (
          V,
          [],
          printed,
          tick_step w o.store rest now ticks,
          (N, printed, [], made_step there f.behind o.store new.store f.step printed f.is_step f.typed stored, (refl, refl), sym (append-nil printed)),
          refl,
        );
        mirrors = f.mirrors;
        theirs = its;
        timely = f.timely;
      }

-- a tick, a client that joins, and a tick that moves its clock
module _ (o : StoredParts) (w : WorldState) (rest : List Entry) (now : Clocks) (same : Mirrors o.parts w) (theirs : IsTheirs o) (ticks : Ticks w rest now) (fair : AreFair (record { clocks = now; deed = Goes } ∷ rest)) (number : ℕ) (principal : List ℕ) (new : StoredParts) (printed : List Line) (d : DoneBy o now (Begins number principal) new printed) where
  abbrev before_join : WorldState
  before_join = there o w rest now same theirs ticks

  abbrev mirrors_before : Mirrors o.parts before_join
  mirrors_before = there_mirrors o w rest now same theirs ticks

  abbrev after_join : WorldState
  after_join = joined before_join rest now ticks.timely o.parts mirrors_before number principal

  again : Ticks after_join rest now
  again = joins_ticks before_join rest now ticks.timely o.parts mirrors_before fair.0 fair.2 number principal d.does.free

  then_joined : StoredSteps w o rest now new printed
  then_joined =
      let last : WorldState = ticked after_join (ticks_by after_join again.gain again.step) in
      let stored : IsStored false [] (world_over before_join o.store) (world_over after_join new.store) = record { leave = d.stands.leave; counted = d.stands.counted; doubted = d.stands.doubted } in
      record {
        made = steps.Tick (ticks_by w ticks.gain ticks.step) ∷ steps.Join number principal ∷ steps.Tick (ticks_by after_join again.gain again.step) ∷ [];
        behind = last;
        run = (
          world_over before_join o.store,
          [],
          printed,
          tick_step w o.store rest now ticks,
          (
            world_over after_join new.store,
            [],
            printed,
            made_step before_join after_join o.store new.store (steps.Join number principal) [] (joins_step before_join rest now ticks.timely o.parts mirrors_before number principal d.does.free) tt stored,
            (world_over last new.store, [], [], tick_step after_join new.store rest now again, (refl, refl), d.does.prints),
            refl,
          ),
          refl,
        );
        mirrors = ticked_mirrors new.parts after_join (ticks_by after_join again.gain again.step) (joins_mirrors before_join rest now ticks.timely o.parts mirrors_before number principal new.parts printed d.does);
        theirs = done_theirs o new now (Begins number principal) printed theirs d;
        timely = again.timely;
      }

module _ (o : StoredParts) (w : WorldState) (here now : Clocks) (rest : List Entry) (same : Mirrors o.parts w) (theirs : IsTheirs o) (on : GoOn here (record { clocks = now; deed = Goes } ∷ rest)) (fair : AreFair (record { clocks = now; deed = Goes } ∷ rest)) (new : StoredParts) (printed : List Line) where
  -- where no master is up
  alone_then : (deed : Deed) → IsTimelyWorld w (record { clocks = now; deed = deed } ∷ rest) here → o.parts.master ≡ None → Ticks w rest now
  alone_then deed timely none = alone o.parts w [] here (record { clocks = now; deed = deed }) rest same timely on fair (same.master ∙ none)

  done_by : (deed : Deed) → IsTimelyWorld w (record { clocks = now; deed = deed } ∷ rest) here → DoneBy o now deed new printed → StoredSteps w o rest now new printed
  done_by ComesUp timely d =
      let ticks = alone_then ComesUp timely d.does.none in
      let mid = there_mirrors o w rest now same theirs ticks in
      then_done o w rest now same theirs ticks ComesUp new printed d (comes_up (there o w rest now same theirs ticks) rest now ticks.timely o.parts mid fair.0 fair.2 new.parts printed d.does)
  done_by FallsComingUp timely d =
      let ticks = alone_then FallsComingUp timely d.does.none in
      let mid = there_mirrors o w rest now same theirs ticks in
      then_done o w rest now same theirs ticks FallsComingUp new printed d (falls_coming_up (there o w rest now same theirs ticks) rest now ticks.timely o.parts mid new.parts printed d.does)
  done_by (Takes at) timely d =
      let ticks = beside o.parts w [] here (record { clocks = now; deed = Takes at }) rest same timely on fair refl in
      let mid = there_mirrors o w rest now same theirs ticks in
      then_done o w rest now same theirs ticks (Takes at) new printed d (takes (there o w rest now same theirs ticks) rest now ticks.timely o.parts mid at new.parts printed d.does)
  done_by Sweeps timely d =
      let ticks = beside o.parts w [] here (record { clocks = now; deed = Sweeps }) rest same timely on fair refl in
      let mid = there_mirrors o w rest now same theirs ticks in
      then_done o w rest now same theirs ticks Sweeps new printed d (sweeps (there o w rest now same theirs ticks) rest now ticks.timely o.parts mid new.parts printed d.does)
  done_by FallsSweeping timely d =
      let ticks = beside o.parts w [] here (record { clocks = now; deed = FallsSweeping }) rest same timely on fair refl in
      let mid = there_mirrors o w rest now same theirs ticks in
      then_done o w rest now same theirs ticks FallsSweeping new printed d (falls_sweeping (there o w rest now same theirs ticks) rest now ticks.timely o.parts mid new.parts printed d.does)
  done_by AnswersBeat timely d =
      let ticks = beside o.parts w [] here (record { clocks = now; deed = AnswersBeat }) rest same timely on fair refl in
      let mid = there_mirrors o w rest now same theirs ticks in
      then_done o w rest now same theirs ticks AnswersBeat new printed d (answers_beat (there o w rest now same theirs ticks) rest now ticks.timely o.parts mid new.parts printed d.does)
  done_by Goes timely d =
      let ticks = beside o.parts w [] here (record { clocks = now; deed = Goes }) rest same timely on fair refl in
      let mid = there_mirrors o w rest now same theirs ticks in
      then_done o w rest now same theirs ticks Goes new printed d (goes (there o w rest now same theirs ticks) rest now ticks.timely o.parts mid new.parts printed d.does)
  done_by (Begins number principal) timely d =
      let ticks = beside o.parts w [] here (record { clocks = now; deed = Begins number principal }) rest same timely on fair refl in
      then_joined o w rest now same theirs ticks fair number principal new printed d
  done_by (Asks number ask) timely d =
      let ticks = beside o.parts w [] here (record { clocks = now; deed = Asks number ask }) rest same timely on fair refl in
      let mid = there_mirrors o w rest now same theirs ticks in
      then_done o w rest now same theirs ticks (Asks number ask) new printed d (asks (there o w rest now same theirs ticks) rest now ticks.timely o.parts mid number ask new.parts printed d.does)
  done_by (Beats number) timely d =
      let ticks = beside o.parts w [] here (record { clocks = now; deed = Beats number }) rest same timely on fair refl in
      let mid = there_mirrors o w rest now same theirs ticks in
      then_done o w rest now same theirs ticks (Beats number) new printed d (beats (there o w rest now same theirs ticks) rest now ticks.timely o.parts mid number new.parts printed d.does)
  done_by (Hears at) timely d =
      let ticks = beside o.parts w [] here (record { clocks = now; deed = Hears at }) rest same timely on fair refl in
      let mid = there_mirrors o w rest now same theirs ticks in
      then_done o w rest now same theirs ticks (Hears at) new printed d (hears (there o w rest now same theirs ticks) rest now ticks.timely o.parts mid at new.parts printed d.does)

  stored_steps : (deed : StoredDeed) → IsTimelyWorld w (record { clocks = now; deed = life_of deed } ∷ rest) here → new.store.doubt ≡ 0 → DoesStored o now deed new printed → StoredSteps w o rest now new printed
  stored_steps (Done deed) timely sure d = done_by deed timely d
  stored_steps SweepRefused timely sure t =
      sweep_refused o w rest now same theirs (beside o.parts w [] here (record { clocks = now; deed = Goes }) rest same timely on fair refl) new printed t
  stored_steps UpRefused timely sure t = up_refused o w rest now same theirs (alone_then FallsComingUp timely t.none) new printed sure t

-- ---- a history

pub record Stretch (w : WorldState) (o : StoredParts) (entries : List StoredEntry) (rest : List Entry) (printed : List Line) (end : StoredParts) (h : StoredHistory o entries printed end) : Type 0 where
  pub made : List Step
  pub behind : WorldState
  pub at : Clocks
  pub run : AnyRun (world_over w o.store) made printed (world_over behind end.store)
  pub mirrors : Mirrors end.parts behind
  pub theirs : IsTheirs end
  pub timely : IsTimelyWorld behind rest at
  pub on : GoOn at rest
  pub fair : AreFair rest
  pub along : GoesAlongStored (world_over w o.store) made (world_over behind end.store) o entries printed end h

holds_stored : (o : StoredParts) (w : WorldState) → Mirrors o.parts w → o.store.doubt ≡ 0 → HoldsStored (world_over w o.store) o
holds_stored o w same sure = record {
  parts = record { rows = same.rows; master = same.master; clients = same.clients; messages = same.messages; undoubted = sure };
  leave = refl;
}

pub stretch : (o : StoredParts) (w : WorldState) (here : Clocks) (entries : List StoredEntry) (rest : List Entry) (printed : List Line) (end : StoredParts) → Mirrors o.parts w → IsTheirs o → IsTimelyWorld w (map as_clocked entries ++ rest) here → GoOn here (map as_clocked entries ++ rest) → AreFair (map as_clocked entries ++ rest)
    → end.store.doubt ≡ 0 → (h : StoredHistory o entries printed end) → Stretch w o entries rest printed end h
stretch o w here [] rest printed end same theirs timely on fair sure h =
    let undoubted : o.store.doubt ≡ 0 = ap (λ (n : StoredParts). n.store.doubt) (sym h.1) ∙ sure in
    let is : world_over w end.store ≡ world_over w o.store = ap (λ (n : StoredParts). world_over w n.store) h.1 in
    record {
      made = [];
      behind = w;
      at = here;
      run = (h.0, is);
      mirrors = subst (λ (n : StoredParts). Mirrors n.parts w) (sym h.1) same;
      theirs = subst IsTheirs (sym h.1) theirs;
      timely = timely;
      on = on;
      fair = fair;
      along = (holds_stored o w same undoubted, refl, is);
    }
stretch o w here (entry ∷ entries) rest printed end same theirs timely on fair sure h =
    let mid : StoredParts = h.0 in
    let later : List Entry = map as_clocked entries ++ rest in
    let undoubted : mid.store.doubt ≡ 0 = none_before mid.store.doubt end.store.doubt (history_doubts mid entries h.2 end h.4) sure in
    let before : o.store.doubt ≡ 0 = none_before o.store.doubt mid.store.doubt (does_doubts o mid entry.clocks entry.deed h.1 h.3) undoubted in
    let first = stored_steps o w here entry.clocks later same theirs on fair mid h.1 entry.deed timely undoubted h.3 in
    let next = stretch mid first.behind entry.clocks entries rest h.2 end first.mirrors first.theirs first.timely fair.1 fair.3 sure h.4 in
    let V : WorldView = world_over w o.store in
    let M : WorldView = world_over first.behind mid.store in
    let N : WorldView = world_over next.behind end.store in
    record {
      made = first.made ++ next.made;
      behind = next.behind;
      at = next.at;
      run = subst (λ (told : List Line). AnyRun V (first.made ++ next.made) told N) (sym h.5) (run_append V M N first.made next.made h.1 h.2 first.run next.run);
      mirrors = next.mirrors;
      theirs = next.theirs;
      timely = next.timely;
      on = next.on;
      fair = next.fair;
      along = (
        holds_stored o w same before,
        first.made,
        next.made,
        M,
        refl,
        run_sure V first.made h.1 M first.run undoubted,
        shows_clocks first.behind later entry.clocks first.timely,
        next.along,
      );
    }

-- ---- crashes

-- runs with crashes between them lead to a world that holds what the last crash left
pub record Crashed (v : WorldView) (printed : List (List Line)) (o : StoredParts) (rest : List Entry) : Type 0 where
  pub runs : List (List Step)
  pub world : WorldState
  pub at : Clocks
  pub crashed : CrashedRuns v runs printed (world_over world o.store)
  pub mirrors : Mirrors o.parts world
  pub theirs : IsTheirs o
  pub timely : IsTimelyWorld world rest at
  pub on : GoOn at rest
  pub fair : AreFair rest

crash_mirrors : (o : StoredParts) (w : WorldState) (rows : Rows) → Mirrors o.parts w → Mirrors (crashed_over o rows).parts (record w { rows = rows; master = None })
crash_mirrors o w rows same = record { cell = same.cell; rows = refl; master = refl; clients = same.clients; messages = same.messages; terms = same.terms }

crash_theirs : (o : StoredParts) (rows : Rows) → IsTheirs o → IsTheirs (crashed_over o rows)
crash_theirs o rows theirs = record { rows = refl; cell = theirs.cell }

crashes_lead : (o : StoredParts) (w : WorldState) (here : Clocks) (histories : List (List StoredEntry)) (rest : List Entry) (printed : List (List Line)) (begun : StoredParts) → Mirrors o.parts w → IsTheirs o → IsTimelyWorld w (entries_then histories rest) here → GoOn here (entries_then histories rest)
    → AreFair (entries_then histories rest) → begun.store.doubt ≡ 0 → CrashedHistories o histories printed begun → Crashed (world_over w o.store) printed begun rest
crashes_lead o w here [] rest printed begun same theirs timely on fair sure h = record {
  runs = [];
  world = w;
  at = here;
  crashed = (h.0, ap (λ (n : StoredParts). world_over w n.store) h.1);
  mirrors = subst (λ (n : StoredParts). Mirrors n.parts w) (sym h.1) same;
  theirs = subst IsTheirs (sym h.1) theirs;
  timely = timely;
  on = on;
  fair = fair;
}
crashes_lead o w here (entries ∷ others) rest printed begun same theirs timely on fair sure h =
    let mid : StoredParts = h.0 in
    let rows : Rows = h.3 in
    let later : List Entry = entries_then others rest in
    let undoubted : mid.store.doubt ≡ 0 = none_before mid.store.doubt begun.store.doubt (crashes_doubt (crashed_over mid rows) others h.2 begun h.6) sure in
    let s = stretch o w here entries later h.1 mid same theirs timely on fair undoubted h.4 in
    let left : WorldState = record s.behind { rows = rows; master = None } in
    let next = crashes_lead (crashed_over mid rows) left s.at others rest h.2 begun (crash_mirrors mid s.behind rows s.mirrors) (crash_theirs mid rows s.theirs) (goes_alone s.behind later s.at s.timely rows) s.on s.fair sure h.6 in
    record {
      runs = s.made ∷ next.runs;
      world = next.world;
      at = next.at;
      crashed = (world_over s.behind mid.store, h.1, h.2, rows, s.run, h.5, next.crashed, h.7);
      mirrors = next.mirrors;
      theirs = next.theirs;
      timely = next.timely;
      on = next.on;
      fair = next.fair;
    }

-- ---- from the beginning

-- and then on, to a moment before others
pub record Onward (store : Store) (terms : MasterTerms) (printed : List (List Line)) (begun : StoredParts) (entries : List StoredEntry) (rest : List Entry) (told : List Line) (end : StoredParts) (h : StoredHistory begun entries told end) : Type 0 where
  pub first : Crashed (opened store terms) printed begun (map as_clocked entries ++ rest)
  pub later : Stretch first.world begun entries rest told end h

module _ (store : Store) (terms : MasterTerms) (histories : List (List StoredEntry)) (printed : List (List Line)) (begun : StoredParts) (crashes : CrashedHistories (nothing_over store terms) histories printed begun) where
  from_nothing : (rest : List Entry) → AreFair (entries_then histories rest) → begun.store.doubt ≡ 0 → Crashed (opened store terms) printed begun rest
  from_nothing rest fair sure =
      crashes_lead (nothing_over store terms) (new_world store.cell store.rows terms) no_clocks histories rest printed begun (began_mirrors store.cell store.rows terms) (record { rows = refl; cell = refl })
      (began store.cell store.rows terms (entries_then histories rest)) (goes_on_from (entries_then histories rest)) fair sure crashes

  leads_on : (entries : List StoredEntry) (rest : List Entry) (told : List Line) (end : StoredParts) → AreFair (entries_then histories (map as_clocked entries ++ rest)) → end.store.doubt ≡ 0 → (h : StoredHistory begun entries told end) → Onward store terms printed begun entries rest told end h
  leads_on entries rest told end fair sure h =
      let undoubted : begun.store.doubt ≡ 0 = none_before begun.store.doubt end.store.doubt (history_doubts begun entries told end h) sure in
      let first = from_nothing (map as_clocked entries ++ rest) fair undoubted in
      record { first = first; later = stretch begun first.world first.at entries rest told end first.mirrors first.theirs first.timely first.on first.fair sure h }

  behind_crashes : (entries : List StoredEntry) (told : List Line) (end : StoredParts) (h : StoredHistory begun entries told end) → AreFair (entries_then histories (map as_clocked entries)) → end.store.doubt ≡ 0 → IsBehindCrashes store terms printed begun entries told end h
  behind_crashes entries told end h fair sure =
      let undoubted : begun.store.doubt ≡ 0 = none_before begun.store.doubt end.store.doubt (history_doubts begun entries told end h) sure in
      let all = leads_on entries [] told end (subst (λ (l : List Entry). AreFair (entries_then histories l)) (sym (append-nil (map as_clocked entries))) fair) sure h in
      record {
        runs = all.first.runs;
        here = world_over all.first.world begun.store;
        crashed = all.first.crashed;
        begins = holds_stored begun all.first.world all.first.mirrors undoubted;
        steps = all.later.made;
        new = world_over all.later.behind end.store;
        run = all.later.run;
        holds = holds_stored end all.later.behind all.later.mirrors sure;
        along = all.later.along;
      }

  -- what fits at the beginning fits then
  fits_on : (entries : List StoredEntry) (rest : List Entry) (told : List Line) (end : StoredParts) (h : StoredHistory begun entries told end) → terms.lease ≤ longest_lease → end.store.doubt ≡ 0 → (on : Onward store terms printed begun entries rest told end h) → IsConsistent on.later.behind
  fits_on entries rest told end h range sure on =
      let undoubted : begun.store.doubt ≡ 0 = none_before begun.store.doubt end.store.doubt (history_doubts begun entries told end h) sure in
      let here : WorldView = world_over on.first.world begun.store in
      let new : WorldView = world_over on.later.behind end.store in
      let opening : IsSafeWorld (opened store terms) = record { consistent = new_holds store.cell store.rows terms range; left = λ rows i. new_holds store.cell rows terms range } in
      let safe = crashes_keep (opened store terms) on.first.runs printed here opening on.first.crashed undoubted in
      run_consistent here on.later.made told new safe.consistent (run_sure here on.later.made told new on.later.run sure)

pub crashed_are_runs : CrashedHistoriesAreRuns
crashed_are_runs store terms histories printed begun entries told end crashes h fair sure = behind_crashes store terms histories printed begun crashes entries told end h fair sure

pub crashed_hold : CrashedHistoriesHold
crashed_hold store terms histories printed begun entries told end range crashes h fair sure =
    let is = behind_crashes store terms histories printed begun crashes entries told end h fair sure in
    let laws = crashes_hold (opened store terms) (λ none. new_holds store.cell store.rows terms range) (λ none rows i. new_holds store.cell rows terms range) in
    (is, laws is.runs printed is.here is.crashed is.begins.parts.undoubted is.steps told is.new is.run is.holds.parts.undoubted)

-- ---- caches

refused_serves : (nodes : Nodes) (fault : Fault) (printed : List Line) → printed ≡ lines.Refused fault ∷ [] → ServesPresent nodes printed
refused_serves nodes fault printed one [] rest client name entry is = cc
refused_serves nodes fault printed one (line ∷ []) rest client name entry is = cc
refused_serves nodes fault printed one (line ∷ next ∷ before) rest client name entry is = cc

shows_then : (o : StoredParts) (w : WorldState) (here now : Clocks) (deed : StoredDeed) (new : StoredParts) (told : List Line) → Mirrors o.parts w → IsTimelyWorld w (record { clocks = now; deed = life_of deed } ∷ []) here → GoOn here (record { clocks = now; deed = life_of deed } ∷ [])
    → AreFair (record { clocks = now; deed = life_of deed } ∷ []) → IsConsistent w → DoesStored o now deed new told → ServesPresent (map_of new.parts.rows) told
shows_then o w here now (Done deed) new told same timely on fair fits d =
    last_on o.parts w [] here [] (record { clocks = now; deed = deed }) [] o.parts new.parts told same timely on fair fits (refl, refl) d.does
shows_then o w here now SweepRefused new told same timely on fair fits t = refused_serves (map_of new.parts.rows) t.fault told t.prints
shows_then o w here now UpRefused new told same timely on fair fits t = refused_serves (map_of new.parts.rows) t.fault told t.prints

pub crashed_show : CachesShowWhatCrashesLeave
crashed_show store terms histories printed begun entries before here new last told range crashes h does fair sure =
    let undoubted : here.store.doubt ≡ 0 = none_before here.store.doubt new.store.doubt (does_doubts here new last.clocks last.deed told does) sure in
    let all = leads_on store terms histories printed begun crashes entries (as_clocked last ∷ []) before here fair undoubted h in
    let fits = fits_on store terms histories printed begun crashes entries (as_clocked last ∷ []) before here h range undoubted all in
    shows_then here all.later.behind all.later.at last.clocks last.deed new told all.later.mirrors all.later.timely all.later.on all.later.fair fits does

pub crashed_answer : CachesAnswerWhatCrashesLeave
crashed_answer store terms histories printed begun entries before here now number client name entry range crashes h fair sure there is =
    let rest : List Entry = record { clocks = now; deed = Goes } ∷ [] in
    let all = leads_on store terms histories printed begun crashes entries rest before here fair sure h in
    let fits = fits_on store terms histories printed begun crashes entries rest before here h range sure all in
    answer_on here.parts all.later.behind [] all.later.at now [] [] here.parts number client name entry all.later.mirrors all.later.timely all.later.on all.later.fair fits (refl, refl) there is

-- the call that a client waits for was told
pub crashed_asked : (store : Store) (terms : MasterTerms) (histories : List (List StoredEntry)) (printed : List (List Line)) (begun : StoredParts) (entries : List StoredEntry) (told : List Line) (end : StoredParts) (number : ℕ) (client : ClientState) (call : Outstanding) → terms.lease ≤ longest_lease
    → CrashedHistories (nothing_over store terms) histories printed begun → StoredHistory begun entries told end → AreFair (entries_then histories (map as_clocked entries)) → end.store.doubt ≡ 0 → end.parts.clients number ≡ Some client → client.outstanding ≡ Some call → HasAsked end.parts.told client call
crashed_asked store terms histories printed begun entries told end number client call range crashes h fair sure there waits =
    let on = leads_on store terms histories printed begun crashes entries [] told end (subst (λ (l : List Entry). AreFair (entries_then histories l)) (sym (append-nil (map as_clocked entries))) fair) sure h in
    let fits = fits_on store terms histories printed begun crashes entries [] told end h range sure on in
    let w : WorldState = on.later.behind in
    let mine = found_client (member_at w.clients number) client (on.later.mirrors.clients number ∙ there) in
    let held : Holds w.messages client = subst (λ (c : ClientState). Holds w.messages c) mine.2 (fits.holds number mine.0 mine.1) in
    (subst (λ (sent : List Message). Holds sent client) on.later.mirrors.messages held).asked call waits
