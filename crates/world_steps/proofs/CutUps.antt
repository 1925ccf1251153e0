-- A master that a crash cuts while it comes up, after its commit or before.
use Rattle.std.proofs.Common.{◌≡◌, ℕ, List, [], ◌∷◌, true, false, Result, Ok, Err, Option, Some, None, refl, sym, ap, subst, ◌∙◌, inl, inr, arith}
use Rattle.std.specs.Prelude.{is_some}
use Rattle.node_core.specs.declared.refusals.Fault.{Fault}
use Rattle.node_core.specs.declared.refusals.Fault.TheVariants as faults
use Rattle.node_core.specs.declared.lines.Line.{Line}
use Rattle.node_core.specs.declared.lines.Line.TheVariants as lines
use Rattle.rows_cell.specs.declared.settings.MasterTerms.{MasterTerms}
use Rattle.rows_cell.specs.declared.tables.Rows.{Rows}
use Rattle.rows_cell.specs.Stores.{Store, IsRead, IsUnread}
use Rattle.master_state.specs.State.{MasterState}
use Rattle.cell_core.specs.Step.{is_past_end}
use Rattle.over_core.specs.Up.{up_step, up_edits, up_commit, ComesUp, StaysDown, CouldComeUp, CouldNotComeUp}
use Rattle.world_steps.specs.declared.steps.Step.TheVariants as steps
use Rattle.world_steps.specs.declared.steps.Commit.{Commit}
use Rattle.world_steps.specs.declared.steps.Commit.TheVariants.{Kept, Lost}
use Rattle.world_steps.specs.World.{WorldState, WorldView, Outcome, store_in, as_read, came_up, cut_up, world_up, world_cut_up, world_step, step_edits, IsStored, IsOutsideRead}
use Rattle.world_steps.specs.Made.{WasMade, WasRefused}
use Rattle.world_steps.proofs.AsRead.{at_now}
use Rattle.world_steps.proofs.RefusedUp.{read_at, edits_up, stands, leaves_same, refused_up}

-- ---- the table

steps_cut : (w : WorldState) (now : ℕ) (commit : Commit) (m : Option MasterState) → m ≡ None → world_cut_up w now commit m ≡ cut_up w commit (up_step w.cell w.rows w.terms now)
steps_cut w now commit None none = refl
steps_cut w now commit (Some master) none = cc

cut_as : (w : WorldState) (now : ℕ) (commit : Commit) (r : Result MasterState Fault) → w.master ≡ None → up_step w.cell w.rows w.terms now ≡ r → world_step w (steps.CutUp now commit) ≡ cut_up w commit r
unfolding world_step
cut_as w now commit r none came = steps_cut w now commit w.master none ∙ ap (cut_up w commit) came

refused_same : (w : WorldState) (now : ℕ) (fault : Fault) (r : Result MasterState Fault) → came_up w now r ≡ Err fault → cut_up w Kept r ≡ Err fault
refused_same w now fault (Err why) h = h
refused_same w now fault (Ok master) h = cc

refused_by : (w : WorldState) (now : ℕ) (fault : Fault) (m : Option MasterState) → world_up w now m ≡ Err fault → world_cut_up w now Kept m ≡ Err fault
refused_by w now fault (Some master) h = h
refused_by w now fault None h = refused_same w now fault (up_step w.cell w.rows w.terms now) h

refused_so : (w : WorldState) (now : ℕ) (fault : Fault) → world_step w (steps.Up now) ≡ Err fault → world_step w (steps.CutUp now Kept) ≡ Err fault
unfolding world_step
refused_so w now fault h = refused_by w now fault w.master h

-- ---- after the commit

-- it is refused as a master that comes up is
refused_cut : (old new : WorldView) (now : ℕ) (printed : List Line) → WasRefused old (steps.Up now) new printed → WasRefused old (steps.CutUp now Kept) new printed
refused_cut old new now printed h =
    let r = h.2 in (
      h.0,
      h.1,
      record {
        fault = r.fault;
        why = elim r.why [ inl k ↦ inl (refused_so h.0.world now r.fault k.0, k.1) | inr k ↦ inr k ];
        left = r.left;
        line = r.line;
      },
    )

kept_by : (old : WorldView) (now : ℕ) (master : MasterState) (after : Store) → old.world.master ≡ None → ComesUp old.world.terms now master (store_in old) after → WasMade old (steps.CutUp now Kept) (as_read old after) (lines.Up master.epoch ∷ lines.Down ∷ [])
kept_by old now master after none h =
    let at : WorldView = as_read old h.read in
    let made : List ℕ → Rows → Outcome = λ cell rows. Ok (record (as_read old after).world { cell = cell; rows = rows }, lines.Up master.epoch ∷ lines.Down ∷ []) in
    let edits : step_edits at.world (steps.CutUp now Kept) ≡ up_edits h.read.rows = edits_up at.world now at.world.master none ∙ ap (λ r. up_commit r h.read.rows) h.came in (
      at,
      read_at old old.world.master h.read none h.was_read,
      record {
        is_step = cut_as at.world now Kept (Ok master) none h.came ∙ sym (ap (λ c. made c after.rows) h.committed.cell ∙ ap (λ r. made h.read.cell r) h.committed.rows);
        typed = tt;
        stored = subst (λ e. IsStored false e at (as_read old after)) (sym edits) (record { leave = h.committed.leave; counted = h.committed.counted; doubted = h.committed.doubted });
      },
    )

-- ---- before it

lost_by : (old : WorldView) (now : ℕ) (read : Store) → old.world.master ≡ None → CouldComeUp now (store_in old) read → WasMade old (steps.CutUp now Lost) (as_read old read) (lines.Down ∷ [])
lost_by old now read none h =
    let at : WorldView = as_read old read in (
      at,
      read_at old old.world.master read none h.was_read,
      record {
        is_step = cut_as at.world now Lost _ none (h.comes old.world.terms);
        typed = tt;
        stored = record { leave = refl; counted = refl; doubted = omega arith };
      },
    )

outside_read : (old new : WorldView) (now : ℕ) (fault : Fault) (m : Option MasterState) → m ≡ None → is_past_end now ≡ false → IsUnread fault (store_in old) (store_in new) → IsOutsideRead m now fault old new
outside_read old new now fault None none early why = inr (early, why)
outside_read old new now fault (Some master) none early why = cc

late : (fault : Fault) (w : WorldState) (now : ℕ) → is_past_end now ≡ true → fault ≡ faults.Exhausted → up_step w.cell w.rows w.terms now ≡ Err fault
late fault w now past is = rw (past, is) refl

module _ (old : WorldView) (now : ℕ) (none : old.world.master ≡ None) (fault : Fault) where
  -- what was read, or the moment, lets no master come up
  lost_refused : (at : Store) → IsRead (store_in old) at → up_step at.cell at.rows old.world.terms now ≡ Err fault → WasRefused old (steps.CutUp now Lost) (as_read old at) (lines.Refused fault ∷ [])
  lost_refused at was_read why =
      let there : WorldView = as_read old at in (
        there,
        read_at old old.world.master at none was_read,
        record { fault = fault; why = inl (cut_as there.world now Lost (Err fault) none why, refl); left = record { same = refl; leave = refl; doubted = omega arith }; line = refl },
      )

  -- the store isn't read
  lost_unread : (after : Store) → is_past_end now ≡ false → IsUnread fault (store_in old) after → WasRefused old (steps.CutUp now Lost) (as_read old after) (lines.Refused fault ∷ [])
  lost_unread after early h = (
    old,
    at_now (steps.CutUp now Lost) old,
    record {
      fault = fault;
      why = inr (outside_read old (as_read old after) now fault old.world.master none early h);
      left = record { same = stands old (store_in old) after h.cell h.rows; leave = h.leave; doubted = h.doubted };
      line = refl;
    },
  )

  lost_down : (after : Store) → CouldNotComeUp now fault (store_in old) after → WasRefused old (steps.CutUp now Lost) (as_read old after) (lines.Refused fault ∷ [])
  lost_down after (inl h) =
      subst (λ s. WasRefused old (steps.CutUp now Lost) (as_read old s) (lines.Refused fault ∷ [])) (sym h.2)
      (lost_refused (store_in old) (record { cell = refl; counted = refl; doubted = omega arith; same = λ sure. refl }) (late fault old.world now h.0 h.1))
  lost_down after (inr h) = elim h.1 [
    | inl unread ↦ lost_unread after h.0 unread
    | inr turned ↦ lost_refused after turned.was_read (turned.why old.world.terms)
  ]

-- ---- the same of a world whose parts are known

module _ (old new : WorldView) (now : ℕ) (before after : Store) (none : old.world.master ≡ None) (is_old : store_in old ≡ before) (is_new : store_in new ≡ after) (is : new ≡ as_read old (store_in new)) where
  pub cut_up_made : (terms : MasterTerms) → old.world.terms ≡ terms → (master : MasterState) (printed : List Line) → ComesUp terms now master before after → printed ≡ lines.Up master.epoch ∷ lines.Down ∷ [] → WasMade old (steps.CutUp now Kept) new printed
  cut_up_made terms is_lease master printed h tells =
      let from : ComesUp old.world.terms now master (store_in old) after = subst (λ l. ComesUp l now master (store_in old) after) (sym is_lease) (subst (λ s. ComesUp terms now master s after) (sym is_old) h) in
      subst (λ w. WasMade old (steps.CutUp now Kept) w printed) (sym (is ∙ ap (as_read old) is_new))
      (subst (λ p. WasMade old (steps.CutUp now Kept) (as_read old after) p) (sym tells) (kept_by old now master after none from))

  pub cut_up_refused : (terms : MasterTerms) → old.world.terms ≡ terms → (fault : Fault) → StaysDown terms now fault before after → WasRefused old (steps.CutUp now Kept) new (lines.Refused fault ∷ [])
  cut_up_refused terms is_lease fault h = refused_cut old new now (lines.Refused fault ∷ []) (refused_up old new now terms before after none is_old is_lease fault h is_new is)

  pub lost_up_made : (printed : List Line) → CouldComeUp now before after → printed ≡ lines.Down ∷ [] → WasMade old (steps.CutUp now Lost) new printed
  lost_up_made printed h tells =
      subst (λ w. WasMade old (steps.CutUp now Lost) w printed) (sym (is ∙ ap (as_read old) is_new))
      (subst (λ p. WasMade old (steps.CutUp now Lost) (as_read old after) p) (sym tells) (lost_by old now after none (subst (λ s. CouldComeUp now s after) (sym is_old) h)))

  pub lost_up_refused : (fault : Fault) → CouldNotComeUp now fault before after → WasRefused old (steps.CutUp now Lost) new (lines.Refused fault ∷ [])
  lost_up_refused fault h =
      subst (λ w. WasRefused old (steps.CutUp now Lost) w (lines.Refused fault ∷ [])) (sym (is ∙ ap (as_read old) is_new))
      (lost_down old now none fault after (subst (λ s. CouldNotComeUp now fault s after) (sym is_old) h))

-- ---- while a master is up

twice_by : (w : WorldState) (now : ℕ) (commit : Commit) (m : Option MasterState) → is_some m ≡ true → world_cut_up w now commit m ≡ Err faults.MasterUp
twice_by w now commit None up = cc
twice_by w now commit (Some master) up = refl

pub cut_twice : (old new : WorldView) (now : ℕ) (commit : Commit) → is_some old.world.master ≡ true → new ≡ old → WasRefused old (steps.CutUp now commit) new (lines.Refused faults.MasterUp ∷ [])
unfolding world_step
cut_twice old new now commit up same =
    subst (λ w. WasRefused old (steps.CutUp now commit) w (lines.Refused faults.MasterUp ∷ [])) (sym same) (
      old,
      at_now (steps.CutUp now commit) old,
      record {
        fault = faults.MasterUp;
        why = inl (twice_by old.world now commit old.world.master up, refl);
        left = record { same = refl; leave = leaves_same (step_edits old.world (steps.CutUp now commit)) old.world.rows old.may_leave old.may_leave refl; doubted = omega arith };
        line = refl;
      },
    )
