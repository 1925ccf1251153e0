-- A master that comes up where none is, or doesn't.
use Rattle.std.proofs.Common.{◌≡◌, ℕ, List, [], ◌∷◌, Ok, Err, Option, Some, None, true, false, refl, sym, ap, subst, ◌∙◌, inl, inr, arith}
use Rattle.std.specs.Prelude.{◌⊎◌, is_some, not}
use Rattle.std.specs.Option.{option_map}
use Rattle.node_core.specs.declared.refusals.Fault.{Fault}
use Rattle.node_core.specs.declared.refusals.Fault.TheVariants as faults
use Rattle.node_core.specs.declared.lines.Line.{Line}
use Rattle.node_core.specs.declared.lines.Line.TheVariants as lines
use Rattle.rows_cell.specs.declared.settings.MasterTerms.{MasterTerms}
use Rattle.rows_cell.specs.declared.tables.Rows.{Rows}
use Rattle.rows_cell.specs.declared.tables.Edit.{Edit}
use Rattle.rows_cell.specs.Rows.{changed_rows}
use Rattle.rows_cell.specs.Stores.{Store, IsRead, IsUnread, MayLeave, MayRefuse, IsRefused as Uncommitted}
use Rattle.master_state.specs.State.{MasterState}
use Rattle.cell_core.specs.Step.{is_past_end}
use Rattle.over_core.specs.Kept.{IsKept}
use Rattle.over_core.specs.Up.{up_step, up_edits, up_commit, ComesUp, IsKeptDown, StaysDown}
use Rattle.world_steps.specs.declared.mail.Message.{Message}
use Rattle.world_steps.specs.declared.steps.Step.TheVariants as steps
use Rattle.world_steps.specs.Members.{Clients, each_member, at_up}
use Rattle.world_steps.specs.World.{WorldState, WorldView, Outcome, store_in, held, view_of, as_read, came_up, world_step, world_up, came_up_edits, step_edits, IsAtUp, IsStored, IsOutsideUp}
use Rattle.world_steps.specs.Made.{AreInOrder, WasMade, WasRefused}
use Rattle.world_steps.proofs.AsRead.{at_now}

-- with no master, the store is with the records
pub of_records : {Cell Master Records : Type 0} (master : Cell → Master) (part : Cell → Store) (store : Records → Store) (up : Option Cell) (records : Option Records) (r : Records) → option_map master up ≡ None → records ≡ Some r → held (option_map part up) (option_map store records) ≡ store r
of_records master part store None records r down there = rw there refl
of_records master part store (Some cell) records r down there = cc

pub read_at : (old : WorldView) (m : Option MasterState) (read : Store) → m ≡ None → IsRead (store_in old) read → IsAtUp m old (as_read old read)
read_at old None read none h = (read, h, refl)
read_at old (Some master) read none h = cc

pub edits_up : (w : WorldState) (now : ℕ) (m : Option MasterState) → m ≡ None → came_up_edits w now m ≡ up_commit (up_step w.cell w.rows w.terms now) w.rows
edits_up w now None none = refl
edits_up w now (Some master) none = cc

steps_up : (w : WorldState) (now : ℕ) (m : Option MasterState) → m ≡ None → world_up w now m ≡ came_up w now (up_step w.cell w.rows w.terms now)
steps_up w now None none = refl
steps_up w now (Some master) none = cc

outside_up : (old new : WorldView) (now : ℕ) (fault : Fault) (m : Option MasterState) → m ≡ None → is_past_end now ≡ false → IsUnread fault (store_in old) (store_in new) ⊎ MayRefuse (came_up_edits old.world now None) fault old.refusals new.refusals → IsOutsideUp m now fault old new
outside_up old new now fault None none early why = inr (early, why)
outside_up old new now fault (Some master) none early why = cc

-- the same rows stand
pub stands : (old : WorldView) (a b : Store) → b.cell ≡ a.cell → b.rows ≡ a.rows → (as_read old b).world ≡ (as_read old a).world
stands old a b cell rows =
    let made : List ℕ → Rows → WorldState = λ c r. record old.world { cell = c; rows = r } in
    ap (λ c. made c b.rows) cell ∙ ap (λ r. made a.cell r) rows

pub leaves_same : (edits : List Edit) (rows : Rows) (old new : List Rows) → new ≡ old → MayLeave edits rows old new
leaves_same [] rows old new same = same
leaves_same (edit ∷ edits) rows old new same = inl same

-- a master is up over the store
abbrev pub with_master : WorldView → ℕ → Store → MasterState → WorldView
with_master w now after master = view_of after (Some master) now (each_member (λ number. at_up now) w.world.clients) w.world.messages w.world.terms

module _ (old : WorldView) (now : ℕ) (none : old.world.master ≡ None) where
  -- ---- it comes up

  came_as : (w : WorldState) (master : MasterState) → w.master ≡ None → up_step w.cell w.rows w.terms now ≡ Ok master → world_step w (steps.Up now) ≡ came_up w now (Ok master)
  unfolding world_step
  came_as w master down came = steps_up w now w.master down ∙ ap (came_up w now) came

  made_by : (master : MasterState) (after : Store) → ComesUp old.world.terms now master (store_in old) after → AreInOrder after.rows → WasMade old (steps.Up now) (with_master old now after master) (lines.Up master.epoch ∷ [])
  made_by master after h order =
      let at : WorldView = as_read old h.read in
      let ordered : AreInOrder (changed_rows h.read.rows (up_edits h.read.rows)) = subst AreInOrder h.committed.rows order in
      let made : List ℕ → Rows → Outcome = λ cell rows. Ok (record (with_master old now after master).world { cell = cell; rows = rows }, lines.Up master.epoch ∷ []) in
      let edits : step_edits at.world (steps.Up now) ≡ up_edits h.read.rows = edits_up at.world now at.world.master none ∙ ap (λ r. up_commit r h.read.rows) h.came in (
        at,
        read_at old old.world.master h.read none h.was_read,
        record {
          is_step = came_as at.world master none h.came ∙ sym (ap (λ c. made c after.rows) h.committed.cell ∙ ap (λ r. made h.read.cell r) h.committed.rows);
          typed = record { names = ordered.names; sessions = ordered.sessions; locks = ordered.locks };
          stored = subst (λ e. IsStored false e at (with_master old now after master)) (sym edits) (record { leave = h.committed.leave; counted = h.committed.counted; doubted = h.committed.doubted });
        },
      )

  -- ---- it stays down

  refused_as : (w : WorldState) (fault : Fault) → w.master ≡ None → up_step w.cell w.rows w.terms now ≡ Err fault → world_step w (steps.Up now) ≡ Err fault
  unfolding world_step
  refused_as w fault down told = steps_up w now w.master down ∙ ap (came_up w now) told

  late : (fault : Fault) (w : WorldState) → is_past_end now ≡ true → fault ≡ faults.Exhausted → up_step w.cell w.rows w.terms now ≡ Err fault
  late fault w past is = rw (past, is) refl

  refused_late : (fault : Fault) → is_past_end now ≡ true → fault ≡ faults.Exhausted → WasRefused old (steps.Up now) old (lines.Refused fault ∷ [])
  refused_late fault past is = (
    old,
    at_now (steps.Up now) old,
    record {
      fault = fault;
      why = inl (refused_as old.world fault none (late fault old.world past is), refl);
      left = record { same = refl; leave = leaves_same (step_edits old.world (steps.Up now)) old.world.rows old.may_leave old.may_leave refl; doubted = omega arith };
      line = refl;
    },
  )

  refused_unread : (fault : Fault) (after : Store) → is_past_end now ≡ false → IsUnread fault (store_in old) after → WasRefused old (steps.Up now) (as_read old after) (lines.Refused fault ∷ [])
  refused_unread fault after early h = (
    old,
    at_now (steps.Up now) old,
    record {
      fault = fault;
      why = inr (outside_up old (as_read old after) now fault old.world.master none early (inl h));
      left = record { same = stands old (store_in old) after h.cell h.rows; leave = leaves_same (step_edits old.world (steps.Up now)) old.world.rows old.may_leave after.may_leave h.leave; doubted = h.doubted };
      line = refl;
    },
  )

  -- what was read lets no master come up
  refused_read : (fault : Fault) (read : Store) → IsRead (store_in old) read → up_step read.cell read.rows old.world.terms now ≡ Err fault → WasRefused old (steps.Up now) (as_read old read) (lines.Refused fault ∷ [])
  refused_read fault read was_read told =
      let at : WorldView = as_read old read in (
        at,
        read_at old old.world.master read none was_read,
        record {
          fault = fault;
          why = inl (refused_as at.world fault none told, refl);
          left = record { same = refl; leave = leaves_same (step_edits at.world (steps.Up now)) read.rows read.may_leave read.may_leave refl; doubted = omega arith };
          line = refl;
        },
      )

  -- the epoch isn't committed
  refused_commit : (fault : Fault) (read after : Store) → is_past_end now ≡ false → IsRead (store_in old) read → Uncommitted fault (up_commit (up_step read.cell read.rows old.world.terms now) read.rows) read after → WasRefused old (steps.Up now) (as_read old after) (lines.Refused fault ∷ [])
  refused_commit fault read after early was_read h =
      let at : WorldView = as_read old read in
      let edits = edits_up at.world now at.world.master none in (
        at,
        read_at old old.world.master read none was_read,
        record {
          fault = fault;
          why = inr (outside_up at (as_read old after) now fault at.world.master none early (inr h.why));
          left = record { same = stands old read after h.cell h.rows; leave = subst (λ e. MayLeave e read.rows read.may_leave after.may_leave) (sym edits) h.leave; doubted = h.doubted };
          line = refl;
        },
      )

  kept_down : (fault : Fault) (after read : Store) → is_past_end now ≡ false → IsRead (store_in old) read → ((up_step read.cell read.rows old.world.terms now ≡ Err fault) × (after ≡ read)) ⊎ Uncommitted fault (up_commit (up_step read.cell read.rows old.world.terms now) read.rows) read after → WasRefused old (steps.Up now) (as_read old after) (lines.Refused fault ∷ [])
  kept_down fault after read early was_read (inl h) =
      subst (λ s. WasRefused old (steps.Up now) (as_read old s) (lines.Refused fault ∷ [])) (sym h.1) (refused_read fault read was_read h.0)
  kept_down fault after read early was_read (inr h) = refused_commit fault read after early was_read h

  asked_down : (fault : Fault) (after : Store) → is_past_end now ≡ false → IsUnread fault (store_in old) after ⊎ IsKeptDown old.world.terms now fault (store_in old) after → WasRefused old (steps.Up now) (as_read old after) (lines.Refused fault ∷ [])
  asked_down fault after early (inl h) = refused_unread fault after early h
  asked_down fault after early (inr h) = kept_down fault after h.read early h.was_read h.why

  refused_by : (fault : Fault) (after : Store) → StaysDown old.world.terms now fault (store_in old) after → WasRefused old (steps.Up now) (as_read old after) (lines.Refused fault ∷ [])
  refused_by fault after (inl h) =
      subst (λ s. WasRefused old (steps.Up now) (as_read old s) (lines.Refused fault ∷ [])) (sym h.2) (refused_late fault h.0 h.1)
  refused_by fault after (inr h) = asked_down fault after h.0 h.1

-- ---- the same of a world whose parts are known

module _ (old new : WorldView) (now : ℕ) (terms : MasterTerms) (before after : Store) (none : old.world.master ≡ None) (is_old : store_in old ≡ before) (is_lease : old.world.terms ≡ terms) where
  pub came_up_made : (master : MasterState) (printed : List Line) → ComesUp terms now master before after → IsKept after.cell after.rows master → new ≡ with_master old now after master → printed ≡ lines.Up master.epoch ∷ [] → WasMade old (steps.Up now) new printed
  came_up_made master printed h kept is tells =
      let order : AreInOrder after.rows = record { names = kept.names_in_order; sessions = kept.sessions_in_order; locks = kept.locks_in_order } in
      let from : ComesUp old.world.terms now master (store_in old) after = subst (λ l. ComesUp l now master (store_in old) after) (sym is_lease) (subst (λ s. ComesUp terms now master s after) (sym is_old) h) in
      subst (λ w. WasMade old (steps.Up now) w printed) (sym is) (subst (λ p. WasMade old (steps.Up now) (with_master old now after master) p) (sym tells) (made_by old now none master after from order))

  pub refused_up : (fault : Fault) → StaysDown terms now fault before after → store_in new ≡ after → new ≡ as_read old (store_in new) → WasRefused old (steps.Up now) new (lines.Refused fault ∷ [])
  refused_up fault h is_new is =
      let from : StaysDown old.world.terms now fault (store_in old) after = subst (λ l. StaysDown l now fault (store_in old) after) (sym is_lease) (subst (λ s. StaysDown terms now fault s after) (sym is_old) h) in
      subst (λ w. WasRefused old (steps.Up now) w (lines.Refused fault ∷ [])) (sym (is ∙ ap (as_read old) is_new)) (refused_by old now none fault after from)

-- ---- while a master is up

pub is_up_then : {Cell Master Records : Type 0} (master : Cell → Master) (up : Option Cell) (records : Option Records) → is_some records ≡ not (is_some up) → records ≡ None → is_some (option_map master up) ≡ true
is_up_then master None records held_by gone = let there : is_some records ≡ false = rw gone refl in cc
is_up_then master (Some cell) records held_by gone = refl

-- and while the records are there none is
pub none_up_then : {Cell Master Records : Type 0} (master : Cell → Master) (up : Option Cell) (records : Option Records) (r : Records) → is_some records ≡ not (is_some up) → records ≡ Some r → option_map master up ≡ None
none_up_then master None records r held_by there = refl
none_up_then master (Some cell) records r held_by there = let gone : is_some records ≡ true = rw there refl in cc

twice_by : (old : WorldView) (now : ℕ) (m : Option MasterState) → is_some m ≡ true → world_up old.world now m ≡ Err faults.MasterUp
twice_by old now None up = cc
twice_by old now (Some master) up = refl

-- no other comes up
pub refused_twice : (old new : WorldView) (now : ℕ) → is_some old.world.master ≡ true → new ≡ old → WasRefused old (steps.Up now) new (lines.Refused faults.MasterUp ∷ [])
unfolding world_step
refused_twice old new now up same =
    subst (λ w. WasRefused old (steps.Up now) w (lines.Refused faults.MasterUp ∷ [])) (sym same) (
      old,
      at_now (steps.Up now) old,
      record {
        fault = faults.MasterUp;
        why = inl (twice_by old now old.world.master up, refl);
        left = record { same = refl; leave = leaves_same (step_edits old.world (steps.Up now)) old.world.rows old.may_leave old.may_leave refl; doubted = omega arith };
        line = refl;
      },
    )

pub up_view : {Cell : Type 0} (master : Cell → MasterState) (part : Cell → Store) (up : Option Cell) (cell : Cell) (rest : Option Store) (now : ℕ) (moved clients : Clients) (messages : List Message) (terms : MasterTerms) → up ≡ Some cell → moved ≡ each_member (λ number. at_up now) clients
    → view_of (held (option_map part up) rest) (option_map master up) now moved messages terms ≡ view_of (part cell) (Some (master cell)) now (each_member (λ number. at_up now) clients) messages terms
up_view master part up cell rest now moved clients messages terms is moves =
    ap (λ u. view_of (held (option_map part u) rest) (option_map master u) now moved messages terms) is ∙ ap (λ cs. view_of (part cell) (Some (master cell)) now cs messages terms) moves
