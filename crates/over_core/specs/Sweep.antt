-- A sweep: what is planned for its first action is done and committed, and the clients are told of it.
use Rattle.std.specs.Prelude.{◌≡◌, ◌⊎◌, ◌≤◌, List, ℕ, Bool, true, false, not, ◌||◌, ◌&&◌, [], ◌∷◌, ◌++◌, is_some, Result, Ok, Err, if◌then◌else◌}
use Rattle.master_parts.specs.declared.notices.SessionEvent.{SessionEvent}
use Rattle.master_parts.specs.declared.pending.Taken.{Taken}
use Rattle.master_state.specs.Notices.{with_tellings}
use Rattle.master_state.specs.State.{MasterState}
use Rattle.over_core.specs.declared.plans.Plan.{Plan}
use Rattle.node_core.specs.declared.refusals.Fault.{Fault}
use Rattle.rows_cell.specs.declared.tables.Edit.{Edit}
use Rattle.rows_cell.specs.declared.tables.Edit.TheVariants.{NextInstance}
use Rattle.rows_cell.specs.declared.tables.Rows.{Rows}
use Rattle.rows_cell.specs.Rows.{changed_rows}
use Rattle.rows_cell.specs.Stores.{Store, left_by, MayLeave, MayRefuse, StoreRefuses}
use Rattle.std.specs.Option.{option_map_or}
use Rattle.session_core.specs.Session.{is_client_answerable}
use Rattle.session_core.specs.Sessions.{has_spent_events, lowest}
use Rattle.master_state.specs.Lookups.{noted}
use Rattle.cell_core.specs.Step.{is_past_end}
use Rattle.master_state.specs.Updates.{done, edits_of}
use Rattle.cell_core.specs.Ephemerals.{tidied}
use Rattle.over_core.specs.declared.actions.Action.{Action}
use Rattle.over_core.specs.declared.actions.Action.TheVariants.{Tidy, Answer, Quiet}
use Rattle.over_core.specs.declared.swept.Swept.{Swept}
use Rattle.over_core.specs.Plans.{tellings_of, first_action, plan_of}
use Rattle.node_core.specs.declared.refusals.Fault.TheVariants as faults

-- ---- the step

abbrev pub is_quiet : Action → Bool
is_quiet Quiet = true
is_quiet _ = false

-- what is printed and sent, and whether there was nothing to do
abbrev pub swept_as : Taken → Bool → Swept
swept_as taken quiet = record { lines = taken.lines; outs = taken.outs; quiet = quiet }

-- what is planned stands
abbrev pub swept_by_plan : MasterState → Plan → Bool → MasterState × Swept
swept_by_plan s plan quiet = (done s plan.update, swept_as plan.taken quiet)

-- what is queued commits nothing yet
abbrev pub acted : MasterState → Action → MasterState × Swept
acted s (Tidy idle) = (tidied s idle, record { lines = []; outs = []; quiet = false })
acted s action = swept_by_plan s (plan_of s action) (is_quiet action)

-- after all else the clients of open handles are told of it
abbrev pub telling : List SessionEvent → MasterState × Swept → MasterState × Swept
telling tellings done = (with_tellings done.0 tellings, done.1)

abbrev pub swept : MasterState → Action → MasterState × Swept
swept s action = telling (tellings_of s (plan_of s action)) (acted s action)

abbrev pub done_and_told : MasterState → Plan → Bool → MasterState × Swept
done_and_told s plan quiet = telling (tellings_of s plan) (swept_by_plan s plan quiet)

-- what an action commits
abbrev pub action_edits : MasterState → Action → List Edit
action_edits s action = edits_of s (plan_of s action).update

-- a moment past the end of moments, or a session whose count of events is at its end
abbrev pub is_over : MasterState → ℕ → Bool
is_over s now = is_past_end now || has_spent_events s.sessions

-- what a sweep at a moment commits
abbrev pub sweep_edits : MasterState → ℕ → List Edit
sweep_edits s now = if is_over s now then [] else action_edits (noted s now) (first_action (noted s now))

unfoldable pub sweep_step : MasterState → ℕ → Result (MasterState × Swept) Fault
sweep_step s now = if is_over s now then Err faults.Exhausted else Ok (swept (noted s now) (first_action (noted s now)))

-- ---- what the store does for a sweep

-- a change leaves the gate by this plan
abbrev pub frees : Plan → Bool
frees plan = is_some plan.update.leaves

-- a change leaves the gate by a sweep at this moment
abbrev pub sweep_frees : MasterState → ℕ → Bool
sweep_frees s now = if is_over s now then false else frees (plan_of (noted s now) (first_action (noted s now)))

-- what a crash may leave after it: once a change has left the gate the rows that stand, and nothing that was refused before
abbrev pub left_after : Bool → List Edit → List Rows → Rows → List Rows
left_after true edits leave rows = rows ∷ []
left_after false edits leave rows = left_by edits leave rows

-- what it changes stands, and the store refused nothing
pub record IsSwept (freed : Bool) (edits : List Edit) (old new : Store) : Type 0 where
  pub cell : new.cell ≡ old.cell
  pub rows : new.rows ≡ changed_rows old.rows edits
  pub leave : new.may_leave ≡ left_after freed edits old.may_leave new.rows
  pub counted : new.refusals ≡ old.refusals
  pub doubted : old.doubt ≤ new.doubt

-- why it isn't done: a change that is to leave the gate may be refused by the store though it changes nothing
abbrev pub MayHoldUp : Bool → List Edit → Fault → ℕ → ℕ → Type 0
MayHoldUp true edits fault before after = StoreRefuses fault before after
MayHoldUp false edits fault before after = MayRefuse edits fault before after

-- what a crash may leave after a refusal: what it could before, and perhaps the rows of what was refused
abbrev pub MayLeaveUp : Bool → List Edit → Rows → List Rows → List Rows → Type 0
MayLeaveUp true edits rows old new = (new ≡ old) ⊎ (new ≡ old ++ changed_rows rows edits ∷ [])
MayLeaveUp false edits rows old new = MayLeave edits rows old new

-- the rows stand as they stood
pub record IsHeldUp (fault : Fault) (freed : Bool) (edits : List Edit) (old new : Store) : Type 0 where
  pub cell : new.cell ≡ old.cell
  pub rows : new.rows ≡ old.rows
  pub leave : MayLeaveUp freed edits old.rows old.may_leave new.may_leave
  pub why : MayHoldUp freed edits fault old.refusals new.refusals
  pub doubted : old.doubt ≤ new.doubt

abbrev pub Sweeps : {X : Type 0} → Bool → List Edit → Store → Store → Result X Fault → Type 0
Sweeps freed edits old new (Ok x) = IsSwept freed edits old new
Sweeps freed edits old new (Err fault) = IsHeldUp fault freed edits old new

-- what is asked of the store: what the sweep changes; where that is nothing, but a change leaves the gate and a commit was refused since the last one that stood, the rows as they are
abbrev pub asked_edits : Bool → Bool → ℕ → List Edit → List Edit
asked_edits settled freed next [] = if freed && not settled then NextInstance next ∷ [] else []
asked_edits settled freed next (edit ∷ edits) = edit ∷ edits

-- a crash leaves the rows that stand
abbrev pub IsSettled : Store → Type 0
IsSettled store = store.may_leave ≡ store.rows ∷ []

-- ---- what is answered though nothing can be committed

-- the lowest client's parked Beat that is due, where the session's timeout hasn't come: a sweep that can't commit the end of one isn't to keep it alive
abbrev pub beats_action : MasterState → Action
beats_action s = option_map_or Answer (lowest s.sessions (is_client_answerable s.sessions.lease s.clock)) Quiet

-- it commits nothing
abbrev pub beats_answered : MasterState → MasterState × Swept
beats_answered s = done_and_told s (plan_of s (beats_action s)) (is_quiet (beats_action s))

unfoldable pub beats_step : MasterState → ℕ → Result (MasterState × Swept) Fault
beats_step s now = if is_over s now then Err faults.Exhausted else Ok (beats_answered (noted s now))
