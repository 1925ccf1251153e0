-- The trail of a watch, its replay, and the one change of a call.
use Rattle.std.specs.Prelude.{◌≡◌, ◌⊎◌, ℕ, ◌+◌, ◌<◌, ◌≤◌, Bool, List, [], ◌∷◌, ◌++◌, length, map, count_by, Option, Some, Result, Ok, Err}
use Rattle.node_core.specs.declared.lines.Line.{Line}
use Rattle.node_core.specs.declared.refusals.Fault.{Fault}
use Rattle.node_core.specs.declared.refusals.Fault.TheVariants.{NoMemory, WatchFull}
use Rattle.rows_cell.specs.declared.tables.Edit.{Edit}
use Rattle.rows_cell.specs.Rows.{changed_rows}
use Rattle.rights_core.specs.Grants.{Told, rights_at, told_of, totals_by, is_granted_line, is_acked_line, is_expired_line}
use Rattle.master_parts.specs.declared.pending.Taken.{Taken}
use Rattle.master_state.specs.State.{MasterState}
use Rattle.cell_core.specs.Step.{take_step}
use Rattle.over_core.specs.declared.swept.Swept.{Swept}
use Rattle.over_core.specs.Sweep.{sweep_step, sweep_edits, sweep_frees, MayHoldUp, swept_as}
use Rattle.watch_cell.specs.declared.events.WatchEvent.{WatchEvent}
use Rattle.watch_cell.specs.declared.events.WatchEvent.TheVariants.{Take, Sweep}
use Rattle.watch_cell.specs.declared.events.Entry.{Entry}
use Rattle.watch_cell.specs.Views.{WatchedState, Ticket, Hand, Desk}
use Rattle.std.specs.Prelude.{false}

abbrev pub entry : WatchEvent → Swept → Entry
entry event reply = record { event = event; reply = reply }

-- a message is taken: nothing is committed
abbrev pub after_take : WatchedState → Result (MasterState × Taken) Fault → Result (WatchedState × Swept) Fault
after_take s (Ok (master, taken)) = Ok (record s { master = master }, swept_as taken false)
after_take s (Err fault) = Err fault

-- a sweep, with what it commits
abbrev pub after_sweep : WatchedState → List Edit → Result (MasterState × Swept) Fault → Result (WatchedState × Swept) Fault
after_sweep s edits (Ok (master, swept)) = Ok (record { master = master; rows = changed_rows s.rows edits }, swept)
after_sweep s edits (Err fault) = Err fault

-- the step of an event, by the master's tables
unfoldable pub step_of : WatchedState → WatchEvent → Result (WatchedState × Swept) Fault
step_of s (Take now request) = after_take s (take_step s.master now request)
step_of s (Sweep now) = after_sweep s (sweep_edits s.master now) (sweep_step s.master now)

-- what it asks the store to commit
abbrev pub commits : WatchedState → WatchEvent → List Edit
commits s (Take now request) = []
commits s (Sweep now) = sweep_edits s.master now

-- whether it lets a change leave the gate
abbrev pub lets_go : WatchedState → WatchEvent → Bool
lets_go s (Take now request) = false
lets_go s (Sweep now) = sweep_frees s.master now

-- why the step of an event is refused, by how often the store had refused before and has then: for want of memory or as the master's tables say, which leaves that; or by the store, which is asked for what the step commits
abbrev pub StepRefuses : WatchedState → WatchEvent → Fault → ℕ → ℕ → Type 0
StepRefuses s event fault before after =
    ((fault ≡ NoMemory) × (after ≡ before)) ⊎ (((step_of s event ≡ Err fault) × (after ≡ before)) ⊎ MayHoldUp (lets_go s event) (commits s event) fault before after)

-- the last state comes from the first by these entries, each a step with its reply
abbrev pub Replays : WatchedState → List Entry → WatchedState → Type 0
Replays first [] last = last ≡ first
Replays first (e ∷ es) last = (next : WatchedState) × (step_of first e.event ≡ Ok (next, e.reply)) × Replays next es last

-- the lines of the replies
abbrev pub lines_of : List Entry → List Line
lines_of [] = []
lines_of (e ∷ es) = e.reply.lines ++ lines_of es

-- the rights that the trail grants, each with what became of it, where each is recorded once; and else none
abbrev pub grants_of : List Entry → Option (List Told)
grants_of trail = rights_at [] (lines_of trail)

-- what the value under the lock keeps
pub record Kept (opening cell : WatchedState) (trail : List Entry) (issued acknowledged expired calls : ℕ) : Type 0 where
  -- the cell is the replay of the trail, from an opening at which no right was granted
  pub none_granted : opening.master.rights ≡ []
  pub replay : Replays opening trail cell
  -- the trail's grants are recorded once, and are the cell's
  pub grants : List Told
  pub once : grants_of trail ≡ Some grants
  pub cell_has : map told_of cell.master.rights ≡ grants
  -- the books
  pub issued_is : issued ≡ (totals_by grants).issued
  pub acknowledged_is : acknowledged ≡ (totals_by grants).acknowledged
  pub expired_is : expired ≡ (totals_by grants).expired
  pub calls_is : calls ≡ length trail
  -- each grant is held, acknowledged or expired
  pub balance : issued ≡ (totals_by grants).held + acknowledged + expired
  pub short : length trail ≤ 1000000

-- what lies under the lock of a watch of this opening
abbrev pub Lies : WatchedState → Desk → Type 0
Lies opening d = Kept opening d.cell d.trail d.issued d.acknowledged d.expired d.calls

-- how many lines of the replies of these receipts pass a test
abbrev pub told_in : (Line → Bool) → List Ticket → ℕ
told_in test [] = 0
told_in test (t ∷ ts) = count_by test t.reply.lines + told_in test ts

-- a pass of these receipts: its shares are what their replies tell of rights, and its calls are as many as they are
abbrev pub hand_of : ℕ → List Ticket → Hand
hand_of number receipts = record {
  number = number;
  issued = told_in is_granted_line receipts;
  acknowledged = told_in is_acked_line receipts;
  expired = told_in is_expired_line receipts;
  calls = length receipts;
  receipts = receipts;
}

-- what a pass gains
pub record Gained (before after : Hand) (event : WatchEvent) (t : Ticket) : Type 0 where
  pub number_is : after.number ≡ before.number
  pub event_is : t.event ≡ event
  pub receipts_is : after.receipts ≡ before.receipts ++ t ∷ []
  pub issued_is : after.issued ≡ before.issued + count_by is_granted_line t.reply.lines
  pub acknowledged_is : after.acknowledged ≡ before.acknowledged + count_by is_acked_line t.reply.lines
  pub expired_is : after.expired ≡ before.expired + count_by is_expired_line t.reply.lines
  pub calls_is : after.calls ≡ before.calls + 1

-- the one change of a call
pub record Served (old new : Desk) (before after : Hand) (event : WatchEvent) (t : Ticket) : Type 0 where
  pub step_is : step_of old.cell event ≡ Ok (new.cell, t.reply)
  pub refusals_is : new.refusals ≡ old.refusals
  pub trail_is : new.trail ≡ old.trail ++ entry event t.reply ∷ []
  pub event_is : t.event ≡ event
  pub place_is : t.place ≡ length old.trail
  pub issued_is : new.issued ≡ old.issued + count_by is_granted_line t.reply.lines
  pub acknowledged_is : new.acknowledged ≡ old.acknowledged + count_by is_acked_line t.reply.lines
  pub expired_is : new.expired ≡ old.expired + count_by is_expired_line t.reply.lines
  pub calls_is : new.calls ≡ old.calls + 1
  pub retired_is : new.retired ≡ old.retired
  pub gained : Gained before after event t

-- a call finds what lies under the lock and leaves it, but for its one change
abbrev pub Calls : WatchedState → Hand → Hand → WatchEvent → Ticket → Type 0
Calls opening before after event t = (old : Desk) × (new : Desk) × Lies opening old × Lies opening new × Served old new before after event t

-- why a call is refused: if the trail is full, and then alone, as that; else as its step is
abbrev pub WhyRefused : Desk → WatchEvent → Fault → ℕ → Type 0
WhyRefused d event fault after = ((length d.trail ≡ 1000000) × (fault ≡ WatchFull) × (after ≡ d.refusals)) ⊎ ((length d.trail < 1000000) × StepRefuses d.cell event fault d.refusals after)

-- a call that is refused changes nothing of what lies under the lock, but that the store counts its own refusals
pub record CallRefuses (old new : Desk) (event : WatchEvent) (fault : Fault) : Type 0 where
  pub same : new ≡ record old { refusals = new.refusals }
  pub why : WhyRefused old event fault new.refusals

-- and it finds that under the lock, and leaves it so
abbrev pub IsCallRefused : WatchedState → WatchEvent → Fault → Type 0
IsCallRefused opening event fault = (old : Desk) × (new : Desk) × Lies opening old × Lies opening new × CallRefuses old new event fault

-- what lies under the lock takes in a pass, and else stays
abbrev pub Retires : WatchedState → Hand → Type 0
Retires opening pass = (old : Desk) × (new : Desk) × Lies opening old × Lies opening new × (new ≡ record old { retired = old.retired ++ pass ∷ [] })
