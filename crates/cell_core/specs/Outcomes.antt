-- What is printed and sent of an effect, and which locks it changes.
use Rattle.std.specs.Prelude.{ℕ, List, [], ◌∷◌, ◌++◌, Option, Some, None}
use Rattle.node_core.specs.Nodes.{Nodes, listing}
use Rattle.node_core.specs.declared.lines.Line.{Line}
use Rattle.node_core.specs.declared.views.Mod.{Mod}
use Rattle.node_core.specs.declared.views.Mod.TheVariants.{Put, Gone}
use Rattle.tags_cell.specs.declared.messages.outs.CallResult.{CallResult}
use Rattle.tags_cell.specs.declared.messages.outs.Reply.{Reply}
use Rattle.master_state.specs.declared.updates.LockPut.{LockPut}
use Rattle.cell_core.specs.declared.effects.Effect.{Effect}
use Rattle.cell_core.specs.declared.effects.Leave.{Leave}
use Rattle.cell_core.specs.declared.effects.Locking.{Locking}
use Rattle.cell_core.specs.declared.effects.Locking.TheVariants.{Takes, Waits, Leaves, Goes}
use Rattle.master_state.specs.declared.updates.Change.{Change}
use Rattle.master_state.specs.State.{MasterState}
use Rattle.master_state.specs.Lookups.{reply_of}
use Rattle.master_state.specs.Replies.{replies_to, turn_replies, locked_line, locked_lines, line_if}
use Rattle.node_core.specs.declared.refusals.Fault.TheVariants as faults
use Rattle.node_core.specs.declared.lines.Line.TheVariants as lines
use Rattle.tags_cell.specs.declared.messages.outs.CallResult.TheVariants as results

-- ---- locks

abbrev pub leave_lines : ℕ → Leave → List Line
leave_lines client leave = line_if leave.held (lines.Freed client leave.instance) ++ locked_lines leave.instance leave.turn

abbrev pub locking_lines : ℕ → Locking → List Line
locking_lines client (Takes put claim) = locked_line put.instance put.lock.generation claim ∷ []
locking_lines client (Leaves leave) = leave_lines client leave
locking_lines client _ = []

-- to those that waited
abbrev pub locking_replies : MasterState → Locking → List Reply
locking_replies s (Leaves leave) = turn_replies s leave.turn
locking_replies s (Goes instance waiters) = replies_to s (results.Refused faults.StaleInstance) waiters
locking_replies s _ = []

abbrev pub left_put : Leave → LockPut
left_put leave = record { name = leave.name; instance = leave.instance; lock = leave.turn.lock }

abbrev pub locking_puts : Locking → List LockPut
locking_puts (Takes put claim) = put ∷ []
locking_puts (Waits put) = put ∷ []
locking_puts (Leaves leave) = left_put leave ∷ []
locking_puts _ = []

abbrev pub lock_ended : Locking → Option ℕ
lock_ended (Goes instance waiters) = Some instance
lock_ended _ = None

-- ---- calls

-- what is listed of the node that a change puts
abbrev pub put_listing : Nodes → Mod → List (List ℕ)
put_listing nodes (Put name node) = listing nodes name node.kind
put_listing nodes (Gone name) = []

-- the line of a change of the map, if there is one
abbrev pub applied_lines : Nodes → ℕ → ℕ → Option Change → List Line
applied_lines nodes client number None = []
applied_lines nodes client number (Some change) = lines.Applied client number change.change (put_listing nodes change.change) ∷ []

-- a call that waits for a lock has no reply yet
abbrev pub own_replies : MasterState → ℕ → ℕ → Option CallResult → List Reply
own_replies s client number None = []
own_replies s client number (Some answer) = reply_of s client number answer ∷ []

-- the caller's first
abbrev pub effect_replies : MasterState → ℕ → ℕ → Effect → List Reply
effect_replies s client number effected = own_replies s client number effected.answer ++ locking_replies s effected.locking
