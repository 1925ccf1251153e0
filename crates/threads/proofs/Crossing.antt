-- A watch may be shared by threads: its master may go to another thread, since the history of its rights, which exists in proofs alone, owns nothing.
use denote.RattleType.{RattleType}
use denote.Param.Send.{IsSend, IsSync, owning_send, struct_send, struct_sync, recorded_send, recorded_sync, view_send, sendable}
use denote.Struct.Declared.{shape}
use Rattle.core.specs.declared.ledger.Ledger as ledger
use Rattle.core.proofs.Crossing.{both}
use Rattle.core.proofs.marker.PhantomData.TheSendSync as marker
use Rattle.core.proofs.sync.Mutex.TheSendSync as mutex
use Rattle.std.proofs.Crossing.{Vec-send}
use Rattle.std.proofs.alloc.Global.TheSendSync as heap
use Rattle.names_cell.proofs.components.Component.TheSendSync as component
use Rattle.collections.proofs.secrets.Secret.TheSendSync as secret
use Rattle.tags_cell.proofs.messages.outs.Reply.TheSendSync as reply
use Rattle.rights_core.specs.contracts.history.History as History
use Rattle.rights_core.specs.contracts.rights.Rights as Rights
use Rattle.rights_core.specs.contracts.rights.Rights.TheInside as rights_in
use Rattle.rights_core.proofs.keepers.Keepers.TheSendSync as keepers
use Rattle.rights_core.proofs.holdings.Holdings.TheSendSync as holdings
use Rattle.rights_core.proofs.totals.Totals.TheSendSync as totals
use Rattle.lock_core.proofs.tables.Locks.TheSendSync as locks
use Rattle.session_core.proofs.sessions.Sessions.TheSendSync as sessions
use Rattle.gate_core.proofs.gate.Gate.TheSendSync as gate
use Rattle.gate_core.proofs.leads.Leads.TheSendSync as leads
use Rattle.gate_core.specs.contracts.queue.Queue as Queue
use Rattle.gate_core.specs.contracts.queue.Queue.TheInside as queue_in
use Rattle.collections.proofs.tables.Table.TheSendSync as table
use Rattle.master_parts.proofs.nodes.Nodes.TheSendSync as nodes
use Rattle.master_parts.proofs.open_handles.Handles.TheSendSync as handles
use Rattle.master_parts.specs.contracts.pending.Task as Task
use Rattle.master_parts.proofs.pending.Task.TheSendSync as task
use Rattle.master_parts.specs.contracts.tasks.Tasks as Tasks
use Rattle.master_parts.specs.contracts.tasks.Tasks.TheInside as tasks_in
use Rattle.master_parts.specs.contracts.tables.Tables as Tables
use Rattle.master_parts.specs.contracts.tables.Tables.TheInside as tables_in
use Rattle.master_parts.proofs.candidates.Candidates.TheSendSync as candidates
use Rattle.master_state.proofs.departed.Departed.TheSendSync as departed
use Rattle.master_state.specs.contracts.masters.Master as Master
use Rattle.master_state.specs.contracts.masters.Master.TheInside as master_in
use Rattle.cell_core.specs.contracts.cells.MemoryMaster as MemoryMaster
use Rattle.cell_core.specs.contracts.cells.MemoryMaster.TheInside as cell_in
use Rattle.rows_cell.specs.declared.records.Records as records
use Rattle.over_core.specs.contracts.keeping.Keeping as Keeping
use Rattle.over_core.specs.contracts.keeping.Keeping.TheInside as keeping_in
use Rattle.over_core.specs.contracts.cells.Cell as Over
use Rattle.over_core.specs.contracts.cells.Cell.TheInside as over_in
use Rattle.watch_cell.specs.declared.locked.Opening as opening
use Rattle.watch_cell.specs.contracts.locked.Locked as Locked
use Rattle.watch_cell.specs.contracts.locked.Locked.TheInside as locked_in
use Rattle.watch_cell.specs.contracts.watches.Watch as Watch
use Rattle.watch_cell.specs.contracts.events.Entry as Entry
use Rattle.watch_cell.proofs.events.Entry.TheSendSync as entry
use Rattle.watch_cell.proofs.ledgers.Books.TheSendSync as books
use Rattle.watch_cell.proofs.ledgers.Shares.TheSendSync as shares
use Rattle.watch_cell.specs.contracts.locked.Pass as Pass
use Rattle.watch_cell.proofs.locked.Pass.TheSendSync as pass

history_send : IsSend History.the_row
history_send = owning_send History.the_type tt (λ d. tt) (λ k x w. tt)

rights_inside : IsSend rights_in.the_row
rights_inside =
    recorded_send (rights_in.the_field).row _ _ (rights_in.the_type).to_one
    (struct_send (shape rights_in.the_type) (heap.the_field_send, (history_send, (keepers.the_send, (holdings.the_send, (totals.the_field_send, tt))))))

rights_send : IsSend Rights.the_row
rights_send = view_send rights_in.the_row _ _ _ _ rights_inside

queue_inside : IsSend (queue_in.the_row Task.the_row)
queue_inside =
    recorded_send (queue_in.the_field Task.the_row).row _ _ (queue_in.the_type Task.the_row).to_one
    (struct_send (shape (queue_in.the_type Task.the_row))
    (search (rights_send, gate.the_send, task.the_send, leads.the_send, table.the_send, both, sendable) depth 40))

queue_send : IsSend (Queue.the_row Task.the_row)
queue_send = view_send (queue_in.the_row Task.the_row) _ _ _ _ queue_inside

tasks_inside : IsSend tasks_in.the_row
tasks_inside =
    recorded_send (tasks_in.the_field).row _ _ (tasks_in.the_type).to_one
    (struct_send (shape tasks_in.the_type)
    (search (queue_send, table.the_send, both, sendable) depth 40))

tasks_send : IsSend Tasks.the_row
tasks_send = view_send tasks_in.the_row _ _ _ _ tasks_inside

tables_inside : IsSend tables_in.the_row
tables_inside =
    recorded_send (tables_in.the_field).row _ _ (tables_in.the_type).to_one
    (struct_send (shape tables_in.the_type)
    (search (nodes.the_send, handles.the_send, sessions.the_send, reply.the_send, tasks_send, candidates.the_send, both, sendable) depth 40))

tables_send : IsSend Tables.the_row
tables_send = view_send tables_in.the_row _ _ _ _ tables_inside

master_inside : IsSend master_in.the_row
master_inside =
    recorded_send (master_in.the_field).row _ _ (master_in.the_type).to_one
    (struct_send (shape master_in.the_type)
    (search (heap.the_field_send, component.the_send, secret.the_send, tables_send, locks.the_send, departed.the_send, both, sendable) depth 40))

master_send : IsSend Master.the_row
master_send = view_send master_in.the_row _ _ _ _ master_inside

cell_inside : IsSend cell_in.the_row
cell_inside = recorded_send (cell_in.the_field).row _ _ (cell_in.the_type).to_one (struct_send (shape cell_in.the_type) (master_send, tt))

cell_send : IsSend MemoryMaster.the_row
cell_send = view_send cell_in.the_row _ _ _ _ cell_inside

module _ (R : RattleType) (r : records.Ghosts R.Denot) where
  keeping_inside : IsSend R → IsSend (keeping_in.the_row R r)
  keeping_inside s =
      recorded_send (keeping_in.the_field R r).row _ _ (keeping_in.the_type R r).to_one
      (struct_send (shape (keeping_in.the_type R r)) (search (s, both, sendable) depth 40))

  keeping_send : IsSend R → IsSend (Keeping.the_row R r)
  keeping_send s = view_send (keeping_in.the_row R r) _ _ _ _ (keeping_inside s)

  over_inside : IsSend R → IsSend (over_in.the_row R r)
  over_inside s = recorded_send (over_in.the_field R r).row _ _ (over_in.the_type R r).to_one (struct_send (shape (over_in.the_type R r)) (keeping_send s, (cell_send, tt)))

  -- a master with its records
  pub over_send : IsSend R → IsSend (Over.the_row R r)
  over_send s = view_send (over_in.the_row R r) _ _ _ _ (over_inside s)

module _ (R O I A E C : RattleType) (r : records.Ghosts R.Denot) (o : opening.Ghosts O.Denot) (i : ledger.Ghosts I.Denot) (a : ledger.Ghosts A.Denot) (e : ledger.Ghosts E.Denot) (c : ledger.Ghosts C.Denot) where
  locked_inside : IsSend R → IsSend (locked_in.the_row R O I A E C r o i a e c)
  locked_inside s =
      recorded_send (locked_in.the_field R O I A E C r o i a e c).row _ _ (locked_in.the_type R O I A E C r o i a e c).to_one
      (struct_send (shape (locked_in.the_type R O I A E C r o i a e c))
      (search (heap.the_field_send, over_send R r s, Vec-send Entry.the_row entry.the_send, books.the_field_send I A E C i a e c, Vec-send (Pass.the_row I A E C i a e c) (pass.the_send I A E C i a e c), shares.the_field_send I A E C i a e c, marker.the_field_send, both, sendable) depth 40))

  locked_send : IsSend R → IsSend (Locked.the_row R O I A E C r o i a e c)
  locked_send s = view_send (locked_in.the_row R O I A E C r o i a e c) _ _ _ _ (locked_inside s)

  -- a watch, whose lock lets one thread in at a time
  pub watch_sync : IsSend R → IsSync (Watch.the_row R O I A E C r o i a e c)
  watch_sync s =
      recorded_sync (Watch.the_field R O I A E C r o i a e c).row _ _ (Watch.the_type R O I A E C r o i a e c).to_one
      (struct_sync (shape (Watch.the_type R O I A E C r o i a e c)) (mutex.the_sync (Locked.the_row R O I A E C r o i a e c) (locked_send s), tt))
