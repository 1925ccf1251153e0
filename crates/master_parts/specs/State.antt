-- What a master keeps in tables.
use Rattle.std.specs.Prelude.{List}
use Rattle.node_core.specs.Nodes.{Nodes}
use Rattle.gate_core.specs.Queue.{QueueState}
use Rattle.session_core.specs.Sessions.{SessionTable}
use Rattle.tags_cell.specs.declared.messages.outs.Reply.{Reply}
use Rattle.master_parts.specs.declared.pending.Task.{Task}
use Rattle.master_parts.specs.declared.handles.HandleKey.{HandleKey}
use Rattle.master_parts.specs.declared.handles.HandleState.{HandleState}

-- nodes: the map. handles: those of sessions that live that were opened in this epoch or shown, and are open; and of those that were shown, the ones that were closed then. sessions: also those that have ended. queue: the changes that wait, and the rights that hold them up
pub record TableState : Type 0 where
  pub nodes : Nodes
  pub handles : List (HandleKey × HandleState)
  pub sessions : SessionTable Reply
  pub queue : QueueState Task
