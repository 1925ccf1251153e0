-- What clients are to be told of contents, and what the rows hold of them.
use Rattle.std.specs.Prelude.{◌≡◌, ℕ, ◌<◌, ◌≤◌, List, Option, Some, None}
use Rattle.std.specs.List.{AllByRecursion}
use Rattle.node_core.specs.declared.events.Event.{Event}
use Rattle.node_core.specs.declared.events.Event.TheVariants as events
use Rattle.node_core.specs.declared.nodes.Node.{Node}
use Rattle.node_core.specs.Nodes.{get_node}
use Rattle.rows_cell.specs.declared.tables.Rows.{Rows}
use Rattle.rows_cell.specs.Rows.{map_of}
use Rattle.tags_cell.specs.declared.messages.beats.Alive.{Alive}
use Rattle.tags_cell.specs.declared.messages.outs.Out.TheVariants as outs
use Rattle.tags_cell.specs.declared.messages.outs.Reply.{Reply}
use Rattle.event_core.specs.Queue.{EventQueue}
use Rattle.session_core.specs.declared.records.Session.{Session}
use Rattle.master_state.specs.State.{MasterState}
use Rattle.master_state.specs.Lookups.{session_of}
use Rattle.world_steps.specs.Messages.{out_at}
use Rattle.world_steps.specs.World.{WorldState}

-- the view of another node, or of this one with no older content
abbrev pub IsNoOlder : ℕ → ℕ → Node → Type 0
IsNoOlder instance generation view = view.instance ≡ instance → generation ≤ view.content_generation

-- the instance was given out, and the node that has it, if one is there, has no older content
pub record Stands (rows : Rows) (instance generation : ℕ) : Type 0 where
  pub given : instance < rows.next_instance
  pub present : (name : List ℕ) (view : Node) → get_node (map_of rows) name ≡ Some view → IsNoOlder instance generation view

-- what an event tells of a content stands
abbrev pub IsTrue : Rows → Event → Type 0
IsTrue rows (events.Contents handle instance generation) = Stands rows instance generation
IsTrue rows _ = Unit {0}

-- of each event that waits for a client
abbrev pub AreTrue : Rows → Option MasterState → Type 0
AreTrue rows None = Unit {0}
AreTrue rows (Some s) =
    (client : ℕ) (session : Session Reply) (queue : EventQueue) → session_of s client ≡ Some session → session.events ≡ Some queue → AllByRecursion (IsTrue rows) queue.waiting

-- whatever clients are to be told of contents stands in the rows
pub record TellsTrue (w : WorldState) : Type 0 where
  pub sent : (at : ℕ) (alive : Alive) → out_at w.messages at ≡ Some (outs.Alive alive) → AllByRecursion (λ next. IsTrue w.rows next.event) alive.events
  pub queued : AreTrue w.rows w.master
