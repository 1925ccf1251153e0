-- When an ephemeral node goes by itself.
use Rattle.std.specs.Prelude.{ℕ, ◌+◌, Bool, true, false, not, ◌&&◌, ◌==◌, nat_le, List, find, Option, None, Result, Ok, Err, if◌then◌else◌}
use Rattle.std.specs.Option.{option_map, option_map_or}
use Rattle.node_core.specs.declared.refusals.Fault.{Fault}
use Rattle.node_core.specs.declared.nodes.Node.{Node}
use Rattle.node_core.specs.Nodes.{get_node, with_parent}
use Rattle.gate_core.specs.Gate.{push_answer}
use Rattle.master_parts.specs.declared.pending.Orphan.{Orphan}
use Rattle.master_parts.specs.declared.pending.Task.TheVariants as tasks
use Rattle.master_parts.specs.Ephemerals.{is_left, goes, idle_of}
use Rattle.master_state.specs.State.{MasterState, tables_of}
use Rattle.cell_core.specs.Step.{queued, asking_for}

-- how long ephemeral nodes stay at least once a recovery has ended, in milliseconds: by then who holds one open has shown its handle, or its session has ended
abbrev pub spared_for : ℕ
spared_for = 60000

-- ---- which node goes

-- an ephemeral node that nobody holds open
abbrev pub is_idle_node : MasterState → List ℕ → Node → Bool
is_idle_node s name node = is_left (tables_of s) name node

-- and whose deletion doesn't wait already
abbrev pub is_to_go : MasterState → List ℕ × Node → Bool
is_to_go s entry = goes (tables_of s) entry

abbrev pub is_ok : Result ℕ Fault → Bool
is_ok (Ok number) = true
is_ok (Err fault) = false

-- no recovery goes on, the last one is long enough ago, and there is room for one more change
abbrev pub may_tidy : MasterState → Bool
may_tidy s = not s.recovering && nat_le (s.serving_from + spared_for) s.clock && is_ok (push_answer s.gate)

-- the first by name
abbrev pub next_idle : MasterState → Option Orphan
next_idle s = if may_tidy s then option_map idle_of (find (is_to_go s) s.nodes) else None

-- ---- what is done

-- its deletion waits after all other changes, and who may keep its name in a cache, or the one above, is asked for it
abbrev pub tidied : MasterState → Orphan → MasterState
tidied s idle = asking_for (queued s (with_parent idle.name) (tasks.Tidies idle)) (with_parent idle.name)

-- at its turn: the same node is there, and nobody holds it open again
abbrev pub is_still_idle : MasterState → Orphan → Bool
is_still_idle s idle = option_map_or (λ node. node.instance == idle.instance && is_idle_node s idle.name node) (get_node s.nodes idle.name) false
