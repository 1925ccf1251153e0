-- The ephemeral nodes to look at for one that is to go.
use Rattle.std.specs.Prelude.{◌≡◌, ◌≤◌, ℕ, Bool, true, List, Option, Some, None}
use Rattle.std.specs.Option.{option_and_then}
use Rattle.std.specs.Map.{lookup}
use Rattle.std.specs.BTreeMap.{is_at}
use Rattle.std.specs.Ordering.{nat_cmp}
use Rattle.node_core.specs.declared.nodes.Node.{Node}
use Rattle.node_core.specs.Nodes.{Nodes, get_node}
use Rattle.master_parts.specs.declared.handles.HandleKey.{HandleKey}
use Rattle.master_parts.specs.declared.handles.HandleState.{HandleState}
use Rattle.master_parts.specs.declared.handles.HandleState.TheVariants as states
use Rattle.master_parts.specs.declared.pending.Task.{Task}
use Rattle.master_parts.specs.declared.pending.Task.TheVariants as tasks
use Rattle.master_parts.specs.EphemeralNames.{is_ephemeral, NameTable, is_named}
use Rattle.master_parts.specs.OpenHandles.{state_at}
use Rattle.gate_core.specs.declared.pending.Pending.{Pending}
use Rattle.master_parts.specs.State.{TableState}
use Rattle.master_parts.specs.Ephemerals.{goes}

-- names: those to look at. known: whether all are among them. instances: the name of the ephemeral node of each instance. placed: whether each is there
pub record CandidateState : Type 0 where
  pub names : NameTable
  pub known : Bool
  pub instances : List (ℕ × List ℕ)
  pub placed : Bool

-- the name is looked at
abbrev pub Has : CandidateState → List ℕ → Type 0
Has c name = c.known ≡ true → is_named c.names name ≡ true

-- from the instance the name is found
abbrev pub Leads : CandidateState → ℕ → List ℕ → Type 0
Leads c instance name = c.placed ≡ true → lookup (is_at (nat_cmp instance)) c.instances ≡ Some name

-- each node that is to go is looked at
abbrev pub HaveToGo : TableState → CandidateState → Type 0
HaveToGo t c = (name : List ℕ) (node : Node) → get_node t.nodes name ≡ Some node → goes t (name, node) ≡ true → Has c name

-- each ephemeral node is found from its instance
abbrev pub AreFound : Nodes → CandidateState → Type 0
AreFound nodes c = (name : List ℕ) (node : Node) → get_node nodes name ≡ Some node → is_ephemeral node.life ≡ true → Leads c node.instance name

-- each handle has a number
abbrev pub HaveNumbers : List (HandleKey × HandleState) → Type 0
HaveNumbers handles = (key : HandleKey) (state : HandleState) → state_at handles key ≡ Some state → 1 ≤ key.number

-- the instance that a handle in this state is open on
abbrev pub instance_open : Option HandleState → Option ℕ
instance_open (Some (states.Open noted)) = Some noted.handle.instance
instance_open (Some states.Closed) = None
instance_open None = None

-- the instance that the cell deletes by itself
abbrev pub instance_of_task : Task → Option ℕ
instance_of_task (tasks.Asked asked) = None
instance_of_task (tasks.Tidies idle) = Some idle.instance

abbrev pub instance_tidied : Option (Pending Task) → Option ℕ
instance_tidied change = option_and_then (λ it. instance_of_task it.body) change

pub record AreCandidates (t : TableState) (c : CandidateState) : Type 0 where
  pub to_go : HaveToGo t c
  pub found : AreFound t.nodes c
  pub numbered : HaveNumbers t.handles
