-- Whom a master gives a handle of a node that it makes.
use Rattle.std.specs.Prelude.{◌≡◌, ◌⊎◌, ◌≤◌, ◌<◌, ℕ, true, List, length, Option, Some, None}
use Rattle.names_cell.specs.Text.{parent_of}
use Rattle.node_core.specs.Limits.{content_limit, lock_delay_limit, number_limit}
use Rattle.node_core.specs.Nodes.{get_node}
use Rattle.node_core.specs.declared.kinds.Kind.TheVariants as kinds
use Rattle.node_core.specs.declared.kinds.Right.TheVariants as rights
use Rattle.node_core.specs.declared.nodes.Node.{Node}
use Rattle.rows_cell.specs.declared.tables.Rows.{Rows}
use Rattle.tags_cell.specs.Handles.{is_ordinal}
use Rattle.tags_cell.specs.declared.messages.calls.Call.TheVariants as calls
use Rattle.tags_cell.specs.declared.messages.calls.Create.{Create}
use Rattle.tags_cell.specs.declared.messages.calls.Disposition.TheVariants as dispositions
use Rattle.tags_cell.specs.declared.messages.calls.Open.{Open}
use Rattle.tags_cell.specs.declared.messages.outs.CallResult.TheVariants as results
use Rattle.tags_cell.specs.declared.messages.outs.NewHandle.{NewHandle}
use Rattle.master_state.specs.NameSpace.{name_space, caller}
use Rattle.master_state.specs.State.{MasterState}
use Rattle.master_state.specs.Lookups.{may, is_of_cell}
use Rattle.cell_core.specs.Effect.{new_node_fault, new_node, acls_of, content_of, effect}
use Rattle.over_core.specs.Kept.{IsKept}
use Rattle.master_laws.specs.Opens.{ArePermitted, MayOpen, AreCarried}

-- what is written into the new node, and the lock-delay of its handle, are within the limits
pub record IsWithinLimits (opening : Open) (create : Create) : Type 0 where
  pub content : length (content_of create.node) ≤ content_limit
  pub delay : opening.delay ≤ lock_delay_limit

-- a node is made: there is none of its name, the name above is that of a directory on which write is permitted, and each right of the mode is permitted on the new
-- node, by the ACL names that are given, or by those of the directory; an instance is left for it, and the limits of the cell leave room for it and its content
pub record MayMake (s : MasterState) (client : ℕ) (opening : Open) (create : Create) : Type 0 where
  pub absent : get_node s.nodes opening.name ≡ None
  pub parent : List ℕ
  pub is_parent : parent_of opening.name ≡ Some parent
  pub above : Node
  pub there : get_node s.nodes parent ≡ Some above
  pub directory : above.kind ≡ kinds.Directory
  pub write : may (name_space s) (caller s client) above rights.Write ≡ true
  pub permitted : ArePermitted s client opening.mode (new_node s.next_instance create.node create.life (acls_of above create.acls))
  pub left : s.next_instance < number_limit
  pub room : new_node_fault (name_space s) (new_node s.next_instance create.node create.life (acls_of above create.acls)) ≡ None

-- a node of the name is there and may be, and the client may open it so
pub record MayFind (s : MasterState) (client : ℕ) (opening : Open) (create : Create) : Type 0 where
  pub disposition : create.disposition ≡ dispositions.May
  pub may_open : MayOpen s client opening

-- the Open that makes a node may give a handle: of a new one, or of one that is there
pub record MayMakeOrFind (s : MasterState) (client : ℕ) (opening : Open) (create : Create) : Type 0 where
  pub within : IsWithinLimits opening create
  pub may : MayMake s client opening create ⊎ MayFind s client opening create

-- when its turn comes an Open gives a handle
abbrev pub GivesHandle : MasterState → ℕ → ℕ → Open → Option (List ℕ) → Type 0
GivesHandle s client number opening sequencer = (handle : NewHandle) × ((effect (name_space s) (caller s client) s.clock number (calls.Open opening) sequencer).answer ≡ Some (results.Opened handle))

-- when its turn comes an Open that makes a node gives a handle only where the client may make it, or may find it there
abbrev pub MakesOnlyWherePermitted : Type 0
MakesOnlyWherePermitted =
    (s : MasterState) (client number : ℕ) (opening : Open) (create : Create) (sequencer : Option (List ℕ)) → opening.create ≡ Some create → GivesHandle s client number opening sequencer
    → MayMakeOrFind s client opening create

-- and wherever that is so it gives one, under no sequencer and of a name of this cell
abbrev pub MakesWherePermitted : Type 0
MakesWherePermitted =
    (s : MasterState) (client number : ℕ) (opening : Open) (create : Create) → opening.create ≡ Some create → is_of_cell (name_space s) opening.name ≡ true → AreCarried s opening.name → is_ordinal s.next_instance ≡ true
    → MayMakeOrFind s client opening create → GivesHandle s client number opening None

-- a handle can carry the numbers of a master that is kept beside its rows, as each master is, from epoch 1 on, which is the first that a master can come up with
abbrev pub KeptNumbersAreCarried : Type 0
KeptNumbersAreCarried = (cell name : List ℕ) (rows : Rows) (s : MasterState) → IsKept cell rows s → 1 ≤ s.epoch → AreCarried s name × (is_ordinal s.next_instance ≡ true)
