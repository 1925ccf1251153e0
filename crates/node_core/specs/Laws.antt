-- What changes do to the nodes and the views of names.
use Rattle.std.specs.Prelude.{◌≡◌, ◌≢◌, ℕ, true, false, List, Some, None}
use Rattle.std.specs.List.{list_any}
use Rattle.std.specs.Str.{bytes_eq}
use Rattle.names_cell.specs.Text.{is_name, parent_of}
use Rattle.node_core.specs.Nodes.{Nodes, HasNamesInOrder, get_node, view_of, view_at, after, misfit, name_of, touched}
use Rattle.node_core.specs.declared.nodes.Node.{Node}
use Rattle.node_core.specs.declared.views.Mod.{Mod}
use Rattle.node_core.specs.declared.views.Mod.TheVariants.{Put, Gone}
use Rattle.node_core.specs.declared.faults.NodeFault.TheVariants.{NotFound}

-- after a Put the name's node is the one that was put
abbrev pub PutNodeIsThere : Type 0
PutNodeIsThere =
    (nodes new : Nodes) (name : List ℕ) (node : Node) → after nodes (Put name node) ≡ Some new → get_node new name ≡ Some node

-- after a Gone nothing stands at the name
abbrev pub GoneNodeIsAbsent : Type 0
GoneNodeIsAbsent =
    (nodes new : Nodes) (name : List ℕ) → HasNamesInOrder nodes → after nodes (Gone name) ≡ Some new → get_node new name ≡ None

-- after any change each other name's node is as before
abbrev pub OtherNamesStay : Type 0
OtherNamesStay =
    (nodes new : Nodes) (change : Mod) (other : List ℕ) → HasNamesInOrder nodes → after nodes change ≡ Some new → other ≢ name_of change
    → get_node new other ≡ get_node nodes other

-- a name whose parent is missing can't be put
abbrev pub NoPutWithoutParent : Type 0
NoPutWithoutParent =
    (nodes : Nodes) (name parent : List ℕ) (node : Node) → parent_of name ≡ Some parent → get_node nodes parent ≡ None
    → (misfit nodes (Put name node) ≡ Some NotFound) × (after nodes (Put name node) ≡ None)

-- after any change to a name the keys are names, in order
abbrev pub NamesStayInOrder : Type 0
NamesStayInOrder =
    (nodes new : Nodes) (change : Mod) → HasNamesInOrder nodes → is_name (name_of change) ≡ true → after nodes change ≡ Some new
    → HasNamesInOrder new

-- after a Put its name shows what the change's line shows: its node, and what was listed of such a node before
abbrev pub PutShowsItsView : Type 0
PutShowsItsView =
    (nodes new : Nodes) (name : List ℕ) (node : Node) → HasNamesInOrder nodes → is_name name ≡ true → after nodes (Put name node) ≡ Some new
    → view_at new name ≡ Some (view_of nodes name node)

-- after any change each name that it doesn't touch shows what it showed
abbrev pub UntouchedViewsStay : Type 0
UntouchedViewsStay =
    (nodes new : Nodes) (change : Mod) (other : List ℕ) → HasNamesInOrder nodes → after nodes change ≡ Some new → list_any (bytes_eq other) (touched nodes change) ≡ false
    → view_at new other ≡ view_at nodes other
