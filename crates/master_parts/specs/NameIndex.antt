-- Under which name the node of an instance stands.
use Rattle.std.specs.Prelude.{◌≡◌, ◌==◌, ℕ, Bool, true, false, List, Option, Some, None, find}
use Rattle.std.specs.Option.{option_map, option_map_or}
use Rattle.std.specs.Map.{lookup, remove_entry}
use Rattle.std.specs.BTreeMap.{is_at}
use Rattle.std.specs.Ordering.{nat_cmp}
use Rattle.node_core.specs.declared.nodes.Node.{Node}
use Rattle.node_core.specs.Nodes.{Nodes, get_node}

-- the name of an instance's node
abbrev pub name_of : Nodes → ℕ → Option (List ℕ)
name_of nodes instance = option_map (λ entry. entry.0) (find (λ entry. entry.1.instance == instance) nodes)

-- a node of this instance stands at a name
abbrev pub stands_at : Nodes → List ℕ → ℕ → Bool
stands_at nodes name instance = option_map_or (λ node. node.instance == instance) (get_node nodes name) false

abbrev pub IndexEntries : Type 0
IndexEntries = List (ℕ × List ℕ)

-- the name that is noted of an instance
abbrev pub indexed_name : IndexEntries → ℕ → Option (List ℕ)
indexed_name entries instance = lookup (is_at (nat_cmp instance)) entries

-- of the instance of each node its name is noted
abbrev pub AreIndexed : Nodes → IndexEntries → Type 0
AreIndexed nodes entries = (name : List ℕ) (node : Node) → get_node nodes name ≡ Some node → indexed_name entries node.instance ≡ Some name

-- what is noted of a node that stands there is noted still
abbrev pub StayIndexed : Nodes → IndexEntries → IndexEntries → Type 0
StayIndexed nodes entries more = (name : List ℕ) (instance : ℕ) → stands_at nodes name instance ≡ true → indexed_name entries instance ≡ Some name → indexed_name more instance ≡ Some name

-- of the instance of a node, where there was one, nothing is noted any more
abbrev pub unindexed : IndexEntries → Option Node → IndexEntries
unindexed entries None = entries
unindexed entries (Some node) = remove_entry (is_at (nat_cmp node.instance)) entries

-- of the instance of a node, where there was one, this name is noted
abbrev pub IsIndexed : IndexEntries → List ℕ → Option Node → Type 0
IsIndexed entries name former = (node : Node) → former ≡ Some node → indexed_name entries node.instance ≡ Some name

-- of the node of a name, which gives way to the one that was there before, nothing is noted where none was
abbrev pub with_former_index : IndexEntries → Option Node → Option Node → IndexEntries
with_former_index entries there None = unindexed entries there
with_former_index entries there (Some node) = entries
