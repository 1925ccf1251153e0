-- Where the ephemeral nodes are found.
use Rattle.std.specs.Prelude.{Bool, true, false, ◌≡◌, ℕ, List, Option, Some, None, is_some, if◌then◌else◌}
use Rattle.node_core.specs.declared.kinds.Life.{Life}
use Rattle.node_core.specs.declared.kinds.Life.TheVariants.{Permanent, Ephemeral}
use Rattle.std.specs.Map.{lookup, remove_entry}
use Rattle.std.specs.BTreeMap.{is_at, insert_entry}
use Rattle.std.specs.Cmp.Lexicographic.{slice_cmp}
use Rattle.std.specs.Ordering.{nat_cmp}
use Rattle.node_core.specs.declared.nodes.Node.{Node}
use Rattle.node_core.specs.Nodes.{Nodes, get_node}

abbrev pub is_ephemeral : Life → Bool
is_ephemeral Permanent = false
is_ephemeral Ephemeral = true

abbrev pub NameTable : Type 0
NameTable = List (List ℕ × Unit {0})

-- a name is among these
abbrev pub is_named : NameTable → List ℕ → Bool
is_named names name = is_some (lookup (is_at (slice_cmp nat_cmp name)) names)

-- the name of each ephemeral node is among these
abbrev pub AreNamed : Nodes → NameTable → Type 0
AreNamed nodes names = (name : List ℕ) (node : Node) → get_node nodes name ≡ Some node → is_ephemeral node.life ≡ true → is_named names name ≡ true

-- the name of an ephemeral node is put among the others
abbrev pub with_name : NameTable → List ℕ → Node → NameTable
with_name names name node = if is_ephemeral node.life then insert_entry (slice_cmp nat_cmp) names name tt else names

abbrev pub was_ephemeral : Option Node → Bool
was_ephemeral None = false
was_ephemeral (Some node) = is_ephemeral node.life

-- the name of a node that is no ephemeral one again isn't needed
abbrev pub with_former_name : NameTable → List ℕ → Option Node → NameTable
with_former_name names name former = if was_ephemeral former then names else remove_entry (is_at (slice_cmp nat_cmp name)) names

-- a node of this name is ephemeral only where the name is among these
abbrev pub IsNamed : NameTable → List ℕ → Option Node → Type 0
IsNamed names name former = (node : Node) → former ≡ Some node → is_ephemeral node.life ≡ true → is_named names name ≡ true
