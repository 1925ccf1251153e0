-- The map of names to nodes, as the list of its entries in the order of the names, and its changes.
use Rattle.std.specs.Prelude.{◌≡◌, ℕ, Bool, true, ◌||◌, ◌==◌, nat_lt, List, [], ◌∷◌, length, Option, Some, None, if◌then◌else◌, is_none, map, filter}
use Rattle.std.specs.Option.{option_map, option_map_or, option_to_list}
use Rattle.std.specs.List.{AllByRecursion, list_any}
use Rattle.std.specs.List.Sorted.{IsStrictlySortedBy}
use Rattle.std.specs.Map.{keys_of, lookup, remove_entry}
use Rattle.std.specs.BTreeMap.{is_at, insert_entry}
use Rattle.std.specs.Cmp.Lexicographic.{slice_cmp}
use Rattle.std.specs.Ordering.{nat_cmp}
use Rattle.names_cell.specs.Text.{is_name, parent_of, is_child, last_of, last_child_of}
use Rattle.node_core.specs.Limits.{content_limit, number_limit}
use Rattle.node_core.specs.declared.nodes.Node.{Node}
use Rattle.node_core.specs.declared.views.View.{View}
use Rattle.node_core.specs.declared.views.Mod.{Mod}
use Rattle.node_core.specs.declared.views.Mod.TheVariants.{Put, Gone}
use Rattle.node_core.specs.declared.kinds.Kind.{Kind}
use Rattle.node_core.specs.declared.kinds.Kind.TheVariants.{File, Directory}
use Rattle.node_core.specs.declared.faults.NodeFault.{NodeFault}
use Rattle.node_core.specs.declared.faults.NodeFault.TheVariants.{NotFound, WrongKind, NotEmpty, TooLarge, Exhausted, StaleInstance}

-- entries of names and nodes
abbrev pub Nodes : Type 0
Nodes = List (List ℕ × Node)

-- what stands at a name: its node, or absence
abbrev pub get_node : Nodes → List ℕ → Option Node
get_node nodes name = lookup (is_at (slice_cmp nat_cmp name)) nodes

-- each key is a name; they stand in the order of their bytes, each once
pub record HasNamesInOrder (nodes : Nodes) : Type 0 where
  pub in_order : IsStrictlySortedBy (slice_cmp nat_cmp) (keys_of nodes)
  pub names : AllByRecursion (λ name. is_name name ≡ true) (keys_of nodes)

-- the last components of the names whose parent this one is
abbrev pub children : Nodes → List ℕ → List (List ℕ)
children nodes name = map last_of (filter (λ child. is_child child name) (keys_of nodes))

-- what is listed of a node of this kind at a name: of a directory its children
abbrev pub listing : Nodes → List ℕ → Kind → List (List ℕ)
listing nodes name Directory = children nodes name
listing nodes name File = []

-- what a client sees of a node at a name
abbrev pub view_of : Nodes → List ℕ → Node → View
view_of nodes name node = record { node = node; children = listing nodes name node.kind }

-- what a client sees at a name: the view of its node, or that there is none
abbrev pub view_at : Nodes → List ℕ → Option View
view_at nodes name = option_map (view_of nodes name) (get_node nodes name)

abbrev pub has_children : Nodes → List ℕ → Bool
has_children nodes name = list_any (λ child. is_child child name) (keys_of nodes)

-- the greatest name, in order of bytes, that may have the same parent
abbrev pub last_sibling_of : List ℕ → Option (List ℕ)
last_sibling_of name = option_map_or last_child_of (parent_of name) None

-- ---- where a change fits

-- the first of two faults
abbrev pub or_else : Option NodeFault → Option NodeFault → Option NodeFault
or_else (Some fault) next = Some fault
or_else None next = next

-- only a directory has children
abbrev pub parent_kind_misfit : Kind → Option NodeFault
parent_kind_misfit Directory = None
parent_kind_misfit File = Some (WrongKind File)

-- the node under which another is put
abbrev pub directory_misfit : Option Node → Option NodeFault
directory_misfit None = Some NotFound
directory_misfit (Some parent) = parent_kind_misfit parent.kind

-- a name other than the root needs a parent that is a directory
abbrev pub parent_misfit : Nodes → List ℕ → Option NodeFault
parent_misfit nodes name = option_map_or (λ parent. directory_misfit (get_node nodes parent)) (parent_of name) None

-- its content and its numbers are within their limits
abbrev pub limit_misfit : Node → Option NodeFault
limit_misfit node =
    if nat_lt content_limit (length node.content) then Some TooLarge
    else if nat_lt number_limit node.instance || nat_lt number_limit node.content_generation || nat_lt number_limit node.acl_generation then Some Exhausted
    else None

-- a node keeps its kind
abbrev pub kind_misfit : Kind → Kind → Option NodeFault
kind_misfit File File = None
kind_misfit File Directory = Some (WrongKind File)
kind_misfit Directory File = Some (WrongKind Directory)
kind_misfit Directory Directory = None

-- a node that stands there already has to be of the same instance, and of the same kind
abbrev pub present_misfit : Option Node → Node → Option NodeFault
present_misfit None node = None
present_misfit (Some present) node = if present.instance == node.instance then kind_misfit present.kind node.kind else Some StaleInstance

abbrev pub put_misfit : Nodes → List ℕ → Node → Option NodeFault
put_misfit nodes name node = or_else (parent_misfit nodes name) (or_else (limit_misfit node) (present_misfit (get_node nodes name) node))

-- what goes has to be there, without children, and is not the root
abbrev pub gone_misfit : Nodes → List ℕ → Option NodeFault
gone_misfit nodes name =
    if is_none (get_node nodes name) then Some NotFound
    else if has_children nodes name || is_none (parent_of name) then Some NotEmpty
    else None

-- the first reason why a change does not fit the map, if there is one
abbrev pub misfit : Nodes → Mod → Option NodeFault
misfit nodes (Put name node) = put_misfit nodes name node
misfit nodes (Gone name) = gone_misfit nodes name

-- ---- what a change does

-- one name has another node, or none; all others stay
abbrev pub changed : Nodes → Mod → Nodes
changed nodes (Put name node) = insert_entry (slice_cmp nat_cmp) nodes name node
changed nodes (Gone name) = remove_entry (is_at (slice_cmp nat_cmp name)) nodes

-- the map after a change, where the change fits
abbrev pub after : Nodes → Mod → Option Nodes
after nodes change = if is_none (misfit nodes change) then Some (changed nodes change) else None

-- the name that a change sets or takes away
abbrev pub name_of : Mod → List ℕ
name_of (Put name node) = name
name_of (Gone name) = name

-- a name, and the name above it, if there is one
abbrev pub with_parent : List ℕ → List (List ℕ)
with_parent name = name ∷ option_to_list (parent_of name)

-- the names whose view a change may change: a node that comes or goes is listed above it
abbrev pub touched : Nodes → Mod → List (List ℕ)
touched nodes (Put name node) = if is_none (get_node nodes name) then with_parent name else name ∷ []
touched nodes (Gone name) = with_parent name
