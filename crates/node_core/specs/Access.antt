-- Who may do what with a node: its ACLs are files of the same map (Burrows 2006, section 2.3).
use Rattle.std.specs.Prelude.{ℕ, Bool, true, false, ◌&&◌, List, Option}
use Rattle.std.specs.Option.{option_map, option_map_or}
use Rattle.std.specs.List.{list_any, slice_get}
use Rattle.std.specs.Str.{bytes_eq}
use Rattle.names_cell.specs.Text.{is_acl_file, text_lines, acl_file_of}
use Rattle.node_core.specs.Nodes.{Nodes, get_node}
use Rattle.node_core.specs.declared.nodes.Node.{Node}
use Rattle.node_core.specs.declared.kinds.Kind.{Kind}
use Rattle.node_core.specs.declared.kinds.Kind.TheVariants.{File, Directory}
use Rattle.node_core.specs.declared.kinds.Right.{Right}
use Rattle.node_core.specs.declared.kinds.Right.TheVariants.{Read, Write, Change}

-- the ACL that a node names for a right
abbrev pub acl_for : Node → Right → List ℕ
acl_for node Read = node.read
acl_for node Write = node.write
acl_for node Change = node.change

abbrev pub is_file : Kind → Bool
is_file File = true
is_file Directory = false

-- a file, well formed, with the principal on one of its lines
abbrev pub lists : List ℕ → Node → Bool
lists principal node = is_file node.kind && (is_acl_file node.content && list_any (λ line. bytes_eq line principal) (text_lines node.content))

-- the first name of the map, which tells its cell
abbrev pub first_name : Nodes → Option (List ℕ)
first_name nodes = option_map (λ entry. entry.0) (slice_get nodes 0)

-- the ACL file that the node names for the right is in the map, and lists the principal
abbrev pub permitted : Nodes → List ℕ → Node → Right → Bool
permitted nodes principal node right =
    option_map_or (λ first. option_map_or (lists principal) (get_node nodes (acl_file_of first (acl_for node right))) false) (first_name nodes) false
