-- The grammar of names, of principals and of ACL files.
use Rattle.std.specs.Prelude.{ℕ, Bool, false, not, ◌&&◌, ◌||◌, ◌==◌, nat_eq, nat_le, List, [], ◌∷◌, ◌++◌, ◌-◌, min, length, drop, codes, Option, Some, None, if◌then◌else◌}
use Rattle.std.specs.List.{list_all, slice_split, starts_with, before_first, after_last, repeat}
use Rattle.std.specs.Str.{bytes_eq}
use Rattle.std.specs.Option.{option_map, option_map_or}

-- a lower case letter, a digit, a dot, an underscore or a dash
abbrev pub is_component_byte : ℕ → Bool
is_component_byte b = (nat_le 97 b && nat_le b 122) || (nat_le 48 b && nat_le b 57) || b == 46 || b == 95 || b == 45

-- one dot or two
abbrev pub is_dots : List ℕ → Bool
is_dots text = bytes_eq text (codes ".") || bytes_eq text (codes "..")

-- 1 to 64 such bytes, but neither one dot nor two; a principal is written in the same way
abbrev pub is_component : List ℕ → Bool
is_component text = nat_le 1 (length text) && nat_le (length text) 64 && not (is_dots text) && list_all is_component_byte text

abbrev pub is_slash : ℕ → Bool
is_slash b = b == 47

-- `/ls`, and then one or more times a slash and a component; at most 512 bytes
abbrev pub is_name : List ℕ → Bool
is_name text = starts_with nat_eq text (codes "/ls/") && nat_le (length text) 512 && list_all is_component (slice_split is_slash (drop 4 text))

-- a byte before what stands before the last slash
abbrev pub put_front : ℕ → Option (List ℕ) → Option (List ℕ)
put_front b (Some front) = Some (b ∷ front)
put_front b None = if b == 47 then Some [] else None

-- what stands before the last slash, if there is one
abbrev pub front_of : List ℕ → Option (List ℕ)
front_of [] = None
front_of (b ∷ bs) = put_front b (front_of bs)

-- the name without its last component; the root, `/ls/` and one component, has none
abbrev pub parent_of : List ℕ → Option (List ℕ)
parent_of name = option_map (λ front. codes "/ls/" ++ front) (front_of (drop 4 name))

-- the last component
abbrev pub last_of : List ℕ → List ℕ
last_of name = after_last is_slash name

-- the component behind `/ls/`
abbrev pub cell_of : List ℕ → List ℕ
cell_of name = before_first is_slash (drop 4 name)

abbrev pub is_child : List ℕ → List ℕ → Bool
is_child name parent = option_map_or (λ front. bytes_eq front parent) (parent_of name) false

-- the last component of a name, where the other is its parent
abbrev pub child_part : List ℕ → List ℕ → Option (List ℕ)
child_part name parent = if is_child name parent then Some (last_of name) else None

-- the root of a cell
abbrev pub root_of : List ℕ → List ℕ
root_of cell = codes "/ls/" ++ cell

-- one name lies below another, at any depth: it begins with the other and a slash
abbrev pub is_under : List ℕ → List ℕ → Bool
is_under name top = starts_with nat_eq name (top ++ codes "/")

-- the least name that a child may have, since a dash is the least byte of a component; a name of more than 510 bytes has no room for a child
abbrev pub first_child_of : List ℕ → Option (List ℕ)
first_child_of name = if nat_le (length name) 510 then Some (name ++ codes "/-") else None

-- the greatest name that a child may have: a `z` is the greatest byte of a component, and there are as many as a component and a name have room for
abbrev pub last_child_of : List ℕ → Option (List ℕ)
last_child_of name = if nat_le (length name) 510 then Some (name ++ (codes "/" ++ repeat (min (511 - length name) 64) (codes "z"))) else None

-- where the ACL of this name stands in the cell of the other
abbrev pub acl_file_of : List ℕ → List ℕ → List ℕ
acl_file_of name acl = codes "/ls/" ++ (cell_of name ++ (codes "/acl/" ++ acl))

abbrev pub is_line_feed : ℕ → Bool
is_line_feed b = b == 10

-- the lines in the parts between LFs: an empty last part is no line
abbrev pub lines_of_parts : List (List ℕ) → List (List ℕ)
lines_of_parts [] = []
lines_of_parts ([] ∷ []) = []
lines_of_parts ((b ∷ bs) ∷ []) = (b ∷ bs) ∷ []
lines_of_parts (x ∷ y ∷ more) = x ∷ lines_of_parts (y ∷ more)

-- the lines of a text: each is ended by LF, which the last may lack
abbrev pub text_lines : List ℕ → List (List ℕ)
text_lines text = lines_of_parts (slice_split is_line_feed text)

-- each line is a principal
abbrev pub is_acl_file : List ℕ → Bool
is_acl_file content = list_all is_component (text_lines content)
