-- The fifth table of the second version: under each directory the names of its nodes.
use Rattle.std.specs.Prelude.{ℕ, List, [], ◌∷◌, Option, Some, None}
use Rattle.std.specs.BTreeMap.{insert_entry}
use Rattle.std.specs.Cmp.Lexicographic.{slice_cmp}
use Rattle.std.specs.Ordering.{nat_cmp}
use Rattle.names_cell.specs.Text.{parent_of}
use Rattle.rows_cell.specs.Rows.{StoredNodes}
use Rattle.rows_sql.specs.declared.schema.ours.Version.{Version}
use Rattle.rows_sql.specs.declared.schema.ours.Version.TheVariants.{First, Unindexed, Second, Third}

-- names, each with that of its parent
abbrev pub Parents : Type 0
Parents = List (List ℕ × List ℕ)

abbrev pub with_child : List ℕ → Option (List ℕ) → Parents → Parents
with_child name None rest = rest
with_child name (Some parent) rest = (name, parent) ∷ rest

-- the names of all nodes but the root, each with that of its parent
abbrev pub children_of : StoredNodes → Parents
children_of [] = []
children_of (e ∷ es) = with_child e.0 (parent_of e.0) (children_of es)

-- a store of the first version has no such table, nor one of now
abbrev pub children_for : Version → StoredNodes → Parents
children_for First nodes = []
children_for Unindexed nodes = children_of nodes
children_for Second nodes = children_of nodes
children_for Third nodes = []

-- with a name that has this parent
abbrev pub put_under : List ℕ → Option (List ℕ) → Parents → Parents
put_under name None children = children
put_under name (Some parent) children = insert_entry (slice_cmp nat_cmp) children name parent
