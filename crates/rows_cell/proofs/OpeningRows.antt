-- The rows of a new store.
use Rattle.std.proofs.Common.{◌≡◌, ℕ, ◌≤◌, List, [], ◌∷◌, ◌++◌, length, Bool, true, Some, Less, Equal, Greater, refl, sym, ap, ◌∙◌, arith, append_assoc}
use Rattle.std.specs.Prelude.{◌&&◌, ◌==◌, codes}
use Rattle.std.specs.Str.{bytes_eq}
use Rattle.std.specs.BTreeMap.{insert_entry}
use Rattle.std.specs.Ordering.{nat_cmp}
use Rattle.std.specs.Cmp.Lexicographic.{slice_cmp}
use Rattle.std.proofs.lemmas.Bool.Decides.{nat_tests}
use Rattle.std.proofs.lemmas.Bool.{le-leb}
use Rattle.names_cell.specs.Text.{is_component, parent_of, root_of, acl_file_of}
use Rattle.names_cell.proofs.ComponentLemmas.{cell_of_root, cell_of_below, no_parent_of_root, parent_of_joined}
use Rattle.node_core.specs.declared.kinds.Kind.TheVariants.{File, Directory}
use Rattle.rows_cell.specs.declared.tables.StoredNode.{StoredNode}
use Rattle.rows_cell.specs.Rows.{StoredNodes}
use Rattle.rows_cell.specs.Sound.{sound, node_fits, is_directory_at}
use Rattle.rows_cell.specs.Opening.{opening, opening_node}
use Rattle.rows_cell.specs.Settings.{Settled}

pub joined : (a b : Bool) → a ≡ true → b ≡ true → (a && b) ≡ true
joined a b e f = rw (e, f) refl

nat_same : (n : ℕ) → nat_cmp n n ≡ Equal
nat_same n = grind (arith, nat_tests)

pub bytes_same : (x : List ℕ) → slice_cmp nat_cmp x x ≡ Equal
bytes_same [] = refl
bytes_same (b ∷ bs) = rw (nat_same b) (bytes_same bs)

pub equal_bytes : (x : List ℕ) → bytes_eq x x ≡ true
equal_bytes [] = refl
equal_bytes (b ∷ bs) = let e : (b == b) ≡ true = grind (arith, nat_tests) in rw e (equal_bytes bs)

-- a text that goes on stands behind
longer : (x : List ℕ) (y : ℕ) (ys : List ℕ) → slice_cmp nat_cmp (x ++ y ∷ ys) x ≡ Greater
longer [] y ys = refl
longer (b ∷ bs) y ys = rw (nat_same b) (longer bs y ys)

shorter : (x : List ℕ) (y : ℕ) (ys : List ℕ) → slice_cmp nat_cmp x (x ++ y ∷ ys) ≡ Less
shorter [] y ys = refl
shorter (b ∷ bs) y ys = rw (nat_same b) (shorter bs y ys)

-- the file of the ACL `base`, and the directory above it
pub base_file_of : (cell : List ℕ) → is_component cell ≡ true → acl_file_of (root_of cell) (codes "base") ≡ root_of cell ++ codes "/acl/base"
base_file_of cell c = ap (λ x. codes "/ls/" ++ (x ++ codes "/acl/base")) (cell_of_root cell c)

file_behind : (cell : List ℕ) → root_of cell ++ codes "/acl/base" ≡ (root_of cell ++ codes "/acl") ++ codes "/base"
file_behind cell = sym (append_assoc (root_of cell) (codes "/acl") (codes "/base"))

pub base_parent_of : (cell : List ℕ) → parent_of (root_of cell ++ codes "/acl/base") ≡ Some (root_of cell ++ codes "/acl")
base_parent_of cell = ap parent_of (file_behind cell) ∙ parent_of_joined (cell ++ codes "/acl") (codes "base") refl

acl_parent_of : (cell : List ℕ) → parent_of (root_of cell ++ codes "/acl") ≡ Some (root_of cell)
acl_parent_of cell = parent_of_joined cell (codes "acl") refl

file_after_directory : (cell : List ℕ) → slice_cmp nat_cmp (root_of cell ++ codes "/acl/base") (root_of cell ++ codes "/acl") ≡ Greater
file_after_directory cell =
    ap (λ x. slice_cmp nat_cmp x (root_of cell ++ codes "/acl")) (file_behind cell) ∙ longer (root_of cell ++ codes "/acl") 47 (codes "base")

-- put one after the other they stand in order
pub put_in_order : (cell : List ℕ) (root directory file : StoredNode) → insert_entry (slice_cmp nat_cmp) (insert_entry (slice_cmp nat_cmp) (insert_entry (slice_cmp nat_cmp) [] (root_of cell) root) (root_of cell ++ codes "/acl") directory) (root_of cell ++ codes "/acl/base") file ≡ (root_of cell, root) ∷ (root_of cell ++ codes "/acl", directory) ∷ (root_of cell ++ codes "/acl/base", file) ∷ []
put_in_order cell root directory file =
    rw (longer (root_of cell) 47 (codes "acl"), longer (root_of cell) 47 (codes "acl/base"), file_after_directory cell) refl

-- the same of values that are known to be these
pub put_as : (cell r d f : List ℕ) (m n o x y z : StoredNode) (a b c : StoredNodes) → a ≡ insert_entry (slice_cmp nat_cmp) [] r m → b ≡ insert_entry (slice_cmp nat_cmp) a d n → c ≡ insert_entry (slice_cmp nat_cmp) b f o → r ≡ root_of cell → d ≡ root_of cell ++ codes "/acl" → f ≡ root_of cell ++ codes "/acl/base" → m ≡ x → n ≡ y → o ≡ z → c ≡ (root_of cell, x) ∷ (root_of cell ++ codes "/acl", y) ∷ (root_of cell ++ codes "/acl/base", z) ∷ []
put_as cell r d f m n o x y z a b c ea eb ec er ed ef em en eo = rw (ec, eb, ea, er, ed, ef, em, en, eo) (put_in_order cell x y z)

abbrev first_nodes : Settled → StoredNodes
first_nodes s = (opening s).nodes

root_there : (s : Settled) → is_directory_at (first_nodes s) (root_of s.cell) ≡ true
root_there s = rw (bytes_same (root_of s.cell)) refl

directory_there : (s : Settled) → is_directory_at (first_nodes s) (root_of s.cell ++ codes "/acl") ≡ true
directory_there s = rw (longer (root_of s.cell) 47 (codes "acl"), bytes_same (root_of s.cell ++ codes "/acl")) refl

root_fits : (s : Settled) → is_component s.cell ≡ true → node_fits s.cell 4 (first_nodes s) (root_of s.cell, opening_node Directory 1 (codes "base") []) ≡ true
root_fits s c = rw (cell_of_root s.cell c, equal_bytes s.cell, no_parent_of_root s.cell c) refl

directory_fits : (s : Settled) → is_component s.cell ≡ true → node_fits s.cell 4 (first_nodes s) (root_of s.cell ++ codes "/acl", opening_node Directory 2 (codes "base") []) ≡ true
directory_fits s c = rw (cell_of_below s.cell (codes "acl") c, equal_bytes s.cell, acl_parent_of s.cell, root_there s) refl

file_fits : (s : Settled) → is_component s.cell ≡ true → length s.base ≤ 262144 → node_fits s.cell 4 (first_nodes s) (root_of s.cell ++ codes "/acl/base", opening_node File 3 (codes "base") s.base) ≡ true
file_fits s c short =
    let e = le-leb (length s.base) 262144 short in
    rw (cell_of_below s.cell (codes "acl/base") c, equal_bytes s.cell, base_parent_of s.cell, directory_there s, e) refl

pub opening_sound : (s : Settled) → is_component s.cell ≡ true → length s.base ≤ 262144 → sound s.cell (opening s) ≡ true
opening_sound s c short = rw (equal_bytes s.cell, root_there s, root_fits s c, directory_fits s c, file_fits s c short) refl
