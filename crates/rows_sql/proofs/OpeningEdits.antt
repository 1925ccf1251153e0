-- The edits that put the nodes of a new store make its rows.
use Rattle.std.proofs.Common.{◌≡◌, ℕ, List, [], ◌∷◌, ◌++◌, Equal, Greater, refl, sym, ap, ◌∙◌, arith, append_assoc}
use Rattle.std.specs.Prelude.{codes}
use Rattle.std.specs.Ordering.{nat_cmp}
use Rattle.std.specs.Cmp.Lexicographic.{slice_cmp}
use Rattle.std.proofs.lemmas.Bool.Decides.{nat_tests}
use Rattle.names_cell.specs.Text.{root_of}
use Rattle.node_core.specs.declared.nodes.Node.{Node}
use Rattle.rows_cell.specs.declared.tables.Rows.{Rows}
use Rattle.rows_cell.specs.declared.tables.Edit.TheVariants.{PutNode}
use Rattle.rows_cell.specs.Opening.{opening}
use Rattle.rows_cell.specs.Settings.{Settled}
use Rattle.rows_cell.specs.Rows.{changed_rows}
use Rattle.rows_sql.specs.Creation.{bare_rows, opening_edits}

nat_same : (n : ℕ) → nat_cmp n n ≡ Equal
nat_same n = grind (arith, nat_tests)

-- a text that goes on stands behind
longer : (x : List ℕ) (y : ℕ) (ys : List ℕ) → slice_cmp nat_cmp (x ++ y ∷ ys) x ≡ Greater
longer [] y ys = refl
longer (b ∷ bs) y ys = rw (nat_same b) (longer bs y ys)

-- three new nodes, each behind those before
put_three : (rows : Rows) (x y z : List ℕ) (u v w : Node) → slice_cmp nat_cmp y x ≡ Greater → slice_cmp nat_cmp z x ≡ Greater → slice_cmp nat_cmp z y ≡ Greater
    → changed_rows (record rows { nodes = [] }) (PutNode x u ∷ PutNode y v ∷ PutNode z w ∷ [])
    ≡ record rows { nodes = (x, record { node = u; lock_generation = 0 }) ∷ (y, record { node = v; lock_generation = 0 }) ∷ (z, record { node = w; lock_generation = 0 }) ∷ [] }
put_three rows x y z u v w yx zx zy = rw (yx, zx, zy) refl

pub opening_put : (settings : Settled) → changed_rows (bare_rows settings) (opening_edits settings) ≡ opening settings
opening_put settings =
    let root = root_of settings.cell in
    let behind : root ++ codes "/acl/base" ≡ (root ++ codes "/acl") ++ codes "/base" = sym (append_assoc root (codes "/acl") (codes "/base")) in
    let zy : slice_cmp nat_cmp (root ++ codes "/acl/base") (root ++ codes "/acl") ≡ Greater = ap (λ t. slice_cmp nat_cmp t (root ++ codes "/acl")) behind ∙ longer (root ++ codes "/acl") 47 (codes "base") in
    put_three (bare_rows settings) root (root ++ codes "/acl") (root ++ codes "/acl/base") _ _ _ (longer root 47 (codes "acl")) (longer root 47 (codes "acl/base")) zy
