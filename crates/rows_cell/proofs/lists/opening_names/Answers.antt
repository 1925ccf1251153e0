use Rattle.std.proofs.Common.{◌≡◌, ◌∙◌, ap, sym, refl, Some, ◌++◌, List, ℕ, true}
use Rattle.std.specs.Prelude.{codes}
use Rattle.names_cell.specs.Text.{is_component, parent_of, root_of, acl_file_of}
use Rattle.rows_cell.proofs.OpeningRows.{base_file_of, base_parent_of}
use Rattle.rows_cell.proofs.lists.opening_names.Goals as goal

-- the file of the ACL, from what the calls gave
named : (cell root file base : List ℕ) → is_component cell ≡ true → root ≡ root_of cell → base ≡ codes "base" → file ≡ acl_file_of root base → file ≡ root_of cell ++ codes "/acl/base"
named cell root file base c r b f = f ∙ ap (acl_file_of root) b ∙ ap (λ x. acl_file_of x (codes "base")) r ∙ base_file_of cell c

pub unwrap-directory-requires : goal.unwrap-directory-requires
unwrap-directory-requires c =
    let cell : List ℕ = c.args.cell.now in
    let file = named cell c.in_ok-root.root c.in_ok-file.file c.args.base.now c.as_str-cell.ensures.component c.in_ok-root.ensures c.requires c.in_ok-file.ensures in
    rw (c.in_ok-parent.ensures ∙ ap parent_of file ∙ base_parent_of cell) refl

pub returns-clause-directory : goal.returns-clause-directory
returns-clause-directory c =
    let cell : List ℕ = c.args.cell.now in
    let file = named cell c.in_ok-root.root c.in_ok-file.file c.args.base.now c.as_str-cell.ensures.component c.in_ok-root.ensures c.requires c.in_ok-file.ensures in
    let same : Some c.unwrap-directory.result ≡ Some (root_of cell ++ codes "/acl") = sym c.unwrap-directory.ensures ∙ c.in_ok-parent.ensures ∙ ap parent_of file ∙ base_parent_of cell in
    cc

pub returns-clause-file : goal.returns-clause-file
returns-clause-file c =
    named c.args.cell.now c.in_ok-root.root c.in_ok-file.file c.args.base.now c.as_str-cell.ensures.component c.in_ok-root.ensures c.requires c.in_ok-file.ensures
