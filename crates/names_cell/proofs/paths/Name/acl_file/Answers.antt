use Rattle.std.proofs.Common.{◌≡◌, true}
use Rattle.names_cell.specs.Text.{is_component}
use Rattle.names_cell.proofs.ComponentLemmas.{acl_file_is_name, first_is_component}
use Rattle.names_cell.proofs.paths.Name.acl_file.Goals as goal

pub invariant_of-result : goal.invariant_of-result
invariant_of-result c =
    let cell : is_component c.first_of-cell.result.now ≡ true = rw c.first_of-cell.ensures (first_is_component c.path.result.now c.path.ensures.components) in
    let acl : is_component c.as_str-acl.result.now ≡ true = rw c.as_str-acl.ensures.text c.as_str-acl.ensures.component in
    rw c.in_ok-format.ensures.ok (acl_file_is_name c.first_of-cell.result.now c.as_str-acl.result.now cell acl)
