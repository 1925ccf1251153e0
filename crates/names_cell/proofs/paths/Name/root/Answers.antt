use Rattle.std.proofs.Common.{◌≡◌, true}
use Rattle.names_cell.specs.Text.{is_component}
use Rattle.names_cell.proofs.ComponentLemmas.{root_is_name}
use Rattle.names_cell.proofs.paths.Name.root.Goals as goal

pub invariant_of-result : goal.invariant_of-result
invariant_of-result c =
    let cell : is_component c.as_str-cell.result.now ≡ true = rw c.as_str-cell.ensures.text c.as_str-cell.ensures.component in
    rw c.in_ok-format.ensures.ok (root_is_name c.as_str-cell.result.now cell)
