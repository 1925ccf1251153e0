use Rattle.std.proofs.Common.{sym}
use Rattle.names_cell.proofs.Fronts.{front_is_name}
use Rattle.names_cell.proofs.paths.Name.parent.Goals as goal

pub invariant_of-result : goal.invariant_of-result
invariant_of-result c =
    rw c.in_ok-format.ensures.ok
    (front_is_name c.path.result.now c.in-Some.front.now (sym c.in-Some.ensures) c.path.ensures.components (rw c.path.ensures.path at c.path.ensures.length))
