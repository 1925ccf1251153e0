use Rattle.std.proofs.Common.{length, ap, arith}
use Rattle.names_cell.proofs.Subtrees.{first_child_is_name}
use Rattle.names_cell.proofs.paths.Name.first_child.Goals as goal

pub invariant_of-result : goal.invariant_of-result
invariant_of-result c =
    rw c.in_ok-format.ensures.ok
    (first_child_is_name c.path-path.result.now c.path-path.ensures.components (omega (arith, ap length c.path-path.ensures.path, ap length c.self.view_is)))
