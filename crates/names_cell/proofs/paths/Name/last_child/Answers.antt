use Rattle.std.proofs.Common.{length, ap, arith}
use Rattle.names_cell.proofs.Subtrees.{last_child_is_name}
use Rattle.names_cell.proofs.paths.Name.last_child.Goals as goal

pub invariant_of-result : goal.invariant_of-result
invariant_of-result c =
    rw (c.in_ok-format.ensures.ok, c.in_ok-last.ensures.bytes)
    (last_child_is_name c.path-path.result.now c.saturating_sub-room.result c.min.result c.path-path.ensures.components (omega (arith, ap length c.path-path.ensures.path, ap length c.self.view_is, c.saturating_sub-room.ensures)) (grind (arith, c.if-room-eq0.false)) c.min.ensures)
