use Rattle.std.proofs.Common.{◌≡◌}
use Rattle.std.specs.List.{list_all}
use Rattle.rows_cell.specs.Sound.{node_fits}
use Rattle.rows_cell.proofs.soundness.nodes_fit.Given as goal

abbrev pub invariant-loop-name : goal.invariant-loop-name
invariant-loop-name l = list_all (node_fits l.cell l.next l.nodes) l.name-iterator ≡ list_all (node_fits l.cell l.next l.nodes) l.nodes
