use Rattle.rows_cell.proofs.MapOfRows.{IsPut}
use Rattle.rows_cell.proofs.tables.Rows.map.Given as goal

abbrev pub invariant-loop-name : goal.invariant-loop-name
invariant-loop-name l = IsPut l.self.nodes l.name-iterator l.map
