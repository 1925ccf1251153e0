use Rattle.std.specs.Prelude.{◌≡◌, ◌++◌}
use Rattle.rows_sql.specs.Creation.{puts_of}
use Rattle.rows_sql.proofs.adoption.edits_of.Given as goal

abbrev pub invariant-loop-name : goal.invariant-loop-name
invariant-loop-name l = l.edits ++ puts_of l.name-iterator ≡ puts_of l.rows.nodes
