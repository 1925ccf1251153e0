use Rattle.std.proofs.Common.{arith, ◌∙◌}
use Rattle.std.proofs.lemmas.Grind.{common_steps}
use Rattle.rows_cell.proofs.tables.Rows.edit_all.Goals as goal

pub loop-edit-preserved : goal.loop-edit-preserved
loop-edit-preserved c = record {
  rows = grind (arith, common_steps);
  back = c.edit_late.ensures.back ∙ c.loop-edit.invariant.back;
  left = grind (arith, common_steps);
}
