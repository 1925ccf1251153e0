use Rattle.rows_cell.proofs.Undoing.{generation_back}
use Rattle.rows_cell.proofs.tables.Rows.keep_generation.Goals as goal

pub returns-clause-back : goal.returns-clause-back
returns-clause-back c = generation_back _ _ _ _ _ _ c.in_ok-key.ensures.cases c.set_generation.ensures c.generation_at-former.ensures
