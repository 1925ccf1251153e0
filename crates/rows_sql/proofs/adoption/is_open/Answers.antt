use Rattle.rows_sql.proofs.KeptOpen.{told_unchanged}
use Rattle.rows_sql.proofs.adoption.is_open.Goals as goal

pub returns-clause-unchanged : goal.returns-clause-unchanged
returns-clause-unchanged g c clean went = told_unchanged _ _ c.prepare.result c.is_ok.result c.is_ok.ensures.value went (c.prepare.ensures.ok clean)
