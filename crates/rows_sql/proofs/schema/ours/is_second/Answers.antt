use Rattle.rows_sql.proofs.FieldLemmas.{second_told}
use Rattle.rows_sql.proofs.schema.ours.is_second.Goals as goal

pub returns : goal.returns
returns c = second_told c.has_all.result c.args.schema.now c.has_all.ensures
