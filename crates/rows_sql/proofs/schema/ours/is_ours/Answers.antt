use Rattle.rows_sql.proofs.FieldLemmas.{ours_told}
use Rattle.rows_sql.proofs.schema.ours.is_ours.Goals as goal

pub returns : goal.returns
returns c = ours_told c.has_ours.result c.args.schema.now c.has_ours.ensures
