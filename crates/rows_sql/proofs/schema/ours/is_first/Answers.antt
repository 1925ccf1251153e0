use Rattle.rows_sql.proofs.FieldLemmas.{first_told}
use Rattle.rows_sql.proofs.schema.ours.is_first.Goals as goal

pub returns : goal.returns
returns c = first_told c.has_first.result c.args.schema.now c.has_first.ensures
