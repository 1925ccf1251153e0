use Rattle.rows_sql.proofs.FieldLemmas.{unindexed_told}
use Rattle.rows_sql.proofs.schema.ours.is_unindexed.Goals as goal

pub returns : goal.returns
returns c = unindexed_told c.has_all_but_one.result c.args.schema.now c.has_all_but_one.ensures
