use Rattle.std.proofs.Common.{sym, ◌∙◌}
use Rattle.rows_sql.specs.Decode.{is_row_of}
use Rattle.rows_sql.proofs.MetaRows.{none_said}
use Rattle.rows_sql.proofs.reading.stored.meta_of.Goals as goal

pub returns-then-not-is_row_of : goal.returns-then-not-is_row_of
returns-then-not-is_row_of c = none_said (is_row_of c.args.row.now) _ _ _ _ _ (sym c.is_row_of.ensures ∙ c.if-not-is_row_of.true)
