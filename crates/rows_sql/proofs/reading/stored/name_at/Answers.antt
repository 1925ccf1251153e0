use Rattle.sqlite_value.specs.Order.{column}
use Rattle.rows_sql.proofs.Ascii.{no_name}
use Rattle.rows_sql.proofs.reading.stored.name_at.Goals as goal

pub returns-in_default : goal.returns-in_default
returns-in_default c = no_name (column c.args.row.now c.args.at) c.bytes_at.result.now c.bytes_at.ensures c.in_default.ensures.cases.0
