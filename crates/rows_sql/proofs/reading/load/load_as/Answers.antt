use Rattle.rows_sql.proofs.SaidTables.{said_rows, says_read}
use Rattle.rows_sql.specs.Children.{children_for}
use Rattle.rows_sql.proofs.reading.load.load_as.Goals as goal

pub returns-in-Ok-clause-rows : goal.returns-in-Ok-clause-rows
returns-in-Ok-clause-rows g c clean ready = said_rows c.args.version _ _ (c.in-Ok.ensures.shown clean ready) c.said_by.result c.said_by.ensures.rows

pub returns-in-Ok-clause-damaged : goal.returns-in-Ok-clause-damaged
returns-in-Ok-clause-damaged g c clean ready is rows says = c.said_by.ensures.damaged is rows (says_read c.args.version _ _ rows (children_for c.args.version rows.nodes) (c.in-Ok.ensures.shown clean ready) says)
