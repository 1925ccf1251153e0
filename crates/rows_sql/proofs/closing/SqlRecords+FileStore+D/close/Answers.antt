use Rattle.rows_sql.proofs.Closings.{stands, was_sure, left_by}
use Rattle.rows_sql.proofs.closing.SqlRecords+FileStore+D.close.Goals as goal

pub returns-in-Ok-clause-closed : goal.returns-in-Ok-clause-closed
returns-in-Ok-clause-closed g c clean =
    stands g.D.Disk c.release-conn.result c.in-Ok.files _ _ c.release-conn.ensures.doubted c.release-conn.ensures.settled c.release-conn.ensures.says (c.in-Ok.ensures.copied clean)

pub returns-in-Err-clause-refused : goal.returns-in-Err-clause-refused
returns-in-Err-clause-refused g c = left_by g.D.Disk c.release-conn.result c.in-Err.error.1 _ c.release-conn.ensures.left c.in-Err.ensures.err.0

pub returns-in-Err-clause-sure : goal.returns-in-Err-clause-sure
returns-in-Err-clause-sure g c = was_sure g.D.Disk c.release-conn.result c.in-Err.error.1 _ c.release-conn.ensures.doubted c.in-Err.ensures.err.0
