use Rattle.rows_sql.proofs.Inspections.{is_copy}
use Rattle.rows_sql.proofs.files.file.copy_of.Goals as goal

pub returns-in-Ok-clause-copied : goal.returns-in-Ok-clause-copied
returns-in-Ok-clause-copied c = (c.write_at.ensures.usable, is_copy c.args.bytes.now _ _ c.new-file.ensures.empty c.in-Ok.ensures.written c.write_at.ensures.others)
