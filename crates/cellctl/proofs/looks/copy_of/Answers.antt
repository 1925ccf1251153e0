use Rattle.rows_sql.proofs.Inspections.{is_copy}
use Rattle.cellctl.proofs.looks.copy_of.Goals as goal

pub returns-in-Ok : goal.returns-in-Ok
returns-in-Ok c = record { copied = (c.write_at.ensures.usable, is_copy c.args.bytes.now _ _ c.new-file.ensures.empty c.in-Ok.ensures.written c.write_at.ensures.others) }
