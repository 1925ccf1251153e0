use Rattle.std.proofs.Common.{◌∙◌, ap}
use Rattle.sqlite_disk.specs.declared.tally.Tally.{Tally}
use Rattle.rows_sql.proofs.Inspections.{caught_of}
use Rattle.rows_sql.proofs.files.file.caught_by.Goals as goal

pub returns : goal.returns
returns g c = ap (λ (t : Tally). t.caught) c.tally.ensures ∙ caught_of g.D.Disk c.args.left c.into_files-files.result.log c.into_files-files.result.db c.into_files-files.ensures
