use Rattle.std.proofs.Common.{None}
use Rattle.sqlite_wal.specs.Files.{image_at}
use Rattle.cellctl.proofs.Commanded.{some_run, no_run}
use Rattle.cellctl.proofs.commands.run_script.Goals as goal

pub returns-in-Ok-source_of-clause-ran : goal.returns-in-Ok-source_of-clause-ran
returns-in-Ok-source_of-clause-ran g c =
    some_run c.in-Ok.chosen.settings (image_at g.S.Start) _ _ None None c.run_printing.result c.in-Ok.ensures.lease c.run_printing.ensures.ran

pub returns-in-Err-source_of-clause-ran : goal.returns-in-Err-source_of-clause-ran
returns-in-Err-source_of-clause-ran g c = no_run (image_at g.S.Start) _ None c.in-Err-source_of.ensures.unset

pub returns-in-Err-clause-ran : goal.returns-in-Err-clause-ran
returns-in-Err-clause-ran g c = no_run (image_at g.S.Start) _ None c.in-Err.ensures.unset
