use Rattle.std.proofs.Common.{Ok, refl}
use Rattle.rows_cell.specs.Settings.{standard}
use Rattle.script_runner.proofs.News.{same_settings, runs_new}
use Rattle.script_runner.proofs.run_new.Goals as goal

pub returns-in-Ok-new : goal.returns-in-Ok-new
returns-in-Ok-new g c =
    runs_new _ _ _ _ _ _ c.in-Ok-new.ensures (same_settings standard c.in-Ok.settings (Ok standard) refl c.in-Ok.ensures) (c.script.ensures.sure (λ records. refl))
