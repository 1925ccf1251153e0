use Rattle.std.proofs.Common.{sym, ◌∙◌}
use Rattle.over_core.proofs.SweepSteps.{tidied_first}
use Rattle.over_core.proofs.sweeps.sweep_at.Goals as goal

pub returns-in_ok-tidy-in-Tidy-clause-ok : goal.returns-in_ok-tidy-in-Tidy-clause-ok
returns-in_ok-tidy-in-Tidy-clause-ok g c = tidied_first c.args.cell.now _ c.in-Tidy.idle _ (sym c.in-Tidy.is ∙ c.in_ok-action.ensures) c.in_ok-tidy-in-Tidy.ensures.ok c.in_ok-tidy-in-Tidy.ensures.nothing
