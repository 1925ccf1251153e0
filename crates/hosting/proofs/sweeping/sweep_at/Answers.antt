use Rattle.std.proofs.Common.{refl, sym, ◌∙◌}
use Rattle.over_core.proofs.SweepSteps.{tidied_first}
use Rattle.hosting.proofs.HeldKept.{tidied_nothing}
use Rattle.hosting.proofs.sweeping.sweep_at.Goals as goal

pub returns-in_ok-tidy-in-Tidy-clause-ok : goal.returns-in_ok-tidy-in-Tidy-clause-ok
returns-in_ok-tidy-in-Tidy-clause-ok c = tidied_first c.args.cell.now _ c.in-Tidy.idle _ (sym c.in-Tidy.is ∙ c.in_ok-action.ensures) c.in_ok-tidy-in-Tidy.ensures.ok c.in_ok-tidy-in-Tidy.ensures.nothing

pub returns-in_ok-tidy-in-Tidy-clause-held : goal.returns-in_ok-tidy-in-Tidy-clause-held
returns-in_ok-tidy-in-Tidy-clause-held c = tidied_nothing c.args.cell.now c.in-Tidy.idle _ _ (sym c.in-Tidy.is ∙ c.in_ok-action.ensures) refl
