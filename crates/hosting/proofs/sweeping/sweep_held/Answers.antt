use Rattle.std.proofs.Common.{ap, ◌∙◌}
use Rattle.over_core.specs.Sweep.{is_over}
use Rattle.over_core.proofs.SweepSteps.{stepped}
use Rattle.hosting.proofs.sweeping.sweep_held.Goals as goal

pub returns-in-Ok-clause-ok : goal.returns-in-Ok-clause-ok
returns-in-Ok-clause-ok g c =
    stepped _ _ _ _ _ _ (c.is_over.ensures ∙ ap (λ s. is_over s c.args.now) c.master.ensures) c.if-is_over.false c.note_moment-before.ensures.moment c.in-Ok.ensures.ok
