use Rattle.std.proofs.Common.{refl, sym, ◌∙◌}
use Rattle.hosting.proofs.Sweeps.{behind_shut, behind_open}
use Rattle.hosting.proofs.settling.beats_behind.Goals as goal

pub returns-then-is_shut : goal.returns-then-is_shut
returns-then-is_shut g c = behind_shut _ _ _ _ _ (sym c.is_shut.ensures ∙ c.if-is_shut.true) c.answer_beats.ensures

pub returns-else-is_shut : goal.returns-else-is_shut
returns-else-is_shut g c = behind_open _ _ _ _ _ (sym c.is_shut.ensures ∙ c.if-is_shut.false) c.no_beats.ensures refl
