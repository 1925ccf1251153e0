use Rattle.std.proofs.Common.{refl}
use Rattle.hosting.specs.Held.{seen}
use Rattle.hosting.proofs.Sweeps.{behind_open}
use Rattle.hosting.proofs.held.settle_held.Goals as goal

pub returns-clause-settles : goal.returns-clause-settles
returns-clause-settles g c = record {
  mid = seen c.sweep_on-round.new.group;
  swept = c.sweep_on-round.ensures.ends;
  answered = behind_open _ _ (seen c.sweep_on-round.new.group) _ _ c.sweep_on-round.ensures.open c.no_beats.ensures refl;
}
