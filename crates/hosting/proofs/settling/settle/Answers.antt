use Rattle.hosting.proofs.settling.settle.Goals as goal

pub returns : goal.returns
returns g c = record { mid = _; swept = c.sweep_on-round.ensures; answered = c.beats_behind-beats.ensures }
