use Rattle.std.proofs.Common.{◌≡◌, length}
use Rattle.hosting.specs.Serving.{BeatsOnce}
use Rattle.hosting.proofs.Sweeps.{Going}
use Rattle.hosting.proofs.settling.answer_beats.Given as goal

abbrev pub invariant-loop-done : goal.invariant-loop-done
invariant-loop-done g l = record {
  going : Going (BeatsOnce l.now) l.fn.cell l.beats.items l.cell;
  counted : length l.beats.items ≡ l._done;
}
