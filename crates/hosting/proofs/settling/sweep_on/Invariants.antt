use Rattle.std.proofs.Common.{◌≡◌, length}
use Rattle.hosting.specs.Serving.{SweepsOnce}
use Rattle.hosting.proofs.Sweeps.{Going}
use Rattle.hosting.proofs.settling.sweep_on.Given as goal

abbrev pub invariant-loop-done : goal.invariant-loop-done
invariant-loop-done g l = record {
  going : Going (SweepsOnce l.now) l.fn.cell l.sweeps.items l.cell;
  counted : length l.sweeps.items ≡ l._done;
}
