use Rattle.std.proofs.Common.{◌≡◌, length}
use Rattle.hosting.specs.Held.{ground, seen}
use Rattle.hosting.specs.Parted.{PartsSweeps}
use Rattle.hosting.specs.Serving.{SweepsOnce}
use Rattle.hosting.proofs.Sweeps.{Going}
use Rattle.hosting.proofs.held.sweep_on.Given as goal

abbrev pub invariant-loop-done : goal.invariant-loop-done
invariant-loop-done g l = record {
  going : Going (SweepsOnce l.now) (seen l.fn.group) l.sweeps.items (seen l.group);
  counted : length l.sweeps.items ≡ l._done;
  store : ground l.group ≡ ground l.fn.group;
  parted : PartsSweeps l.now l.fn.group l.group;
}
