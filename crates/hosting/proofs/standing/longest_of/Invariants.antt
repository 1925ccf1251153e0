use Rattle.std.proofs.Common.{◌≡◌, ◌≤◌, ◌++◌, length, map}
use Rattle.std.specs.Map.{values_of}
use Rattle.hosting.specs.Standing.{delay_of}
use Rattle.hosting.proofs.standing.longest_of.Given as goal

abbrev pub invariant-loop-waiting : goal.invariant-loop-waiting
invariant-loop-waiting l = (l.longest ++ map (delay_of l.master) (values_of l.waiting-iterator) ≡ map (delay_of l.master) l.master.gate.waiting) × (length l.longest ≤ 10)
