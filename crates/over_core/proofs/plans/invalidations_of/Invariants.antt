use Rattle.std.proofs.Common.{◌≡◌, ◌++◌}
use Rattle.std.specs.Prelude.{map}
use Rattle.over_core.specs.Plans.{invalidation_of}
use Rattle.over_core.proofs.plans.invalidations_of.Given as goal

abbrev pub invariant-loop-number : goal.invariant-loop-number
invariant-loop-number l = l.invalidations ++ map invalidation_of l.number-iterator ≡ map invalidation_of l.unacked
