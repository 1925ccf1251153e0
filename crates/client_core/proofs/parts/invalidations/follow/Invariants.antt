use Rattle.std.proofs.Common.{◌≡◌, drop}
use Rattle.client_core.specs.InOrder.{follow}
use Rattle.client_core.specs.Invalidations.{invalidation_numbers}
use Rattle.client_core.proofs.parts.invalidations.follow.Given as goal

-- what is left follows the last one exactly if all of them follow the first
abbrev pub invariant-loop-next : goal.invariant-loop-next
invariant-loop-next l = follow l.last (invalidation_numbers (drop l.next-index l.invalidations)) ≡ follow l.fn.last (invalidation_numbers l.invalidations)
