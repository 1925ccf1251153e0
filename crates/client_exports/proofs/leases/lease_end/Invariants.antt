use Rattle.std.proofs.Common.{◌-◌}
use Rattle.client_exports.proofs.Lasting.{Between}
use Rattle.client_exports.proofs.leases.lease_end.Given as goal

abbrev pub invariant-loop-low : goal.invariant-loop-low
invariant-loop-low l = Between l.cache.lease l.low l.high

abbrev pub decreases-loop-low : goal.decreases-loop-low
decreases-loop-low l = l.high - l.low
