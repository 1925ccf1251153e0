use Rattle.std.proofs.Common.{◌≡◌, drop}
use Rattle.client_core.specs.PartOps.{with_flushes}
use Rattle.client_core.proofs.parts.ops.with_flushes.Given as goal

-- to flush what is left comes to the same as to flush all of it
abbrev pub invariant-loop-next : goal.invariant-loop-next
invariant-loop-next l = with_flushes l.processed l.ops.items (drop l.next-index l.invalidations) ≡ with_flushes l.fn.processed l.fn.ops.items l.fn.invalidations
