use Rattle.std.proofs.Common.{◌≡◌, drop}
use Rattle.client_core.specs.Invalidations.{all_flushed}
use Rattle.client_core.proofs.parts.invalidations.flush_all.Given as goal

-- to flush what is left comes to the same as to flush all of it
abbrev pub invariant-loop-next : goal.invariant-loop-next
invariant-loop-next l = (record l.cache { entries = all_flushed l.processed l.cache.entries (drop l.next-index l.invalidations) }) ≡ record l.fn.cache { entries = all_flushed l.fn.processed l.fn.cache.entries l.fn.invalidations }
