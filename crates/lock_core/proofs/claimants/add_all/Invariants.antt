use Rattle.std.specs.BTreeMap.{is_at}
use Rattle.std.specs.Ordering.{nat_cmp}
use Rattle.lock_core.proofs.Listed.{AreFound}
use Rattle.lock_core.proofs.claimants.add_all.Given as goal

abbrev pub invariant-loop-instance : goal.invariant-loop-instance
invariant-loop-instance l = AreFound (λ i k. is_at (nat_cmp i) k) l.fn.found.keys l.found.keys l.instance-iterator l.instances.keys
