use Rattle.std.specs.BTreeMap.{is_at}
use Rattle.lock_core.specs.Claimants.{by_client}
use Rattle.lock_core.proofs.Listed.{AreFound}
use Rattle.lock_core.proofs.claimants.add_noted.Given as goal

abbrev pub invariant-loop-entry : goal.invariant-loop-entry
invariant-loop-entry l = AreFound (λ i e. is_at (by_client (l.client, i)) e) l.fn.found.keys l.found.keys l.entry-iterator l.own.keys
