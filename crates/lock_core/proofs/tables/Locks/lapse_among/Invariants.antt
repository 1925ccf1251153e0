use Rattle.std.proofs.Common.{◌≡◌, ◌++◌}
use Rattle.lock_core.specs.Claimants.{lapses_among}
use Rattle.lock_core.proofs.tables.Locks.lapse_among.Given as goal

abbrev pub invariant-loop-instance : goal.invariant-loop-instance
invariant-loop-instance l = l.ended ++ lapses_among l.parting l.self l.client l.now l.instance-iterator ≡ lapses_among l.parting l.self l.client l.now l.instances.keys
