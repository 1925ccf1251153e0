use Rattle.std.proofs.Common.{◌≡◌}
use Rattle.master_parts.specs.Ephemerals.{first_idle}
use Rattle.master_parts.proofs.ephemerals.first_among.Given as goal

abbrev pub invariant-loop-name : goal.invariant-loop-name
invariant-loop-name l = first_idle l.tables l.name-iterator ≡ first_idle l.tables l.names
