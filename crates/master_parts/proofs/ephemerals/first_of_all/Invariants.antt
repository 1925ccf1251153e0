use Rattle.std.proofs.Common.{◌≡◌}
use Rattle.std.specs.Prelude.{find}
use Rattle.master_parts.specs.Ephemerals.{goes}
use Rattle.master_parts.proofs.ephemerals.first_of_all.Given as goal

abbrev pub invariant-loop-name : goal.invariant-loop-name
invariant-loop-name l = find (goes l.tables) l.name-iterator ≡ find (goes l.tables) l.tables.nodes
