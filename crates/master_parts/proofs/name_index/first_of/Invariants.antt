use Rattle.std.proofs.Common.{◌≡◌}
use Rattle.master_parts.specs.NameIndex.{name_of}
use Rattle.master_parts.proofs.name_index.first_of.Given as goal

abbrev pub invariant-loop-name : goal.invariant-loop-name
invariant-loop-name l = name_of l.name-iterator l.instance ≡ name_of l.map l.instance
