use Rattle.std.proofs.Common.{◌≡◌, [], take}
use Rattle.std.specs.Prelude.{fold}
use Rattle.rights_core.specs.Holds.{with_name}
use Rattle.rights_core.proofs.holdings.Holding.names.Given as goal

abbrev pub invariant-loop-number : goal.invariant-loop-number
invariant-loop-number l = l.names ≡ fold (with_name l.self.rights) [] (take l.number-index l.numbers)
