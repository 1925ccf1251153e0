use Rattle.std.proofs.Common.{◌≡◌, ◌++◌, drop}
use Rattle.std.specs.Prelude.{map}
use Rattle.master_state.specs.Partings.{right_line}
use Rattle.master_state.proofs.lapses.rights_lines.Given as goal

abbrev pub invariant-loop-number : goal.invariant-loop-number
invariant-loop-number l = l.printed ++ map (right_line l.parting) (drop l.number-index l.numbers) ≡ map (right_line l.parting) l.numbers
