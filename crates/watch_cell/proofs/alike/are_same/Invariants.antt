use Rattle.std.proofs.Common.{◌≡◌, take}
use Rattle.watch_cell.proofs.alike.are_same.Given as goal

abbrev pub invariant-loop-i : goal.invariant-loop-i
invariant-loop-i g l = take l.i l.some ≡ take l.i l.others
