use Rattle.std.proofs.Common.{ℕ, List, take}
use Rattle.watch_cell.specs.Closing.{SoundOf, FlawOf, IsLowest, IsPlace}
use Rattle.watch_cell.specs.Marks.{IsMarked}
use Rattle.watch_cell.proofs.closing.flaw_of.Given as goal

abbrev pub invariant-loop-pass : goal.invariant-loop-pass
invariant-loop-pass g l = record { place : IsPlace l.lowest; low : (all : List ℕ) → IsMarked l.marks all → IsLowest (SoundOf l.trail all (take l.pass-index l.passes)) (FlawOf l.trail all (take l.pass-index l.passes)) l.lowest }
