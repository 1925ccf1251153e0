use Rattle.std.proofs.Common.{◌≡◌, ℕ, List, take}
use Rattle.watch_cell.specs.Closing.{SoundIn, FlawIn, IsLowest, IsPlace, top_after}
use Rattle.watch_cell.specs.Marks.{IsMarked}
use Rattle.watch_cell.proofs.closing.flaw_in.Given as goal

abbrev pub invariant-loop-receipt : goal.invariant-loop-receipt
invariant-loop-receipt l = record {
  top : l.top ≡ top_after 0 (take l.receipt-index l.receipts);
  low : (all : List ℕ) → IsMarked l.marks all → IsLowest (SoundIn l.trail all 0 (take l.receipt-index l.receipts)) (FlawIn l.trail all 0 (take l.receipt-index l.receipts)) l.lowest;
  place : IsPlace l.lowest;
}
