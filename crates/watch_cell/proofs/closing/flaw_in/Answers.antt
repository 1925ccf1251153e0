use Rattle.std.proofs.Common.{◌+◌, length, max, Some, sym, ap, ◌∙◌, subst}
use Rattle.watch_cell.specs.Closing.{lower_of, IsPlace}
use Rattle.watch_cell.proofs.Flaws.{flaw_step, top_step}
use Rattle.watch_cell.proofs.closing.flaw_in.Goals as goal
use Rattle.watch_cell.proofs.closing.flaw_in.Goals.{then-not-is_sound, else-not-is_sound}

pub loop-receipt-preserved : goal.loop-receipt-preserved
loop-receipt-preserved c = record {
  top = c.max-top.ensures ∙ ap (λ p. max c.loop-receipt.top (p + 1)) c.place-place.ensures.place ∙ top_step c.args.receipts.now c.loop-receipt.receipt-index c.receipt-item.result c.loop-receipt.top c.loop-receipt-test.true c.receipt-item.is c.loop-receipt.invariant.top;
  low = λ all marked. flaw_step c.args.trail.now all c.args.receipts.now c.loop-receipt.receipt-index c.receipt-item.result c.loop-receipt.top c.loop-receipt.lowest c.if-not-is_sound.lowest c.is_sound.result c.loop-receipt-test.true c.receipt-item.is c.loop-receipt.invariant.top (c.is_sound.ensures all marked)
      (elim c.if-not-is_sound.branch [ then-not-is_sound w ↦ rw w.if-not-is_sound.true (w.lowest-is ∙ w.lower-lowest.ensures.lower ∙ ap (λ p. lower_of c.loop-receipt.lowest (Some p)) c.place-place.ensures.place) | else-not-is_sound w ↦ rw w.if-not-is_sound.false w.lowest-is ])
      (c.loop-receipt.invariant.low all marked);
  place = elim c.if-not-is_sound.branch [
    | then-not-is_sound w ↦ subst IsPlace (sym w.lowest-is) (w.lower-lowest.ensures.place c.loop-receipt.invariant.place c.place-place.ensures.below)
    | else-not-is_sound w ↦ subst IsPlace (sym w.lowest-is) c.loop-receipt.invariant.place
  ];
}
