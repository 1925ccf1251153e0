use Rattle.std.proofs.Common.{◌≤◌, length, rules}
use Rattle.watch_cell.proofs.Flaws.{of_step, of_end}
use Rattle.watch_cell.proofs.closing.flaw_of.Goals as goal

pub loop-pass-preserved : goal.loop-pass-preserved
loop-pass-preserved g c = record {
  place = c.lower-lowest.ensures.place c.loop-pass.invariant.place c.flaw_in.ensures.place;
  low = λ all marked.
      of_step c.args.trail.now all c.args.passes.now c.loop-pass.pass-index c.pass-item.result c.receipts.result.now c.loop-pass.lowest c.flaw_in.result c.lower-lowest.result c.loop-pass-test.true c.pass-item.is c.receipts.ensures c.lower-lowest.ensures.lower (c.loop-pass.invariant.low all marked) (c.flaw_in.ensures.lowest all marked);
}

pub returns-clause-lowest : goal.returns-clause-lowest
returns-clause-lowest g c = λ all marked.
    let le : length c.args.passes.now ≤ c.loop-pass.pass-index = search rules in
    of_end c.args.trail.now all c.args.passes.now c.loop-pass.pass-index c.loop-pass.lowest le (c.loop-pass.invariant.low all marked)
