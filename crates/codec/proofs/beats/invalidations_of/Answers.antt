use Rattle.std.proofs.lemmas.Result.{err_from_is_err_and}
use Rattle.codec.specs.Beats.{invalidation}
use Rattle.codec.proofs.Loops.{goes_on, ends, is_done}
use Rattle.codec.proofs.beats.invalidations_of.Goals as goal

pub returns-in_err-item : goal.returns-in_err-item
returns-in_err-item c =
    let p = err_from_is_err_and c.from_residual.result c.from_residual.ensures.1 in
    rw (p.1, p.2) (ends invalidation.read _ c.loop.items.items c.args.count c.loop.counter _ _ c.loop-test.true c.in_err-item.ensures c.loop.invariant)

pub loop-preserved : goal.loop-preserved
loop-preserved c =
    rw c.in_ok-push.ensures.items (goes_on invalidation.read c.loop.items.items c.args.count c.loop.counter _ _ _ _ c.loop-test.true c.in_ok-item.ensures c.loop.invariant)

pub returns : goal.returns
returns c = rw c.from_vec.ensures (is_done invalidation.read c.loop.items.items c.args.count c.loop.counter _ _ c.loop-test.false c.loop.invariant)
