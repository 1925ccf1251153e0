use Rattle.std.proofs.Common.{refl}
use Rattle.scripts.proofs.Lifts.{plain}
use Rattle.scripts.proofs.Ticks.{own_more, own_at}
use Rattle.scripts.proofs.steps.own_ticks.Goals as goal

pub returns-in_err-own_tick : goal.returns-in_err-own_tick
returns-in_err-own_tick c =
    plain _ c.from_residual.result c.in_err-own_tick.field-0.0 c.from_residual.ensures (own_at c.args.words.now c.loop-word.word-index c.loop-word-test.true) c.in_err-own_tick.ensures

pub loop-word-preserved : goal.loop-word-preserved
loop-word-preserved c =
    own_more c.args.words.now c.loop-word.word-index _ _ _ _ c.loop-word-test.true refl c.loop-word.invariant c.in_ok-own_tick.ensures.0 c.in_ok-push.ensures.ok
