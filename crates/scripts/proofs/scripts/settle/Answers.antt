use Rattle.scripts.specs.Settling.{played}
use Rattle.scripts.proofs.Doings.{wrote_none, no_turns, more_turns, all_turns}
use Rattle.scripts.proofs.RunsOf.{settles_down, turns_so_far, exit_turn}
use Rattle.scripts.proofs.scripts.settle.Goals as goal

pub returns-then-not-is_up : goal.returns-then-not-is_up
returns-then-not-is_up g c =
    settles_down (played c.args.world.now c.args.delivered.now) c.is_up.result _ _ c.write_refusal.result c.is_up.ensures c.if-not-is_up.true c.write_refusal.ensures

pub loop-init : goal.loop-init
loop-init g c = wrote_none _ _ (no_turns (played c.args.world.now c.args.delivered.now))

pub returns-in_err-settle_on : goal.returns-in_err-settle_on
returns-in_err-settle_on g c =
    exit_turn _ _ c.is_up.result _ _ _ _ _ _ c.from_residual.result c.in_err-settle_on.field-0.0 c.from_residual.ensures c.is_up.ensures c.if-not-is_up.false c.loop.invariant c.in_err-settle_on.ensures

pub returns-then-not-branch : goal.returns-then-not-branch
returns-then-not-branch g c =
    all_turns c.is_up.result _ _ _ _ _ _ _ c.is_up.ensures c.if-not-is_up.false c.if-not-branch.true c.loop.invariant c.in_ok-settle_on.ensures

pub loop-preserved : goal.loop-preserved
loop-preserved g c = more_turns _ _ _ _ _ _ _ c.if-not-branch.false c.loop.invariant c.in_ok-settle_on.ensures

pub returns : goal.returns
returns g c = turns_so_far c.is_up.result _ _ _ _ c.is_up.ensures c.if-not-is_up.false c.loop.invariant
