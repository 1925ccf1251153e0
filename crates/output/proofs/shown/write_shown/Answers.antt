use Rattle.std.proofs.Common.{rules}
use Rattle.output.proofs.Parts.{on_err, stops_in_part, stops_behind_part, part_more, stops_so_far}
use Rattle.output.proofs.shown.write_shown.Goals as goal

pub returns-in_err-count-clause-front : goal.returns-in_err-count-clause-front
returns-in_err-count-clause-front g c =
    on_err c.from_residual.result (stops_in_part (g.D.Display.output c.args.value.now) _ _ _ c.loop-turn.at c.loop-turn.invariant c.in_err-count.ensures.front)

pub returns-in_default-clause-front : goal.returns-in_default-clause-front
returns-in_default-clause-front g c = stops_behind_part (g.D.Display.output c.args.value.now) _ _ _ c.loop-turn.at c.in_ok-count.count c.loop-turn.invariant c.in_ok-count.ensures.part

pub loop-turn-preserved : goal.loop-turn-preserved
loop-turn-preserved g c =
    part_more (g.D.Display.output c.args.value.now) _ _ _ c.loop-turn.at c.in_ok-count.count c.in-Some.next (search rules) c.loop-turn.invariant c.in_ok-count.ensures.part

pub returns-clause-front : goal.returns-clause-front
returns-clause-front g c = stops_so_far (g.D.Display.output c.args.value.now) _ _ c.loop-turn.at c.loop-turn.invariant
