use Rattle.std.proofs.Common.{subst}
use Rattle.output.specs.Fronts.{AppendsFront}
use Rattle.scripts.specs.Scripts.{lines_text}
use Rattle.scripts.specs.Settling.{played}
use Rattle.scripts.proofs.Doings.{turn_refused}
use Rattle.scripts.proofs.RunsOf.{turn_made, turn_unmade, exit_unwritten}
use Rattle.scripts.proofs.scripts.settle_on.Goals as goal

pub returns-in_err-write_lines-in-Ok : goal.returns-in_err-write_lines-in-Ok
returns-in_err-write_lines-in-Ok g c =
    exit_unwritten _ _ (g.W.Write.contents c.args.output.now) (g.W.Write.contents c.write_lines.new.output) c.from_residual.result c.in_err-write_lines-in-Ok.field-0.0 c.in-Ok.turn.lines c.from_residual.ensures
    (c.in_err-write_lines-in-Ok.ensures.0, subst (λ lines. AppendsFront (g.W.Write.contents c.args.output.now) (g.W.Write.contents c.write_lines.new.output) (lines_text lines)) c.as_slice.ensures c.in_err-write_lines-in-Ok.ensures.1)
    (turn_made (played c.args.world.now c.args.delivered.now) _ _ c.in-Ok.ensures.made)

pub returns-in_err-write_refusal-in-Err : goal.returns-in_err-write_refusal-in-Err
returns-in_err-write_refusal-in-Err g c =
    exit_unwritten _ _ _ _ c.from_residual-in_err-write_refusal-in-Err.result c.in_err-write_refusal-in-Err.field-0.0 _ c.from_residual-in_err-write_refusal-in-Err.ensures c.in_err-write_refusal-in-Err.ensures
    (turn_unmade (played c.args.world.now c.args.delivered.now) _ _ c.in-Err.ensures.refused)

pub returns-in_ok-write_refusal-in-Err : goal.returns-in_ok-write_refusal-in-Err
returns-in_ok-write_refusal-in-Err g c = turn_refused _ _ _ _ _ c.in-Err.ensures.refused c.in_ok-write_refusal-in-Err.ensures
