use Rattle.std.proofs.Common.{subst}
use Rattle.output.specs.Fronts.{AppendsFront}
use Rattle.output.proofs.Parts.{on_err, front_of_part}
use Rattle.output.proofs.shown.write_part.Goals as goal

pub returns-in_err-write_whole-clause-front : goal.returns-in_err-write_whole-clause-front
returns-in_err-write_whole-clause-front g c =
    let front = subst (AppendsFront (g.W.Write.contents c.args.writer.now) (g.W.Write.contents c.write_whole.new.writer)) c.bytes-bytes.ensures c.in_err-write_whole.ensures.front in
    on_err c.from_residual.result (front_of_part (g.D.Display.output c.args.value.now) _ _ c.args.at _ c.in-Ok.ensures front)
