use Rattle.output.proofs.Parts.{on_err, line_whole, line_stops, line_unended}
use Rattle.output.proofs.shown.write_line.Goals as goal

pub returns-in_err-write_shown-clause-front : goal.returns-in_err-write_shown-clause-front
returns-in_err-write_shown-clause-front g c = on_err c.from_residual.result (line_stops (g.D.Display.output c.args.value.now) _ _ c.in_err-write_shown.ensures.front)

pub returns-clause-all : goal.returns-clause-all
returns-clause-all g c = line_whole c.write_whole.result (g.D.Display.output c.args.value.now) _ _ _ c.in_ok-write_shown.ensures.all c.write_whole.ensures.all

pub returns-clause-front : goal.returns-clause-front
returns-clause-front g c = line_unended c.write_whole.result (g.D.Display.output c.args.value.now) _ _ _ c.in_ok-write_shown.ensures.all c.write_whole.ensures.front
