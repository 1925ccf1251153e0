use Rattle.scripts.proofs.Doings.{wrote_line}
use Rattle.scripts.specs.Settling.{played}
use Rattle.scripts.proofs.RunsOf.{obeyed, exit_unparsed, exit_line}
use Rattle.scripts.proofs.scripts.run_line.Goals as goal

pub returns : goal.returns
returns g c = wrote_line _ _ _ c.line.result.now c.in_ok-parsed.parsed _ _ c.line.ensures c.requires c.in_ok-parsed.ensures (obeyed _ _ _ _ _ _ c.if-not-branch.false c.in_ok-obey.ensures)

pub returns-in_err-obey : goal.returns-in_err-obey
returns-in_err-obey g c =
    exit_line _ _ c.args.lines.now.line c.line.result.now c.args.lines.now.number c.in_ok-parsed.parsed (played c.args.world.now c.args.delivered.now) _ _ _ c.from_residual-in_err-obey.result c.in_err-obey.field-0.0 c.from_residual-in_err-obey.ensures c.line.ensures c.requires c.in_ok-parsed.ensures c.in_err-obey.ensures

pub returns-in_err-parsed : goal.returns-in_err-parsed
returns-in_err-parsed g c = exit_unparsed _ _ _ _ _ c.from_residual.result c.from_residual.ensures
