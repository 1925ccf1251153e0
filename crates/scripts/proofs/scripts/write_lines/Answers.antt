use Rattle.std.proofs.Common.{arith}
use Rattle.scripts.proofs.Doings.{appends_none, written_more, written_all, exit_written}
use Rattle.scripts.proofs.scripts.write_lines.Goals as goal

pub loop-line-init : goal.loop-line-init
loop-line-init g c = appends_none _

pub loop-line-preserved : goal.loop-line-preserved
loop-line-preserved g c =
    written_more c.args.lines.now c.loop-line.line-index c.line-item.result _ _ _ (omega arith) c.line-item.is c.loop-line.invariant c.in_ok-write_line.ensures

pub returns-in_err-write_line : goal.returns-in_err-write_line
returns-in_err-write_line g c =
    exit_written c.from_residual.result c.in_err-write_line.field-0.0 c.args.lines.now c.loop-line.line-index c.line-item.result _ _ _ c.from_residual.ensures (omega arith) c.line-item.is c.loop-line.invariant c.in_err-write_line.ensures

pub returns : goal.returns
returns g c = written_all c.args.lines.now c.loop-line.line-index _ _ (omega arith) c.loop-line.invariant
