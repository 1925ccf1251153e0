use Rattle.cellctl.proofs.Commanded.{some_report}
use Rattle.cellctl.proofs.check.check_store.Goals as goal

pub returns-clause-tested : goal.returns-clause-tested
returns-clause-tested g c = some_report c.args.cell.now c.read_store-read.result (g.W.Write.contents c.args.output.now) (g.W.Write.contents c.report.new.output) c.report.result c.report.ensures.tested
