use Rattle.cellctl.proofs.Commanded.{some_test}
use Rattle.cellctl.proofs.commands.check.Goals as goal

pub returns-in-Ok-clause-tested : goal.returns-in-Ok-clause-tested
returns-in-Ok-clause-tested g c = some_test _ (g.W.Write.contents c.args.output.now) (g.W.Write.contents c.check_store.new.output) c.check_store.result c.check_store.ensures.tested
