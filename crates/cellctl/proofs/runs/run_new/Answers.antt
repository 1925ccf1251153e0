use Rattle.sqlite.specs.Held.{state}
use Rattle.sqlite.specs.Steps.{over_memory}
use Rattle.cellctl.specs.Anew.{RanAnew}
use Rattle.cellctl.proofs.News.{none_of, memory_is_clean, sure_of}
use Rattle.cellctl.proofs.runs.run_new.Goals as goal

pub returns-in-Ok-clause-ran : goal.returns-in-Ok-clause-ran
returns-in-Ok-clause-ran g c =
    sure_of _ _ (λ status. RanAnew c.args.settings.now (g.I.Read.remaining c.args.script.reader) status (g.W.Write.contents c.args.writer.now) (g.W.Write.contents c.run_empty.new.writer)) c.run_empty.result
    memory_is_clean (none_of (state over_memory c.in-Ok.conn) c.in-Ok.ensures.empty) c.run_empty.ensures.ran
