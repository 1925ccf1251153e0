use Rattle.std.proofs.Common.{sym, subst}
use Rattle.std.specs.Prelude.{IfOk}
use Rattle.sqlite_wal.specs.Files.{image_at}
use Rattle.cellctl.specs.Anew.{EndsRun}
use Rattle.cellctl.proofs.stores.run_in.Goals as goal

pub returns-in-Some-clause-ran : goal.returns-in-Some-clause-ran
returns-in-Some-clause-ran g c =
    subst (λ path. IfOk c.run_at.result (λ status. EndsRun c.args.chosen.now.settings (image_at g.S.Start) path (g.I.Read.remaining c.args.script.reader) status (g.W.Write.contents c.args.writer.now) (g.W.Write.contents c.run_at.new.writer)))
    (sym c.in-Some.is) c.run_at.ensures.ran

pub returns-in-None-clause-ran : goal.returns-in-None-clause-ran
returns-in-None-clause-ran g c =
    subst (λ path. EndsRun c.args.chosen.now.settings (image_at g.S.Start) path (g.I.Read.remaining c.args.script.reader) c.run_in_memory.result (g.W.Write.contents c.args.writer.now) (g.W.Write.contents c.run_in_memory.new.writer)) (sym c.in-None.is)
    c.run_in_memory.ensures.ran
