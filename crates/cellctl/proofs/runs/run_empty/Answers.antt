use Rattle.std.proofs.Common.{sym, ◌∙◌}
use Rattle.sqlite.specs.Held.{state}
use Rattle.cellctl.proofs.News.{ran_anew}
use Rattle.cellctl.proofs.runs.run_empty.Goals as goal

pub returns-clause-ran : goal.returns-clause-ran
returns-clause-ran g c clean none =
    ran_anew c.args.settings.now (state g.S.Store c.args.conn) (g.I.Read.remaining c.args.script.reader) (g.W.Write.contents c.args.writer.now) (g.W.Write.contents c.script_on-ended.new.writer)
    c.script_on-ended.result c.in-Ok.records c.close.result c.new-world.result c.script_on-ended.new.world
    (record { fresh = record { cell = c.in-Ok.ensures.cell; left = c.in-Ok.ensures.left; none = c.in-Ok.ensures.counted }; doubted = c.in-Ok.ensures.doubted; adopts = c.in-Ok.ensures.rows })
    none c.new-world.ensures c.close.ensures c.script_on-ended.ensures.sure (sym c.release-conn.ensures.doubted ∙ clean c.release-conn.result.store)
