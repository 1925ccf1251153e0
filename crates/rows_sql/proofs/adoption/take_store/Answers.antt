use Rattle.rows_sql.proofs.Adoptions.{taken_if_ok, left_store, left_by_any}
use Rattle.rows_sql.proofs.adoption.take_store.Goals as goal

pub returns-clause-ok : goal.returns-clause-ok
returns-clause-ok g c =
    taken_if_ok g.S.Store c.args.settings.now c.args.conn.now c.load_said.new.conn c.requires.anew c.load_said.ensures.quiet c.requires.ours c.load_said.result c.load_said.ensures.rows c.load_said.ensures.ready

pub returns-clause-err : goal.returns-clause-err
returns-clause-err g c =
    left_by_any c.load_said.result _ (left_store g.S.Store c.args.settings.now c.args.conn.now c.load_said.new.conn c.requires.anew c.load_said.ensures.quiet c.requires.ours)
