use Rattle.sqlite.specs.Held.{state}
use Rattle.rows_sql.proofs.Meaning.{read_children_plain}
use Rattle.rows_sql.proofs.ReadLemmas.{on_ok, children_read}
use Rattle.rows_sql.proofs.reading.reads.read_children.Goals as goal

pub returns-in-Unindexed-clause-shown : goal.returns-in-Unindexed-clause-shown
returns-in-Unindexed-clause-shown g c clean ready =
    let old = state g.S.Store c.args.conn.now in
    let new = state g.S.Store c.read_all.new.conn in
    on_ok c.read_all.result _ _ (λ rows. children_read c.args.version c.in-Unindexed.is old new ready.ours rows.items) (c.read_all.ensures.shown clean)

pub returns-in-Unindexed-clause-quiet : goal.returns-in-Unindexed-clause-quiet
returns-in-Unindexed-clause-quiet g c = c.read_all.ensures.quiet c.args.version (read_children_plain c.args.version c.in-Unindexed.is)

pub returns-in-Unindexed-clause-ready : goal.returns-in-Unindexed-clause-ready
returns-in-Unindexed-clause-ready g c clean ready is_open = c.read_all.ensures.ready c.args.version (read_children_plain c.args.version c.in-Unindexed.is) clean ready
