use Rattle.sqlite.specs.Held.{state}
use Rattle.rows_sql.proofs.ReadLemmas.{read_rests, read_ready, quiet_from}
use Rattle.rows_sql.proofs.reading.reads.read_all.Goals as goal

pub returns-clause-quiet : goal.returns-clause-quiet
returns-clause-quiet g c version plain =
    quiet_from version g.S.Store c.args.sql.now c.args.conn.now c.query_all.new.self plain c.query_all.ensures.mode c.query_all.ensures.survives
    (λ clean ready. read_rests version c.args.sql.now (state g.S.Store c.args.conn.now) (state g.S.Store c.query_all.new.self) plain ready (λ rows. rows.items) c.query_all.result (c.query_all.ensures.ok clean) (c.query_all.ensures.err clean))

pub returns-clause-ready : goal.returns-clause-ready
returns-clause-ready g c version plain clean ready =
    read_ready version c.args.sql.now (state g.S.Store c.args.conn.now) (state g.S.Store c.query_all.new.self) plain ready (λ rows. rows.items) c.query_all.result (c.query_all.ensures.ok clean)
