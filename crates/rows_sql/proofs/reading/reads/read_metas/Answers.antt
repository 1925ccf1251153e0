use Rattle.sqlite.specs.Held.{state}
use Rattle.rows_sql.proofs.Meaning.{read_meta_plain}
use Rattle.rows_sql.proofs.ReadLemmas.{on_ok, metas_read}
use Rattle.rows_sql.proofs.reading.reads.read_metas.Goals as goal

pub returns-clause-shown : goal.returns-clause-shown
returns-clause-shown g c version clean ready =
    on_ok c.read_all.result _ _ (λ rows. metas_read version (state g.S.Store c.args.conn.now) (state g.S.Store c.read_all.new.conn) ready.ours rows.items) (c.read_all.ensures.shown clean)

pub returns-clause-quiet : goal.returns-clause-quiet
returns-clause-quiet g c version = c.read_all.ensures.quiet version (read_meta_plain version)

pub returns-clause-ready : goal.returns-clause-ready
returns-clause-ready g c version = c.read_all.ensures.ready version (read_meta_plain version)
