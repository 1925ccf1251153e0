use Rattle.sqlite.specs.Held.{state}
use Rattle.rows_sql.proofs.WriteSteps.{ok_then}
use Rattle.rows_sql.proofs.Creates.{stays_then, clean_before}
use Rattle.rows_sql.proofs.writing.creation.make_tables.Goals as goal

pub returns-clause-ok : goal.returns-clause-ok
returns-clause-ok g c clean =
    let mid = state g.S.Store c.make_four.new.tx.conn.now in
    let last = state g.S.Store c.make_view.new.tx.conn.now in
    let first = c.in_ok-make_four.ensures.ok (clean_before mid last c.make_view.ensures.stays clean) in
    ok_then c.make_view.result (λ second none. second (first none).0) (c.make_view.ensures.ok clean)

pub returns-clause-stays : goal.returns-clause-stays
returns-clause-stays g c =
    stays_then (state g.S.Store c.args.tx.now.conn.now) (state g.S.Store c.make_four.new.tx.conn.now) (state g.S.Store c.make_view.new.tx.conn.now) c.make_four.ensures.stays c.make_view.ensures.stays
