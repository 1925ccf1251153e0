use Rattle.sqlite.specs.Held.{state}
use Rattle.rows_sql.proofs.WriteSteps.{ok_then}
use Rattle.rows_sql.proofs.Creates.{stays_then, clean_before}
use Rattle.rows_sql.proofs.Made.{bare_made}
use Rattle.rows_sql.proofs.writing.creation.make_bare.Goals as goal

pub returns-clause-ok : goal.returns-clause-ok
returns-clause-ok g c clean =
    let old = state g.S.Store c.args.tx.now.conn.now in
    let mid = state g.S.Store c.make_tables.new.tx.conn.now in
    let last = state g.S.Store c.put_cell.new.tx.conn.now in
    let first = c.in_ok-make_tables.ensures.ok (clean_before mid last c.put_cell.ensures.stays clean) in
    ok_then c.put_cell.result (bare_made c.args.settings.now old mid last first) (c.put_cell.ensures.ok clean)

pub returns-clause-stays : goal.returns-clause-stays
returns-clause-stays g c =
    stays_then (state g.S.Store c.args.tx.now.conn.now) (state g.S.Store c.make_tables.new.tx.conn.now) (state g.S.Store c.put_cell.new.tx.conn.now) c.make_tables.ensures.stays c.put_cell.ensures.stays
