use Rattle.sqlite.specs.Held.{state}
use Rattle.rows_sql.specs.Creation.{StaysInside}
use Rattle.rows_sql.proofs.WriteSteps.{ok_then}
use Rattle.rows_sql.proofs.Creates.{stays_then, clean_before}
use Rattle.rows_sql.proofs.Made.{opens_made}
use Rattle.rows_sql.proofs.writing.creation.fill.Goals as goal

pub returns-clause-ok : goal.returns-clause-ok
returns-clause-ok g c clean =
    let old = state g.S.Store c.args.tx.now.conn.now in
    let mid = state g.S.Store c.make_bare.new.tx.conn.now in
    let last = state g.S.Store c.edit_all.new.tx.conn.now in
    let stays : StaysInside mid last = record { kept = c.edit_all.ensures.kept; survives = c.edit_all.ensures.survives } in
    let first = c.in_ok-make_bare.ensures.ok (clean_before mid last stays clean) in
    ok_then c.edit_all.result (opens_made c.args.settings.now c.args.nodes.now old mid last c.requires first) (c.edit_all.ensures.ok clean)

pub returns-clause-stays : goal.returns-clause-stays
returns-clause-stays g c =
    let mid = state g.S.Store c.make_bare.new.tx.conn.now in
    let last = state g.S.Store c.edit_all.new.tx.conn.now in
    let stays : StaysInside mid last = record { kept = c.edit_all.ensures.kept; survives = c.edit_all.ensures.survives } in
    stays_then (state g.S.Store c.args.tx.now.conn.now) mid last c.make_bare.ensures.stays stays
