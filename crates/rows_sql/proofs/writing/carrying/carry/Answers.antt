use Rattle.sqlite.specs.Held.{state}
use Rattle.rows_sql.proofs.WriteSteps.{ok_then}
use Rattle.rows_sql.proofs.Creates.{stays_then, clean_before}
use Rattle.rows_sql.proofs.Carried.{carries}
use Rattle.rows_sql.proofs.writing.carrying.carry.Goals as goal

pub returns-clause-ok : goal.returns-clause-ok
returns-clause-ok g c clean =
    let old = state g.S.Store c.args.tx.now.conn.now in
    let four = state g.S.Store c.leave_four.new.tx.conn.now in
    let mid = state g.S.Store c.make_view.new.tx.conn.now in
    let last = state g.S.Store c.set_version.new.tx.conn.now in
    let before = clean_before mid last c.set_version.ensures.stays clean in
    let left = c.in_ok-leave_four.ensures.ok (clean_before four mid c.make_view.ensures.stays before) in
    let view = c.in_ok-make_view.ensures.adds before in
    ok_then c.set_version.result (carries c.args.version c.args.epoch old four mid last left view) (c.set_version.ensures.ok clean)

pub returns-clause-stays : goal.returns-clause-stays
returns-clause-stays g c =
    let old = state g.S.Store c.args.tx.now.conn.now in
    let four = state g.S.Store c.leave_four.new.tx.conn.now in
    let mid = state g.S.Store c.make_view.new.tx.conn.now in
    let last = state g.S.Store c.set_version.new.tx.conn.now in
    stays_then old mid last (stays_then old four mid c.leave_four.ensures.stays c.make_view.ensures.stays) c.set_version.ensures.stays

pub returns-in_err-make_view-clause-stays : goal.returns-in_err-make_view-clause-stays
returns-in_err-make_view-clause-stays g c =
    stays_then (state g.S.Store c.args.tx.now.conn.now) (state g.S.Store c.leave_four.new.tx.conn.now) (state g.S.Store c.make_view.new.tx.conn.now) c.leave_four.ensures.stays c.make_view.ensures.stays
