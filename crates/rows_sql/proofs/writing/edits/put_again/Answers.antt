use Rattle.sqlite.specs.Held.{state}
use Rattle.rows_sql.specs.Creation.{StaysInside}
use Rattle.rows_sql.proofs.WriteSteps.{ok_then}
use Rattle.rows_sql.proofs.Creates.{stays_then, clean_before}
use Rattle.rows_sql.proofs.NodeSteps.{node_put_anew}
use Rattle.rows_sql.proofs.writing.edits.put_again.Goals as goal

pub returns-clause-ok : goal.returns-clause-ok
returns-clause-ok g c clean =
    let old = state g.S.Store c.args.tx.now.conn.now in
    let mid = state g.S.Store c.renew_entry.new.tx.conn.now in
    let last = state g.S.Store c.add_node.new.tx.conn.now in
    let then : StaysInside mid last = record { kept = c.add_node.ensures.kept; survives = c.add_node.ensures.survives } in
    ok_then c.add_node.result (node_put_anew c.args.name.now c.args.node.now _ old mid last c.if-branch.false (c.in_ok-renew_entry.ensures.ok (clean_before mid last then clean))) (c.add_node.ensures.ok clean)

pub returns-clause-kept : goal.returns-clause-kept
returns-clause-kept g c =
    let old = state g.S.Store c.args.tx.now.conn.now in
    let mid = state g.S.Store c.renew_entry.new.tx.conn.now in
    let last = state g.S.Store c.add_node.new.tx.conn.now in
    let first : StaysInside old mid = record { kept = c.renew_entry.ensures.kept; survives = c.renew_entry.ensures.survives } in
    let then : StaysInside mid last = record { kept = c.add_node.ensures.kept; survives = c.add_node.ensures.survives } in
    (stays_then old mid last first then).kept

pub returns-clause-survives : goal.returns-clause-survives
returns-clause-survives g c =
    let old = state g.S.Store c.args.tx.now.conn.now in
    let mid = state g.S.Store c.renew_entry.new.tx.conn.now in
    let last = state g.S.Store c.add_node.new.tx.conn.now in
    let first : StaysInside old mid = record { kept = c.renew_entry.ensures.kept; survives = c.renew_entry.ensures.survives } in
    let then : StaysInside mid last = record { kept = c.add_node.ensures.kept; survives = c.add_node.ensures.survives } in
    (stays_then old mid last first then).survives
