use Rattle.sqlite.specs.Held.{state}
use Rattle.rows_sql.specs.Creation.{StaysInside}
use Rattle.rows_sql.proofs.Creates.{stays_then, clean_before}
use Rattle.rows_sql.proofs.NodeSteps.{put_after_refusal}
use Rattle.rows_cell.specs.declared.tables.Edit.TheVariants.{PutNode}
use Rattle.std.proofs.Common.{◌∷◌, []}
use Rattle.rows_sql.proofs.writing.edits.put_first.Goals as goal

pub returns-in-Err-clause-ok : goal.returns-in-Err-clause-ok
returns-in-Err-clause-ok g c clean =
    let old = state g.S.Store c.args.tx.now.conn.now in
    let mid = state g.S.Store c.add_node.new.tx.conn.now in
    let last = state g.S.Store c.put_again.new.tx.conn.now in
    let then : StaysInside mid last = record { kept = c.put_again.ensures.kept; survives = c.put_again.ensures.survives } in
    put_after_refusal (PutNode c.args.name.now c.args.node.now ∷ []) c.put_again.result old mid last (c.in-Err.ensures.err (clean_before mid last then clean)) (c.put_again.ensures.inside clean) (c.put_again.ensures.ok clean)

pub returns-in-Err-clause-kept : goal.returns-in-Err-clause-kept
returns-in-Err-clause-kept g c =
    let old = state g.S.Store c.args.tx.now.conn.now in
    let mid = state g.S.Store c.add_node.new.tx.conn.now in
    let last = state g.S.Store c.put_again.new.tx.conn.now in
    let first : StaysInside old mid = record { kept = c.add_node.ensures.kept; survives = c.add_node.ensures.survives } in
    let then : StaysInside mid last = record { kept = c.put_again.ensures.kept; survives = c.put_again.ensures.survives } in
    (stays_then old mid last first then).kept

pub returns-in-Err-clause-survives : goal.returns-in-Err-clause-survives
returns-in-Err-clause-survives g c =
    let old = state g.S.Store c.args.tx.now.conn.now in
    let mid = state g.S.Store c.add_node.new.tx.conn.now in
    let last = state g.S.Store c.put_again.new.tx.conn.now in
    let first : StaysInside old mid = record { kept = c.add_node.ensures.kept; survives = c.add_node.ensures.survives } in
    let then : StaysInside mid last = record { kept = c.put_again.ensures.kept; survives = c.put_again.ensures.survives } in
    (stays_then old mid last first then).survives
