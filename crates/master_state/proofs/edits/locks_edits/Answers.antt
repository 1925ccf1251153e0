use Rattle.std.proofs.Common.{◌++◌, ap, ◌∙◌}
use Rattle.rows_cell.specs.LockRows.{lock_edits}
use Rattle.master_state.specs.Updates.{lock_change}
use Rattle.master_state.proofs.Appended.{locks_more}
use Rattle.master_state.proofs.edits.locks_edits.Goals as goal

pub loop-put-preserved : goal.loop-put-preserved
loop-put-preserved c =
    let made = c.in_ok-append.ensures.ok ∙ ap (λ es. c.loop-put.edits ++ es) (c.in_ok-lock_edits.ensures ∙ ap (λ put. lock_edits (lock_change c.args.master.now.locks put)) c.put-item.is) in
    locks_more c.args.master.now c.args.puts.now c.loop-put.put-index c.put-item.result c.loop-put-test.true c.loop-put.edits c.append.new.self _ made c.loop-put.invariant
