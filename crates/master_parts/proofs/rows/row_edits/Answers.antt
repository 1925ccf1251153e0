use Rattle.std.proofs.Common.{sym, get_or, ◌∙◌}
use Rattle.rows_cell.specs.declared.keys.LockKey.{LockKey}
use Rattle.rows_cell.specs.declared.tables.LockRow.{LockRow}
use Rattle.rows_cell.specs.declared.tables.LockState.TheVariants.{Lapsed}
use Rattle.master_parts.proofs.Appended.{put_more, row_put, row_left}
use Rattle.master_parts.proofs.rows.row_edits.Goals.{then-not-has_entry+in_ok-push, else-not-has_entry}
use Rattle.master_parts.proofs.rows.row_edits.Goals as goal

pub loop-key-preserved : goal.loop-key-preserved
loop-key-preserved c =
    let none : LockKey × LockRow = (record { instance = 0; client = 0; handle = 0 }, record { state = Lapsed; delay = 0 }) in
    let entry = get_or c.args.new.now c.loop-key.key-index none in
    put_more c.args.old.now c.args.new.now c.loop-key.key-index none c.loop-key-test.true c.loop-key.edits c.if-not-has_entry.edits _
    (elim c.if-not-has_entry.branch [
      | then-not-has_entry+in_ok-push w ↦
          row_put c.args.old.now entry.0 entry.1 c.loop-key.edits c.if-not-has_entry.edits (sym c.has_entry.ensures ∙ w.if-not-has_entry.true) (w.edits-is ∙ w.in_ok-push.ensures.ok)
      | else-not-has_entry w ↦
          row_left c.args.old.now entry.0 entry.1 c.loop-key.edits c.if-not-has_entry.edits (sym c.has_entry.ensures ∙ w.if-not-has_entry.false) w.edits-is
    ])
    c.loop-key.invariant
