use Rattle.std.proofs.Common.{ap, sym, get_or, ◌∙◌}
use Rattle.std.specs.Option.{is_some}
use Rattle.rows_cell.specs.declared.keys.LockKey.{LockKey}
use Rattle.rows_cell.specs.declared.tables.LockRow.{LockRow}
use Rattle.rows_cell.specs.declared.tables.LockState.TheVariants.{Lapsed}
use Rattle.master_parts.proofs.Appended.{gone_more, gone_put, gone_left}
use Rattle.master_parts.proofs.rows.gone_edits.Goals.{then-is_none+in_ok-push, else-is_none}
use Rattle.master_parts.proofs.rows.gone_edits.Goals as goal

pub loop-key-preserved : goal.loop-key-preserved
loop-key-preserved c =
    let none : LockKey × LockRow = (record { instance = 0; client = 0; handle = 0 }, record { state = Lapsed; delay = 0 }) in
    let key = (get_or c.args.old.now c.loop-key.key-index none).0 in
    let lacks = ap is_some (sym c.row_of.ensures) ∙ c.is_none.ensures in
    gone_more c.args.old.now c.args.new.now c.loop-key.key-index none c.loop-key-test.true c.loop-key.edits c.if-is_none.edits _
    (elim c.if-is_none.branch [
      | then-is_none+in_ok-push w ↦ gone_put c.args.new.now key _ c.loop-key.edits c.if-is_none.edits lacks w.if-is_none.true (w.edits-is ∙ w.in_ok-push.ensures.ok)
      | else-is_none w ↦ gone_left c.args.new.now key _ c.loop-key.edits c.if-is_none.edits lacks w.if-is_none.false w.edits-is
    ])
    c.loop-key.invariant
