use Rattle.std.proofs.Common.{sym, ap, ◌∙◌}
use Rattle.std.specs.Map.{keys_of}
use Rattle.std.specs.List.Sorted.{IsStrictlySortedBy}
use Rattle.rows_cell.specs.Keys.{lock_order}
use Rattle.rows_cell.specs.Rows.{StoredLocks, edited}
use Rattle.rows_cell.specs.Undo.{LateKeys, settled}
use Rattle.rows_cell.proofs.Settling.{in_lock_order, late_removal, late_put, late_other}
use Rattle.rows_cell.proofs.tables.Rows.edit_late.Goals as goal

pub returns-then-not-is_of_locks-clause-ok : goal.returns-then-not-is_of_locks-clause-ok
returns-then-not-is_of_locks-clause-ok c =
    late_other c.args.self.now c.edit_noted.new.self c.args.late.now c.args.edit.now (sym c.is_of_locks.ensures ∙ c.if-not-is_of_locks.true) c.requires c.in_ok-edit_noted.ensures.ok

pub returns-in_ok-put-in-RemoveLock-clause-ok : goal.returns-in_ok-put-in-RemoveLock-clause-ok
returns-in_ok-put-in-RemoveLock-clause-ok c =
    let P : StoredLocks → Type 0 = λ all. IsStrictlySortedBy lock_order (keys_of all) in
    let sorted : P c.args.self.now.locks = in_lock_order _ _ c.as_map.ensures c.len-locks.ensures.ordered in
    late_removal c.args.self.now c.args.late.now c.put.new.self c.in-RemoveLock.key sorted c.in_ok-put-in-RemoveLock.ensures.ok
    ∙ ap (λ e. edited (settled c.args.self.now c.args.late.now) e) (sym c.in-RemoveLock.is)

pub returns-in_ok-edit_noted-in-PutLock-clause-ok :
    goal.returns-in_ok-edit_noted-in-PutLock-clause-ok
returns-in_ok-edit_noted-in-PutLock-clause-ok c =
    let P : StoredLocks → Type 0 = λ all. IsStrictlySortedBy lock_order (keys_of all) in
    let Q : LateKeys → Type 0 = λ all. IsStrictlySortedBy lock_order (keys_of all) in
    let sorted : P c.args.self.now.locks = in_lock_order _ _ c.as_map.ensures c.len-locks.ensures.ordered in
    let late_sorted : Q c.args.late.now = in_lock_order _ _ c.as_map-2.ensures c.len-late.ensures.ordered in
    late_put c.args.self.now c.edit_noted-in-PutLock.new.self c.args.late.now c.remove.new.self c.in-PutLock.key c.in-PutLock.field-1 sorted late_sorted
    (c.in_ok-edit_noted-in-PutLock.ensures.ok ∙ ap (λ e. edited c.args.self.now e) c.in-PutLock.is)
    c.remove.ensures.removed
    ∙ ap (λ e. edited (settled c.args.self.now c.args.late.now) e) (sym c.in-PutLock.is)
