use Rattle.std.proofs.Common.{◌≡◌, ◌++◌, drop, map}
use Rattle.rows_cell.specs.declared.tables.Edit.TheVariants.{RemoveLock}
use Rattle.rows_cell.specs.LockRows.{gone_keys}
use Rattle.master_parts.proofs.rows.gone_edits.Given as goal

abbrev pub invariant-loop-key : goal.invariant-loop-key
invariant-loop-key l = l.edits ++ map RemoveLock (gone_keys (drop l.key-index l.old) l.new) ≡ map RemoveLock (gone_keys l.old l.new)
