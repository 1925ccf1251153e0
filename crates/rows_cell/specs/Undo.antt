-- What stood before an edit, and the rows with it put back; rows of locks that go at the end.
use Rattle.std.specs.Prelude.{Bool, true, false, List, [], ◌∷◌, map}
use Rattle.std.specs.Cmp.Lexicographic.{slice_cmp}
use Rattle.std.specs.Ordering.{nat_cmp}
use Rattle.collections.specs.Tables.{with_former}
use Rattle.rows_cell.specs.declared.tables.Rows.{Rows}
use Rattle.rows_cell.specs.declared.tables.Edit.{Edit}
use Rattle.rows_cell.specs.declared.keys.LockKey.{LockKey}
use Rattle.rows_cell.specs.declared.tables.Edit.TheVariants.{RemoveNode, RemoveSession, PutLock, RemoveLock}
use Rattle.rows_cell.specs.declared.undo.FormerRow.{FormerRow}
use Rattle.rows_cell.specs.declared.undo.FormerRow.TheVariants.{OldEpoch, OldInstance, OldGeneration, OldNode, OldSession, OldEnded, OldLock}
use Rattle.rows_cell.specs.Keys.{lock_order}
use Rattle.rows_cell.specs.Rows.{stored_node, at_generation, changed_rows}

-- the rows with it put back
abbrev pub restored : Rows → FormerRow → Rows
restored rows (OldEpoch epoch) = record rows { epoch = epoch }
restored rows (OldInstance next) = record rows { next_instance = next }
restored rows (OldGeneration name generation) = record rows { nodes = at_generation rows.nodes name (stored_node rows.nodes name) generation }
restored rows (OldNode name former) = record rows { nodes = with_former (slice_cmp nat_cmp) rows.nodes name former }
restored rows (OldSession client former) = record rows { sessions = with_former nat_cmp rows.sessions client former }
restored rows (OldEnded next) = record rows { ended_below = next }
restored rows (OldLock key former) = record rows { locks = with_former lock_order rows.locks key former }

-- the rows with all of it put back, the last first
abbrev pub all_restored : Rows → List FormerRow → Rows
all_restored rows [] = rows
all_restored rows (former ∷ formers) = restored (all_restored rows formers) former

-- whether an edit takes away what can't be put back without memory
abbrev pub takes_away : Edit → Bool
takes_away (RemoveNode name) = true
takes_away (RemoveSession client) = true
takes_away (RemoveLock key) = true
takes_away _ = false

-- whether it takes a node away, and its locks, or a session
abbrev pub removes_row : Edit → Bool
removes_row (RemoveNode name) = true
removes_row (RemoveSession client) = true
removes_row _ = false

-- whether an edit is of a lock's row
abbrev pub is_of_locks : Edit → Bool
is_of_locks (PutLock key row) = true
is_of_locks (RemoveLock key) = true
is_of_locks _ = false

-- the keys of the locks' rows that are still to go
abbrev pub LateKeys : Type 0
LateKeys = List (LockKey × Unit {0})

-- the rows once these are gone
abbrev pub settled : Rows → LateKeys → Rows
settled rows late = changed_rows rows (map (λ e. RemoveLock e.0) late)
