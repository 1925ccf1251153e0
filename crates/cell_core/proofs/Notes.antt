-- A master that has noted something of a handle.
use Rattle.std.proofs.Common.{◌≡◌, Some, refl}
use Rattle.std.specs.BTreeMap.{insert_entry}
use Rattle.master_parts.specs.declared.handles.HandleKey.{HandleKey}
use Rattle.master_parts.specs.declared.handles.HandleState.{HandleState}
use Rattle.master_parts.specs.Keys.{handle_order}
use Rattle.master_parts.specs.State.{TableState}
use Rattle.master_state.specs.State.{MasterState, tables_of}
use Rattle.master_state.specs.Updates.{with_note}

-- a master with these tables
abbrev pub over : MasterState → TableState → MasterState
over s tables = record s { nodes = tables.nodes; sessions = tables.sessions; handles = tables.handles; rights = tables.queue.rights; gate = tables.queue.gate }

-- with one more of its handles' states it is the master with the note
pub noted : (before s : MasterState) (tables : TableState) (key : HandleKey) (state : HandleState) → before ≡ s → tables ≡ record (tables_of before) { handles = insert_entry handle_order before.handles key state } → over before tables ≡ with_note s (Some (record { key = key; state = Some state }))
noted before s tables key state same put = rw (← same, put) refl
