-- What is noted of a handle.
use Rattle.std.specs.Prelude.{ℕ, List, Some}
use Rattle.tags_cell.specs.declared.handles.Handle.{Handle}
use Rattle.master_parts.specs.declared.handles.HandleNote.{HandleNote}
use Rattle.master_parts.specs.Keys.{key_of}
use Rattle.master_parts.specs.declared.handles.HandleState.TheVariants as states

-- a handle is open, and these are its bytes
abbrev pub open_note : Handle → List ℕ → HandleNote
open_note handle bytes = record { key = key_of handle; state = Some (states.Open (record { handle = handle; bytes = bytes })) }
