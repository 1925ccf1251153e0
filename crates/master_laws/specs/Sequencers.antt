-- The sequencer that a holder of a lock gets.
use Rattle.std.specs.Prelude.{◌≡◌, ℕ, List, Some}
use Rattle.std.specs.Map.{lookup}
use Rattle.std.specs.BTreeMap.{is_at}
use Rattle.rows_cell.specs.declared.tables.LockRow.{LockRow}
use Rattle.rows_cell.specs.declared.tables.Rows.{Rows}
use Rattle.rows_cell.specs.Indexes.{lock_generation_in, locks_at}
use Rattle.rows_cell.specs.Keys.{lock_order}
use Rattle.tags_cell.specs.Handles.{read_handle}
use Rattle.tags_cell.specs.Sequencers.{sequencer_bytes}
use Rattle.tags_cell.specs.declared.handles.Handle.{Handle}
use Rattle.tags_cell.specs.declared.messages.calls.Call.TheVariants as calls
use Rattle.tags_cell.specs.declared.messages.outs.CallResult.TheVariants as results
use Rattle.tags_cell.specs.declared.messages.requests.CallMessage.{CallMessage}
use Rattle.tags_cell.specs.declared.sequencers.Sequencer.{Sequencer}
use Rattle.master_parts.specs.Claims.{owner_of}
use Rattle.master_parts.specs.Locks.{stored_mode, holder_key}
use Rattle.master_parts.specs.declared.pending.Taken.{Taken}
use Rattle.master_state.specs.State.{MasterState}
use Rattle.over_core.specs.Kept.{IsKept}
use Rattle.master_laws.specs.Steps.{TakesCall, IsAnsweredBy}

-- by the rows the handle holds the lock of its node in the sequencer's mode, and the lock has the sequencer's generation
pub record ShowsRows (rows : Rows) (handle : Handle) (sequencer : Sequencer) : Type 0 where
  pub name : sequencer.name ≡ handle.name
  pub instance : sequencer.instance ≡ handle.instance
  pub generation : lock_generation_in rows.nodes handle.instance ≡ Some sequencer.generation
  pub row : LockRow
  pub holds : lookup (is_at (lock_order (holder_key handle.instance (owner_of handle)))) (locks_at rows.locks handle.instance) ≡ Some row
  pub mode : row.state ≡ stored_mode sequencer.mode

-- a GetSequencer that is answered with bytes is answered with those of such a sequencer
abbrev pub SequencersShowTheRows : Type 0
SequencersShowTheRows =
    (cell : List ℕ) (rows : Rows) (s new : MasterState) (now : ℕ) (message : CallMessage) (bytes given : List ℕ) (handle : Handle) (taken : Taken) → IsKept cell rows s → TakesCall s now message new taken
    → message.call ≡ calls.GetSequencer bytes → read_handle s.secret bytes ≡ Some handle → IsAnsweredBy taken message (results.Sequencer given)
    → (sequencer : Sequencer) × (given ≡ sequencer_bytes sequencer) × ShowsRows rows handle sequencer
