-- What the limits of a cell leave of it over whole runs.
use Rattle.std.specs.Prelude.{◌≡◌, ℕ, ◌==◌, Bool, ◌&&◌, length}
use Rattle.std.specs.Option.{option_map_or}
use Rattle.std.specs.List.{count_by}
use Rattle.node_core.specs.Room.{content_bytes}
use Rattle.rows_cell.specs.declared.keys.LockKey.{LockKey}
use Rattle.rows_cell.specs.declared.tables.LockRow.{LockRow}
use Rattle.rows_cell.specs.declared.tables.Rows.{Rows}
use Rattle.rows_cell.specs.LockRows.{is_holding}
use Rattle.rows_cell.specs.Rows.{map_of}
use Rattle.lock_core.specs.Counted.{claim_count}
use Rattle.cell_core.specs.Room.{IsWithin}
use Rattle.world_steps.specs.World.{WorldState}

-- by this row a handle of the client holds a lock
abbrev pub is_held_by : ℕ → LockKey × LockRow → Bool
is_held_by client entry = is_holding entry.1.state && entry.0.client == client

abbrev pub locks_in : ℕ → Rows → ℕ
locks_in client rows = count_by (is_held_by client) rows.locks

-- how many locks a client holds or waits for, by the master that is up; while none is, nobody waits, and the rows say who holds
abbrev pub locks_of_client : ℕ → WorldState → ℕ
locks_of_client client w = option_map_or (λ master. claim_count client master.locks) w.master (locks_in client w.rows)

-- of nodes, of bytes of contents, and of each client's locks there are no more than the limits allow, or no more than before
pub record StaysWithinLimits (old new : WorldState) : Type 0 where
  pub terms : new.terms ≡ old.terms
  pub nodes : IsWithin old.terms.limits.max_nodes (length (map_of old.rows)) (length (map_of new.rows))
  pub bytes : IsWithin old.terms.limits.max_bytes (content_bytes (map_of old.rows)) (content_bytes (map_of new.rows))
  pub locks : (client : ℕ) → IsWithin old.terms.limits.max_locks (locks_of_client client old) (locks_of_client client new)
