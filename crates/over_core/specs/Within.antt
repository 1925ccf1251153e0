-- What the limits of a cell leave of a master that goes on.
use Rattle.std.specs.Prelude.{◌≡◌, ℕ, List, length, Ok}
use Rattle.node_core.specs.Room.{content_bytes}
use Rattle.rows_cell.specs.declared.tables.Rows.{Rows}
use Rattle.tags_cell.specs.declared.messages.requests.Request.{Request}
use Rattle.lock_core.specs.Counted.{claim_count}
use Rattle.master_parts.specs.declared.pending.Taken.{Taken}
use Rattle.master_state.specs.State.{MasterState}
use Rattle.cell_core.specs.Room.{IsWithin}
use Rattle.cell_core.specs.Step.{take_step}
use Rattle.over_core.specs.declared.swept.Swept.{Swept}
use Rattle.over_core.specs.Kept.{IsKept}
use Rattle.over_core.specs.Sweep.{sweep_step, beats_step}

-- its limits are those of before, and of what each counts there is no more than it allows, or no more than there was
pub record StaysWithin (s new : MasterState) : Type 0 where
  pub limits : new.limits ≡ s.limits
  pub nodes : IsWithin s.limits.max_nodes (length s.nodes) (length new.nodes)
  pub bytes : IsWithin s.limits.max_bytes (content_bytes s.nodes) (content_bytes new.nodes)
  pub locks : (client : ℕ) → IsWithin s.limits.max_locks (claim_count client s.locks) (claim_count client new.locks)

-- by each message that it takes, by each sweep, and by each Beat that it answers
pub record StepsStayWithin (s : MasterState) : Type 0 where
  pub takes : (new : MasterState) (now : ℕ) (request : Request) (taken : Taken) → take_step s now request ≡ Ok (new, taken) → StaysWithin s new
  pub sweeps : (new : MasterState) (now : ℕ) (swept : Swept) → sweep_step s now ≡ Ok (new, swept) → StaysWithin s new
  pub beats : (new : MasterState) (now : ℕ) (swept : Swept) → beats_step s now ≡ Ok (new, swept) → StaysWithin s new

-- of each master that is kept beside its rows, as each is
abbrev pub MastersStayWithin : Type 0
MastersStayWithin = (cell : List ℕ) (rows : Rows) (s : MasterState) → IsKept cell rows s → StepsStayWithin s
