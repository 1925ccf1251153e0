-- What the limits of a cell leave of it.
use Rattle.std.specs.Prelude.{ℕ, List}
use Rattle.master_state.specs.State.{MasterState, master_of}
use Rattle.over_core.specs.Within.{StaysWithin}
use Rattle.master_laws.specs.Closed.{MasterStep}
use Rattle.master_laws.specs.Waits.{HasComeUp}

-- whatever steps a master made since it came up, of nodes, of bytes and of each client's locks there are no more than the limits allow, or no more than when it came up
abbrev pub CellsStayWithin : Type 0
CellsStayWithin =
    (lease up : ℕ) (steps : List MasterStep) (s : MasterState) (h : HasComeUp lease up steps s) → StaysWithin (master_of h.rows (record { lease = lease; limits = h.limits }) up) s
