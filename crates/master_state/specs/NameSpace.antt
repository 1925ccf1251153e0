-- What calls are answered by and applied to: the name space of a cell, and who calls.
use Rattle.std.specs.Prelude.{ℕ, List, Option}
use Rattle.std.specs.Option.{option_map}
use Rattle.node_core.specs.Nodes.{Nodes}
use Rattle.rows_cell.specs.declared.settings.Limits.{Limits}
use Rattle.session_core.specs.Sessions.{session_of}
use Rattle.lock_core.specs.Locks.{LockTable}
use Rattle.master_state.specs.State.{MasterState}

-- name: the cell's. secret and epoch: what check digits are made over, and the master's number, which its handles carry. next_instance: that of the next node. limits: what the cell holds at most. nodes:
-- the map. locks: by instance
pub record NameSpace : Type 0 where
  pub name : List ℕ
  pub secret : List ℕ
  pub epoch : ℕ
  pub next_instance : ℕ
  pub limits : Limits
  pub nodes : Nodes
  pub locks : LockTable

-- a client, and the principal of its session, if it has one
pub record Caller : Type 0 where
  pub client : ℕ
  pub principal : Option (List ℕ)

abbrev pub name_space : MasterState → NameSpace
name_space s = record { name = s.name; secret = s.secret; epoch = s.epoch; next_instance = s.next_instance; limits = s.limits; nodes = s.nodes; locks = s.locks }

abbrev pub caller : MasterState → ℕ → Caller
caller s client = record { client = client; principal = option_map (λ session. session.principal) (session_of s.sessions client) }
