-- What a master is.
use Rattle.std.specs.Prelude.{ℕ, Bool, not, List, [], Option}
use Rattle.std.specs.Option.{option_map}
use Rattle.node_core.specs.Nodes.{Nodes}
use Rattle.rows_cell.specs.declared.settings.Limits.{Limits}
use Rattle.rows_cell.specs.declared.settings.MasterTerms.{MasterTerms}
use Rattle.rows_cell.specs.declared.tables.Rows.{Rows}
use Rattle.rows_cell.specs.Rows.{map_of}
use Rattle.rights_core.specs.declared.cache_rights.CacheRight.{CacheRight}
use Rattle.gate_core.specs.declared.pending.Waiting.{Waiting}
use Rattle.gate_core.specs.Gate.{GateState, change_at, ready}
use Rattle.session_core.specs.Sessions.{SessionTable, all_heard}
use Rattle.tags_cell.specs.declared.messages.outs.Reply.{Reply}
use Rattle.lock_core.specs.Locks.{LockTable}
use Rattle.master_parts.specs.declared.pending.Task.{Task}
use Rattle.master_parts.specs.declared.handles.HandleKey.{HandleKey}
use Rattle.master_parts.specs.declared.handles.HandleState.{HandleState}
use Rattle.master_parts.specs.Locks.{locks_of}
use Rattle.master_parts.specs.State.{TableState}
use Rattle.master_parts.specs.StoredSessions.{sessions_of}
use Rattle.master_state.specs.Departed.{departed_in}

-- name: the cell's. secret: what check digits are made over. limits: what the cell holds at most. nodes: the map. locks: by instance. sessions: also those
-- that have ended, each with the last call of its client and the reply to it. departed: the clients of those that have ended, the first to end first. ended_below: a client number below it that has no session gets none any more. recovering: some session of an earlier master has neither been heard from nor expired. handles: those of
-- sessions that live that were opened in this epoch or shown, and are open; and of those that were shown, the ones that were closed then. rights: those to cache a name that it granted in this epoch, in order of granting, those that have ended included. gate: the changes that wait, in order of their coming. clock: the last moment that the master was told. serving_from: the moment at which its recovery ended, or at which it came up without one
pub record MasterState : Type 0 where
  pub name : List ℕ
  pub secret : List ℕ
  pub epoch : ℕ
  pub next_instance : ℕ
  pub limits : Limits
  pub nodes : Nodes
  pub locks : LockTable
  pub sessions : SessionTable Reply
  pub departed : List ℕ
  pub ended_below : ℕ
  pub recovering : Bool
  pub handles : List (HandleKey × HandleState)
  pub rights : List CacheRight
  pub gate : GateState Task
  pub clock : ℕ
  pub serving_from : ℕ

-- its tables
abbrev pub tables_of : MasterState → TableState
tables_of s = record { nodes = s.nodes; handles = s.handles; sessions = s.sessions; queue = record { rights = s.rights; gate = s.gate } }

-- ---- the changes that wait

-- the number of the first that no right holds up
abbrev pub next_change : MasterState → Option ℕ
next_change s = ready s.rights s.gate.waiting

-- what the change of a number does
abbrev pub task_at : ℕ → List (Waiting Task) → Option Task
task_at number waiting = option_map (λ change. change.body) (change_at number waiting)

-- ---- a master that comes up

-- a master that comes up with these rows: nothing waits, no right is held, and it knows of no call and of no handle. It is in recovery where a session of the rows is live
abbrev pub master_of : Rows → MasterTerms → ℕ → MasterState
master_of rows terms now = record {
  name = rows.cell;
  secret = rows.secret;
  epoch = rows.epoch;
  next_instance = rows.next_instance;
  limits = terms.limits;
  nodes = map_of rows;
  locks = locks_of rows now;
  sessions = sessions_of rows terms.lease now;
  departed = departed_in rows.sessions;
  ended_below = rows.ended_below;
  recovering = not (all_heard (sessions_of rows terms.lease now));
  handles = [];
  rights = [];
  gate = record { waiting = []; pushed = 0 };
  clock = now;
  serving_from = now;
}
