-- What a change needs that its turn may do, so that it fits the locks and the rows.
use Rattle.std.specs.Prelude.{◌≡◌, ℕ, ◌≤◌, List, [], ◌∷◌, ◌++◌, Option, Some, None}
use Rattle.std.specs.List.{sum_by}
use Rattle.node_core.specs.declared.nodes.Node.{Node}
use Rattle.node_core.specs.declared.views.Mod.TheVariants.{Put, Gone}
use Rattle.rows_cell.specs.declared.tables.StoredNode.{StoredNode}
use Rattle.rows_cell.specs.declared.tables.Rows.{Rows}
use Rattle.rows_cell.specs.Rows.{stored_node}
use Rattle.rows_cell.proofs.SoundChanges.{PutFits}
use Rattle.rows_cell.proofs.SoundRemovals.{GoneFits}
use Rattle.lock_core.specs.declared.claims.Claim.{Claim}
use Rattle.lock_core.specs.Locks.{lock_at}
use Rattle.master_state.specs.declared.updates.Change.{Change}
use Rattle.master_state.specs.declared.updates.LockPut.{LockPut}
use Rattle.master_state.specs.State.{MasterState}
use Rattle.cell_core.specs.declared.effects.Effect.{Effect}
use Rattle.cell_core.specs.declared.effects.Leave.{Leave}
use Rattle.cell_core.specs.declared.effects.Locking.{Locking}
use Rattle.cell_core.specs.declared.effects.Locking.TheVariants.{Nothing, Takes, Waits, Leaves, Goes}
use Rattle.over_core.specs.Kept.{claim_count, waits_count}
use Rattle.cell_core.specs.Outcomes.{left_put}
use Rattle.over_core.proofs.LockClaims.{turn_waiters}
use Rattle.over_core.proofs.LockPuts.{IsPut}

-- a node that is put, and no lock with it
pub record PutsFit (rows : Rows) (change : Change) : Type 0 where
  pub name : List ℕ
  pub view : Node
  pub is : change.change ≡ Put name view
  pub fits : PutFits rows name view change.next_instance

-- a node that goes, and its lock with it
pub record GoesFit (rows : Rows) (s : MasterState) (change : Change) (instance : ℕ) (waiters : List Claim) : Type 0 where
  pub name : List ℕ
  pub node : StoredNode
  pub is : change.change ≡ Gone name
  pub found : stored_node rows.nodes name ≡ Some node
  pub of_node : node.node.instance ≡ instance
  pub all : waiters ≡ (lock_at s.locks instance).waiters
  pub fits : GoneFits rows name change.next_instance

-- a lock that somebody gets who didn't wait for it
pub record TakesFit (rows : Rows) (s : MasterState) (put : LockPut) : Type 0 where
  pub is_put : IsPut rows s.locks s.sessions put
  pub same : put.lock.waiters ≡ (lock_at s.locks put.instance).waiters

-- a lock for which the client waits from now on
pub record WaitsFit (rows : Rows) (s : MasterState) (client : ℕ) (put : LockPut) : Type 0 where
  pub is_put : IsPut rows s.locks s.sessions put
  pub claim : Claim
  pub own : claim.owner.client ≡ client
  pub more : put.lock.waiters ≡ (lock_at s.locks put.instance).waiters ++ claim ∷ []

-- a lock that a handle leaves: whoever got it, was turned away, or waits still, has waited for it
pub record LeavesFit (rows : Rows) (s : MasterState) (leave : Leave) : Type 0 where
  pub is_put : IsPut rows s.locks s.sessions (left_put leave)
  pub waited : (q : ℕ) → sum_by (claim_count q) (turn_waiters leave.turn) ≤ waits_count q (lock_at s.locks leave.instance)

-- what becomes of the map and of a lock
abbrev pub ApplicationFits : Rows → MasterState → ℕ → Option Change → Locking → Type 0
ApplicationFits rows s client None Nothing = Unit {0}
ApplicationFits rows s client (Some change) Nothing = PutsFit rows change
ApplicationFits rows s client None (Takes put claim) = TakesFit rows s put
ApplicationFits rows s client None (Waits put) = WaitsFit rows s client put
ApplicationFits rows s client None (Leaves leave) = LeavesFit rows s leave
ApplicationFits rows s client (Some change) (Goes instance waiters) = GoesFit rows s change instance waiters
ApplicationFits rows s client _ _ = ⊥

abbrev pub EffectFits : Rows → MasterState → ℕ → Effect → Type 0
EffectFits rows s client effected = ApplicationFits rows s client effected.change effected.locking
