-- Locks over whole runs of a world.
use Rattle.std.specs.Prelude.{◌≡◌, ◌⊎◌, ℕ, ◌+◌, ◌<◌, ◌≤◌, Bool, true, not, ◌&&◌, List, [], ◌∷◌, ◌++◌, Option, Some, is_some, if◌then◌else◌}
use Rattle.std.specs.Option.{option_map}
use Rattle.std.specs.List.{list_any}
use Rattle.std.specs.BTreeMap.{is_at}
use Rattle.node_core.specs.declared.lines.Line.{Line}
use Rattle.node_core.specs.Nodes.{Nodes, get_node}
use Rattle.rows_cell.specs.declared.keys.LockKey.{LockKey}
use Rattle.rows_cell.specs.declared.tables.Rows.{Rows}
use Rattle.rows_cell.specs.Keys.{lock_order}
use Rattle.rows_cell.specs.Rows.{StoredLocks, map_of}
use Rattle.rows_cell.specs.Indexes.{lock_generation_in, locks_at}
use Rattle.rows_cell.specs.LockRows.{is_holding, has_holder, are_together}
use Rattle.lock_core.specs.State.{IsLegal}
use Rattle.lock_core.specs.Locks.{lock_at}
use Rattle.master_state.specs.State.{MasterState}
use Rattle.over_core.specs.Kept.{AreGenerations, AreLockRows}
use Rattle.world_steps.specs.declared.steps.Step.{Step}
use Rattle.world_steps.specs.World.{WorldState, WorldView}
use Rattle.world_cell.specs.Runs.{Run}

-- ---- legal locks

-- the rows of each lock are one exclusive holder, or shared ones alone, or that it is closed, or none
abbrev pub AreLegalRows : Rows → Type 0
AreLegalRows rows = (instance : ℕ) → are_together (locks_at rows.locks instance) ≡ true

-- rows told of legal locks at a point, or a master was up then, or one has come up since
abbrev pub WereLegal : WorldState → WorldState → Type 0
WereLegal old new = AreLegalRows old.rows ⊎ (is_some old.master ≡ true) ⊎ (old.rows.epoch < new.rows.epoch)

-- after any steps each lock is legal, in a master that is up and in its rows, which tell the same of holders and generations; and in rows that no master is up with, if they were so
-- before or a master came up by them
pub record HasLegalLocks (old new : WorldState) : Type 0 where
  pub master : (s : MasterState) → new.master ≡ Some s → (instance : ℕ) → IsLegal (lock_at s.locks instance)
  pub stored : (s : MasterState) → new.master ≡ Some s → AreLegalRows new.rows
  pub same : (s : MasterState) → new.master ≡ Some s → AreGenerations s.locks new.rows.nodes × AreLockRows s.locks new.rows.locks
  pub left : WereLegal old new → AreLegalRows new.rows

-- ---- generations

-- the handle of this key holds the lock, by the lock's rows
abbrev pub holds_by : StoredLocks → LockKey → Bool
holds_by locks key = list_any (λ e. is_holding e.1.state && is_at (lock_order key) e.0) locks

-- somebody who held the lock of this instance holds it still
abbrev pub stays_in : Rows → Rows → ℕ → Bool
stays_in old new instance = list_any (λ e. is_holding e.1.state && holds_by (locks_at old.locks instance) e.0) (locks_at new.locks instance)

-- by one step the lock came from free to held: somebody holds it, and nobody does who held it before
abbrev pub begins_in : Rows → Rows → ℕ → Bool
begins_in old new instance = has_holder (locks_at new.locks instance) && not (stays_in old new instance)

-- by one step: the lock of a node that stays has one generation more if it came from free to held, and else the one that it had
abbrev pub CountsHolds : Rows → Rows → Type 0
CountsHolds old new =
    (instance before behind : ℕ) → lock_generation_in old.nodes instance ≡ Some before → lock_generation_in new.nodes instance ≡ Some behind
    → behind ≡ before + (if begins_in old new instance then 1 else 0)

-- from one point to a later one: the generation of the lock of a node that is there at both doesn't fall
abbrev pub LetsNoneFall : Rows → Rows → Type 0
LetsNoneFall here later =
    (instance before behind : ℕ) → lock_generation_in here.nodes instance ≡ Some before → lock_generation_in later.nodes instance ≡ Some behind → before ≤ behind

-- a step of a run by which the lock of an instance came from free to held, and has this generation
pub record Begins (old : WorldView) (step : Step) (new : WorldView) (instance generation : ℕ) : Type 0 where
  pub told : List Line
  pub run : Run old (step ∷ []) told new
  pub begins : begins_in old.world.rows new.world.rows instance ≡ true
  pub at : lock_generation_in new.world.rows.nodes instance ≡ Some generation

-- over any steps, whichever masters were up: no generation falls from one point to a later one, and of two steps by which the lock of one instance came from free to held the later one
-- leaves a greater generation
pub record NoGenerationTwice (old : WorldView) (steps : List Step) (new : WorldView) : Type 0 where
  pub falls : (front part rest : List Step) (here later : WorldView) (before told after : List Line) → steps ≡ front ++ part ++ rest → Run old front before here → Run here part told later → Run later rest after new
      → LetsNoneFall here.world.rows later.world.rows
  pub rises : (front part rest : List Step) (first second : Step) (here next there later : WorldView) (before told after : List Line) (instance lower higher : ℕ) → steps ≡ front ++ first ∷ part ++ second ∷ rest
      → Run old front before here → Begins here first next instance lower → Run next part told there → Begins there second later instance higher → Run later rest after new → lower < higher

-- ---- the locks of one name

-- the instance of the node that stands at a name
abbrev pub instance_in : Nodes → List ℕ → Option ℕ
instance_in nodes name = option_map (λ node. node.instance) (get_node nodes name)

-- an instance with a generation of its lock is above another: a later node, or a later hold of the same
abbrev pub IsLaterHold : ℕ × ℕ → ℕ × ℕ → Type 0
IsLaterHold low high = (low.0 < high.0) ⊎ ((low.0 ≡ high.0) × (low.1 < high.1))

-- over any steps, whichever masters were up, and also if the node was deleted and made again: of two steps by which the lock of one name's node came from free to held the later one leaves the pair of instance and generation above that of the earlier one
pub record HoldsRise (old : WorldView) (steps : List Step) (new : WorldView) : Type 0 where
  pub rises : (front part rest : List Step) (first second : Step) (here next there later : WorldView) (before told after : List Line) (name : List ℕ) (low high : ℕ × ℕ) → steps ≡ front ++ first ∷ part ++ second ∷ rest
      → Run old front before here → Begins here first next low.0 low.1 → Run next part told there → Begins there second later high.0 high.1 → Run later rest after new
      → instance_in (map_of next.world.rows) name ≡ Some low.0 → instance_in (map_of later.world.rows) name ≡ Some high.0 → IsLaterHold low high
