-- A crash: which rows it leaves, and records that can be left so.
use Rattle.std.specs.Prelude.{◌≡◌, ◌⊎◌, ◌==◌, ◌-◌, ◌≤◌, ℕ, Bool, true, false, List, [], ◌∷◌, ◌++◌, Option, Some, None, if◌then◌else◌, is_some}
use Rattle.node_core.specs.Limits.{number_limit}
use Rattle.node_core.specs.declared.refusals.Fault.{Fault}
use Rattle.node_core.specs.declared.refusals.Fault.TheVariants as faults
use Rattle.node_core.specs.declared.lines.Line.{Line}
use Rattle.node_core.specs.declared.lines.Line.TheVariants as lines
use Rattle.rows_cell.specs.declared.tables.Rows.{Rows}
use Rattle.rows_cell.specs.declared.tables.Edit.{Edit}
use Rattle.rows_cell.specs.Rows.{changed_rows}
use Rattle.rows_cell.specs.Sound.{sound}
use Rattle.rows_cell.specs.Stores.{Store}
use Rattle.world_steps.specs.World.{WorldView, without_master}

-- the rows of a number, counted from 1, among those that a crash may leave
abbrev pub left_at : List Rows → ℕ → Option Rows
left_at [] number = None
left_at (rows ∷ others) number = if number == 1 then Some rows else left_at others (number - 1)

-- ---- records

-- those rows stand then, and nothing else may be left
abbrev pub LeavesOne : ℕ → Store → Store → Type 0
LeavesOne number old new = (rows : Rows) × (left_at old.may_leave number ≡ Some rows) × (new ≡ record old { rows = rows; may_leave = rows ∷ [] })

-- ---- a world

-- after a crash that leaves these rows: no master is up, and nothing else that the crash may leave is known; clients, clocks and what was sent stay
abbrev pub crashed : WorldView → Rows → WorldView
crashed w rows = record { world = record (without_master w.world) { rows = rows }; may_leave = rows ∷ []; refusals = w.refusals; doubt = w.doubt }

-- what is printed of a master that is gone, if one was up
abbrev pub gone_lines : Bool → List Line
gone_lines true = lines.Down ∷ []
gone_lines false = []

-- a crash that leaves the rows of a number
abbrev pub IsCrash : ℕ → WorldView → WorldView → List Line → Type 0
IsCrash number old new printed =
    (rows : Rows) × (left_at old.may_leave number ≡ Some rows) × (new ≡ crashed old rows) × (printed ≡ gone_lines (is_some old.world.master))

-- there are no rows of the number, or memory is wanting
abbrev pub IsNoCrash : ℕ → Fault → WorldView → WorldView → Type 0
IsNoCrash number fault old new = (new ≡ old) × (((fault ≡ faults.NoSuchMessage) × (left_at old.may_leave number ≡ None)) ⊎ (fault ≡ faults.NoMemory))

-- ---- records that refuse one commit, and may have it all the same

-- the lists that stand; the same once more, up to the commit that is refused; what that one would have left, until another stands; how many commits are
-- left up to it, that one too (0 behind it); and how often it was refused
pub record CrashState : Type 0 where
  pub lists : Store
  pub same : Option Store
  pub other : Option Store
  pub left : ℕ
  pub refusals : ℕ

-- the rows of a commit that was refused
abbrev pub left_beside : Option Store → List Rows
left_beside None = []
left_beside (Some store) = store.rows ∷ []

-- what they keep
abbrev pub with_more : Store → List Rows → ℕ → Store
with_more store more count = record store { may_leave = store.may_leave ++ more; refusals = count }

abbrev pub kept_beside : CrashState → Store
kept_beside c = with_more c.lists (left_beside c.other) c.refusals

-- a store that never refused, and of which a crash leaves the rows that stand
pub record IsOfLists (store : Store) : Type 0 where
  pub left : store.may_leave ≡ store.rows ∷ []
  pub none : store.refusals ≡ 0
  pub sure : store.doubt ≡ 0

-- the lists of before, once more
abbrev pub IsSame : Store → Option Store → Type 0
IsSame lists None = Unit {0}
IsSame lists (Some store) = store ≡ lists

-- other lists of the same cell
abbrev pub IsBeside : Store → Option Store → Type 0
IsBeside lists None = Unit {0}
IsBeside lists (Some store) = IsOfLists store × (store.cell ≡ lists.cell)

pub record AreBeside (c : CrashState) : Type 0 where
  pub lists : IsOfLists c.lists
  pub same : IsSame c.lists c.same
  pub other : IsBeside c.lists c.other
  pub few : c.refusals ≤ number_limit

-- a change leaves sound rows
abbrev pub MayChange : List Edit → Option Store → Type 0
MayChange edits None = Unit {0}
MayChange edits (Some store) = sound store.cell (changed_rows store.rows edits) ≡ true

-- lists with the change done; there may be none
abbrev pub IsChanged : List Edit → Option Store → Option Store → Type 0
IsChanged edits old None = Unit {0}
IsChanged edits None (Some new) = ⊥
IsChanged edits (Some old) (Some new) = IsOfLists new × (new.cell ≡ old.cell) × (new.rows ≡ changed_rows old.rows edits)

-- these are kept beside those that stand, unless others were
abbrev pub KeepsOther : Option Store → CrashState → CrashState → Type 0
KeepsOther refused old new = (new ≡ old) ⊎ ((old.other ≡ None) × (new ≡ record old { other = refused }))
