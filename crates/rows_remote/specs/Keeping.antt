-- The rows that are told, the rows that stand, and how often what was told was in doubt.
use Rattle.std.specs.Prelude.{ℕ, ◌+◌, ◌==◌, ◌&&◌, Bool, true, false, if◌then◌else◌, List, [], ◌∷◌, ◌++◌, Option, Some, None}
use Rattle.std.specs.BTreeMap.{insert_entry}
use Rattle.std.specs.Cmp.Lexicographic.{slice_cmp}
use Rattle.std.specs.List.{fold}
use Rattle.std.specs.Ordering.{nat_cmp}
use Rattle.std.specs.Str.{bytes_eq}
use Rattle.node_core.specs.declared.nodes.Node.{Node}
use Rattle.rows_cell.specs.declared.tables.Rows.{Rows}
use Rattle.rows_cell.specs.declared.tables.StoredNode.{StoredNode}
use Rattle.rows_cell.specs.declared.tables.SessionRow.{SessionRow}
use Rattle.rows_cell.specs.declared.tables.LockRow.{LockRow}
use Rattle.rows_cell.specs.declared.tables.Edit.{Edit}
use Rattle.rows_cell.specs.declared.keys.LockKey.{LockKey}
use Rattle.rows_cell.specs.Keys.{lock_order}
use Rattle.rows_cell.specs.Rows.{changed_rows}
use Rattle.codec.specs.Forms.{flag}
use Rattle.codec.specs.Fields.{kind_place, life_place}
use Rattle.rows_remote.specs.declared.frames.Row.{Row}
use Rattle.rows_remote.specs.declared.frames.Row.TheVariants as rows
use Rattle.rows_remote.specs.declared.frames.Whole.{Whole}
use Rattle.rows_remote.specs.declared.records.KeeperHistory.{KeeperHistory}
use Rattle.rows_remote.specs.declared.records.KeeperHistory.TheVariants.{Began, Read, Damaged, Done, Tried}
use Rattle.rows_remote.specs.Forms.{state_place}

-- ---- the rows that are told

abbrev pub with_row : Rows → Row → Rows
with_row all (rows.Node text stands) = record all { nodes = insert_entry (slice_cmp nat_cmp) all.nodes text stands }
with_row all (rows.Session client stands) = record all { sessions = insert_entry nat_cmp all.sessions client stands }
with_row all (rows.Lock key stands) = record all { locks = insert_entry lock_order all.locks key stands }

-- of two rows with the same key the later one stands
abbrev pub with_rows : Rows → List Row → Rows
with_rows all [] = all
with_rows all (row ∷ others) = with_rows (with_row all row) others

abbrev pub own_row : Whole → Rows
own_row whole = record { cell = whole.cell; secret = whole.secret; epoch = whole.epoch; next_instance = whole.next_instance; nodes = []; sessions = []; ended_below = whole.ended_below; locks = [] }

abbrev pub told_rows : Whole → Rows
told_rows whole = with_rows (own_row whole) whole.rows

-- ---- whether rows are the same

abbrev pub same_numbers : Node → Node → Bool
same_numbers x y = kind_place x.kind == kind_place y.kind && x.instance == y.instance && x.content_generation == y.content_generation && x.acl_generation == y.acl_generation

abbrev pub same_names : Node → Node → Bool
same_names x y = bytes_eq x.read y.read && bytes_eq x.write y.write && bytes_eq x.change y.change

abbrev pub same_node : Node → Node → Bool
same_node x y = same_numbers x y && same_names x y && life_place x.life == life_place y.life && bytes_eq x.content y.content

abbrev pub same_stored : List ℕ × StoredNode → List ℕ × StoredNode → Bool
same_stored x y = bytes_eq x.0 y.0 && same_node x.1.node y.1.node && x.1.lock_generation == y.1.lock_generation

abbrev pub same_session : ℕ × SessionRow → ℕ × SessionRow → Bool
same_session x y = x.0 == y.0 && bytes_eq x.1.principal y.1.principal && flag x.1.live == flag y.1.live

abbrev pub same_key : LockKey → LockKey → Bool
same_key x y = x.instance == y.instance && x.client == y.client && x.handle == y.handle

abbrev pub same_lock : LockKey × LockRow → LockKey × LockRow → Bool
same_lock x y = same_key x.0 y.0 && state_place x.1.state == state_place y.1.state && x.1.delay == y.1.delay

abbrev pub all_same : {X : Type 0} → (X → X → Bool) → List X → List X → Bool
all_same same [] [] = true
all_same same (x ∷ xs) (y ∷ ys) = same x y && all_same same xs ys
all_same same _ _ = false

abbrev pub same_own : Rows → Rows → Bool
same_own x y = bytes_eq x.cell y.cell && bytes_eq x.secret y.secret && x.epoch == y.epoch && x.next_instance == y.next_instance && x.ended_below == y.ended_below

abbrev pub same_rows : Rows → Rows → Bool
same_rows x y = same_own x y && all_same same_stored x.nodes y.nodes && all_same same_session x.sessions y.sessions && all_same same_lock x.locks y.locks

-- 1 where other rows are told than those that stand: somebody else wrote them, or a refused commit stands after all, or they weren't given back as they were written
abbrev pub doubt_of : Rows → Rows → ℕ
doubt_of stands told = if same_rows stands told then 0 else 1

-- ---- the rows that stand

-- the rows that stand, those that a crash may leave, and how often others were told
pub record Stood : Type 0 where
  pub rows : Rows
  pub left : List Rows
  pub doubt : ℕ

abbrev pub no_rows : Rows
no_rows = record { cell = []; secret = []; epoch = 0; next_instance = 0; nodes = []; sessions = []; ended_below = 0; locks = [] }

-- the first rows that are told stand alone, and rows that are told later stand from then on; a change stands alone once it is kept, and where it is refused a crash may leave it beside all that it could leave before
abbrev pub noted : KeeperHistory → List Edit → Stood → Stood
noted (Began rows) change s = record { rows = rows; left = rows ∷ []; doubt = 0 }
noted (Read rows) change s = record s { rows = rows; doubt = s.doubt + doubt_of s.rows rows }
noted (Damaged rows) change s = record s { doubt = s.doubt + doubt_of s.rows rows }
noted Done change s = record s { rows = changed_rows s.rows change; left = changed_rows s.rows change ∷ [] }
noted Tried change s = record s { left = s.left ++ changed_rows s.rows change ∷ [] }

-- the rows of a note, if there are any
abbrev pub told_in : KeeperHistory → Option Rows
told_in (Began rows) = Some rows
told_in (Read rows) = Some rows
told_in (Damaged rows) = Some rows
told_in Done = None
told_in Tried = None

-- what a history comes to
abbrev pub stood : List (KeeperHistory × List Edit) → Stood
stood = fold (λ s n. noted n.0 n.1 s) (record { rows = no_rows; left = []; doubt = 0 })
