-- The entries that rows say.
use Rattle.std.specs.Prelude.{◌≡◌, ℕ, List, [], ◌∷◌, map, Option, Some, IsPermutation, MatchOption}
use Rattle.std.specs.declared.cmp.Ordering.{Ordering}
use Rattle.std.specs.List.Sorted.{IsStrictlySortedBy}
use Rattle.std.specs.Map.{keys_of}
use Rattle.std.specs.Ordering.{nat_cmp}
use Rattle.std.specs.Cmp.Lexicographic.{slice_cmp}
use Rattle.sqlite_value.specs.Order.{Row}
use Rattle.rows_cell.specs.Keys.{lock_order}
use Rattle.rows_cell.specs.declared.tables.StoredNode.{StoredNode}
use Rattle.rows_cell.specs.declared.tables.SessionRow.{SessionRow}
use Rattle.rows_cell.specs.declared.tables.LockRow.{LockRow}
use Rattle.rows_cell.specs.declared.tables.Rows.{Rows}
use Rattle.rows_cell.specs.declared.keys.LockKey.{LockKey}
use Rattle.rows_sql.specs.declared.reading.stored.Meta.{Meta}
use Rattle.rows_sql.specs.declared.schema.ours.Version.{Version}
use Rattle.rows_sql.specs.declared.schema.ours.Version.TheVariants.{Third}
use Rattle.rows_sql.specs.Children.{Parents, children_for}
use Rattle.rows_sql.specs.Decode.{node_in, session_in, lock_in, child_in, meta_as}

-- each row says an entry, no two of the same key, and these are they in the order of their keys
pub record Holds {K V : Type 0} (cmp : K → K → Ordering) (read : Row → Option (K × V)) (rows : List Row) (entries : List (K × V)) : Type 0 where
  pub sorted : IsStrictlySortedBy cmp (keys_of entries)
  pub said : IsPermutation (map (λ e. Some e) entries) (map read rows)

-- those entries; or the rows hold none
abbrev pub IsRead : {K V : Type 0} → (K → K → Ordering) → (Row → Option (K × V)) → List Row → Option (List (K × V)) → Type 0
IsRead {K} {V} cmp read rows o = MatchOption o ((es : List (K × V)) → ¬ Holds cmp read rows es) (λ es. Holds cmp read rows es)

abbrev pub HoldsNodes : List Row → List (List ℕ × StoredNode) → Type 0
HoldsNodes = Holds (slice_cmp nat_cmp) node_in

abbrev pub HoldsSessions : List Row → List (ℕ × SessionRow) → Type 0
HoldsSessions = Holds nat_cmp session_in

abbrev pub HoldsLocks : List Row → List (LockKey × LockRow) → Type 0
HoldsLocks = Holds lock_order lock_in

abbrev pub meta_of : Rows → Meta
meta_of rows = record { cell = rows.cell; secret = rows.secret; epoch = rows.epoch; next_instance = rows.next_instance; ended_below = rows.ended_below }

abbrev pub HoldsChildren : List Row → Parents → Type 0
HoldsChildren = Holds (slice_cmp nat_cmp) child_in

-- what the tables show, of the second version five
pub record Tables : Type 0 where
  pub metas : List Row
  pub nodes : List Row
  pub sessions : List Row
  pub locks : List Row
  pub children : List Row

-- four tables say the rows of a cell, by the rules of this version, and a fifth says these children
pub record SaysWith (version : Version) (tables : Tables) (rows : Rows) (pairs : Parents) : Type 0 where
  pub meta : map (meta_as version) tables.metas ≡ Some (meta_of rows) ∷ []
  pub nodes : HoldsNodes tables.nodes rows.nodes
  pub sessions : HoldsSessions tables.sessions rows.sessions
  pub locks : HoldsLocks tables.locks rows.locks
  pub children : HoldsChildren tables.children pairs

-- the rows of a cell that the tables say, by the rules of this version: the fifth is just what the nodes make it
abbrev pub SaysAs : Version → Tables → Rows → Type 0
SaysAs version tables rows = SaysWith version tables rows (children_for version rows.nodes)

-- in a store of now
abbrev pub Says : Tables → Rows → Type 0
Says tables rows = SaysAs Third tables rows

-- those rows; or the tables say none
abbrev pub IsWhole : Version → Tables → Option Rows → Type 0
IsWhole version tables o = MatchOption o ((rows : Rows) → ¬ SaysAs version tables rows) (λ rows. SaysAs version tables rows)

-- the same of the four tables, whatever the fifth says
abbrev pub IsFour : Version → Tables → Option Rows → Type 0
IsFour version tables o =
    MatchOption o ((rows : Rows) (children : Parents) → ¬ SaysWith version tables rows children) (λ rows. (children : Parents) → HoldsChildren tables.children children → SaysWith version tables rows children)

-- the row of the cell, where there is just one; or there is none
abbrev pub IsOnly : Version → List Row → Option Meta → Type 0
IsOnly version metas o = MatchOption o ((m : Meta) → ¬ (map (meta_as version) metas ≡ Some m ∷ [])) (λ m. map (meta_as version) metas ≡ Some m ∷ [])
