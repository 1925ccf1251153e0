-- Edits after others that are held back.
use Rattle.std.proofs.Common.{◌≡◌, Bool, true, false, List, [], ◌∷◌, ◌++◌, refl, ap, ◌∙◌, append-nil, arith}
use Rattle.rows_cell.specs.declared.tables.Rows.{Rows}
use Rattle.rows_cell.specs.declared.tables.Edit.{Edit}
use Rattle.rows_cell.specs.Rows.{edited, changed_rows}
use Rattle.rows_cell.specs.Stores.{Store, left_by, IsCommitted}
use Rattle.over_core.specs.Sweep.{IsSettled, IsSwept}
use Rattle.over_core.proofs.Settled.{settled_by}
use Rattle.hosting.specs.Held.{store_behind}

pub changed_behind : (rows : Rows) (front back : List Edit) → changed_rows rows (front ++ back) ≡ changed_rows (changed_rows rows front) back
changed_behind rows [] back = refl
changed_behind rows (edit ∷ front) back = changed_behind (edited rows edit) front back

pub left_behind : (front back : List Edit) (leave : List Rows) (mid rows : Rows) → (back ≡ [] → rows ≡ mid) → left_by (front ++ back) leave rows ≡ left_by back (left_by front leave mid) rows
left_behind [] [] leave mid rows same = refl
left_behind [] (edit ∷ back) leave mid rows same = refl
left_behind (edit ∷ front) [] leave mid rows same = ap (λ (r : Rows). r ∷ []) (same refl)
left_behind (edit ∷ front) (other ∷ back) leave mid rows same = refl

-- whoever sees what is held back as committed sees what comes after it as committed next
pub held_back : (store : Store) (held change : List Edit) → IsCommitted change (store_behind store held) (store_behind store (held ++ change))
held_back store held change = record {
  cell = refl;
  rows = changed_behind store.rows held change;
  leave = left_behind held change store.may_leave (changed_rows store.rows held) (changed_rows store.rows (held ++ change)) (λ none. ap (λ (u : List Edit). changed_rows store.rows (held ++ u)) none ∙ ap (λ (u : List Edit). changed_rows store.rows u) (append-nil held));
  counted = refl;
  doubted = omega arith;
}

pub behind_none : (store : Store) → store_behind store [] ≡ store
behind_none store = refl

-- where a crash leaves the rows alone, it does so once more is held back
pub settled_back : (store : Store) (held change : List Edit) → IsSettled (store_behind store held) → IsSettled (store_behind store (held ++ change))
settled_back store held change so = settled_by change (store_behind store held) (store_behind store (held ++ change)) (held_back store held change) so

-- so it is the same whether a change left the gate
swept_as : (freed : Bool) (change : List Edit) (old new : Store) → IsCommitted change old new → IsSettled new → IsSwept freed change old new
swept_as true change old new c so = record { cell = c.cell; rows = c.rows; leave = so; counted = c.counted; doubted = c.doubted }
swept_as false change old new c so = record { cell = c.cell; rows = c.rows; leave = c.leave; counted = c.counted; doubted = c.doubted }

pub swept_back : (freed : Bool) (store : Store) (held change : List Edit) → IsSettled (store_behind store held) → IsSwept freed change (store_behind store held) (store_behind store (held ++ change))
swept_back freed store held change so = swept_as freed change (store_behind store held) (store_behind store (held ++ change)) (held_back store held change) (settled_back store held change so)

-- once it is committed
pub settled_then : (edits : List Edit) (old new : Store) → IsCommitted edits old new → IsSettled (store_behind old edits) → IsSettled new
settled_then [] old new c so = settled_by [] old new c so
settled_then (edit ∷ edits) old new c so = c.leave
