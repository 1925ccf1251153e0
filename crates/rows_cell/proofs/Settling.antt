-- Rows of locks that go at the end.
use Rattle.std.proofs.Common.{◌≡◌, List, [], ◌∷◌, Bool, true, false, cond, Option, Some, None, Ordering, Less, Equal, Greater, refl, sym, ap, subst, ◌∙◌}
use Rattle.std.specs.Prelude.{is_some}
use Rattle.std.specs.Ordering.{nat_cmp, ordering_then}
use Rattle.std.specs.List.Sorted.{IsStrictlySortedBy}
use Rattle.std.specs.Cmp.{tied_itself}
use Rattle.std.specs.Map.{keys_of, lookup, remove_entry}
use Rattle.std.specs.BTreeMap.{is_at, insert_entry}
use Rattle.collections.proofs.Entries.{lookup_put}
use Rattle.rows_cell.specs.declared.keys.LockKey.{LockKey}
use Rattle.rows_cell.specs.declared.tables.LockRow.{LockRow}
use Rattle.rows_cell.specs.declared.tables.Rows.{Rows}
use Rattle.rows_cell.specs.declared.tables.Edit.{Edit}
use Rattle.rows_cell.specs.declared.tables.Edit.TheVariants.{Epoch, NextInstance, PutNode, LockGeneration, RemoveNode, PutSession, RemoveSession, EndedBelow, PutLock, RemoveLock}
use Rattle.rows_cell.specs.contracts.keys.LockKeyOrd.TheImpl.{cmp-value}
use Rattle.rows_cell.specs.Keys.{lock_order}
use Rattle.rows_cell.specs.Rows.{StoredLocks, edited}
use Rattle.rows_cell.specs.Undo.{takes_away, removes_row, is_of_locks, LateKeys, settled}
use Rattle.rows_cell.proofs.EntriesInOrder.{sorted_put, sorted_gone}
use Rattle.rows_cell.proofs.SoundEnds.{unlocked_by, unlocked_sorted, locks_total}
use Rattle.rows_cell.proofs.SortedLookups.{exact_lock, same_lookups, lookup_gone, any_key}
use Rattle.rows_cell.proofs.RowEdits.{find, find_unlocked}

settled_is : (rows : Rows) (late : LateKeys) → settled rows late ≡ record rows { locks = unlocked_by (keys_of late) rows.locks }
settled_is rows [] = refl
settled_is rows (e ∷ es) = settled_is (edited rows (RemoveLock e.0)) es

-- ---- the order of the keys

then_nested : (a b c : Ordering) → ordering_then a (ordering_then b c) ≡ ordering_then (ordering_then a b) c
then_nested Less b c = refl
then_nested Equal b c = refl
then_nested Greater b c = refl

same_order : (x y : LockKey) → (cmp-value).it x y ≡ lock_order x y
same_order x y = then_nested (nat_cmp x.instance y.instance) (nat_cmp x.client y.client) (nat_cmp x.handle y.handle)

same_orders : (cmp-value).it ≡ lock_order
same_orders i x y = same_order x y i

-- a table over these keys is in their order
pub in_lock_order : {V : Type 0} (entries own : List (LockKey × V)) → entries ≡ own → IsStrictlySortedBy (cmp-value).it (keys_of entries) → IsStrictlySortedBy lock_order (keys_of own)
in_lock_order {V} entries own are sorted =
    let P : List (LockKey × V) → Type 0 = λ es. IsStrictlySortedBy (cmp-value).it (keys_of es) in
    let Q : (LockKey → LockKey → Ordering) → Type 0 = λ order. IsStrictlySortedBy order (keys_of own) in
    subst Q same_orders (subst P are sorted)

-- ---- the locks

gone_either : (b : Bool) (o : Option (Unit {0})) (l : Option LockRow) → cond (is_some (cond b (Some tt) o)) None l ≡ cond b None (cond (is_some o) None l)
gone_either true o l = refl
gone_either false o l = refl

put_either : (b : Bool) (o : Option (Unit {0})) (r l : Option LockRow) → cond (is_some (cond b None o)) None (cond b r l) ≡ cond b r (cond (is_some o) None l)
put_either true o r l = refl
put_either false o r l = refl

module _ (late : LateKeys) (locks : StoredLocks) (key : LockKey) (sorted : IsStrictlySortedBy lock_order (keys_of locks)) where
  abbrev left : StoredLocks
  left = unlocked_by (keys_of late) locks

  left_sorted : IsStrictlySortedBy lock_order (keys_of left)
  left_sorted = unlocked_sorted (keys_of late) locks sorted

  find_left : (q : LockKey) → find q left ≡ cond (is_some (lookup (is_at (lock_order q)) late)) None (find q locks)
  find_left q =
      let none : Option LockRow = None in
      find_unlocked (keys_of late) locks q sorted ∙ ap (λ b. cond b none (find q locks)) (any_key (is_at (lock_order q)) late)

  -- one more is to go
  more_late : unlocked_by (keys_of (insert_entry lock_order late key tt)) locks ≡ remove_entry (is_at (lock_order key)) left
  more_late =
      let all : LateKeys = insert_entry lock_order late key tt in
      let none : Option LockRow = None in
      same_lookups lock_order locks_total exact_lock (unlocked_by (keys_of all) locks) (remove_entry (is_at (lock_order key)) left)
      (unlocked_sorted (keys_of all) locks sorted) (sorted_gone lock_order (is_at (lock_order key)) left left_sorted)
      (λ q.
      find_unlocked (keys_of all) locks q sorted
      ∙ ap (λ b. cond b none (find q locks)) (any_key (is_at (lock_order q)) all ∙ ap is_some (lookup_put lock_order exact_lock (tied_itself locks_total) late key tt q))
      ∙ gone_either (is_at (lock_order q) key) (lookup (is_at (lock_order q)) late) (find q locks)
      ∙ sym (lookup_gone lock_order locks_total exact_lock left key q left_sorted ∙ ap (λ o. cond (is_at (lock_order q) key) none o) (find_left q)))

  -- one that is put isn't to go
  less_late : (row : LockRow) → IsStrictlySortedBy lock_order (keys_of late) → unlocked_by (keys_of (remove_entry (is_at (lock_order key)) late)) (insert_entry lock_order locks key row) ≡ insert_entry lock_order left key row
  less_late row late_sorted =
      let less : LateKeys = remove_entry (is_at (lock_order key)) late in
      let more : StoredLocks = insert_entry lock_order locks key row in
      let more_sorted : IsStrictlySortedBy lock_order (keys_of more) = sorted_put lock_order locks_total locks key row sorted in
      let none : Option LockRow = None in
      let no_key : Option (Unit {0}) = None in
      same_lookups lock_order locks_total exact_lock (unlocked_by (keys_of less) more) (insert_entry lock_order left key row)
      (unlocked_sorted (keys_of less) more more_sorted) (sorted_put lock_order locks_total left key row left_sorted)
      (λ q.
      find_unlocked (keys_of less) more q more_sorted
      ∙ ap (λ b. cond b none (find q more)) (any_key (is_at (lock_order q)) less ∙ ap is_some (lookup_gone lock_order locks_total exact_lock late key q late_sorted))
      ∙ ap (λ o. cond (is_some (cond (is_at (lock_order q) key) no_key (lookup (is_at (lock_order q)) late))) none o) (lookup_put lock_order exact_lock (tied_itself locks_total) locks key row q)
      ∙ put_either (is_at (lock_order q) key) (lookup (is_at (lock_order q)) late) (Some row) (find q locks)
      ∙ sym (lookup_put lock_order exact_lock (tied_itself locks_total) left key row q ∙ ap (λ o. cond (is_at (lock_order q) key) (Some row) o) (find_left q)))

-- ---- the rows

pub late_removal : (rows : Rows) (late all : LateKeys) (key : LockKey) → IsStrictlySortedBy lock_order (keys_of rows.locks) → all ≡ insert_entry (cmp-value).it late key tt → settled rows all ≡ edited (settled rows late) (RemoveLock key)
late_removal rows late all key sorted are =
    ap (λ l. settled rows l) (are ∙ ap (λ order. insert_entry order late key tt) same_orders)
    ∙ settled_is rows (insert_entry lock_order late key tt)
    ∙ ap (λ locks. record rows { locks = locks }) (more_late late rows.locks key sorted)
    ∙ sym (ap (λ r. edited r (RemoveLock key)) (settled_is rows late))

pub late_put : (rows new : Rows) (late less : LateKeys) (key : LockKey) (row : LockRow) → IsStrictlySortedBy lock_order (keys_of rows.locks) → IsStrictlySortedBy lock_order (keys_of late)
    → new ≡ edited rows (PutLock key row) → less ≡ remove_entry (is_at ((cmp-value).it key)) late → settled new less ≡ edited (settled rows late) (PutLock key row)
late_put rows new late less key row sorted late_sorted is are =
    ap (λ r. settled r less) is
    ∙ ap (λ l. settled (edited rows (PutLock key row)) l) (are ∙ ap (λ order. remove_entry (is_at (order key)) late) same_orders)
    ∙ settled_is (edited rows (PutLock key row)) (remove_entry (is_at (lock_order key)) late)
    ∙ ap (λ locks. record rows { locks = locks }) (less_late late rows.locks key sorted row late_sorted)
    ∙ sym (ap (λ r. edited r (PutLock key row)) (settled_is rows late))

apart : (rows : Rows) (late : LateKeys) (edit : Edit) → is_of_locks edit ≡ false → removes_row edit ≡ false → record (edited rows edit) { locks = unlocked_by (keys_of late) (edited rows edit).locks } ≡ edited (record rows { locks = unlocked_by (keys_of late) rows.locks }) edit
apart rows late (Epoch epoch) h k = refl
apart rows late (NextInstance next) h k = refl
apart rows late (PutNode name node) h k = refl
apart rows late (LockGeneration name generation) h k = refl
apart rows late (PutSession client session) h k = refl
apart rows late (EndedBelow next) h k = refl
apart rows late _ h k = absurd cc

pub late_other : (rows new : Rows) (late : LateKeys) (edit : Edit) → is_of_locks edit ≡ false → removes_row edit ≡ false → new ≡ edited rows edit → settled new late ≡ edited (settled rows late) edit
late_other rows new late edit h k is =
    ap (λ r. settled r late) is ∙ settled_is (edited rows edit) late ∙ apart rows late edit h k ∙ sym (ap (λ r. edited r edit) (settled_is rows late))

pub keeps : (edit : Edit) → is_of_locks edit ≡ false → removes_row edit ≡ false → takes_away edit ≡ false
keeps (RemoveNode name) h k = absurd cc
keeps (RemoveSession client) h k = absurd cc
keeps (RemoveLock key) h k = absurd cc
keeps (Epoch epoch) h k = refl
keeps (NextInstance next) h k = refl
keeps (PutNode name node) h k = refl
keeps (LockGeneration name generation) h k = refl
keeps (PutSession client session) h k = refl
keeps (EndedBelow next) h k = refl
keeps (PutLock key row) h k = refl
