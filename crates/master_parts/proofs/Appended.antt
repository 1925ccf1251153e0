-- What a loop appends for each item of a list.
use Rattle.std.proofs.Common.{◌≡◌, ℕ, ◌+◌, ◌<◌, List, [], ◌∷◌, ◌++◌, length, drop, get_or, map, Bool, true, false, cond, refl, sym, ap, append_assoc, ◌∙◌}
use Rattle.std.specs.Prelude.{not, filter}
use Rattle.std.proofs.lemmas.List.{append-nil, at_drop_more}
use Rattle.rows_cell.specs.declared.tables.LockRow.{LockRow}
use Rattle.rows_cell.specs.declared.tables.Edit.{Edit}
use Rattle.rows_cell.specs.declared.tables.Edit.TheVariants.{RemoveLock, PutLock}
use Rattle.rows_cell.specs.declared.keys.LockKey.{LockKey}
use Rattle.rows_cell.specs.Rows.{StoredLocks}
use Rattle.rows_cell.specs.LockRows.{gone_keys, put_rows, has_key, has_entry}

-- one item more
pub step_more : {X Y : Type 0} (F : List X → List Y) (G : X → List Y) → ((x : X) (xs : List X) → F (x ∷ xs) ≡ G x ++ F xs) → (xs : List X) (i : ℕ) (d : X) → i < length xs → (front more all : List Y) → more ≡ front ++ G (get_or xs i d) → front ++ F (drop i xs) ≡ all → more ++ F (drop (i + 1) xs) ≡ all
step_more F G step xs i d h front more all is now =
    let x = get_or xs i d in
    let rest = F (drop (i + 1) xs) in
    ap (λ ys. ys ++ rest) is ∙ append_assoc front (G x) rest ∙ ap (λ ys. front ++ ys) (sym (at_drop_more F xs i d h ∙ step x (drop (i + 1) xs))) ∙ now

-- what is done for one key
abbrev pub gone_edit : StoredLocks → LockKey → List Edit
gone_edit new key = cond (has_key new key) [] (RemoveLock key ∷ [])

gone_step : (new : StoredLocks) (e : LockKey × LockRow) (es : StoredLocks) → map RemoveLock (gone_keys (e ∷ es) new) ≡ gone_edit new e.0 ++ map RemoveLock (gone_keys es new)
gone_step new e es =
    let rest = filter (λ f. not (has_key new f.0)) es in
    elim (has_key new e.0) as (λ b. map RemoveLock (map (λ f. f.0) (cond (not b) (e ∷ rest) rest)) ≡ cond b [] (RemoveLock e.0 ∷ []) ++ map RemoveLock (map (λ f. f.0) rest)) [ true ↦ refl | false ↦ refl ]

-- one key more
pub gone_more : (old new : StoredLocks) (i : ℕ) (d : LockKey × LockRow) → i < length old → (front more all : List Edit) → more ≡ front ++ gone_edit new (get_or old i d).0 → front ++ map RemoveLock (gone_keys (drop i old) new) ≡ all → more ++ map RemoveLock (gone_keys (drop (i + 1) old) new) ≡ all
gone_more old new i d h front more all is now = step_more (λ es. map RemoveLock (gone_keys es new)) (λ e. gone_edit new e.0) (gone_step new) old i d h front more all is now

-- a key that the new rows lack, and one that they have
pub gone_put : (new : StoredLocks) (key : LockKey) (lacks : Bool) (front more : List Edit) → has_key new key ≡ not lacks → lacks ≡ true → more ≡ front ++ RemoveLock key ∷ [] → more ≡ front ++ gone_edit new key
gone_put new key lacks front more h is made = made ∙ ap (λ b. front ++ cond b [] (RemoveLock key ∷ [])) (sym (h ∙ ap not is))

pub gone_left : (new : StoredLocks) (key : LockKey) (lacks : Bool) (front more : List Edit) → has_key new key ≡ not lacks → lacks ≡ false → more ≡ front → more ≡ front ++ gone_edit new key
gone_left new key lacks front more h is made = made ∙ sym (append-nil front) ∙ ap (λ b. front ++ cond b [] (RemoveLock key ∷ [])) (sym (h ∙ ap not is))

-- what is done for one row
abbrev pub put_edit : StoredLocks → LockKey × LockRow → List Edit
put_edit old e = cond (has_entry old e) [] (PutLock e.0 e.1 ∷ [])

put_step : (old : StoredLocks) (e : LockKey × LockRow) (es : StoredLocks) → map (λ f. PutLock f.0 f.1) (put_rows old (e ∷ es)) ≡ put_edit old e ++ map (λ f. PutLock f.0 f.1) (put_rows old es)
put_step old e es =
    let rest = filter (λ f. not (has_entry old f)) es in
    elim (has_entry old e) as (λ b. map (λ (f : LockKey × LockRow). PutLock f.0 f.1) (cond (not b) (e ∷ rest) rest) ≡ cond b [] (PutLock e.0 e.1 ∷ []) ++ map (λ (f : LockKey × LockRow). PutLock f.0 f.1) rest) [ true ↦ refl | false ↦ refl ]

-- one row more
pub put_more : (old new : StoredLocks) (i : ℕ) (d : LockKey × LockRow) → i < length new → (front more all : List Edit) → more ≡ front ++ put_edit old (get_or new i d) → front ++ map (λ f. PutLock f.0 f.1) (put_rows old (drop i new)) ≡ all → more ++ map (λ f. PutLock f.0 f.1) (put_rows old (drop (i + 1) new)) ≡ all
put_more old new i d h front more all is now = step_more (λ es. map (λ (f : LockKey × LockRow). PutLock f.0 f.1) (put_rows old es)) (put_edit old) (put_step old) new i d h front more all is now

-- a row that the old ones lack or have otherwise, and one that they have
pub row_put : (old : StoredLocks) (key : LockKey) (row : LockRow) (front more : List Edit) → has_entry old (key, row) ≡ false → more ≡ front ++ PutLock key row ∷ [] → more ≡ front ++ put_edit old (key, row)
row_put old key row front more h made = made ∙ ap (λ b. front ++ cond b [] (PutLock key row ∷ [])) (sym h)

pub row_left : (old : StoredLocks) (key : LockKey) (row : LockRow) (front more : List Edit) → has_entry old (key, row) ≡ true → more ≡ front → more ≡ front ++ put_edit old (key, row)
row_left old key row front more h made = made ∙ sym (append-nil front) ∙ ap (λ b. front ++ cond b [] (PutLock key row ∷ [])) (sym h)
