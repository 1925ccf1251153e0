-- New rows of one lock leave the rows sound.
use Rattle.std.proofs.Common.{◌≡◌, ℕ, List, [], ◌∷◌, length, Bool, true, false, cond, refl, sym, ap, subst, ◌∙◌, arith}
use Rattle.std.specs.Prelude.{◌&&◌, ◌||◌, ◌==◌, not, nat_le, filter}
use Rattle.std.specs.List.{list_all, list_any}
use Rattle.std.specs.List.Sorted.{IsStrictlySortedBy}
use Rattle.std.specs.Map.{keys_of}
use Rattle.std.proofs.lemmas.Bool.Decides.{nat_tests}
use Rattle.std.proofs.lemmas.Bool.{and_parts, and_from, or_parts, eqb-true, not-true, not_from_false}
use Rattle.rows_cell.specs.declared.tables.LockRow.{LockRow}
use Rattle.rows_cell.specs.declared.tables.LockState.{LockState}
use Rattle.rows_cell.specs.declared.tables.LockState.TheVariants.{Lapsed, Exclusive, Shared}
use Rattle.rows_cell.specs.declared.keys.LockKey.{LockKey}
use Rattle.rows_cell.specs.declared.tables.Rows.{Rows}
use Rattle.rows_cell.specs.Keys.{lock_order}
use Rattle.rows_cell.specs.Rows.{StoredLocks, changed_rows}
use Rattle.rows_cell.specs.Sound.{sound, is_number, is_live_in, holder_fits, is_shared, beside, state_fits, lock_fits}
use Rattle.rows_cell.specs.Indexes.{locks_at}
use Rattle.rows_cell.specs.LockRows.{locks_off, is_holding, has_holder, client_fits, row_fits, are_together, are_legal_rows, has_generation, row_edits}
use Rattle.rows_cell.proofs.PutEntries.{all_more}
use Rattle.rows_cell.proofs.SoundParts.{five_parts, has_instance, parts_of, sound_of}
use Rattle.rows_cell.proofs.SoundRemovals.{all_from_both, all_let_through, lock_left}
use Rattle.rows_cell.proofs.RowEdits.{relocked, relocks, relocked_rows, locks_elsewhere}

-- ---- tests of all entries

-- a test that those pass that a filter lets through, and the others
pub all_from_halves : {X : Type 0} (keep p : X → Bool) (xs : List X) → list_all p (filter keep xs) ≡ true → list_all p (filter (λ x. not (keep x)) xs) ≡ true → list_all p xs ≡ true
all_from_halves keep p [] h k = refl
all_from_halves {X} keep p (x ∷ xs) h k =
    (elim (keep x) as (λ b. list_all p (cond b (x ∷ filter keep xs) (filter keep xs)) ≡ true → list_all p (cond (not b) (x ∷ filter (λ y. not (keep y)) xs) (filter (λ y. not (keep y)) xs)) ≡ true → (p x && list_all p xs) ≡ true) [
      | true ↦ (λ u v. let t = and_parts (p x) (list_all p (filter keep xs)) u in and_from (p x) (list_all p xs) t.0 (all_from_halves keep p xs t.1 v))
      | false ↦ (λ u v. let t = and_parts (p x) (list_all p (filter (λ y. not (keep y)) xs)) v in and_from (p x) (list_all p xs) t.0 (all_from_halves keep p xs u t.1))
    ]) h k

all_pass : {X : Type 0} (p : X → Bool) (xs : List X) → ((x : X) → p x ≡ true) → list_all p xs ≡ true
all_pass p [] h = refl
all_pass p (x ∷ xs) h = and_from (p x) (list_all p xs) (h x) (all_pass p xs h)

none_pass : {X : Type 0} (p : X → Bool) (xs : List X) → list_any p xs ≡ false → list_all (λ x. not (p x)) xs ≡ true
none_pass p [] h = refl
none_pass p (x ∷ xs) h =
    let t = or_parts (p x) (list_any p xs) h in
    and_from (not (p x)) (list_all (λ y. not (p y)) xs) (not_from_false (p x) t.0) (none_pass p xs t.1)

-- what follows from a test that some entry passes
some_of : {X : Type 0} (p : X → Bool) (b : Bool) (xs : List X) → list_any p xs ≡ true → list_all (λ x. not (p x) || b) xs ≡ true → b ≡ true
some_of p b [] some all = absurd cc
some_of {X} p b (x ∷ xs) some all =
    let t = and_parts (not (p x) || b) (list_all (λ y. not (p y) || b) xs) all in
    (elim (p x) as (λ v. (v || list_any p xs) ≡ true → (not v || b) ≡ true → b ≡ true) [
      | true ↦ (λ s a. a)
      | false ↦ (λ s a. some_of p b xs s t.1)
    ]) some t.0

-- ---- each of the rows beside all of them

abbrev stands : StoredLocks → LockState → Bool
stands whole Lapsed = length whole == 1
stands whole Exclusive = length whole == 1
stands whole Shared = list_all (λ e. is_shared e.1.state) whole

one_stands : (x : LockKey × LockRow) (state : LockState) → x.1.state ≡ state → stands (x ∷ []) state ≡ true
one_stands x Lapsed is = refl
one_stands x Exclusive is = refl
one_stands x Shared is = rw is refl

shared_stands : (whole : StoredLocks) (state : LockState) → list_all (λ e. is_shared e.1.state) whole ≡ true → is_shared state ≡ true → stands whole state ≡ true
shared_stands whole Lapsed all h = absurd cc
shared_stands whole Exclusive all h = absurd cc
shared_stands whole Shared all h = all

each_stands : (whole : StoredLocks) → are_together whole ≡ true → list_all (λ e. stands whole e.1.state) whole ≡ true
each_stands [] h = refl
each_stands (x ∷ []) h = and_from (stands (x ∷ []) x.1.state) true (one_stands x x.1.state refl) refl
each_stands (x ∷ y ∷ rest) h =
    all_more (λ e. is_shared e.1.state) (λ e. stands (x ∷ y ∷ rest) e.1.state) (x ∷ y ∷ rest) (λ e k. shared_stands (x ∷ y ∷ rest) e.1.state h k) h

free_or : (a b : Bool) → not a ≡ true → (not a || b) ≡ true
free_or true b h = absurd cc
free_or false b h = refl

or_held : (a b : Bool) → b ≡ true → (not a || b) ≡ true
or_held true b h = h
or_held false b h = refl

pub each_held : (whole : StoredLocks) → list_all (λ e. not (is_holding e.1.state) || has_holder whole) whole ≡ true
each_held whole =
    (elim (has_holder whole) as (λ b. has_holder whole ≡ b → list_all (λ e. not (is_holding e.1.state) || b) whole ≡ true) [
      | true ↦ (λ c. all_pass (λ e. not (is_holding e.1.state) || true) whole (λ e. or_held (is_holding e.1.state) true refl))
      | false ↦ (λ c.
          all_more (λ e. not (is_holding e.1.state)) (λ e. not (is_holding e.1.state) || false) whole
          (λ e h. free_or (is_holding e.1.state) false h) (none_pass (λ e. is_holding e.1.state) whole c))
    ]) refl

-- ---- the whole test

-- what new rows of one lock need: its node, rows that may stand together, and a first generation where somebody holds it
pub record RowsFit (rows : Rows) (instance : ℕ) (new : StoredLocks) : Type 0 where
  pub there : has_instance rows.nodes instance ≡ true
  pub legal : are_legal_rows rows instance new ≡ true
  pub generation : has_holder new ≡ true → has_generation rows.nodes instance ≡ true

-- they have the key of the lock's instance
pub own_keys : (rows : Rows) (instance : ℕ) (new : StoredLocks) → are_legal_rows rows instance new ≡ true → list_all (λ e. e.0.instance == instance) new ≡ true
own_keys rows instance new h =
    all_more (row_fits rows instance) (λ e. e.0.instance == instance) new
    (λ e k. (five_parts (e.0.instance == instance) (is_number e.0.client) (is_number e.0.handle) (nat_le e.1.delay 60000) (client_fits rows e.0 e.1.state) k).0)
    (and_parts (list_all (row_fits rows instance) new) (are_together new) h).0

held_of : (a b : Bool) → (not a || b) ≡ true → a ≡ true → b ≡ true
held_of true b h k = h
held_of false b h k = absurd cc

module _ (cell : List ℕ) (rows : Rows) (instance : ℕ) (new after : StoredLocks) (fits : RowsFit rows instance new) (here : locks_at after instance ≡ new) (others : locks_off after instance ≡ locks_off rows.locks instance) where
  abbrev after_rows : Rows
  after_rows = record rows { locks = after }

  state_new : (key : LockKey) (state : LockState) → beside after key ≡ new → stands new state ≡ true → (is_holding state ≡ true → has_generation rows.nodes key.instance ≡ true) → client_fits rows key state ≡ true → state_fits after_rows key state ≡ true
  state_new key Lapsed same s g c =
      let t = and_parts (key.client == 0) (key.handle == 0) c in
      and_from (length (beside after key) == 1 && key.client == 0) (key.handle == 0) (and_from (length (beside after key) == 1) (key.client == 0) (rw same s) t.0) t.1
  state_new key Exclusive same s g c = and_from (length (beside after key) == 1) (holder_fits after_rows key) (rw same s) (and_from (has_generation rows.nodes key.instance) (is_live_in rows key.client) (g refl) c)
  state_new key Shared same s g c = and_from (list_all (λ e. is_shared e.1.state) (beside after key)) (holder_fits after_rows key) (rw same s) (and_from (has_generation rows.nodes key.instance) (is_live_in rows key.client) (g refl) c)

  entry_new : (e : LockKey × LockRow) → row_fits rows instance e ≡ true → (stands new e.1.state && (not (is_holding e.1.state) || has_holder new)) ≡ true → lock_fits after_rows e ≡ true
  entry_new e h k =
      let t = five_parts (e.0.instance == instance) (is_number e.0.client) (is_number e.0.handle) (nat_le e.1.delay 60000) (client_fits rows e.0 e.1.state) h in
      let u = and_parts (stands new e.1.state) (not (is_holding e.1.state) || has_holder new) k in
      let is : e.0.instance ≡ instance = eqb-true e.0.instance instance t.0 in
      let same : beside after e.0 ≡ new = ap (λ n. locks_at after n) is ∙ here in
      let P : ℕ → Type 0 = λ n. has_instance rows.nodes n ≡ true in
      let Q : ℕ → Type 0 = λ n. has_generation rows.nodes n ≡ true in
      let there : P e.0.instance = subst P (sym is) fits.there in
      rw (there, t.1, t.2, t.3) (state_new e.0 e.1.state same u.0 (λ held. subst Q (sym is) (fits.generation (held_of (is_holding e.1.state) (has_holder new) u.1 held))) t.4)

  own_fit : list_all (lock_fits after_rows) new ≡ true
  own_fit =
      let t = and_parts (list_all (row_fits rows instance) new) (are_together new) fits.legal in
      let held : LockKey × LockRow → Bool = λ e. not (is_holding e.1.state) || has_holder new in
      let both : list_all (λ e. stands new e.1.state && held e) new ≡ true =
      all_from_both (λ e. stands new e.1.state) held (λ e. stands new e.1.state && held e) new (λ e a b. and_from (stands new e.1.state) (held e) a b) (each_stands new t.1) (each_held new) in
      all_from_both (row_fits rows instance) (λ e. stands new e.1.state && held e) (lock_fits after_rows) new entry_new t.0 both

  others_fit : list_all (lock_fits rows) rows.locks ≡ true → list_all (lock_fits after_rows) (locks_off rows.locks instance) ≡ true
  others_fit h =
      all_let_through (λ e. not (e.0.instance == instance)) (lock_fits rows) (lock_fits after_rows) rows.locks
      (λ e kept k. lock_left rows after_rows e (locks_elsewhere rows.locks after instance e.0.instance others (not-true (e.0.instance == instance) kept)) (λ x. x) (λ x. x) k) h

  -- other locks keep their rows, and this one has new ones that fit
  pub new_rows_sound : sound cell rows ≡ true → sound cell after_rows ≡ true
  new_rows_sound h =
      let p = parts_of cell rows h in
      let P : StoredLocks → Type 0 = λ es. list_all (lock_fits after_rows) es ≡ true in
      sound_of cell after_rows (record {
        named = p.named;
        epoch = p.epoch;
        next = p.next;
        root = p.root;
        nodes = p.nodes;
        distinct = p.distinct;
        sessions = p.sessions;
        locks = all_from_halves (λ e. e.0.instance == instance) (lock_fits after_rows) after (subst P (sym here) own_fit) (subst P (sym others) (others_fit p.locks));
      })

-- the edits from the old rows of one lock to new ones that fit
pub relocked_sound : (cell : List ℕ) (rows : Rows) (instance : ℕ) (old new : StoredLocks) → sound cell rows ≡ true → IsStrictlySortedBy lock_order (keys_of rows.locks) → locks_at rows.locks instance ≡ old → IsStrictlySortedBy lock_order (keys_of new) → RowsFit rows instance new
    → sound cell (changed_rows rows (row_edits old new)) ≡ true
relocked_sound cell rows instance old new h sorted are new_sorted fits =
    let t = relocked_rows rows.locks old new instance sorted are new_sorted (own_keys rows instance new fits.legal) in
    let P : Rows → Type 0 = λ r. sound cell r ≡ true in
    subst P (sym (relocks rows old new)) (new_rows_sound cell rows instance new (relocked old new rows.locks) fits t.here t.others h)

-- ---- the other way round: what sound rows hold

legal_by : (rows : Rows) (key : LockKey) (state : LockState) → state_fits rows key state ≡ true → client_fits rows key state ≡ true
legal_by rows key Lapsed h =
    let t = and_parts (length (beside rows.locks key) == 1 && key.client == 0) (key.handle == 0) h in
    and_from (key.client == 0) (key.handle == 0) (and_parts (length (beside rows.locks key) == 1) (key.client == 0) t.0).1 t.1
legal_by rows key Exclusive h =
    let t = and_parts (length (beside rows.locks key) == 1) (holder_fits rows key) h in
    (and_parts (has_generation rows.nodes key.instance) (is_live_in rows key.client) t.1).1
legal_by rows key Shared h =
    let t = and_parts (list_all (λ e. is_shared e.1.state) (beside rows.locks key)) (holder_fits rows key) h in
    (and_parts (has_generation rows.nodes key.instance) (is_live_in rows key.client) t.1).1

stands_by : (rows : Rows) (key : LockKey) (state : LockState) → state_fits rows key state ≡ true → stands (beside rows.locks key) state ≡ true
stands_by rows key Lapsed h =
    let t = and_parts (length (beside rows.locks key) == 1 && key.client == 0) (key.handle == 0) h in
    (and_parts (length (beside rows.locks key) == 1) (key.client == 0) t.0).0
stands_by rows key Exclusive h = (and_parts (length (beside rows.locks key) == 1) (holder_fits rows key) h).0
stands_by rows key Shared h = (and_parts (list_all (λ e. is_shared e.1.state) (beside rows.locks key)) (holder_fits rows key) h).0

generation_by : (rows : Rows) (key : LockKey) (state : LockState) → state_fits rows key state ≡ true → (not (is_holding state) || has_generation rows.nodes key.instance) ≡ true
generation_by rows key Lapsed h = refl
generation_by rows key Exclusive h =
    let t = and_parts (length (beside rows.locks key) == 1) (holder_fits rows key) h in
    (and_parts (has_generation rows.nodes key.instance) (is_live_in rows key.client) t.1).0
generation_by rows key Shared h =
    let t = and_parts (list_all (λ e. is_shared e.1.state) (beside rows.locks key)) (holder_fits rows key) h in
    (and_parts (has_generation rows.nodes key.instance) (is_live_in rows key.client) t.1).0

two_apart : (x y : LockKey × LockRow) (rest : StoredLocks) → (length (x ∷ y ∷ rest) == 1) ≡ true → ⊥
two_apart x y rest h = grind (arith, nat_tests)

two_together : (x y : LockKey × LockRow) (rest : StoredLocks) (state : LockState) → stands (x ∷ y ∷ rest) state ≡ true → list_all (λ e. is_shared e.1.state) (x ∷ y ∷ rest) ≡ true
two_together x y rest Lapsed h = absurd (two_apart x y rest h)
two_together x y rest Exclusive h = absurd (two_apart x y rest h)
two_together x y rest Shared h = h

together_by : (whole : StoredLocks) → list_all (λ e. stands whole e.1.state) whole ≡ true → are_together whole ≡ true
together_by [] h = refl
together_by (x ∷ []) h = refl
together_by (x ∷ y ∷ rest) h = two_together x y rest x.1.state (and_parts (stands (x ∷ y ∷ rest) x.1.state) (list_all (λ e. stands (x ∷ y ∷ rest) e.1.state) (y ∷ rest)) h).0

module _ (cell : List ℕ) (rows : Rows) (instance : ℕ) (h : sound cell rows ≡ true) where
  here_fit : (p : LockKey × LockRow → Bool) → ((e : LockKey × LockRow) → (e.0.instance == instance) ≡ true → lock_fits rows e ≡ true → p e ≡ true) → list_all p (locks_at rows.locks instance) ≡ true
  here_fit p f = all_let_through (λ e. e.0.instance == instance) (lock_fits rows) p rows.locks f (parts_of cell rows h).locks

  fit_parts : (e : LockKey × LockRow) → lock_fits rows e ≡ true → (is_number e.0.client ≡ true) × (is_number e.0.handle ≡ true) × (nat_le e.1.delay 60000 ≡ true) × (state_fits rows e.0 e.1.state ≡ true)
  fit_parts e k =
      let t = five_parts (has_instance rows.nodes e.0.instance) (is_number e.0.client) (is_number e.0.handle) (nat_le e.1.delay 60000) (state_fits rows e.0 e.1.state) k in
      (t.1, t.2, t.3, t.4)

  -- the rows of each lock of sound rows are legal
  pub sound_legal : are_legal_rows rows instance (locks_at rows.locks instance) ≡ true
  sound_legal =
      let whole : StoredLocks = locks_at rows.locks instance in
      let each : list_all (row_fits rows instance) whole ≡ true = here_fit (row_fits rows instance) (λ e own k.
      let t = fit_parts e k in
      rw (own, t.0, t.1, t.2) (legal_by rows e.0 e.1.state t.3)) in
      let standing : list_all (λ e. stands whole e.1.state) whole ≡ true = here_fit (λ e. stands whole e.1.state) (λ e own k.
      let is : e.0.instance ≡ instance = eqb-true e.0.instance instance own in
      let P : ℕ → Type 0 = λ n. stands (locks_at rows.locks n) e.1.state ≡ true in
      subst P is (stands_by rows e.0 e.1.state (fit_parts e k).3)) in
      and_from (list_all (row_fits rows instance) whole) (are_together whole) each (together_by whole standing)

  -- and where somebody holds it, it had a first generation
  pub sound_generation : has_holder (locks_at rows.locks instance) ≡ true → has_generation rows.nodes instance ≡ true
  sound_generation held =
      let whole : StoredLocks = locks_at rows.locks instance in
      let first : list_all (λ e. not (is_holding e.1.state) || has_generation rows.nodes instance) whole ≡ true =
      here_fit (λ e. not (is_holding e.1.state) || has_generation rows.nodes instance) (λ e own k.
      let is : e.0.instance ≡ instance = eqb-true e.0.instance instance own in
      let P : ℕ → Type 0 = λ n. (not (is_holding e.1.state) || has_generation rows.nodes n) ≡ true in
      subst P is (generation_by rows e.0 e.1.state (fit_parts e k).3)) in
      some_of (λ e. is_holding e.1.state) (has_generation rows.nodes instance) whole held first
