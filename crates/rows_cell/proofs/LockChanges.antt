-- What becomes of some locks at once leaves the rows sound, also where a session ends with it.
use Rattle.std.proofs.Common.{◌≡◌, ℕ, List, [], ◌∷◌, ◌++◌, Bool, true, false, cond, Option, Some, None, refl, sym, ap, subst, ◌∙◌, arith}
use Rattle.std.specs.Prelude.{◌+◌, ◌||◌, ◌==◌, not, nat_lt, nat_le, map}
use Rattle.std.specs.Option.{option_map_or, option_or, unwrap_or}
use Rattle.std.specs.Ordering.{nat_cmp}
use Rattle.std.specs.List.{AllByRecursion, list_all, list_any}
use Rattle.std.specs.List.Sorted.{IsStrictlySortedBy}
use Rattle.std.specs.Map.{keys_of}
use Rattle.std.specs.BTreeMap.{insert_entry}
use Rattle.std.proofs.lemmas.Bool.{and_parts, or_left, or_parts, eqb-true, not-true}
use Rattle.std.proofs.lemmas.Bool.Decides.{nat_tests}
use Rattle.node_core.specs.Limits.{number_limit}
use Rattle.rows_cell.specs.declared.tables.StoredNode.{StoredNode}
use Rattle.rows_cell.specs.declared.tables.SessionRow.{SessionRow}
use Rattle.rows_cell.specs.declared.tables.LockRow.{LockRow}
use Rattle.rows_cell.specs.declared.keys.LockKey.{LockKey}
use Rattle.rows_cell.specs.declared.tables.Rows.{Rows}
use Rattle.rows_cell.specs.declared.tables.Edit.TheVariants.{PutSession}
use Rattle.rows_cell.specs.Keys.{lock_order}
use Rattle.rows_cell.specs.Rows.{StoredNodes, StoredLocks, stored_node, nodes_of, map_of, edited, changed_rows}
use Rattle.rows_cell.specs.Sound.{sound, is_number, are_distinct}
use Rattle.rows_cell.specs.Indexes.{locks_at, lock_generation_in}
use Rattle.rows_cell.specs.LockRows.{locks_off, is_holding, has_holder, are_legal_rows, has_generation, row_edits, LockChange, generation_edits, lock_edits, locks_edits}
use Rattle.rows_cell.proofs.InstanceTables.{held_is}
use Rattle.rows_cell.proofs.PutEntries.{all_more}
use Rattle.rows_cell.proofs.SoundEnds.{changed_more, holds, ended_sound}
use Rattle.rows_cell.proofs.SoundParts.{parts_of}
use Rattle.rows_cell.proofs.SoundRemovals.{all_let_through}
use Rattle.rows_cell.proofs.RowEdits.{HasRowsAt, relocked, relocks, relocked_rows, locks_elsewhere}
use Rattle.rows_cell.proofs.SoundLocks.{RowsFit, all_from_halves, own_keys, relocked_sound, sound_generation}
use Rattle.rows_cell.proofs.SoundGenerations.{generation_sound, found_there, found_generation, with_generation, generation_here, generation_elsewhere, same_map, found_by_instance, kept_or_new}

not_equal : (a b : ℕ) → (a == b) ≡ false → a ≡ b → ⊥
not_equal a b h e = grind (arith, nat_tests)

turned : (a b : ℕ) → (a == b) ≡ false → (b == a) ≡ false
turned a b h = grind (arith, nat_tests)

-- ---- one lock

-- what a change of one lock needs: its node, the rows that were there, new ones that may stand together, and a generation of at least 1 where somebody holds it, before or after
pub record ChangeFits (rows : Rows) (change : LockChange) : Type 0 where
  pub node : StoredNode
  pub found : stored_node rows.nodes change.name ≡ Some node
  pub instance : node.node.instance ≡ change.instance
  pub old : locks_at rows.locks change.instance ≡ change.old
  pub in_order : IsStrictlySortedBy lock_order (keys_of change.new)
  pub legal : are_legal_rows rows change.instance change.new ≡ true
  pub number : option_map_or is_number change.generation true ≡ true
  pub before : has_holder change.old ≡ true → option_map_or (λ generation. nat_le 1 generation) change.generation true ≡ true
  pub after : has_holder change.new ≡ true → nat_le 1 (unwrap_or change.generation node.lock_generation) ≡ true

-- the rows behind it
abbrev pub relocked_by : Rows → LockChange → Rows
relocked_by rows change = record rows { nodes = with_generation rows.nodes change.name change.generation; locks = relocked change.old change.new rows.locks }

generation_done : (rows : Rows) (name : List ℕ) (generation : Option ℕ) → changed_rows rows (generation_edits name generation) ≡ record rows { nodes = with_generation rows.nodes name generation }
generation_done rows name None = refl
generation_done rows name (Some generation) = refl

-- its edits change nothing else
pub lock_edits_done : (rows : Rows) (change : LockChange) → changed_rows rows (lock_edits change) ≡ relocked_by rows change
lock_edits_done rows change =
    changed_more rows (generation_edits change.name change.generation) (row_edits change.old change.new)
    ∙ ap (λ (r : Rows). changed_rows r (row_edits change.old change.new)) (generation_done rows change.name change.generation)
    ∙ relocks (record rows { nodes = with_generation rows.nodes change.name change.generation }) change.old change.new

module _ (rows : Rows) (change : LockChange) (fits : ChangeFits rows change) where
  -- the node's lock has the new rows, and all others have theirs
  pub change_locks : IsStrictlySortedBy lock_order (keys_of rows.locks) → HasRowsAt change.instance change.new rows.locks (relocked_by rows change).locks
  change_locks sorted = relocked_rows rows.locks change.old change.new change.instance sorted fits.old fits.in_order (own_keys rows change.instance change.new fits.legal)

  -- the map stays
  pub change_map : map_of (relocked_by rows change) ≡ map_of rows
  change_map = same_map rows.nodes change.name change.generation

  generation_step : (cell : List ℕ) (generation : Option ℕ) → option_map_or is_number generation true ≡ true → (has_holder change.old ≡ true → option_map_or (λ g. nat_le 1 g) generation true ≡ true) → sound cell rows ≡ true → sound cell (record rows { nodes = with_generation rows.nodes change.name generation }) ≡ true
  generation_step cell None number before h = h
  generation_step cell (Some generation) number before h =
      let P : StoredLocks → Type 0 = λ locks. has_holder locks ≡ true → nat_le 1 generation ≡ true in
      let held : P (locks_at rows.locks fits.node.node.instance) = subst P (sym (ap (λ n. locks_at rows.locks n) fits.instance ∙ fits.old)) before in
      generation_sound cell rows change.name fits.node generation (record { found = fits.found; number = number; held = held }) h

  -- the node's lock has the new generation, where there is one, and all others have theirs
  pub change_generation : (cell : List ℕ) (n : ℕ) → sound cell rows ≡ true
      → lock_generation_in (relocked_by rows change).nodes n ≡ cond (change.instance == n) (Some (unwrap_or change.generation fits.node.lock_generation)) (lock_generation_in rows.nodes n)
  change_generation cell n h =
      kept_or_new rows.nodes change.name fits.node change.generation n fits.found (parts_of cell rows h).distinct
      ∙ ap (λ i. cond (i == n) (Some (unwrap_or change.generation fits.node.lock_generation)) (lock_generation_in rows.nodes n)) fits.instance

  -- it leaves the rows sound
  pub change_sound : (cell : List ℕ) → sound cell rows ≡ true → IsStrictlySortedBy lock_order (keys_of rows.locks) → sound cell (changed_rows rows (lock_edits change)) ≡ true
  change_sound cell h sorted =
      let first : Rows = record rows { nodes = with_generation rows.nodes change.name change.generation } in
      let new_node : StoredNode = record (fits.node) { lock_generation = unwrap_or change.generation fits.node.lock_generation } in
      let found : stored_node first.nodes change.name ≡ Some new_node = generation_here rows.nodes change.name fits.node change.generation fits.found in
      let new_fits : RowsFit first change.instance change.new = record {
        there = found_there first.nodes change.name new_node change.instance found fits.instance;
        legal = fits.legal;
        generation = λ held. found_generation first.nodes change.name new_node change.instance found fits.instance (fits.after held);
      } in
      let P : Rows → Type 0 = λ r. sound cell r ≡ true in
      let first_sound = generation_step cell change.generation fits.number fits.before h in
      let done = relocked_sound cell first change.instance change.old change.new first_sound sorted fits.old fits.in_order new_fits in
      subst P (sym (changed_more rows (generation_edits change.name change.generation) (row_edits change.old change.new) ∙ ap (λ (r : Rows). changed_rows r (row_edits change.old change.new)) (generation_done rows change.name change.generation))) done

  -- ---- another lock

  other_names : (other : LockChange) → (change.instance == other.instance) ≡ false → ChangeFits rows other → other.name ≡ change.name → ⊥
  other_names other apart k same =
      let P : List ℕ → Type 0 = λ name. stored_node rows.nodes name ≡ Some k.node in
      let there : stored_node rows.nodes change.name ≡ Some k.node = subst P same k.found in
      let first = fits.found in
      let one : fits.node ≡ k.node = cc in
      let is : change.instance ≡ other.instance = sym fits.instance ∙ ap (λ (n : StoredNode). n.node.instance) one ∙ k.instance in
      absurd (not_equal change.instance other.instance apart is)

  -- what fits another lock still fits it
  pub fits_behind : IsStrictlySortedBy lock_order (keys_of rows.locks) → (other : LockChange) → (change.instance == other.instance) ≡ false → ChangeFits rows other → ChangeFits (relocked_by rows change) other
  fits_behind sorted other apart k =
      let locks = change_locks sorted in
      record {
        node = k.node;
        found = generation_elsewhere rows.nodes change.name other.name change.generation (other_names other apart k) ∙ k.found;
        instance = k.instance;
        old = locks_elsewhere rows.locks (relocked_by rows change).locks change.instance other.instance locks.others (turned change.instance other.instance apart) ∙ k.old;
        in_order = k.in_order;
        legal = k.legal;
        number = k.number;
        before = k.before;
        after = k.after;
      }

-- ---- the two kinds of changes

next_number : (n limit : ℕ) → nat_lt n limit ≡ true → nat_le (n + 1) limit ≡ true
next_number n limit h = grind (arith, nat_tests)

one_more : (n : ℕ) → nat_le 1 (n + 1) ≡ true
one_more n = grind (arith, nat_tests)

-- the rows of the lock of the node at a name, before and after
pub record NewRows (rows : Rows) (name : List ℕ) (node : StoredNode) (old new : StoredLocks) : Type 0 where
  pub found : stored_node rows.nodes name ≡ Some node
  pub was : locks_at rows.locks node.node.instance ≡ old
  pub in_order : IsStrictlySortedBy lock_order (keys_of new)
  pub legal : are_legal_rows rows node.node.instance new ≡ true

-- from free to held: the generation rises by 1
pub risen_fits : (rows : Rows) (name : List ℕ) (node : StoredNode) (old new : StoredLocks) → NewRows rows name node old new → nat_lt node.lock_generation number_limit ≡ true
    → ChangeFits rows (record { name = name; instance = node.node.instance; generation = Some (node.lock_generation + 1); old = old; new = new })
risen_fits rows name node old new h below = record {
  node = node;
  found = h.found;
  instance = refl;
  old = h.was;
  in_order = h.in_order;
  legal = h.legal;
  number = next_number node.lock_generation number_limit below;
  before = λ held. one_more node.lock_generation;
  after = λ held. one_more node.lock_generation;
}

-- else the generation stays
pub kept_fits : (cell : List ℕ) (rows : Rows) (name : List ℕ) (node : StoredNode) (old new : StoredLocks) → sound cell rows ≡ true → NewRows rows name node old new → (has_holder new ≡ true → has_holder old ≡ true)
    → ChangeFits rows (record { name = name; instance = node.node.instance; generation = None; old = old; new = new })
kept_fits cell rows name node old new sound_rows h still =
    let distinct = (parts_of cell rows sound_rows).distinct in
    let P : StoredLocks → Type 0 = λ es. has_holder es ≡ true → has_generation rows.nodes node.node.instance ≡ true in
    let first : P old = subst P h.was (sound_generation cell rows node.node.instance sound_rows) in
    let own : nat_le 1 node.lock_generation ≡ has_generation rows.nodes node.node.instance =
    ap (λ o. option_map_or (λ generation. nat_le 1 generation) o false) (sym (found_by_instance rows.nodes name node h.found distinct)) ∙ held_is rows.nodes node.node.instance distinct in
    record {
      node = node;
      found = h.found;
      instance = refl;
      old = h.was;
      in_order = h.in_order;
      legal = h.legal;
      number = refl;
      before = λ held. refl;
      after = λ held. own ∙ first (still held);
    }

-- ---- some locks, one behind the other

abbrev pub nodes_behind : StoredNodes → List LockChange → StoredNodes
nodes_behind nodes [] = nodes
nodes_behind nodes (change ∷ changes) = nodes_behind (with_generation nodes change.name change.generation) changes

abbrev pub locks_behind : StoredLocks → List LockChange → StoredLocks
locks_behind locks [] = locks
locks_behind locks (change ∷ changes) = locks_behind (relocked change.old change.new locks) changes

-- their edits change nothing else
pub locks_edits_done : (rows : Rows) (changes : List LockChange) → changed_rows rows (locks_edits changes) ≡ record rows { nodes = nodes_behind rows.nodes changes; locks = locks_behind rows.locks changes }
locks_edits_done rows [] = refl
locks_edits_done rows (change ∷ changes) =
    changed_more rows (lock_edits change) (locks_edits changes) ∙ ap (λ (r : Rows). changed_rows r (locks_edits changes)) (lock_edits_done rows change) ∙ locks_edits_done (relocked_by rows change) changes

-- what changes of some locks need: each fits, and no two are of the same lock
pub record ChangesFit (rows : Rows) (changes : List LockChange) : Type 0 where
  pub each : AllByRecursion (ChangeFits rows) changes
  pub distinct : are_distinct (map (λ change. change.instance) changes) ≡ true

each_behind : (rows : Rows) (change : LockChange) (changes : List LockChange) → ChangeFits rows change → IsStrictlySortedBy lock_order (keys_of rows.locks) → list_any (λ m. m == change.instance) (map (λ c. c.instance) changes) ≡ false → AllByRecursion (ChangeFits rows) changes → AllByRecursion (ChangeFits (relocked_by rows change)) changes
each_behind rows change [] fits sorted apart each = tt
each_behind rows change (other ∷ changes) fits sorted apart each =
    let t = or_parts (other.instance == change.instance) (list_any (λ m. m == change.instance) (map (λ c. c.instance) changes)) apart in
    (fits_behind rows change fits sorted other (turned other.instance change.instance t.0) each.0, each_behind rows change changes fits sorted t.1 each.1)

-- once the first has changed, the others still fit
pub others_fit : (rows : Rows) (change : LockChange) (changes : List LockChange) → ChangesFit rows (change ∷ changes) → IsStrictlySortedBy lock_order (keys_of rows.locks) → ChangesFit (relocked_by rows change) changes
others_fit rows change changes fits sorted =
    let among : Bool = list_any (λ m. m == change.instance) (map (λ (c : LockChange). c.instance) changes) in
    let t = and_parts (not among) (are_distinct (map (λ (c : LockChange). c.instance) changes)) fits.distinct in
    record { each = each_behind rows change changes fits.each.0 sorted (not-true among t.0) fits.each.1; distinct = t.1 }

-- they leave the rows sound
pub changes_sound : (cell : List ℕ) (rows : Rows) (changes : List LockChange) → sound cell rows ≡ true → IsStrictlySortedBy lock_order (keys_of rows.locks) → ChangesFit rows changes → sound cell (changed_rows rows (locks_edits changes)) ≡ true
changes_sound cell rows [] h sorted fits = h
changes_sound cell rows (change ∷ changes) h sorted fits =
    let P : Rows → Type 0 = λ r. sound cell r ≡ true in
    let Q : Rows → Type 0 = λ r. sound cell (changed_rows r (locks_edits changes)) ≡ true in
    let first = subst P (lock_edits_done rows change) (change_sound rows change fits.each.0 cell h sorted) in
    let after = (change_locks rows change fits.each.0 sorted).in_order in
    let done = changes_sound cell (relocked_by rows change) changes first after (others_fit rows change changes fits sorted) in
    subst P (sym (changed_more rows (lock_edits change) (locks_edits changes))) (subst Q (sym (lock_edits_done rows change)) done)

-- the locks stay in order
pub changes_in_order : (rows : Rows) (changes : List LockChange) → IsStrictlySortedBy lock_order (keys_of rows.locks) → ChangesFit rows changes → IsStrictlySortedBy lock_order (keys_of (locks_behind rows.locks changes))
changes_in_order rows [] sorted fits = sorted
changes_in_order rows (change ∷ changes) sorted fits =
    changes_in_order (relocked_by rows change) changes (change_locks rows change fits.each.0 sorted).in_order (others_fit rows change changes fits sorted)

-- the map stays
pub changes_map : (nodes : StoredNodes) (changes : List LockChange) → nodes_of (nodes_behind nodes changes) ≡ nodes_of nodes
changes_map nodes [] = refl
changes_map nodes (change ∷ changes) = changes_map (with_generation nodes change.name change.generation) changes ∙ same_map nodes change.name change.generation

-- the rows of a node's lock: the new ones where it is among the changes, else what was there
abbrev pub new_rows_of : List LockChange → StoredLocks → ℕ → StoredLocks
new_rows_of [] locks n = locks_at locks n
new_rows_of (change ∷ changes) locks n = cond (change.instance == n) change.new (new_rows_of changes locks n)

among_none : (changes : List LockChange) (locks : StoredLocks) (n : ℕ) → list_any (λ m. m == n) (map (λ (c : LockChange). c.instance) changes) ≡ false → new_rows_of changes locks n ≡ locks_at locks n
among_none [] locks n h = refl
among_none (change ∷ changes) locks n h =
    let t = or_parts (change.instance == n) (list_any (λ m. m == n) (map (λ (c : LockChange). c.instance) changes)) h in
    ap (λ b. cond b change.new (new_rows_of changes locks n)) t.0 ∙ among_none changes locks n t.1

same_new_rows : (changes : List LockChange) (locks others : StoredLocks) (n : ℕ) → locks_at locks n ≡ locks_at others n → new_rows_of changes locks n ≡ new_rows_of changes others n
same_new_rows [] locks others n h = h
same_new_rows (change ∷ changes) locks others n h = ap (λ es. cond (change.instance == n) change.new es) (same_new_rows changes locks others n h)

pub changes_locks : (rows : Rows) (changes : List LockChange) (n : ℕ) → IsStrictlySortedBy lock_order (keys_of rows.locks) → ChangesFit rows changes → locks_at (locks_behind rows.locks changes) n ≡ new_rows_of changes rows.locks n
changes_locks rows [] n sorted fits = refl
changes_locks rows (change ∷ changes) n sorted fits =
    let after : StoredLocks = (relocked_by rows change).locks in
    let locks = change_locks rows change fits.each.0 sorted in
    let rest = changes_locks (relocked_by rows change) changes n locks.in_order (others_fit rows change changes fits sorted) in
    let among : ℕ → Bool = λ i. list_any (λ m. m == i) (map (λ (c : LockChange). c.instance) changes) in
    let none : among change.instance ≡ false = not-true (among change.instance) (and_parts (not (among change.instance)) (are_distinct (map (λ (c : LockChange). c.instance) changes)) fits.distinct).0 in
    (elim (change.instance == n) as (λ b. (change.instance == n) ≡ b → locks_at (locks_behind after changes) n ≡ cond b change.new (new_rows_of changes rows.locks n)) [
      | true ↦ (λ c.
          let is : change.instance ≡ n = eqb-true change.instance n c in
          let P : ℕ → Type 0 = λ i. among i ≡ false in
          rest ∙ among_none changes after n (subst P is none) ∙ ap (λ i. locks_at after i) (sym is) ∙ locks.here)
      | false ↦ (λ c. rest ∙ same_new_rows changes after rows.locks n (locks_elsewhere rows.locks after change.instance n locks.others (turned change.instance n c)))
    ]) refl

-- the generation of a node's lock: the new one where it is among the changes and has one, else what was there
abbrev pub new_generation_of : List LockChange → StoredNodes → ℕ → Option ℕ
new_generation_of [] nodes n = lock_generation_in nodes n
new_generation_of (change ∷ changes) nodes n = cond (change.instance == n) (option_or change.generation (lock_generation_in nodes n)) (new_generation_of changes nodes n)

no_generation : (changes : List LockChange) (nodes : StoredNodes) (n : ℕ) → list_any (λ m. m == n) (map (λ (c : LockChange). c.instance) changes) ≡ false → new_generation_of changes nodes n ≡ lock_generation_in nodes n
no_generation [] nodes n h = refl
no_generation (change ∷ changes) nodes n h =
    let t = or_parts (change.instance == n) (list_any (λ m. m == n) (map (λ (c : LockChange). c.instance) changes)) h in
    ap (λ b. cond b (option_or change.generation (lock_generation_in nodes n)) (new_generation_of changes nodes n)) t.0 ∙ no_generation changes nodes n t.1

same_generations : (changes : List LockChange) (nodes others : StoredNodes) (n : ℕ) → lock_generation_in nodes n ≡ lock_generation_in others n → new_generation_of changes nodes n ≡ new_generation_of changes others n
same_generations [] nodes others n h = h
same_generations (change ∷ changes) nodes others n h =
    ap (λ o. cond (change.instance == n) (option_or change.generation o) (new_generation_of changes nodes n)) h
    ∙ ap (λ o. cond (change.instance == n) (option_or change.generation (lock_generation_in others n)) o) (same_generations changes nodes others n h)

or_known : (generation : Option ℕ) (n : ℕ) → Some (unwrap_or generation n) ≡ option_or generation (Some n)
or_known None n = refl
or_known (Some generation) n = refl

pub changes_generations : (cell : List ℕ) (rows : Rows) (changes : List LockChange) (n : ℕ) → sound cell rows ≡ true → IsStrictlySortedBy lock_order (keys_of rows.locks) → ChangesFit rows changes
    → lock_generation_in (nodes_behind rows.nodes changes) n ≡ new_generation_of changes rows.nodes n
changes_generations cell rows [] n h sorted fits = refl
changes_generations cell rows (change ∷ changes) n h sorted fits =
    let fit = fits.each.0 in
    let nodes : StoredNodes = (relocked_by rows change).nodes in
    let P : Rows → Type 0 = λ r. sound cell r ≡ true in
    let first : P (relocked_by rows change) = subst P (lock_edits_done rows change) (change_sound rows change fit cell h sorted) in
    let rest = changes_generations cell (relocked_by rows change) changes n first (change_locks rows change fit sorted).in_order (others_fit rows change changes fits sorted) in
    let new = change_generation rows change fit cell n h in
    let among : ℕ → Bool = λ i. list_any (λ m. m == i) (map (λ (c : LockChange). c.instance) changes) in
    let none : among change.instance ≡ false = not-true (among change.instance) (and_parts (not (among change.instance)) (are_distinct (map (λ (c : LockChange). c.instance) changes)) fits.distinct).0 in
    let old : Option ℕ = lock_generation_in rows.nodes n in
    (elim (change.instance == n) as (λ b. (change.instance == n) ≡ b → lock_generation_in nodes n ≡ cond b (Some (unwrap_or change.generation fit.node.lock_generation)) old → lock_generation_in (nodes_behind nodes changes) n ≡ cond b (option_or change.generation old) (new_generation_of changes rows.nodes n)) [
      | true ↦ (λ c k.
          let is : change.instance ≡ n = eqb-true change.instance n c in
          let Q : ℕ → Type 0 = λ i. among i ≡ false in
          let was : old ≡ Some fit.node.lock_generation = ap (λ i. lock_generation_in rows.nodes i) (sym (fit.instance ∙ is)) ∙ found_by_instance rows.nodes change.name fit.node fit.found (parts_of cell rows h).distinct in
          rest ∙ no_generation changes nodes n (subst Q is none) ∙ k ∙ or_known change.generation fit.node.lock_generation ∙ ap (λ o. option_or change.generation o) (sym was))
      | false ↦ (λ c k. rest ∙ same_generations changes nodes rows.nodes n k)
    ]) refl new

-- ---- with the end of a session

-- each lock that the client's session holds is among the changes
abbrev pub are_among : ℕ → List LockChange → StoredLocks → Bool
are_among client changes locks = list_all (λ e. not (holds is_holding client e) || list_any (λ change. change.instance == e.0.instance) changes) locks

-- it holds none of them behind its change
abbrev pub are_free : ℕ → List LockChange → Bool
are_free client changes = list_all (λ change. list_all (λ e. not (holds is_holding client e)) change.new) changes

without_middle : (a b c : Bool) → b ≡ false → (a || (b || c)) ≡ true → (a || c) ≡ true
without_middle true b c e h = refl
without_middle false true c e h = absurd cc
without_middle false false c e h = h

or_nothing : (a : Bool) → (a || false) ≡ true → a ≡ true
or_nothing true h = refl
or_nothing false h = h

pub changes_free : (rows : Rows) (client : ℕ) (changes : List LockChange) → IsStrictlySortedBy lock_order (keys_of rows.locks) → ChangesFit rows changes → are_free client changes ≡ true → are_among client changes rows.locks ≡ true → list_all (λ e. not (holds is_holding client e)) (locks_behind rows.locks changes) ≡ true
changes_free rows client [] sorted fits free among = all_more (λ e. not (holds is_holding client e) || false) (λ e. not (holds is_holding client e)) rows.locks (λ e h. or_nothing (not (holds is_holding client e)) h) among
changes_free rows client (change ∷ changes) sorted fits free among =
    let after : StoredLocks = (relocked_by rows change).locks in
    let locks = change_locks rows change fits.each.0 sorted in
    let held : LockKey × LockRow → Bool = λ e. not (holds is_holding client e) in
    let any : LockKey × LockRow → Bool = λ e. list_any (λ (c : LockChange). c.instance == e.0.instance) changes in
    let t = and_parts (list_all held change.new) (are_free client changes) free in
    let P : StoredLocks → Type 0 = λ es. list_all (λ e. held e || any e) es ≡ true in
    let new : P change.new = all_more held (λ e. held e || any e) change.new (λ e h. or_left (held e) (any e) h) t.0 in
    let old : P (locks_off rows.locks change.instance) =
    all_let_through (λ e. not (e.0.instance == change.instance)) (λ e. held e || (change.instance == e.0.instance || any e)) (λ e. held e || any e) rows.locks
    (λ e kept h. without_middle (held e) (change.instance == e.0.instance) (any e) (turned e.0.instance change.instance (not-true (e.0.instance == change.instance) kept)) h) among in
    let left : P after = all_from_halves (λ e. e.0.instance == change.instance) (λ e. held e || any e) after (subst P (sym locks.here) new) (subst P (sym locks.others) old) in
    changes_free (relocked_by rows change) client changes locks.in_order (others_fit rows change changes fits sorted) t.1 left

-- the rows behind an expiry
pub expiry_done : (rows : Rows) (changes : List LockChange) (client : ℕ) (session : SessionRow)
    → changed_rows rows (locks_edits changes ++ PutSession client session ∷ []) ≡ record rows { nodes = nodes_behind rows.nodes changes; locks = locks_behind rows.locks changes; sessions = insert_entry nat_cmp rows.sessions client session }
expiry_done rows changes client session =
    changed_more rows (locks_edits changes) (PutSession client session ∷ []) ∙ ap (λ (r : Rows). edited r (PutSession client session)) (locks_edits_done rows changes)

-- an expiry leaves the rows sound, where each lock that the session held is among the changes, and it holds none behind them
pub expiry_sound : (cell : List ℕ) (rows : Rows) (changes : List LockChange) (client : ℕ) (session : SessionRow) → sound cell rows ≡ true → IsStrictlySortedBy lock_order (keys_of rows.locks) → ChangesFit rows changes → is_number client ≡ true → are_free client changes ≡ true → are_among client changes rows.locks ≡ true
    → sound cell (changed_rows rows (locks_edits changes ++ PutSession client session ∷ [])) ≡ true
expiry_sound cell rows changes client session h sorted fits number free among =
    let P : Rows → Type 0 = λ r. sound cell r ≡ true in
    let Q : Rows → Type 0 = λ r. list_all (λ e. not (holds is_holding client e)) r.locks ≡ true in
    let after : Rows = changed_rows rows (locks_edits changes) in
    let none : Q after = subst Q (sym (locks_edits_done rows changes)) (changes_free rows client changes sorted fits free among) in
    let done = ended_sound cell after client session is_holding refl refl (changes_sound cell rows changes h sorted fits) number none in
    subst P (sym (changed_more rows (locks_edits changes) (PutSession client session ∷ []))) done
