-- The tables over the instances hold what the rows say.
use Rattle.std.proofs.Common.{◌≡◌, ℕ, List, [], ◌∷◌, length, Bool, true, false, cond, Option, Some, None, Equal, refl, sym, ap, subst, ◌∙◌, arith}
use Rattle.std.specs.Prelude.{◌&&◌, ◌||◌, ◌==◌, not, nat_le, map, is_some, is_none}
use Rattle.std.specs.Option.{option_map_or}
use Rattle.std.specs.Ordering.{nat_cmp}
use Rattle.std.specs.List.{list_all, list_any}
use Rattle.std.specs.Map.{lookup}
use Rattle.std.specs.BTreeMap.{is_at, insert_entry}
use Rattle.std.proofs.lemmas.Bool.{and_parts, not-true}
use Rattle.std.proofs.lemmas.Bool.Decides.{nat_tests}
use Rattle.std.proofs.lemmas.Map.Lookups.{exact_unsigned}
use Rattle.collections.proofs.Entries.{lookup_put}
use Rattle.rows_cell.specs.declared.tables.StoredNode.{StoredNode}
use Rattle.rows_cell.specs.declared.tables.LockRow.{LockRow}
use Rattle.rows_cell.specs.declared.soundness.NodeLocks.{NodeLocks}
use Rattle.rows_cell.specs.declared.keys.LockKey.{LockKey}
use Rattle.rows_cell.specs.Rows.{StoredNodes, StoredLocks}
use Rattle.rows_cell.specs.Sound.{is_shared}
use Rattle.rows_cell.specs.Indexes.{are_apart, lock_generation_in, HasGenerations, joined, alone_in, shared_in, locks_at, HasGroups}

-- what a table has at a number
abbrev pub at : {X : Type 0} → List (ℕ × X) → ℕ → Option X
at table n = lookup (is_at (nat_cmp n)) table

same_number : (a b : ℕ) → (a == b) ≡ true → a ≡ b
same_number a b h = grind (arith, nat_tests)

itself : (a : ℕ) → nat_cmp a a ≡ Equal
itself a = grind (arith, nat_tests)

is_at_same : (n i : ℕ) → is_at (nat_cmp n) i ≡ (i == n)
is_at_same n i = grind (arith, nat_tests)

put_at : {X : Type 0} (table : List (ℕ × X)) (i : ℕ) (x : X) (n : ℕ) → at (insert_entry nat_cmp table i x) n ≡ cond (i == n) (Some x) (at table n)
put_at table i x n = lookup_put nat_cmp exact_unsigned itself table i x n ∙ ap (λ b. cond b (Some x) (at table n)) (is_at_same n i)

-- ---- the generations of locks

-- the instances are neither in the table nor twice in the list
pub fresh : List (ℕ × ℕ) → StoredNodes → Bool
fresh table [] = true
fresh table (e ∷ es) = is_none (at table e.1.node.instance) && fresh (insert_entry nat_cmp table e.1.node.instance e.1.lock_generation) es

abbrev none_in : List (ℕ × ℕ) → StoredNodes → Bool
none_in table nodes = list_all (λ e. is_none (at table e.1.node.instance)) nodes

abbrev any_at : ℕ → StoredNodes → Bool
any_at n nodes = list_any (λ m. m == n) (map (λ e. e.1.node.instance) nodes)

four : (a b c d : Bool) → (cond a false b && (c && not d)) ≡ (b && c && not (a || d))
four true true true true = refl
four true true true false = refl
four true true false d = refl
four true false c d = refl
four false true true d = refl
four false true false d = refl
four false false c d = refl

none_of_cond : (b : Bool) (x : ℕ) (o : Option ℕ) → is_none (cond b (Some x) o) ≡ cond b false (is_none o)
none_of_cond true x o = refl
none_of_cond false x o = refl

turned : (a b : ℕ) → (a == b) ≡ (b == a)
turned a b = grind (arith, nat_tests)

none_put : (table : List (ℕ × ℕ)) (i x : ℕ) (nodes : StoredNodes) → none_in (insert_entry nat_cmp table i x) nodes ≡ (none_in table nodes && not (any_at i nodes))
none_put table i x [] = refl
none_put table i x (e ∷ es) =
    let n : ℕ = e.1.node.instance in
    let here : is_none (at (insert_entry nat_cmp table i x) n) ≡ cond (n == i) false (is_none (at table n)) =
    ap (λ o. is_none o) (put_at table i x n) ∙ none_of_cond (i == n) x (at table n) ∙ ap (λ b. cond b false (is_none (at table n))) (turned i n) in
    ap (λ b. b && none_in (insert_entry nat_cmp table i x) es) here
    ∙ ap (λ b. cond (n == i) false (is_none (at table n)) && b) (none_put table i x es)
    ∙ four (n == i) (is_none (at table n)) (none_in table es) (any_at i es)

regroup : (a b c d : Bool) → (a && (b && c && d)) ≡ (a && b && (c && d))
regroup true true true d = refl
regroup true true false d = refl
regroup true false c d = refl
regroup false b c d = refl

fresh_is : (table : List (ℕ × ℕ)) (nodes : StoredNodes) → fresh table nodes ≡ (none_in table nodes && are_apart nodes)
unfolding fresh
fresh_is table [] = refl
fresh_is table (e ∷ es) =
    let n : ℕ = e.1.node.instance in
    let next : List (ℕ × ℕ) = insert_entry nat_cmp table n e.1.lock_generation in
    let none : Bool = is_none (at table n) in
    ap (λ b. none && b) (fresh_is next es)
    ∙ ap (λ b. none && (b && are_apart es)) (none_put table n e.1.lock_generation es)
    ∙ regroup none (none_in table es) (not (any_at n es)) (are_apart es)

all_absent : (nodes : StoredNodes) → none_in [] nodes ≡ true
all_absent [] = refl
all_absent (e ∷ es) = all_absent es

fresh_at_first : (nodes : StoredNodes) → fresh [] nodes ≡ are_apart nodes
fresh_at_first nodes = fresh_is [] nodes ∙ ap (λ b. b && are_apart nodes) (all_absent nodes)

abbrev pub first_of : Option ℕ → Option ℕ → Option ℕ
first_of (Some x) o = Some x
first_of None o = o

-- the nodes that are left, and the table of those before
pub record IsGathered (nodes left : StoredNodes) (table : List (ℕ × ℕ)) : Type 0 where
  pub new : fresh table left ≡ fresh [] nodes
  pub found : (n : ℕ) → first_of (at table n) (lock_generation_in left n) ≡ lock_generation_in nodes n

pub gather_start : (nodes left : StoredNodes) (table : List (ℕ × ℕ)) → left ≡ nodes → table ≡ [] → IsGathered nodes left table
gather_start nodes left table l t =
    let P : StoredNodes → Type 0 = λ xs. IsGathered nodes xs [] in
    let Q : List (ℕ × ℕ) → Type 0 = λ ts. IsGathered nodes left ts in
    let first : IsGathered nodes nodes [] = record { new = refl; found = λ n. refl } in
    subst Q (sym t) (subst P (sym l) first)

found_more : (table : List (ℕ × ℕ)) (n i x : ℕ) (rest whole : Option ℕ) → at table i ≡ None → first_of (at table n) (cond (i == n) (Some x) rest) ≡ whole → first_of (cond (i == n) (Some x) (at table n)) rest ≡ whole
found_more table n i x rest whole none h =
    (elim (i == n) as (λ b. (i == n) ≡ b → first_of (at table n) (cond b (Some x) rest) ≡ whole → first_of (cond b (Some x) (at table n)) rest ≡ whole) [
      | true ↦ (λ e k.
          let P : ℕ → Type 0 = λ m. at table m ≡ None in
          let gone : at table n ≡ None = subst P (same_number i n e) none in
          rw gone at k)
      | false ↦ (λ e k. k)
    ]) refl h

none_was : (o former : Option ℕ) → former ≡ o → is_some former ≡ false → o ≡ None
none_was o None e h = sym e
none_was o (Some x) e h = cc

some_was : (o former : Option ℕ) → former ≡ o → is_some former ≡ true → is_none o ≡ false
some_was o None e h = cc
some_was o (Some x) e h = ap (λ p. is_none p) (sym e)

pub gather_more : (nodes left next : StoredNodes) (name : List ℕ) (node : StoredNode) (table new : List (ℕ × ℕ)) (former : Option ℕ) → IsGathered nodes left table → left ≡ (name, node) ∷ next → former ≡ at table node.node.instance → is_some former ≡ false → new ≡ insert_entry nat_cmp table node.node.instance node.lock_generation → IsGathered nodes next new
unfolding fresh
gather_more nodes left next name node table new former h l was free e =
    let i : ℕ = node.node.instance in
    let none : at table i ≡ None = none_was (at table i) former was free in
    let put : List (ℕ × ℕ) = insert_entry nat_cmp table i node.lock_generation in
    let before : fresh table ((name, node) ∷ next) ≡ fresh [] nodes = ap (λ xs. fresh table xs) (sym l) ∙ h.new in
    let rest : fresh put next ≡ fresh [] nodes = ap (λ o. is_none o && fresh put next) (sym none) ∙ before in
    record {
      new = ap (λ t. fresh t next) e ∙ rest;
      found = λ n.
          let old : first_of (at table n) (cond (i == n) (Some node.lock_generation) (lock_generation_in next n)) ≡ lock_generation_in nodes n = ap (λ xs. first_of (at table n) (lock_generation_in xs n)) (sym l) ∙ h.found n in
          ap (λ t. first_of (at t n) (lock_generation_in next n)) e
          ∙ ap (λ o. first_of o (lock_generation_in next n)) (put_at table i node.lock_generation n)
          ∙ found_more table n i node.lock_generation (lock_generation_in next n) (lock_generation_in nodes n) none old;
    }

pub gather_stop : (nodes left next : StoredNodes) (name : List ℕ) (node : StoredNode) (table : List (ℕ × ℕ)) (former : Option ℕ) → IsGathered nodes left table → left ≡ (name, node) ∷ next → former ≡ at table node.node.instance → is_some former ≡ true → are_apart nodes ≡ false
unfolding fresh
gather_stop nodes left next name node table former h l was taken =
    let i : ℕ = node.node.instance in
    let put : List (ℕ × ℕ) = insert_entry nat_cmp table i node.lock_generation in
    let before : fresh table ((name, node) ∷ next) ≡ fresh [] nodes = ap (λ xs. fresh table xs) (sym l) ∙ h.new in
    let twice : false ≡ fresh [] nodes = ap (λ b. b && fresh put next) (sym (some_was (at table i) former was taken)) ∙ before in
    sym (fresh_at_first nodes) ∙ sym twice

pub gather_done : (nodes left : StoredNodes) (table : List (ℕ × ℕ)) → IsGathered nodes left table → left ≡ [] → HasGenerations nodes table
unfolding fresh
gather_done nodes left table h l =
    let alone : (o : Option ℕ) → first_of o None ≡ o = λ o. elim o as (λ p. first_of p None ≡ p) [ Some x ↦ refl | None ↦ refl ] in
    let all : fresh table [] ≡ fresh [] nodes = ap (λ xs. fresh table xs) (sym l) ∙ h.new in
    record {
      apart = sym (fresh_at_first nodes) ∙ sym all;
      found = λ n. sym (alone (at table n)) ∙ ap (λ xs. first_of (at table n) (lock_generation_in xs n)) (sym l) ∙ h.found n;
    }

-- ---- what they say of a node's lock

pub there_is : (nodes : StoredNodes) (n : ℕ) → is_some (lock_generation_in nodes n) ≡ list_any (λ e. e.1.node.instance == n) nodes
there_is [] n = refl
there_is (e ∷ es) n =
    elim (e.1.node.instance == n) as (λ b. is_some (cond b (Some e.1.lock_generation) (lock_generation_in es n)) ≡ (b || list_any (λ x. x.1.node.instance == n) es)) [
      | true ↦ refl
      | false ↦ there_is es n
    ]

abbrev held_at : ℕ → StoredNodes → Bool
held_at n nodes = list_any (λ e. e.1.node.instance == n && nat_le 1 e.1.lock_generation) nodes

no_other : (n : ℕ) (nodes : StoredNodes) → any_at n nodes ≡ false → held_at n nodes ≡ false
no_other n [] h = refl
no_other n (e ∷ es) h =
    (elim (e.1.node.instance == n) as (λ b. (b || any_at n es) ≡ false → (b && nat_le 1 e.1.lock_generation || held_at n es) ≡ false) [
      | true ↦ (λ k. cc)
      | false ↦ (λ k. no_other n es k)
    ]) h

or_none : (a b : Bool) → b ≡ false → a ≡ (a || b)
or_none true b h = refl
or_none false b h = sym h

pub held_is : (nodes : StoredNodes) (n : ℕ) → are_apart nodes ≡ true → option_map_or (λ generation. nat_le 1 generation) (lock_generation_in nodes n) false ≡ held_at n nodes
held_is [] n h = refl
held_is (e ∷ es) n h =
    let t = and_parts (not (any_at e.1.node.instance es)) (are_apart es) h in
    (elim (e.1.node.instance == n) as (λ b. (e.1.node.instance == n) ≡ b → option_map_or (λ generation. nat_le 1 generation) (cond b (Some e.1.lock_generation) (lock_generation_in es n)) false ≡ (b && nat_le 1 e.1.lock_generation || held_at n es)) [
      | true ↦ (λ k.
          let P : ℕ → Type 0 = λ m. any_at m es ≡ false in
          let none : any_at n es ≡ false = subst P (same_number e.1.node.instance n k) (not-true (any_at e.1.node.instance es) t.0) in
          or_none (nat_le 1 e.1.lock_generation) (held_at n es) (no_other n es none))
      | false ↦ (λ k. held_is es n t.1)
    ]) refl

-- ---- the groups of locks

joined_all : Option NodeLocks → StoredLocks → Option NodeLocks
joined_all o [] = o
joined_all o (e ∷ es) = joined_all (Some (joined o e.1.state)) es

-- the locks that are left, and the table of those before
pub IsGrouped : StoredLocks → StoredLocks → List (ℕ × NodeLocks) → Type 0
IsGrouped locks left table = (n : ℕ) → joined_all (at table n) (locks_at left n) ≡ joined_all None (locks_at locks n)

pub group_start : (locks left : StoredLocks) (table : List (ℕ × NodeLocks)) → left ≡ locks → table ≡ [] → IsGrouped locks left table
unfolding IsGrouped
group_start locks left table l t n = ap (λ ts. joined_all (at ts n) (locks_at left n)) t ∙ ap (λ xs. joined_all None (locks_at xs n)) l

one_grouped : (table : List (ℕ × NodeLocks)) (n : ℕ) (key : LockKey) (row : LockRow) (rest : StoredLocks) (whole : Option NodeLocks) → joined_all (at table n) (cond (key.instance == n) ((key, row) ∷ rest) rest) ≡ whole → joined_all (cond (key.instance == n) (Some (joined (at table key.instance) row.state)) (at table n)) rest ≡ whole
unfolding joined_all
one_grouped table n key row rest whole h =
    (elim (key.instance == n) as (λ b. (key.instance == n) ≡ b → joined_all (at table n) (cond b ((key, row) ∷ rest) rest) ≡ whole → joined_all (cond b (Some (joined (at table key.instance) row.state)) (at table n)) rest ≡ whole) [
      | true ↦ (λ e k. ap (λ m. joined_all (Some (joined (at table m) row.state)) rest) (same_number key.instance n e) ∙ k)
      | false ↦ (λ e k. k)
    ]) refl h

pub group_more : (locks left next : StoredLocks) (key : LockKey) (row : LockRow) (table new : List (ℕ × NodeLocks)) (group : NodeLocks) → IsGrouped locks left table → left ≡ (key, row) ∷ next → group ≡ joined (at table key.instance) row.state → new ≡ insert_entry nat_cmp table key.instance group → IsGrouped locks next new
unfolding IsGrouped
group_more locks left next key row table new group h l g e n =
    let old : joined_all (at table n) (cond (key.instance == n) ((key, row) ∷ locks_at next n) (locks_at next n)) ≡ joined_all None (locks_at locks n) = ap (λ xs. joined_all (at table n) (locks_at xs n)) (sym l) ∙ h n in
    ap (λ t. joined_all (at t n) (locks_at next n)) e
    ∙ ap (λ o. joined_all o (locks_at next n)) (put_at table key.instance group n)
    ∙ ap (λ x. joined_all (cond (key.instance == n) (Some x) (at table n)) (locks_at next n)) g
    ∙ one_grouped table n key row (locks_at next n) (joined_all None (locks_at locks n)) old

abbrev ends : Bool → StoredLocks → Bool
ends b [] = b
ends b (e ∷ es) = false

never : (xs : StoredLocks) → ends false xs ≡ false
never [] = refl
never (e ∷ es) = refl

alone_more : (g : NodeLocks) (xs : StoredLocks) → alone_in (joined_all (Some g) xs) ≡ ends g.is_alone xs
unfolding joined_all
alone_more g [] = refl
alone_more g (e ∷ es) = alone_more (joined (Some g) e.1.state) es ∙ never es

one_alone : (e : LockKey × LockRow) (es : StoredLocks) → ends true es ≡ (length (e ∷ es) == 1)
one_alone e [] = grind (arith, nat_tests)
one_alone e (x ∷ xs) = grind (arith, nat_tests)

alone_is : (xs : StoredLocks) → alone_in (joined_all None xs) ≡ (length xs == 1)
unfolding joined_all
alone_is [] = refl
alone_is (e ∷ es) = alone_more (joined None e.1.state) es ∙ one_alone e es

three : (a b c : Bool) → (a && b && c) ≡ (a && (b && c))
three true b c = refl
three false b c = refl

all_true : (a : Bool) → a ≡ (a && true)
all_true true = refl
all_true false = refl

shared_more : (g : NodeLocks) (xs : StoredLocks) → shared_in (joined_all (Some g) xs) ≡ (g.are_shared && list_all (λ e. is_shared e.1.state) xs)
unfolding joined_all
shared_more g [] = all_true g.are_shared
shared_more g (e ∷ es) = shared_more (joined (Some g) e.1.state) es ∙ three g.are_shared (is_shared e.1.state) (list_all (λ x. is_shared x.1.state) es)

shared_is : (xs : StoredLocks) → shared_in (joined_all None xs) ≡ list_all (λ e. is_shared e.1.state) xs
unfolding joined_all
shared_is [] = refl
shared_is (e ∷ es) = shared_more (joined None e.1.state) es

pub group_done : (locks left : StoredLocks) (table : List (ℕ × NodeLocks)) → IsGrouped locks left table → left ≡ [] → HasGroups locks table
unfolding IsGrouped joined_all
group_done locks left table h l =
    let last : (n : ℕ) → at table n ≡ joined_all None (locks_at locks n) = λ n. ap (λ xs. joined_all (at table n) (locks_at xs n)) (sym l) ∙ h n in
    record {
      alone = λ n. ap (λ o. alone_in o) (last n) ∙ alone_is (locks_at locks n);
      shared = λ n. ap (λ o. shared_in o) (last n) ∙ shared_is (locks_at locks n);
    }
