-- The names below a name stand next to each other.
use Rattle.std.proofs.Common.{◌≡◌, ℕ, ◌<◌, ◌≤◌, List, [], ◌∷◌, ◌++◌, length, drop, Bool, true, false, cond, nat_eq, Option, Some, None, Ordering, Less, Equal, Greater, refl, sym, ap, ◌∙◌, arith, length-append, append_assoc, append-nil}
use Rattle.std.specs.Prelude.{◌||◌, nat_le, nat_lt, codes, map, filter}
use Rattle.std.specs.Ordering.{is_le, is_lt, nat_cmp, ordering_then, ordering_reverse}
use Rattle.std.specs.Cmp.{tied_itself, nat_cmp_total}
use Rattle.std.specs.Cmp.Lexicographic.{slice_cmp, nat_list_cmp_total}
use Rattle.std.specs.Option.{option_map, option_map_or}
use Rattle.std.specs.List.{AllByRecursion, list_all, list_any, slice_split, after_last}
use Rattle.std.specs.List.Sorted.{IsStrictlySortedBy}
use Rattle.std.specs.Map.{keys_of}
use Rattle.std.specs.Str.{bytes_eq}
use Rattle.std.specs.declared.ops.Bound.TheVariants.{Included, Unbounded}
use Rattle.std.specs.BTreeMap.Range.{entries_between, range_contains}
use Rattle.std.proofs.lemmas.Bool.Decides.{nat_tests}
use Rattle.std.proofs.lemmas.Map.Lookups.{exact_unsigned}
use Rattle.std.proofs.lemmas.List.Kept.{IsStrictlySortedBy-filter}
use Rattle.names_cell.specs.Text.{is_name, is_component, is_component_byte, is_slash, front_of, is_child, is_under, first_child_of, last_of}
use Rattle.names_cell.proofs.Children.{begins}
use Rattle.names_cell.proofs.ComponentLemmas.{both, parts_of_component}
use Rattle.names_cell.proofs.Parts.{splits, after_front, last_is_component}
use Rattle.node_core.specs.Nodes.{Nodes, HasNamesInOrder, children, has_children}
use Rattle.node_core.specs.declared.nodes.Node.{Node}

same_byte : (b : ℕ) → nat_eq b b ≡ true
same_byte b = grind (arith, nat_tests)

alike : (a b : ℕ) → nat_eq a b ≡ true → a ≡ b
alike a b h = grind (arith, nat_tests)

nat_cmp_same : (b : ℕ) → nat_cmp b b ≡ Equal
nat_cmp_same b = tied_itself nat_cmp_total b

equal : (x y : List ℕ) → bytes_eq x y ≡ true → x ≡ y
equal [] [] h = refl
equal [] (y ∷ ys) h = absurd (cc)
equal (x ∷ xs) [] h = absurd (cc)
equal (x ∷ xs) (y ∷ ys) h =
    let t = both _ _ h in
    let e : x ≡ y = alike x y t.0 in
    rw e (ap (λ r. y ∷ r) (equal xs ys t.1))

-- a name of a child: the parent's, a slash, and a component
pub record IsChildOf (child name : List ℕ) : Type 0 where
  pub byte : ℕ
  pub more : List ℕ
  pub joined : child ≡ name ++ 47 ∷ byte ∷ more
  pub component : is_component (byte ∷ more) ≡ true
  pub least : 45 ≤ byte
  pub no_more : front_of (byte ∷ more) ≡ None

least_byte : (b : ℕ) → is_component_byte b ≡ true → 45 ≤ b
least_byte b h = grind (arith, nat_tests)

child_of : (child name front last : List ℕ) → child ≡ codes "/ls/" ++ (front ++ 47 ∷ last) → name ≡ codes "/ls/" ++ front → is_component last ≡ true → front_of last ≡ None → IsChildOf child name
child_of child name front [] e n h no_more = absurd (cc)
child_of child name front (b ∷ bs) e n h no_more = record {
  byte = b;
  more = bs;
  joined = rw n e;
  component = h;
  least = least_byte b (both _ _ (parts_of_component (b ∷ bs) h).bytes).0;
  no_more = no_more;
}

child_from : (child name path : List ℕ) → child ≡ codes "/ls/" ++ path → list_all is_component (slice_split is_slash path) ≡ true → (o : Option (List ℕ)) → front_of path ≡ o → option_map_or (λ front. bytes_eq front name) (option_map (λ front. codes "/ls/" ++ front) o) false ≡ true → IsChildOf child name
child_from child name path e all None f h = absurd (cc)
child_from child name path e all (Some front) f h =
    let t = splits path front f in
    let n : name ≡ codes "/ls/" ++ front = sym (equal (codes "/ls/" ++ front) name h) in
    let last : after_last is_slash path ≡ t.last = ap (after_last is_slash) t.joined ∙ after_front front t.last t.no_more in
    child_of child name front t.last (e ∙ ap (λ p. codes "/ls/" ++ p) t.joined) n (rw last at (last_is_component path all)) t.no_more

pub child_form : (child name : List ℕ) → is_name child ≡ true → is_child child name ≡ true → IsChildOf child name
child_form child name named h =
    let t = both _ _ named in
    let u = both _ _ t.0 in
    child_from child name (drop 4 child) (begins (codes "/ls/") child u.0) t.1 (front_of (drop 4 child)) refl h

pub name_length : (name : List ℕ) → is_name name ≡ true → length name ≤ 512
name_length name h = let e : nat_le (length name) 512 ≡ true = (both _ _ (both _ _ h).0).1 in grind (arith, nat_tests)

-- ---- a child lies in the range, and below the name

pub under_joined : (name rest : List ℕ) → is_under (name ++ 47 ∷ rest) name ≡ true
under_joined [] rest = refl
under_joined (b ∷ bs) rest = rw (same_byte b) (under_joined bs rest)

pub same_front : (p x y : List ℕ) → slice_cmp nat_cmp (p ++ x) (p ++ y) ≡ slice_cmp nat_cmp x y
same_front [] x y = refl
same_front (b ∷ p) x y = rw (nat_cmp_same b) (same_front p x y)

pub nothing_first : (bs : List ℕ) → is_le (slice_cmp nat_cmp [] bs) ≡ true
nothing_first [] = refl
nothing_first (b ∷ bs) = refl

dash_first : (b : ℕ) (bs : List ℕ) → 45 ≤ b → is_le (slice_cmp nat_cmp (47 ∷ 45 ∷ []) (47 ∷ b ∷ bs)) ≡ true
dash_first b bs h =
    (elim (nat_lt 45 b) as (λ v. nat_lt 45 b ≡ v → is_le (ordering_then (cond v Less (cond (nat_eq 45 b) Equal Greater)) (slice_cmp nat_cmp [] bs)) ≡ true) [
      | true ↦ (λ e. refl)
      | false ↦ (λ e. let q : nat_eq 45 b ≡ true = grind (arith, nat_tests) in rw q (nothing_first bs))
    ]) refl

pub child_under : (child name : List ℕ) → IsChildOf child name → is_under child name ≡ true
child_under child name c = rw c.joined (under_joined name (c.byte ∷ c.more))

pub child_from_first : (child name : List ℕ) → IsChildOf child name → is_le (slice_cmp nat_cmp (name ++ codes "/-") child) ≡ true
child_from_first child name c = rw (c.joined, same_front name (47 ∷ 45 ∷ []) (47 ∷ c.byte ∷ c.more)) (dash_first c.byte c.more c.least)

pub child_has_room : (child name : List ℕ) → IsChildOf child name → length child ≤ 512 → length name ≤ 510
child_has_room child name c h = omega (arith, ap length c.joined, length-append name (47 ∷ c.byte ∷ c.more))

-- ---- what lies between two names with a front has it too

squeeze_byte : (a b : ℕ) (o m n : Ordering) → nat_cmp a b ≡ o → is_le (ordering_then o m) ≡ true → is_le (ordering_then (ordering_reverse o) n) ≡ true → (is_le m ≡ true) × (is_le n ≡ true) × (a ≡ b)
squeeze_byte a b Less m n e h k = absurd (cc)
squeeze_byte a b Equal m n e h k = (h, k, exact_unsigned a b e)
squeeze_byte a b Greater m n e h k = absurd (cc)

pub squeeze : (p u t x : List ℕ) → is_le (slice_cmp nat_cmp (p ++ u) x) ≡ true → is_le (slice_cmp nat_cmp x (p ++ t)) ≡ true → (rest : List ℕ) × (x ≡ p ++ rest)
squeeze [] u t x h k = (x, refl)
squeeze (a ∷ p) u t [] h k = absurd (cc)
squeeze (a ∷ p) u t (b ∷ x) h k =
    let s = squeeze_byte a b (nat_cmp a b) (slice_cmp nat_cmp (p ++ u) x) (slice_cmp nat_cmp x (p ++ t)) refl h (rw (nat_cmp_total.antisymm b a) at k) in
    let r = squeeze p u t x s.0 s.1 in
    let e : a ≡ b = s.2 in
    (r.0, ap (λ l. b ∷ l) r.1 ∙ ap (λ z. z ∷ (p ++ r.0)) (sym e))

-- the walk may end at the first name that is not below
pub nothing_behind : (name x y : List ℕ) → is_le (slice_cmp nat_cmp (name ++ codes "/-") x) ≡ true → is_under x name ≡ false → slice_cmp nat_cmp x y ≡ Less → IsChildOf y name → ⊥
nothing_behind name x y h under less c =
    let first : is_le (slice_cmp nat_cmp ((name ++ 47 ∷ []) ++ 45 ∷ []) x) ≡ true = rw append_assoc h in
    let last : slice_cmp nat_cmp x ((name ++ 47 ∷ []) ++ c.byte ∷ c.more) ≡ Less = rw append_assoc (rw c.joined at less) in
    let r = squeeze (name ++ 47 ∷ []) (45 ∷ []) (c.byte ∷ c.more) x first (ap is_le last) in
    let e : x ≡ name ++ 47 ∷ r.0 = r.1 ∙ append_assoc name (47 ∷ []) r.0 in
    let below : is_under x name ≡ true = ap (λ n. is_under n name) e ∙ under_joined name r.0 in
    absurd (cc)

-- entries behind the first name that a child may have
pub record IsBelow (name : List ℕ) (es : Nodes) : Type 0 where
  pub in_order : IsStrictlySortedBy (slice_cmp nat_cmp) (keys_of es)
  pub names : AllByRecursion (λ key. is_name key ≡ true) (keys_of es)
  pub behind : AllByRecursion (λ key. is_le (slice_cmp nat_cmp (name ++ codes "/-") key) ≡ true) (keys_of es)

-- whether it is a child of the name
abbrev pub childish : List ℕ → List ℕ → Bool
childish name child = is_child child name

none_behind : (name x : List ℕ) (ks : List (List ℕ)) → is_le (slice_cmp nat_cmp (name ++ codes "/-") x) ≡ true → is_under x name ≡ false → AllByRecursion (λ y. slice_cmp nat_cmp x y ≡ Less) ks → AllByRecursion (λ key. is_name key ≡ true) ks → filter (childish name) ks ≡ []
none_behind name x [] h under less names = refl
none_behind name x (y ∷ ks) h under less names =
    (elim (is_child y name) as (λ v. is_child y name ≡ v → cond v (y ∷ filter (childish name) ks) (filter (childish name) ks) ≡ []) [
      | true ↦ (λ e. absurd (nothing_behind name x y h under less.0 (child_form y name names.0 e)))
      | false ↦ (λ e. none_behind name x ks h under less.1 names.1)
    ]) refl

-- a name that is not below ends the walk
pub walk_ends : (name : List ℕ) (e : List ℕ × Node) (es : Nodes) → IsBelow name (e ∷ es) → is_under e.0 name ≡ false → filter (childish name) (keys_of (e ∷ es)) ≡ []
unfolding IsStrictlySortedBy
walk_ends name e es b under =
    (elim (is_child e.0 name) as (λ v. is_child e.0 name ≡ v → cond v (e.0 ∷ filter (childish name) (keys_of es)) (filter (childish name) (keys_of es)) ≡ []) [
      | true ↦ (λ h. let t : is_under e.0 name ≡ true = child_under e.0 name (child_form e.0 name b.names.0 h) in absurd (cc))
      | false ↦ (λ h. none_behind name e.0 (keys_of es) b.behind.0 under b.in_order.0 b.names.1)
    ]) refl

pub walk_goes_on : (name : List ℕ) (e : List ℕ × Node) (es : Nodes) → IsBelow name (e ∷ es) → IsBelow name es
unfolding IsStrictlySortedBy
walk_goes_on name e es b = record { in_order = b.in_order.1; names = b.names.1; behind = b.behind.1 }

-- the entries from the first name on that a child may have
abbrev pub from_first : List ℕ → Nodes → Nodes
from_first name es = entries_between (slice_cmp nat_cmp) (Included (name ++ codes "/-")) Unbounded es

abbrev in_range : List ℕ → List ℕ → Bool
in_range name key = range_contains (slice_cmp nat_cmp) (Included (name ++ codes "/-")) Unbounded key

pub range_keys : (p : List ℕ → Bool) (es : Nodes) → keys_of (filter (λ e. p e.0) es) ≡ filter p (keys_of es)
range_keys p [] = refl
range_keys p (e ∷ es) = elim (p e.0) as (λ v. keys_of (cond v (e ∷ filter (λ x. p x.0) es) (filter (λ x. p x.0) es)) ≡ cond v (e.0 ∷ filter p (keys_of es)) (filter p (keys_of es))) [ true ↦ ap (λ l. e.0 ∷ l) (range_keys p es) | false ↦ range_keys p es ]

pub all_filter : (P : List ℕ → Type 0) (p : List ℕ → Bool) (ks : List (List ℕ)) → AllByRecursion P ks → AllByRecursion P (filter p ks)
all_filter P p [] h = tt
all_filter P p (k ∷ ks) h = elim (p k) as (λ v. AllByRecursion P (cond v (k ∷ filter p ks) (filter p ks))) [ true ↦ (h.0, all_filter P p ks h.1) | false ↦ all_filter P p ks h.1 ]

behind_first : (name : List ℕ) (ks : List (List ℕ)) → AllByRecursion (λ key. is_le (slice_cmp nat_cmp (name ++ codes "/-") key) ≡ true) (filter (in_range name) ks)
behind_first name [] = tt
behind_first name (k ∷ ks) =
    (elim (in_range name k) as (λ v. in_range name k ≡ v → AllByRecursion (λ key. is_le (slice_cmp nat_cmp (name ++ codes "/-") key) ≡ true) (cond v (k ∷ filter (in_range name) ks) (filter (in_range name) ks))) [
      | true ↦ (λ e. ((both _ _ e).0, behind_first name ks))
      | false ↦ (λ e. behind_first name ks)
    ]) refl

pub walk_begins : (name : List ℕ) (nodes : Nodes) → HasNamesInOrder nodes → IsBelow name (from_first name nodes)
walk_begins name nodes h = record {
  in_order = rw (range_keys (in_range name) nodes) (IsStrictlySortedBy-filter (slice_cmp nat_cmp) (in_range name) (keys_of nodes) h.in_order);
  names = rw (range_keys (in_range name) nodes) (all_filter (λ key. is_name key ≡ true) (in_range name) (keys_of nodes) h.names);
  behind = rw (range_keys (in_range name) nodes) (behind_first name (keys_of nodes));
}

child_in_range : (name key : List ℕ) → is_name key ≡ true → is_child key name ≡ true → in_range name key ≡ true
child_in_range name key named h = let e = child_from_first key name (child_form key name named h) in rw e refl

children_kept : (name : List ℕ) (ks : List (List ℕ)) → AllByRecursion (λ key. is_name key ≡ true) ks → filter (childish name) (filter (in_range name) ks) ≡ filter (childish name) ks
children_kept name [] h = refl
children_kept name (k ∷ ks) h =
    let t = children_kept name ks h.1 in
    (elim (is_child k name) as (λ v. is_child k name ≡ v → filter (childish name) (cond (in_range name k) (k ∷ filter (in_range name) ks) (filter (in_range name) ks)) ≡ cond v (k ∷ filter (childish name) ks) (filter (childish name) ks)) [
      | true ↦ (λ e. let r : in_range name k ≡ true = child_in_range name k h.0 e in rw (r, e) (ap (λ l. k ∷ l) t))
      | false ↦ (λ e.
          elim (in_range name k) as (λ w. filter (childish name) (cond w (k ∷ filter (in_range name) ks) (filter (in_range name) ks)) ≡ filter (childish name) ks) [
            | true ↦ rw e t
            | false ↦ t
          ])
    ]) refl

pub walk_has_children : (name : List ℕ) (nodes : Nodes) → HasNamesInOrder nodes → filter (childish name) (keys_of (from_first name nodes)) ≡ filter (childish name) (keys_of nodes)
walk_has_children name nodes h = rw (range_keys (in_range name) nodes) (children_kept name (keys_of nodes) h.names)

-- a name with no room for a child has none
pub no_room : (name : List ℕ) (ks : List (List ℕ)) → 510 < length name → AllByRecursion (λ key. is_name key ≡ true) ks → filter (childish name) ks ≡ []
no_room name [] long h = refl
no_room name (k ∷ ks) long h =
    (elim (is_child k name) as (λ v. is_child k name ≡ v → cond v (k ∷ filter (childish name) ks) (filter (childish name) ks) ≡ []) [
      | true ↦ (λ e. absurd (omega (arith, child_has_room k name (child_form k name h.0 e) (name_length k h.0))))
      | false ↦ (λ e. no_room name ks long h.1)
    ]) refl

-- ---- what is left behind a bound

pub lt_is : (o : Ordering) → is_lt o ≡ true → o ≡ Less
lt_is Less h = refl
lt_is Equal h = absurd (cc)
lt_is Greater h = absurd (cc)

pub le_less : (x y z : List ℕ) → is_le (slice_cmp nat_cmp x y) ≡ true → slice_cmp nat_cmp y z ≡ Less → slice_cmp nat_cmp x z ≡ Less
le_less x y z h k =
    (elim (slice_cmp nat_cmp x y) as (λ o. slice_cmp nat_cmp x y ≡ o → is_le o ≡ true → slice_cmp nat_cmp x z ≡ Less) [
      | Less ↦ (λ e l. nat_list_cmp_total.trans x y z e k)
      | Equal ↦ (λ e l. nat_list_cmp_total.congr x y z e ∙ k)
      | Greater ↦ (λ e l. absurd (cc))
    ]) refl h

in_range_up : (name x y : List ℕ) → slice_cmp nat_cmp x y ≡ Less → in_range name x ≡ true → in_range name y ≡ true
in_range_up name x y less h = let e = le_less (name ++ codes "/-") x y (both _ _ h).0 less in rw e refl

keep_all : (p : List ℕ → Bool) → ((x y : List ℕ) → slice_cmp nat_cmp x y ≡ Less → p x ≡ true → p y ≡ true) → (x : List ℕ) (es : Nodes) → p x ≡ true → AllByRecursion (λ y. slice_cmp nat_cmp x y ≡ Less) (keys_of es) → filter (λ e. p e.0) es ≡ es
keep_all p up x [] h all = refl
keep_all p up x (e ∷ es) h all = let q : p e.0 ≡ true = up x e.0 all.0 h in rw q (ap (λ l. e ∷ l) (keep_all p up x es h all.1))

-- entries that pass a test, as all behind one that does, are the last ones
pub split_off : (p : List ℕ → Bool) → ((x y : List ℕ) → slice_cmp nat_cmp x y ≡ Less → p x ≡ true → p y ≡ true) → (es : Nodes) → IsStrictlySortedBy (slice_cmp nat_cmp) (keys_of es) → (front : Nodes) × (es ≡ front ++ filter (λ e. p e.0) es)
unfolding IsStrictlySortedBy
split_off p up [] s = ([], refl)
split_off p up (e ∷ es) s =
    (elim (p e.0) as (λ v. p e.0 ≡ v → (front : Nodes) × (e ∷ es ≡ front ++ cond v (e ∷ filter (λ e. p e.0) es) (filter (λ e. p e.0) es))) [
      | true ↦ (λ h. ([], ap (λ l. e ∷ l) (sym (keep_all p up e.0 es h s.0))))
      | false ↦ (λ h. let t = split_off p up es s.1 in (e ∷ t.0, ap (λ l. e ∷ l) t.1))
    ]) refl

-- ---- the walk over the names below one

-- `names` are the children that were met, and `rest` are the entries that are left
pub record Walked (nodes : Nodes) (name : List ℕ) (names : List (List ℕ)) (rest : Nodes) : Type 0 where
  pub so_far : names ++ map last_of (filter (childish name) (keys_of rest)) ≡ children nodes name
  pub below : IsBelow name rest
  pub ordered : HasNamesInOrder nodes
  pub front : Nodes
  pub whole : nodes ≡ front ++ rest

-- one more was passed
one_passed : (nodes front rest : Nodes) (e : List ℕ × Node) → nodes ≡ front ++ e ∷ rest → nodes ≡ (front ++ e ∷ []) ++ rest
one_passed nodes front rest e h = h ∙ sym (append_assoc front (e ∷ []) rest)

pub walk_start : (nodes : Nodes) (name : List ℕ) (names : List (List ℕ)) (rest : Nodes) → HasNamesInOrder nodes → names ≡ [] → rest ≡ from_first name nodes → Walked nodes name names rest
walk_start nodes name names rest h e r = record {
  so_far = rw (e, r) (ap (map last_of) (walk_has_children name nodes h));
  below = rw r (walk_begins name nodes h);
  ordered = h;
  front = (split_off (in_range name) (in_range_up name) nodes h.in_order).0;
  whole = rw r (split_off (in_range name) (in_range_up name) nodes h.in_order).1;
}

pub walk_stop : (nodes : Nodes) (name : List ℕ) (names : List (List ℕ)) (e : List ℕ × Node) (rest all : Nodes) → all ≡ e ∷ rest → Walked nodes name names all → is_under e.0 name ≡ false → names ≡ children nodes name
walk_stop nodes name names e rest all q w under =
    let v : Walked nodes name names (e ∷ rest) = rw q at w in
    sym (append-nil names) ∙ ap (λ l. names ++ map last_of l) (sym (walk_ends name e rest v.below under)) ∙ v.so_far

pub walk_push : (nodes : Nodes) (name : List ℕ) (names more : List (List ℕ)) (e : List ℕ × Node) (rest all : Nodes) → all ≡ e ∷ rest → Walked nodes name names all → is_child e.0 name ≡ true → more ≡ names ++ last_of e.0 ∷ [] → Walked nodes name more rest
walk_push nodes name names more e rest all q w child m =
    let v : Walked nodes name names (e ∷ rest) = rw q at w in
    record {
      so_far = rw m (append_assoc names (last_of e.0 ∷ []) (map last_of (filter (childish name) (keys_of rest))) ∙ (rw child at v.so_far));
      below = walk_goes_on name e rest v.below;
      ordered = v.ordered;
      front = v.front ++ e ∷ [];
      whole = one_passed nodes v.front rest e v.whole;
    }

pub walk_skip : (nodes : Nodes) (name : List ℕ) (names : List (List ℕ)) (e : List ℕ × Node) (rest all : Nodes) → all ≡ e ∷ rest → Walked nodes name names all → is_child e.0 name ≡ false → Walked nodes name names rest
walk_skip nodes name names e rest all q w child =
    let v : Walked nodes name names (e ∷ rest) = rw q at w in
    record { so_far = rw child at v.so_far; below = walk_goes_on name e rest v.below; ordered = v.ordered; front = v.front ++ e ∷ []; whole = one_passed nodes v.front rest e v.whole }

pub walk_done : (nodes : Nodes) (name : List ℕ) (names : List (List ℕ)) (all : Nodes) → all ≡ [] → Walked nodes name names all → names ≡ children nodes name
walk_done nodes name names all q w =
    let v : Walked nodes name names [] = rw q at w in
    sym (append-nil names) ∙ v.so_far

pub no_walk : (nodes : Nodes) (name : List ℕ) (names : List (List ℕ)) → HasNamesInOrder nodes → names ≡ [] → 510 < length name → names ≡ children nodes name
no_walk nodes name names h e long = rw e (ap (map last_of) (sym (no_room name (keys_of nodes) long h.names)))

-- ---- where the walk starts

pub no_first : (name : List ℕ) (o : Option (List ℕ)) → o ≡ first_child_of name → o ≡ None → 510 < length name
no_first name o e n =
    (elim (nat_le (length name) 510) as (λ v. nat_le (length name) 510 ≡ v → o ≡ cond v (Some (name ++ codes "/-")) None → 510 < length name) [
      | true ↦ (λ h q. absurd (cc))
      | false ↦ (λ h q. grind (arith, nat_tests))
    ]) refl e

pub first_is : (name first : List ℕ) (o : Option (List ℕ)) → o ≡ first_child_of name → o ≡ Some first → first ≡ name ++ codes "/-"
first_is name first o e s =
    (elim (nat_le (length name) 510) as (λ v. o ≡ cond v (Some (name ++ codes "/-")) None → first ≡ name ++ codes "/-") [
      | true ↦ (λ q. cc)
      | false ↦ (λ q. absurd (cc))
    ]) e

pub range_is : (name first : List ℕ) (rest got entries nodes : Nodes) → rest ≡ got → got ≡ entries_between (slice_cmp nat_cmp) (Included first) Unbounded entries → entries ≡ nodes → first ≡ name ++ codes "/-" → rest ≡ from_first name nodes
range_is name first rest got entries nodes r g e f = r ∙ g ∙ ap (λ k. entries_between (slice_cmp nat_cmp) (Included k) Unbounded entries) f ∙ ap (from_first name) e

-- ---- whether there is a child at all

nonempty : List (List ℕ) → Bool
nonempty [] = false
nonempty (x ∷ xs) = true

any_is_nonempty : (p : List ℕ → Bool) (f : List ℕ → List ℕ) (ks : List (List ℕ)) → list_any p ks ≡ nonempty (map f (filter p ks))
unfolding nonempty
any_is_nonempty p f [] = refl
any_is_nonempty p f (k ∷ ks) =
    elim (p k) as (λ v. (v || list_any p ks) ≡ nonempty (map f (cond v (k ∷ filter p ks) (filter p ks)))) [ true ↦ refl | false ↦ any_is_nonempty p f ks ]

pub no_child : (nodes : Nodes) (name : List ℕ) → [] ≡ children nodes name → false ≡ has_children nodes name
unfolding nonempty
no_child nodes name h = ap nonempty h ∙ sym (any_is_nonempty (childish name) last_of (keys_of nodes))

pub a_child : (nodes : Nodes) (name : List ℕ) (e : List ℕ × Node) (rest all : Nodes) → all ≡ e ∷ rest → Walked nodes name [] all → is_child e.0 name ≡ true → true ≡ has_children nodes name
unfolding nonempty
a_child nodes name e rest all q w child =
    let v : Walked nodes name [] (e ∷ rest) = rw q at w in
    let c : last_of e.0 ∷ map last_of (filter (childish name) (keys_of rest)) ≡ children nodes name = rw child at v.so_far in
    ap nonempty c ∙ sym (any_is_nonempty (childish name) last_of (keys_of nodes))
