-- The walk from the least name that a child may have to the greatest.
use Rattle.std.proofs.Common.{◌≡◌, ℕ, zero, suc, ◌+◌, ◌-◌, ◌<◌, ◌≤◌, List, [], ◌∷◌, ◌++◌, length, Bool, true, false, cond, Option, Some, None, Ordering, Less, Equal, Greater, refl, sym, ap, ◌∙◌, arith, length-append, append_assoc}
use Rattle.std.specs.Prelude.{◌&&◌, not, nat_le, min, codes, map, filter}
use Rattle.std.specs.Ordering.{is_le, is_lt, is_gt, nat_cmp, ordering_then, ordering_reverse}
use Rattle.std.specs.Cmp.Lexicographic.{slice_cmp, nat_list_cmp_total}
use Rattle.std.specs.List.{AllByRecursion, repeat}
use Rattle.std.specs.Map.{keys_of}
use Rattle.std.specs.declared.ops.Bound.TheVariants.{Included, Excluded, Unbounded}
use Rattle.std.specs.BTreeMap.Range.{entries_between, range_contains}
use Rattle.std.proofs.lemmas.Bool.Decides.{nat_tests}
use Rattle.std.proofs.lemmas.Map.Lookups.{exact_bytes}
use Rattle.std.proofs.lemmas.List.Kept.{IsStrictlySortedBy-filter}
use Rattle.names_cell.specs.Text.{is_name, is_child, is_under, first_child_of, last_child_of, child_part, last_of}
use Rattle.names_cell.proofs.ComponentLemmas.{both, parts_of_component}
use Rattle.node_core.specs.Nodes.{Nodes, HasNamesInOrder, children, last_sibling_of}
use Rattle.node_core.specs.declared.nodes.Node.{Node}
use Rattle.node_core.proofs.Walks.{Walked, childish, child_form, child_from_first, name_length, first_is, under_joined, same_front, squeeze, lt_is, le_less, range_keys, all_filter, walk_push, walk_skip, walk_done}
use Rattle.node_core.proofs.Jumps.{IsDeep, up_to_z, last_form, short_component, deep_form, key_up_to, middle, walk_jump, jump_ends}

-- ---- orders

up_to : (x last : List ℕ) → not (is_lt (slice_cmp nat_cmp last x)) ≡ true → is_le (slice_cmp nat_cmp x last) ≡ true
up_to x last h =
    (elim (slice_cmp nat_cmp last x) as (λ o. slice_cmp nat_cmp last x ≡ o → not (is_lt o) ≡ true → is_le (slice_cmp nat_cmp x last) ≡ true) [
      | Less ↦ (λ e f. absurd (cc))
      | Equal ↦ (λ e f. ap is_le (nat_list_cmp_total.antisymm x last ∙ ap ordering_reverse e))
      | Greater ↦ (λ e f. ap is_le (nat_list_cmp_total.antisymm x last ∙ ap ordering_reverse e))
    ]) refl h

not_past : (x last : List ℕ) → is_le (slice_cmp nat_cmp x last) ≡ true → not (is_lt (slice_cmp nat_cmp last x)) ≡ true
not_past x last h =
    (elim (slice_cmp nat_cmp last x) as (λ o. slice_cmp nat_cmp last x ≡ o → not (is_lt o) ≡ true) [
      | Less ↦ (λ e. let f : slice_cmp nat_cmp x last ≡ Greater = nat_list_cmp_total.antisymm x last ∙ ap ordering_reverse e in absurd (let g = ap is_le f in cc))
      | Equal ↦ (λ e. refl)
      | Greater ↦ (λ e. refl)
    ]) refl

le_le : (x y z : List ℕ) → is_le (slice_cmp nat_cmp x y) ≡ true → is_le (slice_cmp nat_cmp y z) ≡ true → is_le (slice_cmp nat_cmp x z) ≡ true
le_le x y z h k =
    (elim (slice_cmp nat_cmp y z) as (λ o. slice_cmp nat_cmp y z ≡ o → is_le o ≡ true → is_le (slice_cmp nat_cmp x z) ≡ true) [
      | Less ↦ (λ e l. ap is_le (le_less x y z h e))
      | Equal ↦ (λ e l. ap (λ t. is_le (slice_cmp nat_cmp x t)) (sym (exact_bytes y z e)) ∙ h)
      | Greater ↦ (λ e l. absurd (cc))
    ]) refl k

not_greater : (o : Ordering) → is_le o ≡ true → is_gt o ≡ false
not_greater Less h = refl
not_greater Equal h = refl
not_greater Greater h = absurd (cc)

-- ---- the names that a child may have

abbrev in_reach : List ℕ → List ℕ → List ℕ → Bool
in_reach name last key = range_contains (slice_cmp nat_cmp) (Included (name ++ codes "/-")) (Included last) key

-- the entries from the least of them to the greatest
abbrev reach : List ℕ → List ℕ → Nodes → Nodes
reach name last nodes = entries_between (slice_cmp nat_cmp) (Included (name ++ codes "/-")) (Included last) nodes

-- the greatest of them: a slash and a few `z` behind the name
abbrev greatest_of : List ℕ → List ℕ
greatest_of name = name ++ 47 ∷ repeat (min (511 - length name) 64) (codes "z")

reach_under : (name last key : List ℕ) → last ≡ greatest_of name → in_reach name last key ≡ true → is_under key name ≡ true
reach_under name last key g h =
    let t = both _ _ h in
    let first : is_le (slice_cmp nat_cmp ((name ++ 47 ∷ []) ++ 45 ∷ []) key) ≡ true = rw append_assoc t.0 in
    let to : is_le (slice_cmp nat_cmp key (name ++ 47 ∷ repeat (min (511 - length name) 64) (codes "z"))) ≡ true = rw g at (up_to key last t.1) in
    let upto : is_le (slice_cmp nat_cmp key ((name ++ 47 ∷ []) ++ repeat (min (511 - length name) 64) (codes "z"))) ≡ true = rw append_assoc to in
    let r = squeeze (name ++ 47 ∷ []) (45 ∷ []) (repeat (min (511 - length name) 64) (codes "z")) key first upto in
    ap (λ n. is_under n name) (r.1 ∙ append_assoc name (47 ∷ []) r.0) ∙ under_joined name r.0

child_in_reach : (name last key : List ℕ) → last ≡ greatest_of name → is_name key ≡ true → is_child key name ≡ true → in_reach name last key ≡ true
child_in_reach name last key g named h =
    let c = child_form key name named h in
    let text : List ℕ = c.byte ∷ c.more in
    let long : length key ≡ length name + suc (length text) = ap length c.joined ∙ length-append name (47 ∷ text) in
    let fits : length text ≤ min (511 - length name) 64 = grind (arith, short_component text c.component, long, name_length key named) in
    let behind : is_le (slice_cmp nat_cmp text (repeat (min (511 - length name) 64) (codes "z"))) ≡ true = up_to_z text (min (511 - length name) 64) (parts_of_component text c.component).bytes fits in
    let to : is_le (slice_cmp nat_cmp key last) ≡ true = rw (c.joined, g, same_front name (47 ∷ text) (47 ∷ repeat (min (511 - length name) 64) (codes "z"))) behind in
    let from = child_from_first key name c in
    rw from (not_past key last to)

-- ---- the entries of these names

all_in_reach : (name last : List ℕ) (ks : List (List ℕ)) → AllByRecursion (λ key. in_reach name last key ≡ true) (filter (in_reach name last) ks)
all_in_reach name last [] = tt
all_in_reach name last (k ∷ ks) =
    (elim (in_reach name last k) as (λ v. in_reach name last k ≡ v → AllByRecursion (λ key. in_reach name last key ≡ true) (cond v (k ∷ filter (in_reach name last) ks) (filter (in_reach name last) ks))) [
      | true ↦ (λ e. (e, all_in_reach name last ks))
      | false ↦ (λ e. all_in_reach name last ks)
    ]) refl

from_least : (name last : List ℕ) (ks : List (List ℕ)) → AllByRecursion (λ key. in_reach name last key ≡ true) ks → AllByRecursion (λ key. is_le (slice_cmp nat_cmp (name ++ codes "/-") key) ≡ true) ks
from_least name last [] h = tt
from_least name last (k ∷ ks) h = ((both _ _ h.0).0, from_least name last ks h.1)

reach_keys : (name last : List ℕ) (nodes : Nodes) → AllByRecursion (λ key. in_reach name last key ≡ true) (keys_of (reach name last nodes))
reach_keys name last nodes = rw (range_keys (in_reach name last) nodes) (all_in_reach name last (keys_of nodes))

reach_in_order : (name last : List ℕ) (nodes : Nodes) → HasNamesInOrder nodes → HasNamesInOrder (reach name last nodes)
reach_in_order name last nodes h = record {
  in_order = rw (range_keys (in_reach name last) nodes) (IsStrictlySortedBy-filter (slice_cmp nat_cmp) (in_reach name last) (keys_of nodes) h.in_order);
  names = rw (range_keys (in_reach name last) nodes) (all_filter (λ key. is_name key ≡ true) (in_reach name last) (keys_of nodes) h.names);
}

children_stay : (name last : List ℕ) (ks : List (List ℕ)) → last ≡ greatest_of name → AllByRecursion (λ key. is_name key ≡ true) ks → filter (childish name) (filter (in_reach name last) ks) ≡ filter (childish name) ks
children_stay name last [] g h = refl
children_stay name last (k ∷ ks) g h =
    let t = children_stay name last ks g h.1 in
    (elim (is_child k name) as (λ v. is_child k name ≡ v → filter (childish name) (cond (in_reach name last k) (k ∷ filter (in_reach name last) ks) (filter (in_reach name last) ks)) ≡ cond v (k ∷ filter (childish name) ks) (filter (childish name) ks)) [
      | true ↦ (λ e. let r : in_reach name last k ≡ true = child_in_reach name last k g h.0 e in rw (r, e) (ap (λ l. k ∷ l) t))
      | false ↦ (λ e.
          elim (in_reach name last k) as (λ w. filter (childish name) (cond w (k ∷ filter (in_reach name last) ks) (filter (in_reach name last) ks)) ≡ filter (childish name) ks) [
            | true ↦ rw e t
            | false ↦ t
          ])
    ]) refl

same_children : (name last : List ℕ) (nodes : Nodes) → last ≡ greatest_of name → HasNamesInOrder nodes → children (reach name last nodes) name ≡ children nodes name
same_children name last nodes g h =
    ap (λ ks. map last_of (filter (childish name) ks)) (range_keys (in_reach name last) nodes) ∙ ap (map last_of) (children_stay name last (keys_of nodes) g h.names)

-- ---- the walk

-- the walk over these entries
pub record Reached (nodes : Nodes) (name : List ℕ) (names : List (List ℕ)) (rest : Nodes) : Type 0 where
  pub walked : Walked (reach name (greatest_of name) nodes) name names rest
  pub ordered : HasNamesInOrder nodes

least_is_not_after : (count : ℕ) → 1 ≤ count → is_gt (slice_cmp nat_cmp (45 ∷ []) (repeat count (codes "z"))) ≡ false
least_is_not_after zero h = absurd (omega arith)
least_is_not_after (suc count) h = refl

has_room : (name last : List ℕ) → Some last ≡ last_child_of name → length name ≤ 510
has_room name last h =
    (elim (nat_le (length name) 510) as (λ v. nat_le (length name) 510 ≡ v → Some last ≡ cond v (Some (name ++ 47 ∷ repeat (min (511 - length name) 64) (codes "z"))) None → length name ≤ 510) [
      | true ↦ (λ e k. grind (arith, nat_tests))
      | false ↦ (λ e k. absurd (cc))
    ]) refl h

-- there is no room for a child
pub no_last : (name : List ℕ) (o : Option (List ℕ)) → o ≡ last_child_of name → o ≡ None → 510 < length name
no_last name o e n =
    (elim (nat_le (length name) 510) as (λ v. nat_le (length name) 510 ≡ v → o ≡ cond v (Some (name ++ 47 ∷ repeat (min (511 - length name) 64) (codes "z"))) None → 510 < length name) [
      | true ↦ (λ h q. absurd (cc))
      | false ↦ (λ h q. grind (arith, nat_tests))
    ]) refl e

-- the walk may begin: the least is not behind the greatest
pub reach_forward : (name first last : List ℕ) (o p : Option (List ℕ)) → o ≡ first_child_of name → o ≡ Some first → p ≡ last_child_of name → p ≡ Some last → is_gt (slice_cmp nat_cmp first last) ≡ false
reach_forward name first last o p a b c d =
    let room : length name ≤ 510 = has_room name last (sym d ∙ c) in
    ap (λ t. is_gt (slice_cmp nat_cmp t last)) (first_is name first o a b)
    ∙ ap (λ t. is_gt (slice_cmp nat_cmp (name ++ codes "/-") t)) (last_form name last (sym d ∙ c))
    ∙ ap is_gt (same_front name (codes "/-") (47 ∷ repeat (min (511 - length name) 64) (codes "z")))
    ∙ least_is_not_after (min (511 - length name) 64) (grind (arith, room))

pub reach_start : (name first last : List ℕ) (o p : Option (List ℕ)) (names : List (List ℕ)) (got entries nodes : Nodes) → HasNamesInOrder nodes → names ≡ [] → got ≡ entries_between (slice_cmp nat_cmp) (Included first) (Included last) entries → entries ≡ nodes
    → o ≡ first_child_of name → o ≡ Some first → p ≡ last_child_of name → p ≡ Some last → Reached nodes name names got
reach_start name first last o p names got entries nodes h e r n a b c d =
    let is : got ≡ reach name (greatest_of name) nodes =
    r ∙ ap (λ k. entries_between (slice_cmp nat_cmp) (Included k) (Included last) entries) (first_is name first o a b)
    ∙ ap (λ k. reach name k entries) (last_form name last (sym d ∙ c)) ∙ ap (reach name (greatest_of name)) n in
    let t = reach_in_order name (greatest_of name) nodes h in
    record {
      walked = record {
        so_far = rw (e, is) refl;
        below = rw is (record { in_order = t.in_order; names = t.names; behind = from_least name (greatest_of name) (keys_of (reach name (greatest_of name) nodes)) (reach_keys name (greatest_of name) nodes) });
        ordered = t;
        front = [];
        whole = rw is refl;
      };
      ordered = h;
    }

-- ---- one entry further

entry_in_reach : (name last : List ℕ) (all : Nodes) (names : List (List ℕ)) (e : List ℕ × Node) (rest : Nodes) → AllByRecursion (λ key. in_reach name last key ≡ true) (keys_of all) → Walked all name names (e ∷ rest) → in_reach name last e.0 ≡ true
entry_in_reach name last all names e rest h v = middle (λ key. in_reach name last key ≡ true) v.front rest e (rw v.whole at h)

at_entry : (nodes : Nodes) (name : List ℕ) (names : List (List ℕ)) (e : List ℕ × Node) (rest all : Nodes) → all ≡ e ∷ rest → Reached nodes name names all → Walked (reach name (greatest_of name) nodes) name names (e ∷ rest)
at_entry nodes name names e rest all q w = rw q at w.walked

is_in_reach : (nodes : Nodes) (name : List ℕ) (names : List (List ℕ)) (e : List ℕ × Node) (rest all : Nodes) → all ≡ e ∷ rest → Reached nodes name names all → in_reach name (greatest_of name) e.0 ≡ true
is_in_reach nodes name names e rest all q w =
    entry_in_reach name (greatest_of name) (reach name (greatest_of name) nodes) names e rest (reach_keys name (greatest_of name) nodes) (at_entry nodes name names e rest all q w)

pub reach_below : (nodes : Nodes) (name : List ℕ) (names : List (List ℕ)) (e : List ℕ × Node) (rest all : Nodes) → all ≡ e ∷ rest → Reached nodes name names all → is_under e.0 name ≡ true
reach_below nodes name names e rest all q w = reach_under name (greatest_of name) e.0 refl (is_in_reach nodes name names e rest all q w)

a_part : (key name part : List ℕ) (o : Option (List ℕ)) → o ≡ child_part key name → o ≡ Some part → (is_child key name ≡ true) × (part ≡ last_of key)
a_part key name part o h s =
    (elim (is_child key name) as (λ v. o ≡ cond v (Some (last_of key)) None → (v ≡ true) × (part ≡ last_of key)) [
      | true ↦ (λ k. (refl, cc))
      | false ↦ (λ k. absurd (cc))
    ]) h

no_part : (key name : List ℕ) (o : Option (List ℕ)) → o ≡ child_part key name → o ≡ None → is_child key name ≡ false
no_part key name o h n =
    (elim (is_child key name) as (λ v. o ≡ cond v (Some (last_of key)) None → v ≡ false) [
      | true ↦ (λ k. absurd (cc))
      | false ↦ (λ k. refl)
    ]) h

pub reach_push : (nodes : Nodes) (name : List ℕ) (names more : List (List ℕ)) (e : List ℕ × Node) (rest all : Nodes) (part : List ℕ) (o : Option (List ℕ)) → all ≡ e ∷ rest → Reached nodes name names all → o ≡ child_part e.0 name → o ≡ Some part → more ≡ names ++ part ∷ [] → Reached nodes name more rest
reach_push nodes name names more e rest all part o q w h s m =
    let t = a_part e.0 name part o h s in
    record {
      walked = walk_push (reach name (greatest_of name) nodes) name names more e rest all q w.walked t.0 (m ∙ ap (λ x. names ++ x ∷ []) t.1);
      ordered = w.ordered;
    }

pub reach_skip : (nodes : Nodes) (name : List ℕ) (names : List (List ℕ)) (e : List ℕ × Node) (rest all : Nodes) (o : Option (List ℕ)) → all ≡ e ∷ rest → Reached nodes name names all → o ≡ child_part e.0 name → o ≡ None → Reached nodes name names rest
reach_skip nodes name names e rest all o q w h n = record {
  walked = walk_skip (reach name (greatest_of name) nodes) name names e rest all q w.walked (no_part e.0 name o h n);
  ordered = w.ordered;
}

pub reach_done : (nodes : Nodes) (name : List ℕ) (names : List (List ℕ)) (all : Nodes) → all ≡ [] → Reached nodes name names all → names ≡ children nodes name
reach_done nodes name names all q w = walk_done (reach name (greatest_of name) nodes) name names all q w.walked ∙ same_children name (greatest_of name) nodes refl w.ordered

-- ---- past what lies below a child

-- two texts with the same front and a slash behind it stand alike to a few `z`
then_le : (o p q : Ordering) → is_le (ordering_then o p) ≡ true → (is_le p ≡ true → is_le q ≡ true) → is_le (ordering_then o q) ≡ true
then_le Less p q h f = refl
then_le Equal p q h f = f h
then_le Greater p q h f = absurd (cc)

slash_decides : (front x y : List ℕ) (count : ℕ) → is_le (slice_cmp nat_cmp (front ++ 47 ∷ x) (repeat count (codes "z"))) ≡ true → is_le (slice_cmp nat_cmp (front ++ 47 ∷ y) (repeat count (codes "z"))) ≡ true
slash_decides [] x y zero h = absurd (cc)
slash_decides [] x y (suc count) h = refl
slash_decides (b ∷ front) x y zero h = absurd (cc)
slash_decides (b ∷ front) x y (suc count) h =
    then_le (nat_cmp b 122) (slice_cmp nat_cmp (front ++ 47 ∷ x) (repeat count (codes "z"))) (slice_cmp nat_cmp (front ++ 47 ∷ y) (repeat count (codes "z"))) h (slash_decides front x y count)

without_front : (name deeper x last : List ℕ) (count : ℕ) → last ≡ name ++ 47 ∷ repeat count (codes "z") → slice_cmp nat_cmp ((name ++ 47 ∷ deeper) ++ 47 ∷ x) last ≡ slice_cmp nat_cmp (deeper ++ 47 ∷ x) (repeat count (codes "z"))
without_front name deeper x last count is =
    ap (λ l. slice_cmp nat_cmp ((name ++ 47 ∷ deeper) ++ 47 ∷ x) l) is
    ∙ ap (λ k. slice_cmp nat_cmp k (name ++ 47 ∷ repeat count (codes "z"))) (append_assoc name (47 ∷ deeper) (47 ∷ x))
    ∙ same_front name (47 ∷ (deeper ++ 47 ∷ x)) (47 ∷ repeat count (codes "z"))

deep_is_before : (key name beside last : List ℕ) (count : ℕ) → last ≡ name ++ 47 ∷ repeat count (codes "z") → IsDeep key name beside → is_le (slice_cmp nat_cmp key last) ≡ true → is_le (slice_cmp nat_cmp beside last) ≡ true
deep_is_before key name beside last count is d h =
    let k : is_le (slice_cmp nat_cmp (d.deeper ++ 47 ∷ d.component) (repeat count (codes "z"))) ≡ true =
    sym (ap is_le (without_front name d.deeper d.component last count is)) ∙ ap (λ t. is_le (slice_cmp nat_cmp t last)) (sym d.joined) ∙ h in
    ap (λ t. is_le (slice_cmp nat_cmp t last)) d.last_joined
    ∙ ap is_le (without_front name d.deeper (repeat d.count (codes "z")) last count is)
    ∙ slash_decides d.deeper d.component (repeat d.count (codes "z")) count k

-- what is passed there
record IsPassed (name : List ℕ) (e : List ℕ × Node) (beside : List ℕ) : Type 0 where
  pub under : is_under e.0 name ≡ true
  pub no_child : is_child e.0 name ≡ false
  pub from : is_le (slice_cmp nat_cmp (name ++ codes "/-") beside) ≡ true
  pub to : is_le (slice_cmp nat_cmp beside (greatest_of name)) ≡ true

is_passed : (nodes : Nodes) (name : List ℕ) (names : List (List ℕ)) (e : List ℕ × Node) (rest all : Nodes) (beside : List ℕ) (o : Option (List ℕ)) → all ≡ e ∷ rest → Reached nodes name names all → o ≡ child_part e.0 name → o ≡ None → Some beside ≡ last_sibling_of e.0
    → IsPassed name e beside
is_passed nodes name names e rest all beside o q w h n s =
    let v = at_entry nodes name names e rest all q w in
    let under = reach_below nodes name names e rest all q w in
    let no_child = no_part e.0 name o h n in
    let deep = deep_form e.0 name beside v.below.names.0 under no_child s in
    let upto = up_to e.0 (greatest_of name) (both _ _ (is_in_reach nodes name names e rest all q w)).1 in
    record {
      under = under;
      no_child = no_child;
      from = le_le (name ++ codes "/-") e.0 beside v.below.behind.0 (key_up_to e.0 name beside deep);
      to = deep_is_before e.0 name beside (greatest_of name) (min (511 - length name) 64) refl deep upto;
    }

and_true : (n : Bool) → n ≡ (n && true)
and_true true = refl
and_true false = refl

and_false : (n : Bool) → false ≡ (n && false)
and_false true = refl
and_false false = refl

abbrev behind : List ℕ → List ℕ → Bool
behind beside key = range_contains (slice_cmp nat_cmp) (Excluded beside) Unbounded key

abbrev between : List ℕ → List ℕ → List ℕ → Bool
between beside last key = range_contains (slice_cmp nat_cmp) (Excluded beside) (Included last) key

both_bounds : (name beside last key : List ℕ) → is_le (slice_cmp nat_cmp (name ++ codes "/-") beside) ≡ true → between beside last key ≡ (in_reach name last key && behind beside key)
both_bounds name beside last key h =
    let within : Bool = not (is_lt (slice_cmp nat_cmp last key)) in
    (elim (is_lt (slice_cmp nat_cmp beside key)) as (λ v. is_lt (slice_cmp nat_cmp beside key) ≡ v → (v && within) ≡ ((is_le (slice_cmp nat_cmp (name ++ codes "/-") key) && within) && (v && true))) [
      | true ↦ (λ e. let f : is_le (slice_cmp nat_cmp (name ++ codes "/-") key) ≡ true = ap is_le (le_less (name ++ codes "/-") beside key h (lt_is (slice_cmp nat_cmp beside key) e)) in rw f (and_true within))
      | false ↦ (λ e. and_false (is_le (slice_cmp nat_cmp (name ++ codes "/-") key) && within))
    ]) refl

filter_twice : (p q r : List ℕ → Bool) → ((key : List ℕ) → r key ≡ (q key && p key)) → (es : Nodes) → filter (λ e. r e.0) es ≡ filter (λ e. p e.0) (filter (λ e. q e.0) es)
filter_twice p q r h [] = refl
filter_twice p q r h (e ∷ es) =
    let t = filter_twice p q r h es in
    rw (h e.0)
    (elim (q e.0) as (λ v. cond (v && p e.0) (e ∷ filter (λ x. r x.0) es) (filter (λ x. r x.0) es) ≡ filter (λ x. p x.0) (cond v (e ∷ filter (λ x. q x.0) es) (filter (λ x. q x.0) es))) [
      | true ↦ elim (p e.0) as (λ w. cond w (e ∷ filter (λ x. r x.0) es) (filter (λ x. r x.0) es) ≡ cond w (e ∷ filter (λ x. p x.0) (filter (λ x. q x.0) es)) (filter (λ x. p x.0) (filter (λ x. q x.0) es))) [ true ↦ ap (λ l. e ∷ l) t | false ↦ t ]
      | false ↦ t
    ])

left_behind : (nodes : Nodes) (name last beside : List ℕ) (p : Option (List ℕ)) (got entries : Nodes) → is_le (slice_cmp nat_cmp (name ++ codes "/-") beside) ≡ true → got ≡ entries_between (slice_cmp nat_cmp) (Excluded beside) (Included last) entries → entries ≡ nodes
    → p ≡ last_child_of name → p ≡ Some last → got ≡ entries_between (slice_cmp nat_cmp) (Excluded beside) Unbounded (reach name (greatest_of name) nodes)
left_behind nodes name last beside p got entries from g n c d =
    g ∙ ap (λ k. entries_between (slice_cmp nat_cmp) (Excluded beside) (Included k) entries) (last_form name last (sym d ∙ c))
    ∙ ap (entries_between (slice_cmp nat_cmp) (Excluded beside) (Included (greatest_of name))) n
    ∙ filter_twice (behind beside) (in_reach name (greatest_of name)) (between beside (greatest_of name)) (λ key. both_bounds name beside (greatest_of name) key from) nodes

pub jump_forward : (nodes : Nodes) (name last : List ℕ) (names : List (List ℕ)) (e : List ℕ × Node) (rest all : Nodes) (beside : List ℕ) (o p : Option (List ℕ)) → all ≡ e ∷ rest → Reached nodes name names all → o ≡ child_part e.0 name → o ≡ None → Some beside ≡ last_sibling_of e.0
    → p ≡ last_child_of name → p ≡ Some last → is_gt (slice_cmp nat_cmp beside last) ≡ false
jump_forward nodes name last names e rest all beside o p q w h n s c d =
    ap (λ k. is_gt (slice_cmp nat_cmp beside k)) (last_form name last (sym d ∙ c))
    ∙ not_greater (slice_cmp nat_cmp beside (greatest_of name)) (is_passed nodes name names e rest all beside o q w h n s).to

pub reach_jump : (nodes : Nodes) (name last : List ℕ) (names : List (List ℕ)) (e : List ℕ × Node) (rest all : Nodes) (beside : List ℕ) (o p : Option (List ℕ)) (got entries : Nodes) → all ≡ e ∷ rest → Reached nodes name names all → o ≡ child_part e.0 name → o ≡ None → Some beside ≡ last_sibling_of e.0
    → p ≡ last_child_of name → p ≡ Some last → got ≡ entries_between (slice_cmp nat_cmp) (Excluded beside) (Included last) entries → entries ≡ nodes → Reached nodes name names got
reach_jump nodes name last names e rest all beside o p got entries q w h n s c d g is =
    let t = is_passed nodes name names e rest all beside o q w h n s in
    record {
      walked = walk_jump (reach name (greatest_of name) nodes) name names e rest all got beside q w.walked t.under t.no_child s (left_behind nodes name last beside p got entries t.from g is c d);
      ordered = w.ordered;
    }

pub reach_jump_ends : (nodes : Nodes) (name last : List ℕ) (names : List (List ℕ)) (e : List ℕ × Node) (rest all : Nodes) (beside : List ℕ) (o p : Option (List ℕ)) (got entries : Nodes) → all ≡ e ∷ rest → Reached nodes name names all → o ≡ child_part e.0 name → o ≡ None → Some beside ≡ last_sibling_of e.0
    → p ≡ last_child_of name → p ≡ Some last → got ≡ entries_between (slice_cmp nat_cmp) (Excluded beside) (Included last) entries → entries ≡ nodes → length got < length all
reach_jump_ends nodes name last names e rest all beside o p got entries q w h n s c d g is =
    let t = is_passed nodes name names e rest all beside o q w h n s in
    jump_ends (reach name (greatest_of name) nodes) name names e rest all got beside q w.walked t.under t.no_child s (left_behind nodes name last beside p got entries t.from g is c d)
