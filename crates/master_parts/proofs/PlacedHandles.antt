-- The handles that are open on a node, by their places.
use Rattle.std.proofs.Common.{◌≡◌, ℕ, Result, Ok, Err, List, [], ◌∷◌, Bool, nat_eq, ◌⊎◌, inl, inr, ⊎_elim, true, false, cond, Option, Some, None, Ordering, Less, Equal, Greater, refl, sym, ap, subst, ◌∙◌, arith}
use Rattle.std.specs.Prelude.{◌+◌, nat_lt, is_some, OnOk, OnErr}
use Rattle.std.specs.Ordering.{is_le, nat_cmp, ordering_then}
use Rattle.std.specs.List.Sorted.{IsStrictlySortedBy}
use Rattle.std.specs.Cmp.{IsTotalOrder, tied_itself, nat_cmp_total}
use Rattle.std.proofs.lemmas.Cmp.{then_total, on_total}
use Rattle.std.specs.Map.{keys_of, lookup, remove_entry, set_value}
use Rattle.std.specs.BTreeMap.{is_at, insert_entry}
use Rattle.std.specs.declared.ops.Bound.TheVariants.{Included, Excluded}
use Rattle.std.specs.BTreeMap.Range.{entries_between, range_contains}
use Rattle.std.proofs.lemmas.Bool.Decides.{nat_tests}
use Rattle.std.proofs.lemmas.Map.Lookups.{CmpEqualImpliesEq, exact_unsigned}
use Rattle.collections.specs.Tables.{with_former}
use Rattle.collections.proofs.Entries.{eq_at, lookup_put}
use Rattle.rows_cell.proofs.SortedLookups.{lookup_gone, lookup_kept}
use Rattle.master_parts.specs.declared.handles.HandleKey.{HandleKey}
use Rattle.master_parts.specs.declared.handles.HandleState.{HandleState}
use Rattle.master_parts.specs.declared.handles.HandleState.TheVariants.{Open, Closed}
use Rattle.master_parts.specs.declared.open_handles.PlaceOnNode.{PlaceOnNode}
use Rattle.master_parts.specs.Handles.{NotedHandle}
use Rattle.master_parts.specs.Keys.{handle_order}
use Rattle.master_parts.specs.OpenHandles.{place_order, place_of, state_at, with_place, ArePlaced, IsPlaced, IsNotOpenOn, is_among, AreAmong, HasPlaced, HasAll, HasOpenOn}

-- ---- the orders tell keys and places apart

pub both_equal : (a b : Ordering) → ordering_then a b ≡ Equal → (a ≡ Equal) × (b ≡ Equal)
both_equal Less b e = absurd cc
both_equal Equal b e = (refl, e)
both_equal Greater b e = absurd cc

pub exact_handle : CmpEqualImpliesEq handle_order
exact_handle x y h =
    let t = both_equal (nat_cmp x.client y.client) (nat_cmp x.number y.number) h in
    let c = exact_unsigned x.client y.client t.0 in
    let n = exact_unsigned x.number y.number t.1 in
    λ j. record { client = c j; number = n j }

pub exact_place : CmpEqualImpliesEq place_order
exact_place x y h =
    let outer = both_equal (ordering_then (nat_cmp x.instance y.instance) (nat_cmp x.client y.client)) (nat_cmp x.number y.number) h in
    let inner = both_equal (nat_cmp x.instance y.instance) (nat_cmp x.client y.client) outer.0 in
    let i = exact_unsigned x.instance y.instance inner.0 in
    let c = exact_unsigned x.client y.client inner.1 in
    let n = exact_unsigned x.number y.number outer.1 in
    λ j. record { instance = i j; client = c j; number = n j }

pub handle_total : IsTotalOrder handle_order
handle_total = then_total (on_total (λ (k : HandleKey). k.client) nat_cmp_total) (on_total (λ (k : HandleKey). k.number) nat_cmp_total)

pub place_total : IsTotalOrder place_order
place_total = then_total (then_total (on_total (λ (p : PlaceOnNode). p.instance) nat_cmp_total) (on_total (λ (p : PlaceOnNode). p.client) nat_cmp_total)) (on_total (λ (p : PlaceOnNode). p.number) nat_cmp_total)

pub same_number : (n : ℕ) → nat_cmp n n ≡ Equal
same_number n = tied_itself nat_cmp_total n

pub same_handle : (k : HandleKey) → handle_order k k ≡ Equal
same_handle k = rw (same_number k.client, same_number k.number) refl

pub same_place : (p : PlaceOnNode) → place_order p p ≡ Equal
same_place p = rw (same_number p.instance, same_number p.client, same_number p.number) refl

-- ---- a state is noted

abbrev pub At : HandleKey → HandleKey → Bool
At q = is_at (handle_order q)

abbrev There : PlaceOnNode → PlaceOnNode → Bool
There p = is_at (place_order p)

module _ {K V : Type 0} (cmp : K → K → Ordering) (exact : CmpEqualImpliesEq cmp) (same : (x : K) → cmp x x ≡ Equal) where
  -- what was found is found, also behind the put of another key
  pub found_apart : (es : List (K × V)) (k : K) (v w : V) (q : K) → lookup (is_at (cmp q)) es ≡ Some w → (is_at (cmp q) k ≡ true → v ≡ w) → lookup (is_at (cmp q)) (insert_entry cmp es k v) ≡ Some w
  found_apart es k v w q h both =
      lookup_put cmp exact same es k v q ∙
      ((elim (is_at (cmp q) k) as (λ b. is_at (cmp q) k ≡ b → cond b (Some v) (lookup (is_at (cmp q)) es) ≡ Some w) [
        | true ↦ (λ c. ap (λ x. Some x) (both c))
        | false ↦ (λ c. h)
      ]) refl)

  pub found_put : (es : List (K × V)) (k : K) (v : V) → lookup (is_at (cmp k)) (insert_entry cmp es k v) ≡ Some v
  found_put es k v = lookup_put cmp exact same es k v k ∙ rw (same k) refl

-- a place tells its handle
place_tells : (i j : ℕ) (q k : HandleKey) → There (place_of i q) (place_of j k) ≡ true → (i ≡ j) × (q ≡ k)
place_tells i j q k h =
    let e = exact_place (place_of i q) (place_of j k) (eq_at (place_order (place_of i q) (place_of j k)) h) in
    (ap (λ p. p.instance) e, ap (λ p. record { client = p.client; number = p.number }) e)

-- one place more
pub placed_more : (entries : List (HandleKey × HandleState)) (places : List (PlaceOnNode × HandleKey)) (key : HandleKey) (state : HandleState) → ArePlaced entries places → ArePlaced entries (with_place places key state)
placed_more entries places key Closed placed = placed
placed_more entries places key (Open new) placed = λ q noted h.
    found_apart place_order exact_place same_place places (place_of new.handle.instance key) key q (place_of noted.handle.instance q) (placed q noted h) (λ e. sym (place_tells noted.handle.instance new.handle.instance q key e).1)

pub placed_kept : (entries : List (HandleKey × HandleState)) (places more : List (PlaceOnNode × HandleKey)) (key : HandleKey) (state : HandleState) → more ≡ with_place places key state → ArePlaced entries places → ArePlaced entries more
placed_kept entries places more key state m placed = let Q : List (PlaceOnNode × HandleKey) → Type 0 = λ ps. ArePlaced entries ps in subst Q (sym m) (placed_more entries places key state placed)

is_there : (places : List (PlaceOnNode × HandleKey)) (key : HandleKey) (state : HandleState) (noted : NotedHandle) → state ≡ Open noted → lookup (There (place_of noted.handle.instance key)) (with_place places key state) ≡ Some key
is_there places key state noted e =
    let P : HandleState → Type 0 = λ st. lookup (There (place_of noted.handle.instance key)) (with_place places key st) ≡ Some key in
    subst P (sym e) (found_put place_order exact_place same_place places (place_of noted.handle.instance key) key)

pub placed_put : (entries : List (HandleKey × HandleState)) (places : List (PlaceOnNode × HandleKey)) (key : HandleKey) (state : HandleState) → ArePlaced entries places → ArePlaced (insert_entry handle_order entries key state) (with_place places key state)
placed_put entries places key state placed = λ q noted h.
    let p : PlaceOnNode = place_of noted.handle.instance q in
    let more = placed_more entries places key state placed q noted in
    (elim (At q key) as (λ b. At q key ≡ b → cond b (Some state) (lookup (At q) entries) ≡ Some (Open noted) → lookup (There p) (with_place places key state) ≡ Some q) [
      | true ↦ (λ c k.
          let same : q ≡ key = exact_handle q key (eq_at (handle_order q key) c) in
          let is : state ≡ Open noted = cc in
          let P : HandleKey → Type 0 = λ x. lookup (There (place_of noted.handle.instance x)) (with_place places key state) ≡ Some x in
          subst P (sym same) (is_there places key state noted is))
      | false ↦ (λ c k. more k)
    ]) refl (sym (lookup_put handle_order exact_handle same_handle entries key state q) ∙ h)

-- ---- a state is noted again

-- what is found once the value of a key was set
pub found_set : (entries : List (HandleKey × HandleState)) (key : HandleKey) (state w : HandleState) (q : HandleKey) → lookup (At q) (set_value (At key) entries state) ≡ Some w → (lookup (At q) entries ≡ Some w) ⊎ ((q ≡ key) × (state ≡ w))
found_set [] key state w q h = inl h
found_set (e ∷ es) key state w q h =
    (elim (At key e.0) as (λ b. At key e.0 ≡ b → lookup (At q) (cond b ((e.0, state) ∷ es) (e ∷ set_value (At key) es state)) ≡ Some w → (lookup (At q) (e ∷ es) ≡ Some w) ⊎ ((q ≡ key) × (state ≡ w))) [
      | true ↦ (λ c k.
          let same : key ≡ e.0 = exact_handle key e.0 (eq_at (handle_order key e.0) c) in
          (elim (At q e.0) as (λ b. At q e.0 ≡ b → cond b (Some state) (lookup (At q) es) ≡ Some w → (cond b (Some e.1) (lookup (At q) es) ≡ Some w) ⊎ ((q ≡ key) × (state ≡ w))) [
            | true ↦ (λ d l. let is : state ≡ w = cc in inr (exact_handle q e.0 (eq_at (handle_order q e.0) d) ∙ sym same, is))
            | false ↦ (λ d l. inl l)
          ]) refl k)
      | false ↦ (λ c k.
          (elim (At q e.0) as (λ b. At q e.0 ≡ b → cond b (Some e.1) (lookup (At q) (set_value (At key) es state)) ≡ Some w → (cond b (Some e.1) (lookup (At q) es) ≡ Some w) ⊎ ((q ≡ key) × (state ≡ w))) [
            | true ↦ (λ d l. inl l)
            | false ↦ (λ d l. found_set es key state w q l)
          ]) refl k)
    ]) refl h

pub placed_restored : (entries : List (HandleKey × HandleState)) (places : List (PlaceOnNode × HandleKey)) (key : HandleKey) (former : Option HandleState) → IsStrictlySortedBy handle_order (keys_of entries) → IsPlaced places key former → ArePlaced entries places → ArePlaced (with_former handle_order entries key former) places
placed_restored entries places key None sorted is placed = λ q noted h.
    (elim (At q key) as (λ b. cond b None (lookup (At q) entries) ≡ Some (Open noted) → lookup (There (place_of noted.handle.instance q)) places ≡ Some q) [
      | true ↦ (λ k. absurd (cc))
      | false ↦ (λ k. placed q noted k)
    ]) (sym (lookup_gone handle_order handle_total exact_handle entries key q sorted) ∙ h)
placed_restored entries places key (Some state) sorted is placed = λ q noted h.
    ⊎_elim (λ l. placed q noted l)
    (λ r.
    let P : HandleKey → Type 0 = λ x. lookup (There (place_of noted.handle.instance x)) places ≡ Some x in
    subst P (sym r.0) (is noted (ap (λ x. Some x) r.1)))
    (found_set entries key state (Open noted) q h)

-- ---- a place is given up

pub placed_less : (entries : List (HandleKey × HandleState)) (places : List (PlaceOnNode × HandleKey)) (key : HandleKey) (instance : ℕ) → IsStrictlySortedBy place_order (keys_of places) → IsNotOpenOn (state_at entries key) instance → ArePlaced entries places → ArePlaced entries (remove_entry (There (place_of instance key)) places)
placed_less entries places key instance sorted other placed = λ q noted h.
    let p : PlaceOnNode = place_of noted.handle.instance q in
    lookup_gone place_order place_total exact_place places (place_of instance key) p sorted ∙
    ((elim (There p (place_of instance key)) as (λ b. There p (place_of instance key) ≡ b → cond b None (lookup (There p) places) ≡ Some q) [
      | true ↦ (λ c.
          let t = place_tells noted.handle.instance instance q key c in
          let P : HandleKey → Type 0 = λ x. state_at entries x ≡ Some (Open noted) in
          absurd (other noted (subst P t.1 h) t.0))
      | false ↦ (λ c. placed q noted h)
    ]) refl)

-- ---- keys are collected

pub among_more : (keys : List (HandleKey × Unit {0})) (key : HandleKey) (u : Unit {0}) (q : HandleKey) → is_among keys q ≡ true → is_among (insert_entry handle_order keys key u) q ≡ true
among_more keys key u q h =
    ap is_some (lookup_put handle_order exact_handle same_handle keys key u q) ∙
    elim (At q key) as (λ b. is_some (cond b (Some u) (lookup (At q) keys)) ≡ true) [ true ↦ refl | false ↦ h ]

pub among_put : (keys : List (HandleKey × Unit {0})) (key : HandleKey) (u : Unit {0}) → is_among (insert_entry handle_order keys key u) key ≡ true
among_put keys key u = ap is_some (found_put handle_order exact_handle same_handle keys key u)

-- `left` of `all` are still to be looked at
pub record Collected {K V : Type 0} (cmp : K → K → Ordering) (pick : K × V → HandleKey) (all left : List (K × V)) (old new : List (HandleKey × Unit {0})) : Type 0 where
  pub kept : AreAmong old new
  pub found : (p : K) (v : V) → lookup (is_at (cmp p)) all ≡ Some v → (is_among new (pick (p, v)) ≡ true) ⊎ (lookup (is_at (cmp p)) left ≡ Some v)

pub collect_first : {K V : Type 0} (cmp : K → K → Ordering) (pick : K × V → HandleKey) (all left : List (K × V)) (old : List (HandleKey × Unit {0})) → left ≡ all → Collected cmp pick all left old old
collect_first cmp pick all left old e = record { kept = λ q h. h; found = λ p v h. inr (ap (lookup (is_at (cmp p))) e ∙ h) }

pub collect_more : {K V : Type 0} (cmp : K → K → Ordering) (exact : CmpEqualImpliesEq cmp) (pick : K × V → HandleKey) (all left rest : List (K × V)) (e : K × V) (old new more : List (HandleKey × Unit {0})) (u : Unit {0}) → left ≡ e ∷ rest → more ≡ insert_entry handle_order new (pick e) u → Collected cmp pick all left old new → Collected cmp pick all rest old more
collect_more {K} {V} cmp exact pick all left rest e old new more u step put c =
    let among : (q : HandleKey) → is_among new q ≡ true → is_among more q ≡ true = λ q h. ap (λ l. is_among l q) put ∙ among_more new (pick e) u q h in
    record {
      kept = λ q h. among q (c.kept q h);
      found = λ p v h.
          ⊎_elim (λ l. inl (among (pick (p, v)) l))
          (λ r.
          (elim (is_at (cmp p) e.0) as (λ b. is_at (cmp p) e.0 ≡ b → cond b (Some e.1) (lookup (is_at (cmp p)) rest) ≡ Some v → (is_among more (pick (p, v)) ≡ true) ⊎ (lookup (is_at (cmp p)) rest ≡ Some v)) [
            | true ↦ (λ d k.
                let key : p ≡ e.0 = exact p e.0 (eq_at (cmp p e.0) d) in
                let value : v ≡ e.1 = cc in
                let both : ◌≡◌ {A = K × V} (p, v) e = λ i. (key i, value i) in
                inl (ap (λ x. is_among more (pick x)) both ∙ ap (λ l. is_among l (pick e)) put ∙ among_put new (pick e) u))
            | false ↦ (λ d k. inr k)
          ]) refl (ap (lookup (is_at (cmp p))) (sym step) ∙ r))
          (c.found p v h);
    }

pub collect_last : {K V : Type 0} (cmp : K → K → Ordering) (pick : K × V → HandleKey) (all left : List (K × V)) (old new : List (HandleKey × Unit {0})) → left ≡ [] → Collected cmp pick all left old new → (p : K) (v : V) → lookup (is_at (cmp p)) all ≡ Some v → is_among new (pick (p, v)) ≡ true
collect_last cmp pick all left old new none c p v h = ⊎_elim (λ l. l) (λ r. let n : lookup (is_at (cmp p)) left ≡ None = ap (lookup (is_at (cmp p))) none in absurd (cc)) (c.found p v h)

-- ---- the places of an instance

abbrev pub first_place : ℕ → PlaceOnNode
first_place instance = record { instance = instance; client = 0; number = 0 }

abbrev pub places_on : ℕ → List (PlaceOnNode × HandleKey) → List (PlaceOnNode × HandleKey)
places_on instance places = entries_between place_order (Included (first_place instance)) (Excluded (first_place (instance + 1))) places

pub zero_first : (a b : Ordering) → is_le a ≡ true → is_le b ≡ true → is_le (ordering_then a b) ≡ true
zero_first Less b h k = refl
zero_first Equal b h k = k
zero_first Greater b h k = h

pub from_zero : (n : ℕ) → is_le (nat_cmp 0 n) ≡ true
from_zero n =
    (elim (nat_lt 0 n) as (λ b. nat_lt 0 n ≡ b → is_le (cond b Less (cond (nat_eq 0 n) Equal Greater)) ≡ true) [
      | true ↦ (λ e. refl)
      | false ↦ (λ e. let q : nat_eq 0 n ≡ true = grind (arith, nat_tests) in rw q refl)
    ]) refl

pub next_greater : (n : ℕ) → nat_cmp (n + 1) n ≡ Greater
next_greater n = grind (arith, nat_tests)

pub on_instance : (instance : ℕ) (key : HandleKey) → range_contains place_order (Included (first_place instance)) (Excluded (first_place (instance + 1))) (place_of instance key) ≡ true
on_instance instance key =
    let from : is_le (ordering_then (nat_cmp 0 key.client) (nat_cmp 0 key.number)) ≡ true = zero_first (nat_cmp 0 key.client) (nat_cmp 0 key.number) (from_zero key.client) (from_zero key.number) in
    rw (same_number instance, next_greater instance, from) refl

pub placed_on : (instance : ℕ) (places : List (PlaceOnNode × HandleKey)) (keys : List (HandleKey × Unit {0})) → IsStrictlySortedBy place_order (keys_of places) → ((p : PlaceOnNode) (k : HandleKey) → lookup (There p) (places_on instance places) ≡ Some k → is_among keys k ≡ true) → HasPlaced places instance keys
placed_on instance places keys sorted h = λ at key found.
    let p : PlaceOnNode = place_of instance at in
    h p key
    (lookup_kept place_order place_total exact_place (λ e. range_contains place_order (Included (first_place instance)) (Excluded (first_place (instance + 1))) e.0) places p sorted
    ∙ rw (found, on_instance instance at) refl)

-- ---- the handles on an instance

pub open_placed : (entries : List (HandleKey × HandleState)) (places : List (PlaceOnNode × HandleKey)) (instance : ℕ) (keys : List (HandleKey × Unit {0})) → ArePlaced entries places → HasPlaced places instance keys → HasOpenOn entries instance keys
open_placed entries places instance keys placed has = λ key noted h on.
    let P : ℕ → Type 0 = λ i. lookup (There (place_of i key)) places ≡ Some key in
    has key key (subst P on (placed key noted h))

pub open_all : (entries : List (HandleKey × HandleState)) (instance : ℕ) (keys : List (HandleKey × Unit {0})) → HasAll entries keys → HasOpenOn entries instance keys
open_all entries instance keys has = λ key noted h on. has key (Open noted) h

-- ---- what the steps of the table come to

pub placed_after : {X E : Type 0} (result : Result X E) (entries after : List (HandleKey × HandleState)) (places more : List (PlaceOnNode × HandleKey)) (key : HandleKey) (state : HandleState) → more ≡ with_place places key state → OnOk result (after ≡ insert_entry handle_order entries key state) → OnErr result (after ≡ entries) → ArePlaced entries places → ArePlaced after more
placed_after (Ok x) entries after places more key state m ok err placed =
    let P : List (HandleKey × HandleState) → Type 0 = λ es. ArePlaced es more in
    let Q : List (PlaceOnNode × HandleKey) → Type 0 = λ ps. ArePlaced (insert_entry handle_order entries key state) ps in
    subst P (sym ok) (subst Q (sym m) (placed_put entries places key state placed))
placed_after (Err e) entries after places more key state m ok err placed =
    let P : List (HandleKey × HandleState) → Type 0 = λ es. ArePlaced es more in
    let Q : List (PlaceOnNode × HandleKey) → Type 0 = λ ps. ArePlaced entries ps in
    subst P (sym err) (subst Q (sym m) (placed_more entries places key state placed))

pub placed_again : (entries same after : List (HandleKey × HandleState)) (places there : List (PlaceOnNode × HandleKey)) (key : HandleKey) (former : Option HandleState) → same ≡ entries → there ≡ places → after ≡ with_former handle_order same key former → IsStrictlySortedBy handle_order (keys_of entries) → IsPlaced places key former → ArePlaced entries places → ArePlaced after there
placed_again entries same after places there key former e f g sorted is placed =
    let P : List (HandleKey × HandleState) → Type 0 = λ es. ArePlaced es there in
    let Q : List (PlaceOnNode × HandleKey) → Type 0 = λ ps. ArePlaced (with_former handle_order entries key former) ps in
    subst P (sym (g ∙ ap (λ l. with_former handle_order l key former) e)) (subst Q (sym f) (placed_restored entries places key former sorted is placed))

pub placed_settled : (entries : List (HandleKey × HandleState)) (places after : List (PlaceOnNode × HandleKey)) (key : HandleKey) (instance : ℕ) (place : PlaceOnNode) (state : Option HandleState) → after ≡ remove_entry (There place) places → place ≡ place_of instance key → state ≡ state_at entries key → IsNotOpenOn state instance → IsStrictlySortedBy place_order (keys_of places) → ArePlaced entries places → ArePlaced entries after
placed_settled entries places after key instance place state removed e f other sorted placed =
    let P : Option HandleState → Type 0 = λ o. IsNotOpenOn o instance in
    let Q : List (PlaceOnNode × HandleKey) → Type 0 = λ ps. ArePlaced entries ps in
    subst Q (sym (removed ∙ ap (λ p. remove_entry (There p) places) e)) (placed_less entries places key instance sorted (subst P f other) placed)

pub range_on : (instance next : ℕ) (first end : PlaceOnNode) (places stored items it : List (PlaceOnNode × HandleKey)) → it ≡ items → items ≡ entries_between place_order (Included first) (Excluded end) stored → stored ≡ places → first ≡ first_place instance → end ≡ first_place next → next ≡ instance + 1 → it ≡ places_on instance places
range_on instance next first end places stored items it a b c d e f =
    let last : end ≡ first_place (instance + 1) = e ∙ ap first_place f in
    a ∙ b
    ∙ ap (λ l. entries_between place_order (Included first) (Excluded end) l) c
    ∙ ap (λ p. entries_between place_order (Included p) (Excluded end) places) d
    ∙ ap (λ p. entries_between place_order (Included (first_place instance)) (Excluded p) places) last

pub open_if : {X E : Type 0} (result : Result X E) (entries view : List (HandleKey × HandleState)) (places : List (PlaceOnNode × HandleKey)) (instance : ℕ) (keys : List (HandleKey × Unit {0})) → entries ≡ view → ArePlaced entries places → OnOk result (HasPlaced places instance keys) → OnOk result (HasOpenOn view instance keys)
open_if (Ok x) entries view places instance keys e placed has = let P : List (HandleKey × HandleState) → Type 0 = λ es. HasOpenOn es instance keys in subst P e (open_placed entries places instance keys placed has)
open_if (Err x) entries view places instance keys e placed has = tt
