-- The entries of a cache in the order of their turns, as names come and go.
use Rattle.std.proofs.Common.{◌≡◌, ℕ, ◌+◌, ◌≤◌, ◌<◌, Result, Ok, Err, Bool, true, false, cond, List, [], ◌∷◌, length, map, Option, None, Some, Less, Greater, refl, sym, ap, subst, ◌∙◌, arith}
use Rattle.std.specs.Prelude.{nat_lt, nat_eq, slice_get, drop, OnOk, OnErr}
use Rattle.std.specs.Option.{option_map, option_map_or}
use Rattle.std.specs.Cmp.Lexicographic.{bytes_decides, nat_list_eq_equiv}
use Rattle.std.specs.Ordering.{nat_cmp}
use Rattle.std.specs.List.{AllByRecursion, IsDistinct}
use Rattle.std.specs.List.Sorted.{IsStrictlySortedBy}
use Rattle.std.specs.Map.{keys_of, lookup, remove_entry}
use Rattle.std.specs.BTreeMap.{is_at, insert_entry as insert_in_order}
use Rattle.std.proofs.lemmas.Map.{lookup-remove_entry}
use Rattle.std.proofs.lemmas.Bool.Decides.{nat_tests}
use Rattle.indexmap.specs.IndexMap.{insert_entry}
use Rattle.node_core.specs.declared.views.View.{View}
use Rattle.cache_core.specs.declared.held.Slot.{Slot}
use Rattle.cache_core.specs.Caches.{Entries, AreCacheEntries, entry_limit, without_excess, same_name, entry_of, flushed}
use Rattle.cache_core.specs.Held.{Slots, held_in, entries_of, turns_of, IsHeld}
use Rattle.cache_core.proofs.Inserted.{lookup_inserted, distinct_inserted, distinct_removed, all_removed}
use Rattle.cache_core.proofs.OneName.{limit_is_kept}

abbrev Order : Type 0
Order = List (ℕ × List ℕ)

itself : (name : List ℕ) → same_name name name ≡ true
itself = nat_list_eq_equiv.refl

exact : (x y : List ℕ) → same_name x y ≡ true → x ≡ y
exact x y h = (bytes_decides x y).0 h

-- by name, what each place gives
abbrev by_name : {V : Type 0} → (ℕ × List ℕ → V) → Order → List (List ℕ × V)
by_name g order = map (λ place. (place.1, g place)) order

-- ---- what is held for a name

alike : {V : Type 0} (f : List ℕ → V) (order : Order) (q : List ℕ) → lookup (same_name q) (by_name (λ place. f place.1) order) ≡ option_map (λ turn. f q) (lookup (same_name q) (turns_of order))
alike f [] q = refl
alike f (o ∷ os) q =
    (elim (same_name q o.1) as (λ b. same_name q o.1 ≡ b → cond b (Some (f o.1)) (lookup (same_name q) (by_name (λ place. f place.1) os)) ≡ option_map (λ turn. f q) (cond b (Some o.0) (lookup (same_name q) (turns_of os)))) [
      | true ↦ (λ c. ap (λ n. Some (f n)) (sym (exact q o.1 c)))
      | false ↦ (λ c. alike f os q)
    ]) refl

of_slot : (slot : Option Slot) → option_map (λ turn. option_map_or (λ s. s.entry) slot None) (option_map (λ s. s.turn) slot) ≡ option_map (λ s. s.entry) slot
of_slot None = refl
of_slot (Some slot) = refl

pub found_in : (order : Order) (slots : Slots) (turns : ℕ) (q : List ℕ) → IsHeld order slots turns → entry_of (entries_of order slots) q ≡ option_map (λ slot. slot.entry) (lookup (same_name q) slots)
found_in order slots turns q h =
    alike (held_in slots) order q
    ∙ ap (option_map (λ turn. held_in slots q)) (sym (h.turned q))
    ∙ of_slot (lookup (same_name q) slots)

no_slot : (slot : Option Slot) → option_map (λ s. s.entry) slot ≡ None → option_map (λ s. s.turn) slot ≡ None
no_slot None h = refl
no_slot (Some slot) h = absurd (cc)

no_entry : (slot : Option Slot) → option_map (λ s. s.turn) slot ≡ None → option_map (λ s. s.entry) slot ≡ None
no_entry None h = refl
no_entry (Some slot) h = absurd (cc)

-- a name that has no turn has no entry
pub not_held : (order : Order) (slots : Slots) (turns : ℕ) (q : List ℕ) → IsHeld order slots turns → option_map (λ slot. slot.turn) (lookup (same_name q) slots) ≡ None → entry_of (entries_of order slots) q ≡ None
not_held order slots turns q h none = found_in order slots turns q h ∙ no_entry (lookup (same_name q) slots) none

-- and one that has no entry has no turn
has_no_turn : (order : Order) (slots : Slots) (turns : ℕ) (q : List ℕ) → IsHeld order slots turns → entry_of (entries_of order slots) q ≡ None → lookup (same_name q) (turns_of order) ≡ None
has_no_turn order slots turns q h none = sym (h.turned q) ∙ no_slot (lookup (same_name q) slots) (sym (found_in order slots turns q h) ∙ none)

-- ---- places of other names

same_places : {V : Type 0} (g h : ℕ × List ℕ → V) (name : List ℕ) (os : Order) → AllByRecursion (λ y. same_name name y ≡ false) (keys_of (turns_of os)) → ((o : ℕ × List ℕ) → same_name name o.1 ≡ false → h o ≡ g o) → by_name h os ≡ by_name g os
same_places g h name [] apart kept = refl
same_places g h name (o ∷ os) apart kept =
    let first : h o ≡ g o = kept o apart.0 in
    let rest : by_name h os ≡ by_name g os = same_places g h name os apart.1 kept in
    λ j. (o.1, first j) ∷ rest j

-- ---- a new name

rises : (u t : ℕ) → u < t → nat_cmp t u ≡ Greater
rises u t h = grind (arith, nat_tests)

added : {V : Type 0} (g h : ℕ × List ℕ → V) (os : Order) (turns t : ℕ) (name : List ℕ) (v : V) → AllByRecursion (λ u. u ≤ turns) (keys_of os) → turns < t → lookup (same_name name) (turns_of os) ≡ None → h (t, name) ≡ v → ((o : ℕ × List ℕ) → same_name name o.1 ≡ false → h o ≡ g o)
    → by_name h (insert_in_order nat_cmp os t name) ≡ insert_entry same_name (by_name g os) name v
added g h [] turns t name v below above none own kept = λ j. (name, own j) ∷ []
added {V} g h (o ∷ os) turns t name v below above none own kept =
    let last : nat_cmp t o.0 ≡ Greater = rises o.0 t (let b = below.0 in omega (arith, b, above)) in
    rw last
    ((elim (same_name name o.1) as (λ b. same_name name o.1 ≡ b → cond b (Some o.0) (lookup (same_name name) (turns_of os)) ≡ None → ◌≡◌ {A = List (List ℕ × V)} ((o.1, h o) ∷ by_name h (insert_in_order nat_cmp os t name)) (cond b ((o.1, v) ∷ by_name g os) ((o.1, g o) ∷ insert_entry same_name (by_name g os) name v))) [
      | true ↦ (λ c k. absurd (cc))
      | false ↦ (λ c k.
          let first : h o ≡ g o = kept o c in
          let rest = added g h os turns t name v below.1 above k own kept in
          λ j. (o.1, first j) ∷ rest j)
    ]) refl none)

below_more : (os : Order) (turns t : ℕ) (name : List ℕ) → AllByRecursion (λ u. u ≤ turns) (keys_of os) → turns < t → AllByRecursion (λ u. u ≤ t) (keys_of (insert_in_order nat_cmp os t name))
below_more [] turns t name below above = (omega arith, tt)
below_more (o ∷ os) turns t name below above =
    let last : nat_cmp t o.0 ≡ Greater = rises o.0 t (let b = below.0 in omega (arith, b, above)) in
    rw last (let b = below.0 in omega (arith, b, above), below_more os turns t name below.1 above)

-- what a slot holds, where a name was given another
held_own : (slots more : Slots) (name : List ℕ) (slot : Slot) → ((q : List ℕ) → lookup (same_name q) more ≡ cond (same_name name q) (Some slot) (lookup (same_name q) slots)) → held_in more name ≡ slot.entry
held_own slots more name slot put = ap (λ o. option_map_or (λ s. s.entry) o None) (put name ∙ ap (λ b. cond b (Some slot) (lookup (same_name name) slots)) (itself name))

held_other : (slots more : Slots) (name : List ℕ) (slot : Option Slot) → ((q : List ℕ) → lookup (same_name q) more ≡ cond (same_name name q) slot (lookup (same_name q) slots)) → (q : List ℕ) → same_name name q ≡ false → held_in more q ≡ held_in slots q
held_other slots more name slot put q apart = ap (λ o. option_map_or (λ s. s.entry) o None) (put q ∙ ap (λ b. cond b slot (lookup (same_name q) slots)) apart)

module _ (order after : Order) (slots more : Slots) (turns t : ℕ) (name : List ℕ) (entry : Option View) (put : after ≡ insert_in_order nat_cmp order t name) (set : (q : List ℕ) → lookup (same_name q) more ≡ cond (same_name name q) (Some (record { turn = t; entry = entry })) (lookup (same_name q) slots)) (next : t ≡ turns + 1) (is : IsHeld order slots turns) (new : entry_of (entries_of order slots) name ≡ None) where
  above : turns < t
  above = omega (arith, next)

  none : lookup (same_name name) (turns_of order) ≡ None
  none = has_no_turn order slots turns name is new

  pub new_entries : entries_of after more ≡ insert_entry same_name (entries_of order slots) name entry
  new_entries =
      ap (λ os. entries_of os more) put
      ∙ added (λ o. held_in slots o.1) (λ o. held_in more o.1) order turns t name entry is.below above none (held_own slots more name (record { turn = t; entry = entry }) set) (λ o apart. held_other slots more name (Some (record { turn = t; entry = entry })) set o.1 apart)

  new_turns : turns_of (insert_in_order nat_cmp order t name) ≡ insert_entry same_name (turns_of order) name t
  new_turns = added (λ o. o.0) (λ o. o.0) order turns t name t is.below above none refl (λ o apart. refl)

  new_turned : (q : List ℕ) → option_map (λ slot. slot.turn) (lookup (same_name q) more) ≡ lookup (same_name q) (insert_entry same_name (turns_of order) name t)
  new_turned q =
      ap (option_map (λ slot. slot.turn)) (set q ∙ ap (λ b. cond b (Some (record { turn = t; entry = entry })) (lookup (same_name q) slots)) (nat_list_eq_equiv.symm name q))
      ∙ either (same_name q name) (lookup (same_name q) slots)
      ∙ ap (cond (same_name q name) (Some t)) (is.turned q)
      ∙ sym (lookup_inserted same_name exact itself (turns_of order) name t q)
    where
      either : (b : Bool) (slot : Option Slot) → option_map (λ s. s.turn) (cond b (Some (record { turn = t; entry = entry })) slot) ≡ cond b (Some t) (option_map (λ s. s.turn) slot)
      either true slot = refl
      either false slot = refl

  pub new_held : IsHeld after more t
  new_held =
      let P : Order → Type 0 = λ os. IsHeld os more t in
      let Q : List (List ℕ × ℕ) → Type 0 = λ l. IsDistinct same_name (keys_of l) in
      subst P (sym put) (record {
        turned = λ q. new_turned q ∙ ap (lookup (same_name q)) (sym new_turns);
        below = below_more order turns t name is.below above;
        distinct = subst Q (sym new_turns) (distinct_inserted same_name nat_list_eq_equiv.symm (turns_of order) name t is.distinct);
      })

-- ---- a name that is there

again : {V : Type 0} (g h : ℕ × List ℕ → V) (os : Order) (t : ℕ) (name : List ℕ) (v : V) → IsDistinct same_name (keys_of (turns_of os)) → lookup (same_name name) (turns_of os) ≡ Some t → ((o : ℕ × List ℕ) → same_name name o.1 ≡ true → h o ≡ v) → ((o : ℕ × List ℕ) → same_name name o.1 ≡ false → h o ≡ g o)
    → by_name h os ≡ insert_entry same_name (by_name g os) name v
unfolding IsDistinct
again g h [] t name v distinct there own kept = absurd (cc)
again {V} g h (o ∷ os) t name v distinct there own kept =
    (elim (same_name name o.1) as (λ b. same_name name o.1 ≡ b → cond b (Some o.0) (lookup (same_name name) (turns_of os)) ≡ Some t → ◌≡◌ {A = List (List ℕ × V)} ((o.1, h o) ∷ by_name h os) (cond b ((o.1, v) ∷ by_name g os) ((o.1, g o) ∷ insert_entry same_name (by_name g os) name v))) [
      | true ↦ (λ c k.
          let first : h o ≡ v = own o c in
          let P : List ℕ → Type 0 = λ n. AllByRecursion (λ y. same_name n y ≡ false) (keys_of (turns_of os)) in
          let rest : by_name h os ≡ by_name g os = same_places g h name os (subst P (sym (exact name o.1 c)) distinct.0) kept in
          λ j. (o.1, first j) ∷ rest j)
      | false ↦ (λ c k.
          let first : h o ≡ g o = kept o c in
          let rest = again g h os t name v distinct.1 k own kept in
          λ j. (o.1, first j) ∷ rest j)
    ]) refl there

module _ (order : Order) (slots more : Slots) (turns t : ℕ) (name : List ℕ) (entry : Option View) (set : (q : List ℕ) → lookup (same_name q) more ≡ cond (same_name name q) (Some (record { turn = t; entry = entry })) (lookup (same_name q) slots)) (is : IsHeld order slots turns) (there : Some t ≡ option_map (λ slot. slot.turn) (lookup (same_name name) slots)) where
  turn_there : lookup (same_name name) (turns_of order) ≡ Some t
  turn_there = sym (is.turned name) ∙ sym there

  pub again_entries : entries_of order more ≡ insert_entry same_name (entries_of order slots) name entry
  again_entries =
      again (λ o. held_in slots o.1) (λ o. held_in more o.1) order t name entry is.distinct turn_there
      (λ o same. ap (held_in more) (sym (exact name o.1 same)) ∙ held_own slots more name (record { turn = t; entry = entry }) set)
      (λ o apart. held_other slots more name (Some (record { turn = t; entry = entry })) set o.1 apart)

  pub again_held : IsHeld order more turns
  again_held = record {
    turned = λ q. ap (option_map (λ slot. slot.turn)) (set q) ∙ still q (same_name name q) refl;
    below = is.below;
    distinct = is.distinct;
  }
    where
      still : (q : List ℕ) (b : Bool) → same_name name q ≡ b → option_map (λ s. s.turn) (cond b (Some (record { turn = t; entry = entry })) (lookup (same_name q) slots)) ≡ lookup (same_name q) (turns_of order)
      still q true same = sym turn_there ∙ ap (λ n. lookup (same_name n) (turns_of order)) (exact name q same)
      still q false apart = is.turned q

-- ---- a name goes

behind : (u t : ℕ) (name : List ℕ) (os : Order) → AllByRecursion (λ y. nat_cmp u y ≡ Less) (keys_of os) → lookup (same_name name) (turns_of os) ≡ Some t → nat_cmp u t ≡ Less
behind u t name [] all there = absurd (cc)
behind u t name (o ∷ os) all there =
    (elim (same_name name o.1) as (λ b. cond b (Some o.0) (lookup (same_name name) (turns_of os)) ≡ Some t → nat_cmp u t ≡ Less) [
      | true ↦ (λ k. let e : o.0 ≡ t = cc in let P : ℕ → Type 0 = λ y. nat_cmp u y ≡ Less in subst P e all.0)
      | false ↦ (λ k. behind u t name os all.1 k)
    ]) there

not_first : (u t : ℕ) → nat_cmp u t ≡ Less → is_at (nat_cmp t) u ≡ false
not_first u t h = grind (arith, nat_tests)

at_own : (u t : ℕ) → u ≡ t → is_at (nat_cmp t) u ≡ true
at_own u t h = grind (arith, nat_tests)

taken : {V : Type 0} (g h : ℕ × List ℕ → V) (os : Order) (t : ℕ) (name : List ℕ) → IsStrictlySortedBy nat_cmp (keys_of os) → IsDistinct same_name (keys_of (turns_of os)) → lookup (same_name name) (turns_of os) ≡ Some t → ((o : ℕ × List ℕ) → same_name name o.1 ≡ false → h o ≡ g o)
    → by_name h (remove_entry (is_at (nat_cmp t)) os) ≡ remove_entry (same_name name) (by_name g os)
unfolding IsDistinct IsStrictlySortedBy
taken g h [] t name sorted distinct there kept = absurd (cc)
taken {V} g h (o ∷ os) t name sorted distinct there kept =
    (elim (same_name name o.1) as (λ b. same_name name o.1 ≡ b → cond b (Some o.0) (lookup (same_name name) (turns_of os)) ≡ Some t → by_name h (remove_entry (is_at (nat_cmp t)) (o ∷ os)) ≡ cond b (by_name g os) ((o.1, g o) ∷ remove_entry (same_name name) (by_name g os))) [
      | true ↦ (λ c k.
          let e : o.0 ≡ t = cc in
          let P : List ℕ → Type 0 = λ n. AllByRecursion (λ y. same_name n y ≡ false) (keys_of (turns_of os)) in
          rw (at_own o.0 t e) (same_places g h name os (subst P (sym (exact name o.1 c)) distinct.0) kept))
      | false ↦ (λ c k.
          let first : h o ≡ g o = kept o c in
          let rest = taken g h os t name sorted.1 distinct.1 k kept in
          rw (not_first o.0 t (behind o.0 t name os sorted.0 k)) (λ j. (o.1, first j) ∷ rest j))
    ]) refl there

module _ (order after : Order) (slots less : Slots) (turns t : ℕ) (name : List ℕ) (removed : after ≡ remove_entry (is_at (nat_cmp t)) order) (gone : (q : List ℕ) → lookup (same_name q) less ≡ cond (same_name name q) None (lookup (same_name q) slots)) (sorted : IsStrictlySortedBy nat_cmp (keys_of order)) (is : IsHeld order slots turns) (turn : lookup (same_name name) (turns_of order) ≡ Some t) where
  pub less_entries : entries_of after less ≡ flushed (entries_of order slots) name
  less_entries =
      ap (λ os. entries_of os less) removed
      ∙ taken (λ o. held_in slots o.1) (λ o. held_in less o.1) order t name sorted is.distinct turn (λ o apart. held_other slots less name None gone o.1 apart)

  less_turns : turns_of (remove_entry (is_at (nat_cmp t)) order) ≡ remove_entry (same_name name) (turns_of order)
  less_turns = taken (λ o. o.0) (λ o. o.0) order t name sorted is.distinct turn (λ o apart. refl)

  less_turned : (q : List ℕ) → option_map (λ slot. slot.turn) (lookup (same_name q) less) ≡ lookup (same_name q) (remove_entry (same_name name) (turns_of order))
  less_turned q =
      ap (option_map (λ slot. slot.turn)) (gone q)
      ∙ either (same_name name q) (lookup (same_name q) slots)
      ∙ ap (cond (same_name name q) None) (is.turned q)
      ∙ sym (lookup-remove_entry nat_list_eq_equiv (same_name name) (λ x y e. nat_list_eq_equiv.congr name x y e) q (turns_of order) is.distinct)
    where
      either : (b : Bool) (slot : Option Slot) → option_map (λ s. s.turn) (cond b None slot) ≡ cond b None (option_map (λ s. s.turn) slot)
      either true slot = refl
      either false slot = refl

  pub less_held : IsHeld after less turns
  less_held =
      let P : Order → Type 0 = λ os. IsHeld os less turns in
      let Q : List (List ℕ × ℕ) → Type 0 = λ l. IsDistinct same_name (keys_of l) in
      subst P (sym removed) (record {
        turned = λ q. less_turned q ∙ ap (lookup (same_name q)) (sym less_turns);
        below = all_removed nat_eq (λ u. u ≤ turns) (is_at (nat_cmp t)) order is.below;
        distinct = subst Q (sym less_turns) (distinct_removed same_name (same_name name) (turns_of order) is.distinct);
      })

-- the turn of a name that has one
pub turn_known : (order : Order) (slots : Slots) (turns t : ℕ) (name : List ℕ) → IsHeld order slots turns → Some t ≡ option_map (λ slot. slot.turn) (lookup (same_name name) slots) → lookup (same_name name) (turns_of order) ≡ Some t
turn_known order slots turns t name is there = sym (is.turned name) ∙ sym there

-- a name that isn't held doesn't go
pub none_gone : (es : Entries) (name : List ℕ) → entry_of es name ≡ None → es ≡ flushed es name
none_gone [] name h = refl
none_gone (e ∷ es) name h =
    (elim (same_name name e.0) as (λ b. cond b (Some e.1) (entry_of es name) ≡ None → ◌≡◌ {A = Entries} (e ∷ es) (cond b es (e ∷ flushed es name))) [
      | true ↦ (λ k. absurd (cc))
      | false ↦ (λ k. ap (λ l. e ∷ l) (none_gone es name k))
    ]) h

-- ---- the oldest

pub turn_first : (order : Order) (t : ℕ) (name : List ℕ) → slice_get order 0 ≡ Some (t, name) → lookup (same_name name) (turns_of order) ≡ Some t
turn_first [] t name h = absurd (cc)
turn_first (o ∷ os) t name h =
    let e : o ≡ (t, name) = cc in
    let P : ℕ × List ℕ → Type 0 = λ x. lookup (same_name name) (turns_of (x ∷ os)) ≡ Some t in
    subst P (sym e) (rw (itself name) refl)

pub oldest_gone : (order : Order) (slots : Slots) (t : ℕ) (name : List ℕ) → slice_get order 0 ≡ Some (t, name) → flushed (entries_of order slots) name ≡ drop 1 (entries_of order slots)
oldest_gone [] slots t name h = absurd (cc)
oldest_gone (o ∷ os) slots t name h =
    let e : o ≡ (t, name) = cc in
    let P : ℕ × List ℕ → Type 0 = λ x. flushed (entries_of (x ∷ os) slots) name ≡ entries_of os slots in
    subst P (sym e) (rw (itself name) refl)

-- ---- what a step that is refused leaves

other_turn : (u t : ℕ) → u < t → is_at (nat_cmp t) u ≡ false
other_turn u t h = grind (arith, nat_tests)

pub placed_back : (os : Order) (turns t : ℕ) (name : List ℕ) → AllByRecursion (λ u. u ≤ turns) (keys_of os) → turns < t → remove_entry (is_at (nat_cmp t)) (insert_in_order nat_cmp os t name) ≡ os
placed_back [] turns t name below less = rw (at_own t t refl) refl
placed_back (o ∷ os) turns t name below less =
    let last : nat_cmp t o.0 ≡ Greater = rises o.0 t (let b = below.0 in omega (arith, b, less)) in
    let apart : is_at (nat_cmp t) o.0 ≡ false = other_turn o.0 t (let b = below.0 in omega (arith, b, less)) in
    rw last (rw apart (ap (λ l. o ∷ l) (placed_back os turns t name below.1 less)))

module _ (order placed after : Order) (slots same : Slots) (turns t : ℕ) (name : List ℕ) (put : placed ≡ insert_in_order nat_cmp order t name) (removed : after ≡ remove_entry (is_at (nat_cmp t)) placed) (unchanged : same ≡ slots) (next : t ≡ turns + 1) (is : IsHeld order slots turns) where
  back : after ≡ order
  back = removed ∙ ap (remove_entry (is_at (nat_cmp t))) put ∙ placed_back order turns t name is.below (omega (arith, next))

  pub back_held : IsHeld after same turns
  back_held =
      let P : Order → Type 0 = λ os. IsHeld os same turns in
      let Q : Slots → Type 0 = λ s. IsHeld order s turns in
      subst P (sym back) (subst Q (sym unchanged) is)

  pub back_entries : entries_of after same ≡ entries_of order slots
  back_entries = ap (λ os. entries_of os same) back ∙ ap (entries_of order) unchanged

pub always_err : {X E : Type 0} (result : Result X E) (P : Type 0) → P → OnErr result P
always_err (Ok x) P h = tt
always_err (Err e) P h = h

pub always_ok : {X E : Type 0} (result : Result X E) (P : Type 0) → P → OnOk result P
always_ok (Ok x) P h = h
always_ok (Err e) P h = tt

pub never_ok : {X E : Type 0} (result : Result X E) (e : E) (P : Type 0) → result ≡ Err e → OnOk result P
never_ok {X} {E} result e P is = let Q : Result X E → Type 0 = λ r. OnOk r P in subst Q (sym is) tt

-- ---- the oldest goes where there is one too many

pub trimmed_over : (before items after : Entries) (name : List ℕ) (entry : Option View) (len : ℕ) → AreCacheEntries before → items ≡ insert_entry same_name before name entry → len ≡ length items → entry_limit < len → after ≡ drop 1 items → AreCacheEntries after
trimmed_over before items after name entry len h put e over gone =
    let more : nat_lt entry_limit (length items) ≡ true = ap (nat_lt entry_limit) (sym e) ∙ grind (arith, nat_tests, over) in
    let kept : without_excess items ≡ drop 1 items = ap (λ b. cond b (drop 1 items) items) more in
    let P : Entries → Type 0 = λ es. AreCacheEntries (without_excess es) in
    let Q : Entries → Type 0 = λ es. AreCacheEntries es in
    let all : P items = subst P (sym put) (limit_is_kept before name entry h).1 in
    subst Q (kept ∙ sym gone) all

pub trimmed_not : (before items : Entries) (name : List ℕ) (entry : Option View) (len : ℕ) → AreCacheEntries before → items ≡ insert_entry same_name before name entry → len ≡ length items → len ≤ entry_limit → AreCacheEntries items
trimmed_not before items name entry len h put e over =
    let few : nat_lt entry_limit (length items) ≡ false = ap (nat_lt entry_limit) (sym e) ∙ grind (arith, nat_tests, over) in
    let kept : without_excess items ≡ items = ap (λ b. cond b (drop 1 items) items) few in
    let P : Entries → Type 0 = λ es. AreCacheEntries (without_excess es) in
    let Q : Entries → Type 0 = λ es. AreCacheEntries es in
    let all : P items = subst P (sym put) (limit_is_kept before name entry h).1 in
    subst Q kept all

pub flushed_within : (before after : Entries) (name : List ℕ) → AreCacheEntries before → after ≡ flushed before name → AreCacheEntries after
flushed_within before after name h gone = let Q : Entries → Type 0 = λ es. AreCacheEntries es in subst Q (sym gone) (limit_is_kept before name None h).2

pub empty_within : (before after : Entries) → AreCacheEntries before → after ≡ [] → AreCacheEntries after
empty_within before after h gone = let Q : Entries → Type 0 = λ es. AreCacheEntries es in subst Q (sym gone) (limit_is_kept before [] None h).0
