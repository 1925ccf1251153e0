-- The invalidations that an Alive carries are those of the names that its client was asked for and holds still.
use Rattle.std.proofs.Common.{◌≡◌, ℕ, ◌<◌, ◌≤◌, Less, List, [], ◌∷◌, ◌++◌, true, false, cond, Some, refl, sym, ap, subst, arith}
use Rattle.std.specs.Prelude.{All, map}
use Rattle.std.specs.List.{AllByRecursion}
use Rattle.std.specs.List.Sorted.{IsStrictlySortedBy}
use Rattle.std.specs.Map.{keys_of, lookup}
use Rattle.std.specs.BTreeMap.{is_at}
use Rattle.std.specs.Ordering.{nat_cmp}
use Rattle.std.proofs.lemmas.List.Elements.{All-nil, All-cons}
use Rattle.tags_cell.specs.declared.messages.beats.Invalidation.{Invalidation}
use Rattle.rights_core.specs.declared.cache_rights.CacheRight.{CacheRight}
use Rattle.rights_core.specs.Rights.{invalidations_of, unacked_of, IsRecorded}
use Rattle.rights_core.specs.Laws.{asked_for}
use Rattle.rights_core.proofs.Unacked.{unacked_are_held, asked_is_issued}
use Rattle.session_core.proofs.Keys.{at_itself, same_key}
use Rattle.session_core.proofs.Lowest.{none_up_to}
use Rattle.master_state.specs.State.{MasterState}
use Rattle.over_core.specs.Plans.{invalidation_of, invalidations_for}

-- it asked for the name that it names, and is one of those that were issued
pub record IsAskedFor (client : ℕ) (rights : List CacheRight) (invalidation : Invalidation) : Type 0 where
  pub asked : asked_for client invalidation.name rights ≡ Some invalidation.number
  pub first : 0 < invalidation.number
  pub issued : invalidation.number ≤ invalidations_of client rights

-- ---- entries in the order of their keys

no_further : (n m : ℕ) → n ≡ m → n ≤ m
no_further n m h = omega (arith, h)

-- a key of the others isn't the first one
other_key : {V : Type 0} (k n : ℕ) (es : List (ℕ × V)) (v : V) → AllByRecursion (λ y. nat_cmp k y ≡ Less) (keys_of es) → lookup (is_at (nat_cmp n)) es ≡ Some v → is_at (nat_cmp n) k ≡ false
other_key k n es v above found =
    (elim (is_at (nat_cmp n) k) as (λ b. is_at (nat_cmp n) k ≡ b → b ≡ false) [
      | true ↦ (λ at. let none = none_up_to k es above n (no_further n k (same_key n k at)) in absurd (cc))
      | false ↦ (λ at. refl)
    ]) refl

-- what holds of each entry that is found holds of all
all_found : (P : ℕ → List ℕ → Type 0) (es : List (ℕ × List ℕ)) → IsStrictlySortedBy nat_cmp (keys_of es) → ((n : ℕ) (name : List ℕ) → lookup (is_at (nat_cmp n)) es ≡ Some name → P n name) → All (λ (i : Invalidation). P i.number i.name) (map invalidation_of es)
unfolding IsStrictlySortedBy
all_found P [] order h = All-nil (λ (i : Invalidation). P i.number i.name)
all_found P (e ∷ es) order h =
    let at : is_at (nat_cmp e.0) e.0 ≡ true = at_itself e.0 in
    All-cons (λ (i : Invalidation). P i.number i.name) (invalidation_of e) (map invalidation_of es) (h e.0 e.1 (rw at refl))
    (all_found P es order.1 (λ n name found. h n name (rw (other_key e.0 n es name order.0 found) found)))

found_between : (n : ℕ) (name : List ℕ) (es : List (ℕ × List ℕ)) → lookup (is_at (nat_cmp n)) es ≡ Some name → (front : List Invalidation) × (back : List Invalidation) × (map invalidation_of es ≡ front ++ record { number = n; name = name } ∷ back)
found_between n name [] h = absurd (cc)
found_between n name (e ∷ es) h =
    (elim (is_at (nat_cmp n) e.0) as (λ b. is_at (nat_cmp n) e.0 ≡ b → cond b (Some e.1) (lookup (is_at (nat_cmp n)) es) ≡ Some name → (front : List Invalidation) × (back : List Invalidation) × (invalidation_of e ∷ map invalidation_of es ≡ front ++ record { number = n; name = name } ∷ back)) [
      | true ↦ (λ at is.
          let number : e.0 ≡ n = sym (same_key n e.0 at) in
          let named : e.1 ≡ name = cc in
          ([], map invalidation_of es, rw (number, named) refl))
      | false ↦ (λ at is.
          let t = found_between n name es is in
          (invalidation_of e ∷ t.0, t.1, ap (λ is. invalidation_of e ∷ is) t.2))
    ]) refl h

same_numbers : (es : List (ℕ × List ℕ)) → map (λ (i : Invalidation). i.number) (map invalidation_of es) ≡ keys_of es
same_numbers [] = refl
same_numbers (e ∷ es) = ap (λ ns. e.0 ∷ ns) (same_numbers es)

-- ---- those that a client has still to acknowledge

pub each_is_asked : (s : MasterState) (client : ℕ) → IsRecorded s.rights → All (IsAskedFor client s.rights) (invalidations_for s client)
each_is_asked s client recorded =
    all_found (λ number name. IsAskedFor client s.rights (record { number = number; name = name })) (unacked_of client s.rights) (unacked_are_held client 0 [] s.rights recorded).2
    (λ number name found.
    let asked = (unacked_are_held client number name s.rights recorded).1 found in
    let t = asked_is_issued client number name s.rights recorded asked in
    record { asked = asked; first = t.1; issued = t.2 })

-- a name that a client was asked for and holds still is named
pub asked_is_named : (s : MasterState) (client number : ℕ) (name : List ℕ) → IsRecorded s.rights → asked_for client name s.rights ≡ Some number → (front : List Invalidation) × (back : List Invalidation) × (invalidations_for s client ≡ front ++ record { number = number; name = name } ∷ back)
asked_is_named s client number name recorded asked = found_between number name (unacked_of client s.rights) ((unacked_are_held client number name s.rights recorded).0 asked)

pub numbers_rise : (s : MasterState) (client : ℕ) → IsRecorded s.rights → IsStrictlySortedBy nat_cmp (map (λ (i : Invalidation). i.number) (invalidations_for s client))
numbers_rise s client recorded =
    let P : List ℕ → Type 0 = IsStrictlySortedBy nat_cmp in
    subst P (sym (same_numbers (unacked_of client s.rights))) (unacked_are_held client 0 [] s.rights recorded).2
