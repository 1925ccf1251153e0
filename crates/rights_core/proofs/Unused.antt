-- The entry of a client that holds nothing and was never asked may go: without it the same is found.
use Rattle.std.proofs.Common.{◌≡◌, ℕ, true, false, cond, List, [], ◌∷◌, length, Some, None, arith, refl, sym, ap, ◌∙◌}
use Rattle.std.specs.Prelude.{◌==◌, ◌&&◌}
use Rattle.std.specs.Ordering.{nat_cmp}
use Rattle.std.specs.Cmp.{nat_cmp_total, unsigned_tied}
use Rattle.std.specs.List.Sorted.{IsStrictlySortedBy}
use Rattle.std.specs.Map.{lookup, remove_entry, keys_of}
use Rattle.std.specs.BTreeMap.{is_at}
use Rattle.std.proofs.lemmas.Map.Lookups.{exact_unsigned}
use Rattle.collections.proofs.Keys.{number_same}
use Rattle.rights_core.specs.declared.holdings.Holding.{Holding}
use Rattle.rights_core.specs.Holds.{Holds}
use Rattle.rights_core.specs.Indexes.{or_empty, holding_in}
use Rattle.rights_core.proofs.Places.{looked_removed, number_swap}

nothing_in : {X : Type 0} (l : List X) → length l ≡ 0 → l ≡ []
nothing_in [] h = refl
nothing_in (x ∷ xs) h = absurd (omega arith)

both_none : (a b : ℕ) → (a == 0 && (b == 0)) ≡ true → (a ≡ 0) × (b ≡ 0)
both_none a b =
    (elim (a == 0) as (λ x. (a == 0) ≡ x → (x && (b == 0)) ≡ true → (a ≡ 0) × (b ≡ 0)) [
      | true ↦ (λ p q. (number_same a 0 p, number_same b 0 q))
      | false ↦ (λ p q. cc)
    ]) refl

empty_holding : (h : Holding) → (h.invalidations == 0 && (length h.rights == 0)) ≡ true → h ≡ or_empty None
empty_holding h unused =
    let none : (h.invalidations ≡ 0) × (length h.rights ≡ 0) = both_none h.invalidations (length h.rights) unused in
    let unasked : ◌≡◌ {A = Holds} (record { invalidations = h.invalidations; rights = h.rights }) (record { invalidations = 0; rights = h.rights }) = ap (λ n. record { invalidations = n; rights = h.rights }) none.0 in
    unasked ∙ ap (λ rs. record { invalidations = 0; rights = rs }) (nothing_in h.rights none.1)

pub holding_unused : (es now : List (ℕ × Holding)) (client : ℕ) (h : Holding) → lookup (is_at (nat_cmp client)) es ≡ Some h → (h.invalidations == 0 && (length h.rights == 0)) ≡ true
    → IsStrictlySortedBy nat_cmp (keys_of es) → now ≡ remove_entry (is_at (nat_cmp client)) es → (c : ℕ) → holding_in c now ≡ holding_in c es
holding_unused es now client h found unused sorted e c =
    let gone : lookup (is_at (nat_cmp c)) now ≡ cond (c == client) None (lookup (is_at (nat_cmp c)) es) =
    ap (λ l. lookup (is_at (nat_cmp c)) l) e ∙ (looked_removed nat_cmp exact_unsigned nat_cmp_total es client c sorted ∙ ap (λ b. cond b None (lookup (is_at (nat_cmp c)) es)) (unsigned_tied client c ∙ number_swap client c)) in
    (elim (c == client) as (λ b. (c == client) ≡ b → lookup (is_at (nat_cmp c)) now ≡ cond b None (lookup (is_at (nat_cmp c)) es) → holding_in c now ≡ holding_in c es) [
      | true ↦ (λ x p.
          let same : c ≡ client = number_same c client x in
          let before : lookup (is_at (nat_cmp c)) es ≡ Some h = rw same found in
          ap or_empty p ∙ (sym (empty_holding h unused) ∙ ap or_empty (sym before)))
      | false ↦ (λ x p. ap or_empty p)
    ]) refl gone
