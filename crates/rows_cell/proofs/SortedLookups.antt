-- Entries in order of their keys, by what look-ups find.
use Rattle.std.proofs.Common.{◌≡◌, List, [], ◌∷◌, Bool, true, false, cond, Option, Some, None, Ordering, Less, Equal, Greater, refl, sym, ap, subst, ◌∙◌}
use Rattle.std.specs.Prelude.{◌||◌, filter, is_some}
use Rattle.std.specs.Ordering.{is_eq, nat_cmp, ordering_then, ordering_reverse}
use Rattle.std.specs.List.{AllByRecursion, list_any}
use Rattle.std.specs.List.Sorted.{IsStrictlySortedBy}
use Rattle.std.specs.Cmp.{IsTotalOrder, tied_itself}
use Rattle.std.specs.Map.{keys_of, lookup, remove_entry}
use Rattle.std.specs.BTreeMap.{is_at}
use Rattle.std.proofs.lemmas.Map.{lookup-none}
use Rattle.std.proofs.lemmas.Map.Entries.{none_below_head, option_filter}
use Rattle.std.proofs.lemmas.Map.Lookups.{CmpEqualImpliesEq, exact_unsigned}
use Rattle.collections.proofs.Entries.{eq_at, cond_apart}
use Rattle.rows_cell.specs.Keys.{lock_order}

-- ---- the order of the keys of locks tells them apart

both_equal : (a b : Ordering) → ordering_then a b ≡ Equal → (a ≡ Equal) × (b ≡ Equal)
both_equal Less b e = absurd cc
both_equal Equal b e = (refl, e)
both_equal Greater b e = absurd cc

pub exact_lock : CmpEqualImpliesEq lock_order
exact_lock x y h =
    let outer = both_equal (ordering_then (nat_cmp x.instance y.instance) (nat_cmp x.client y.client)) (nat_cmp x.handle y.handle) h in
    let inner = both_equal (nat_cmp x.instance y.instance) (nat_cmp x.client y.client) outer.0 in
    let i = exact_unsigned x.instance y.instance inner.0 in
    let c = exact_unsigned x.client y.client inner.1 in
    let n = exact_unsigned x.handle y.handle outer.1 in
    λ j. record { instance = i j; client = c j; handle = n j }

-- ---- the same look-ups

pairs : {K V : Type 0} (p q : K × V) → p.0 ≡ q.0 → p.1 ≡ q.1 → p ≡ q
pairs {K} {V} p q e f = let t : ◌≡◌ {A = K × V} (p.0, p.1) (q.0, q.1) = rw (e, f) refl in t

module _ {K V : Type 0} (cmp : K → K → Ordering) (total : IsTotalOrder cmp) where
  -- a key below all others isn't among them
  none_behind : (k : K) (es : List (K × V)) → AllByRecursion (λ y. cmp k y ≡ Less) (keys_of es) → lookup (is_at (cmp k)) es ≡ None
  none_behind k [] h = refl
  none_behind k (e ∷ es) h = rw h.0 (none_behind k es h.1)

  at_head : (e : K × V) (es : List (K × V)) → lookup (is_at (cmp e.0)) (e ∷ es) ≡ Some e.1
  at_head e es = rw (tied_itself total e.0) refl

  below_head : (k : K) (e : K × V) (es : List (K × V)) → IsStrictlySortedBy cmp (keys_of (e ∷ es)) → cmp k e.0 ≡ Less → lookup (is_at (cmp k)) (e ∷ es) ≡ None
  below_head k e es sorted h = lookup-none (is_at (cmp k)) (e ∷ es) (none_below_head total k e es sorted h)

  tails : (exact : CmpEqualImpliesEq cmp) (e : K × V) (es fs : List (K × V)) (v : V) → AllByRecursion (λ y. cmp e.0 y ≡ Less) (keys_of es) → AllByRecursion (λ y. cmp e.0 y ≡ Less) (keys_of fs) → (q : K) → lookup (is_at (cmp q)) (e ∷ es) ≡ lookup (is_at (cmp q)) ((e.0, v) ∷ fs) → lookup (is_at (cmp q)) es ≡ lookup (is_at (cmp q)) fs
  tails exact e es fs v s t q h =
      let find : List (K × V) → Option V = lookup (is_at (cmp q)) in
      (elim (is_at (cmp q) e.0) as (λ b. is_at (cmp q) e.0 ≡ b → cond b (Some e.1) (find es) ≡ cond b (Some v) (find fs) → find es ≡ find fs) [
        | true ↦ (λ c k.
            let same : q ≡ e.0 = exact q e.0 (eq_at (cmp q e.0) c) in
            let P : K → Type 0 = λ x. lookup (is_at (cmp x)) es ≡ lookup (is_at (cmp x)) fs in
            subst P (sym same) (none_behind e.0 es s ∙ sym (none_behind e.0 fs t)))
        | false ↦ (λ c k. k)
      ]) refl h

-- entries in order are the same where each look-up finds the same
pub same_lookups : {K V : Type 0} (cmp : K → K → Ordering) → IsTotalOrder cmp → CmpEqualImpliesEq cmp → (es fs : List (K × V)) → IsStrictlySortedBy cmp (keys_of es) → IsStrictlySortedBy cmp (keys_of fs) → ((q : K) → lookup (is_at (cmp q)) es ≡ lookup (is_at (cmp q)) fs) → es ≡ fs
unfolding IsStrictlySortedBy
same_lookups cmp total exact [] [] s t h = refl
same_lookups cmp total exact [] (f ∷ fs) s t h = let a = h f.0 in let b = at_head cmp total f fs in absurd (cc)
same_lookups cmp total exact (e ∷ es) [] s t h = let a = h e.0 in let b = at_head cmp total e es in absurd (cc)
same_lookups {K} {V} cmp total exact (e ∷ es) (f ∷ fs) s t h =
    (elim (cmp e.0 f.0) as (λ o. cmp e.0 f.0 ≡ o → e ∷ es ≡ f ∷ fs) [
      | Less ↦ (λ c. let a = h e.0 in let b = at_head cmp total e es in let d = below_head cmp total e.0 f fs t c in absurd (cc))
      | Equal ↦ (λ c.
          let key : e.0 ≡ f.0 = exact e.0 f.0 c in
          let P : K → Type 0 = λ k. (q : K) → lookup (is_at (cmp q)) (e ∷ es) ≡ lookup (is_at (cmp q)) ((k, f.1) ∷ fs) in
          let alike : P e.0 = subst P (sym key) h in
          let Q : K → Type 0 = λ k. AllByRecursion (λ y. cmp k y ≡ Less) (keys_of fs) in
          let behind : Q e.0 = subst Q (sym key) t.0 in
          let rest : es ≡ fs = same_lookups cmp total exact es fs s.1 t.1 (λ q. tails cmp total exact e es fs f.1 s.0 behind q (alike q)) in
          let found : lookup (is_at (cmp e.0)) ((e.0, f.1) ∷ fs) ≡ Some f.1 = at_head cmp total (e.0, f.1) fs in
          let first : lookup (is_at (cmp e.0)) (e ∷ es) ≡ Some e.1 = at_head cmp total e es in
          let both = alike e.0 in
          let value : e.1 ≡ f.1 = cc in
          let head : e ≡ f = pairs e f key value in
          λ i. head i ∷ rest i)
      | Greater ↦ (λ c. let a = h f.0 in let b = at_head cmp total f fs in let d = below_head cmp total f.0 e es s (total.antisymm f.0 e.0 ∙ ap ordering_reverse c) in absurd (cc))
    ]) refl

-- ---- what a look-up finds once entries go or are let through

none_either : {V : Type 0} (b : Bool) → ◌≡◌ {A = Option V} None (cond b None None)
none_either true = refl
none_either false = refl

module _ {K : Type 0} (cmp : K → K → Ordering) (total : IsTotalOrder cmp) (exact : CmpEqualImpliesEq cmp) where
  same_at : (q k : K) → is_at (cmp q) k ≡ true → q ≡ k
  same_at q k h = exact q k (eq_at (cmp q k) h)

  not_at : (q k x : K) → is_at (cmp k) x ≡ false → is_at (cmp q) x ≡ true → is_at (cmp q) k ≡ true → ⊥
  not_at q k x other a b =
      let i = same_at q x a in
      let j = same_at q k b in
      let same : k ≡ x = sym j ∙ i in
      let P : K → Type 0 = λ y. is_at (cmp k) y ≡ true in
      let own : is_at (cmp k) k ≡ true = ap is_eq (tied_itself total k) in
      let here : is_at (cmp k) x ≡ true = subst P same own in
      absurd (cc)

module _ {K V : Type 0} (cmp : K → K → Ordering) (total : IsTotalOrder cmp) (exact : CmpEqualImpliesEq cmp) where
  -- a key that others stand behind isn't among them
  pub found_none : (q x : K) (es : List (K × V)) → AllByRecursion (λ y. cmp x y ≡ Less) (keys_of es) → is_at (cmp q) x ≡ true → lookup (is_at (cmp q)) es ≡ None
  found_none q x es behind h =
      let P : K → Type 0 = λ k. lookup (is_at (cmp k)) es ≡ None in
      subst P (sym (same_at cmp total exact q x h)) (none_behind cmp total x es behind)

  pub lookup_gone : (es : List (K × V)) (k q : K) → IsStrictlySortedBy cmp (keys_of es) → lookup (is_at (cmp q)) (remove_entry (is_at (cmp k)) es) ≡ cond (is_at (cmp q) k) None (lookup (is_at (cmp q)) es)
  unfolding IsStrictlySortedBy
  lookup_gone [] k q sorted = none_either (is_at (cmp q) k)
  lookup_gone (e ∷ es) k q sorted =
      let find : List (K × V) → Option V = lookup (is_at (cmp q)) in
      let none : Option V = None in
      let at : K → Bool = is_at (cmp q) in
      (elim (is_at (cmp k) e.0) as (λ b. is_at (cmp k) e.0 ≡ b → find (cond b es (e ∷ remove_entry (is_at (cmp k)) es)) ≡ cond (at k) none (cond (at e.0) (Some e.1) (find es))) [
        | true ↦ (λ c.
            let same : k ≡ e.0 = same_at cmp total exact k e.0 c in
            rw same
            ((elim (at e.0) as (λ b. at e.0 ≡ b → find es ≡ cond b none (cond b (Some e.1) (find es))) [
              | true ↦ (λ d. found_none q e.0 es sorted.0 d)
              | false ↦ (λ d. refl)
            ]) refl))
        | false ↦ (λ c. rw (lookup_gone es k q sorted.1) (cond_apart (at e.0) (at k) (Some e.1) none (find es) (not_at cmp total exact q k e.0 c)))
      ]) refl

  pub lookup_kept : (p : K × V → Bool) (es : List (K × V)) (q : K) → IsStrictlySortedBy cmp (keys_of es) → lookup (is_at (cmp q)) (filter p es) ≡ option_filter (λ v. p (q, v)) (lookup (is_at (cmp q)) es)
  unfolding IsStrictlySortedBy
  lookup_kept p [] q sorted = refl
  lookup_kept p (e ∷ es) q sorted =
      let find : List (K × V) → Option V = lookup (is_at (cmp q)) in
      let at : K → Bool = is_at (cmp q) in
      let passes : Option V → Option V = option_filter (λ v. p (q, v)) in
      let rest = lookup_kept p es q sorted.1 in
      (elim (at e.0) as (λ a. at e.0 ≡ a → find (cond (p e) (e ∷ filter p es) (filter p es)) ≡ passes (cond a (Some e.1) (find es))) [
        | true ↦ (λ c.
            let P : K → Type 0 = λ k. find (cond (p e) (e ∷ filter p es) (filter p es)) ≡ cond (p (k, e.1)) (Some e.1) None in
            let none : find (filter p es) ≡ None = rest ∙ ap passes (found_none q e.0 es sorted.0 c) in
            subst P (sym (same_at cmp total exact q e.0 c))
            (elim (p e) as (λ b. find (cond b (e ∷ filter p es) (filter p es)) ≡ cond b (Some e.1) None) [ true ↦ rw c refl | false ↦ none ]))
        | false ↦ (λ c. elim (p e) as (λ b. find (cond b (e ∷ filter p es) (filter p es)) ≡ passes (find es)) [ true ↦ rw c rest | false ↦ rest ])
      ]) refl

-- a key is among those of the entries where it is found
pub any_key : {K V : Type 0} (test : K → Bool) (es : List (K × V)) → list_any test (keys_of es) ≡ is_some (lookup test es)
any_key test [] = refl
any_key {K} {V} test (e ∷ es) =
    elim (test e.0) as (λ b. (b || list_any test (keys_of es)) ≡ is_some (cond b (Some e.1) (lookup test es))) [ true ↦ refl | false ↦ any_key test es ]
