-- Handles of which nothing is known any more.
use Rattle.std.proofs.Common.{◌≡◌, List, [], ◌∷◌, Bool, true, false, cond, Option, Some, None, Ordering, Less, Equal, refl, sym, ap, subst, ◌∙◌}
use Rattle.std.specs.Prelude.{not, filter}
use Rattle.std.specs.Ordering.{is_eq}
use Rattle.std.specs.List.{AllByRecursion}
use Rattle.std.specs.List.Sorted.{IsStrictlySortedBy}
use Rattle.std.specs.Map.{keys_of, lookup, remove_entry}
use Rattle.std.specs.BTreeMap.{is_at}
use Rattle.std.proofs.lemmas.Map.Lookups.{CmpEqualImpliesEq}
use Rattle.collections.proofs.Entries.{cond_apart}
use Rattle.master_parts.specs.declared.handles.HandleKey.{HandleKey}
use Rattle.master_parts.specs.declared.handles.HandleState.{HandleState}
use Rattle.master_parts.specs.Keys.{handle_order}
use Rattle.master_parts.specs.OpenHandles.{state_at, is_shut, is_other, forgotten}
use Rattle.master_parts.proofs.Found.{same_key}
use Rattle.master_parts.proofs.PlacedHandles.{exact_handle, same_handle, At}

abbrev Handles : Type 0
Handles = List (HandleKey × HandleState)

-- ---- without the entries of a key

same_gone : {X : Type 0} (a b : Bool) (x y : Option X) → a ≡ b → cond a None y ≡ cond a None (cond b x y)
same_gone true b x y h = refl
same_gone false true x y h = absurd (cc)
same_gone false false x y h = refl

apart : {K : Type 0} (cmp : K → K → Ordering) → CmpEqualImpliesEq cmp → ((x : K) → cmp x x ≡ Equal) → (key q x : K) → is_at (cmp key) x ≡ false → is_at (cmp q) x ≡ true → is_at (cmp q) key ≡ true → ⊥
apart {K} cmp exact same key q x other there own =
    let one : key ≡ x = sym (same_key cmp exact q key own) ∙ same_key cmp exact q x there in
    let itself : is_at (cmp key) key ≡ true = ap is_eq (same key) in
    let P : K → Type 0 = λ y. is_at (cmp key) y ≡ true in
    let here : is_at (cmp key) x ≡ true = subst P one itself in
    absurd (cc)

module _ {K V : Type 0} (cmp : K → K → Ordering) (exact : CmpEqualImpliesEq cmp) (same : (x : K) → cmp x x ≡ Equal) where
  looked_others : (es : List (K × V)) (key q : K) → lookup (is_at (cmp q)) (filter (λ e. not (is_at (cmp key) e.0)) es) ≡ cond (is_at (cmp q) key) None (lookup (is_at (cmp q)) es)
  looked_others [] key q = elim (is_at (cmp q) key) as (λ b. ◌≡◌ {A = Option V} None (cond b None None)) [ true ↦ refl | false ↦ refl ]
  looked_others (e ∷ es) key q =
      let find : List (K × V) → Option V = lookup (is_at (cmp q)) in
      let less : List (K × V) = filter (λ x. not (is_at (cmp key) x.0)) es in
      let at : K → Bool = is_at (cmp q) in
      (elim (is_at (cmp key) e.0) as (λ b. is_at (cmp key) e.0 ≡ b → find (cond (not b) (e ∷ less) less) ≡ cond (at key) None (cond (at e.0) (Some e.1) (find es))) [
        | true ↦ (λ c. looked_others es key q ∙ same_gone (at key) (at e.0) (Some e.1) (find es) (ap at (same_key cmp exact key e.0 c)))
        | false ↦ (λ c. ap (cond (at e.0) (Some e.1)) (looked_others es key q) ∙ cond_apart (at e.0) (at key) (Some e.1) None (find es) (apart cmp exact same key q e.0 c))
      ]) refl

  -- in order, a key has one entry
  all_others : (key : K) (es : List (K × V)) → AllByRecursion (λ y. cmp key y ≡ Less) (keys_of es) → filter (λ e. not (is_at (cmp key) e.0)) es ≡ es
  all_others key [] h = refl
  all_others key (e ∷ es) h =
      let less : List (K × V) = filter (λ x. not (is_at (cmp key) x.0)) es in
      ap (λ o. cond (not (is_eq o)) (e ∷ less) less) h.0 ∙ ap (λ l. e ∷ l) (all_others key es h.1)

  one_other : (es : List (K × V)) (key : K) → IsStrictlySortedBy cmp (keys_of es) → filter (λ e. not (is_at (cmp key) e.0)) es ≡ remove_entry (is_at (cmp key)) es
  unfolding IsStrictlySortedBy
  one_other [] key sorted = refl
  one_other (e ∷ es) key sorted =
      let less : List (K × V) = filter (λ x. not (is_at (cmp key) x.0)) es in
      (elim (is_at (cmp key) e.0) as (λ b. is_at (cmp key) e.0 ≡ b → cond (not b) (e ∷ less) less ≡ cond b es (e ∷ remove_entry (is_at (cmp key)) es)) [
        | true ↦ (λ c.
            let P : K → Type 0 = λ k. AllByRecursion (λ y. cmp k y ≡ Less) (keys_of es) in
            all_others key es (subst P (sym (same_key cmp exact key e.0 c)) sorted.0))
        | false ↦ (λ c. ap (λ l. e ∷ l) (one_other es key sorted.1))
      ]) refl

-- ---- a handle is forgotten

-- what is known of a handle then
pub lookup_forgotten : (es : Handles) (key q : HandleKey) → state_at (forgotten es key) q ≡ cond (is_shut (state_at es key)) (state_at es q) (cond (At q key) None (state_at es q))
lookup_forgotten es key q =
    elim (is_shut (state_at es key)) as (λ b. state_at (cond b es (filter (is_other key) es)) q ≡ cond b (state_at es q) (cond (At q key) None (state_at es q))) [
      | true ↦ refl
      | false ↦ looked_others handle_order exact_handle same_handle es key q
    ]

pub shut_stays : (entries after : Handles) (key : HandleKey) → is_shut (state_at entries key) ≡ true → after ≡ entries → after ≡ forgotten entries key
shut_stays entries after key shut is = is ∙ sym (ap (λ b. cond b entries (filter (is_other key) entries)) shut)

pub one_gone : (entries after : Handles) (key : HandleKey) → is_shut (state_at entries key) ≡ false → IsStrictlySortedBy handle_order (keys_of entries) → after ≡ remove_entry (At key) entries → after ≡ forgotten entries key
one_gone entries after key other sorted is =
    is ∙ sym (one_other handle_order exact_handle same_handle entries key sorted) ∙ sym (ap (λ b. cond b entries (filter (is_other key) entries)) other)
