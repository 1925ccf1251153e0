-- What rows say once some are taken out, or one is put.
use Rattle.std.proofs.Common.{◌≡◌, Bool, true, false, not, cond, List, [], ◌∷◌, ◌++◌, map, filter, Option, Some, None, Ordering, Less, Equal, Greater, inl, inr, refl, sym, ap, ◌∙◌, subst, true≢false}
use Rattle.std.specs.List.{AllByRecursion}
use Rattle.std.specs.List.Sorted.{IsPermutation, IsStrictlySortedBy}
use Rattle.std.specs.Map.{keys_of, remove_entry, lookup}
use Rattle.std.specs.BTreeMap.{is_at, insert_entry}
use Rattle.std.specs.Cmp.{IsTotalOrder}
use Rattle.std.specs.Ordering.{is_eq, match_ordering}
use Rattle.std.proofs.lemmas.Bool.{cases_Bool, false_from_ne_true}
use Rattle.std.proofs.lemmas.Cmp.{tied_back}
use Rattle.std.proofs.lemmas.Map.Lookups.{CmpEqualImpliesEq}
use Rattle.std.proofs.lemmas.List.Sorted.{IsPermutation-sym}
use Rattle.sqlite_value.specs.Order.{Row}
use Rattle.sqlite_rules.specs.Lists.{Has}
use Rattle.sqlite_rules.proofs.ListLemmas.{all_has, all_from}
use Rattle.sqlite_trees.proofs.ListLemmas.{filter-map, filter_same, IsPermutation-filter}
use Rattle.rows_cell.proofs.EntriesInOrder.{sorted_gone, sorted_kept}
use Rattle.rows_sql.specs.Held.{Holds}
use Rattle.rows_sql.proofs.Truths.{equal_is, same_some}
use Rattle.rows_sql.proofs.Held.{has_mapped, mapped_has, has_permuted, holds_more, holds_permuted}

-- ---- lists of entries in the order of their keys

module _ {K V : Type 0} (cmp : K → K → Ordering) (total : IsTotalOrder cmp) where
  -- nothing is at a key that is below all
  pub none_at_low : (k : K) (es : List (K × V)) → AllByRecursion (λ y. cmp k y ≡ Less) (keys_of es) → (remove_entry (is_at (cmp k)) es ≡ es) × (lookup (is_at (cmp k)) es ≡ None)
  none_at_low k [] low = (refl, refl)
  none_at_low k (e ∷ es) low = let more = none_at_low k es low.1 in (rw (low.0, more.0) refl, rw low.0 more.1)

  pub put_low : (k : K) (v : V) (es : List (K × V)) → AllByRecursion (λ y. cmp k y ≡ Less) (keys_of es) → insert_entry cmp es k v ≡ (k, v) ∷ es
  put_low k v [] low = refl
  put_low k v (e ∷ es) low = rw low.0 refl

  pub lower : (a b : K) (es : List (K × V)) → cmp a b ≡ Less → AllByRecursion (λ y. cmp b y ≡ Less) (keys_of es) → AllByRecursion (λ y. cmp a y ≡ Less) (keys_of es)
  lower a b [] low all = tt
  lower a b (e ∷ es) low all = (total.trans a b e.0 low all.0, lower a b es low all.1)

  pub level : (a b : K) (es : List (K × V)) → cmp a b ≡ Equal → AllByRecursion (λ y. cmp b y ≡ Less) (keys_of es) → AllByRecursion (λ y. cmp a y ≡ Less) (keys_of es)
  level a b [] same all = tt
  level a b (e ∷ es) same all = (total.congr a b e.0 same ∙ all.0, level a b es same all.1)

  -- what was taken out is there no more
  pub lookup_removed : (k : K) (es : List (K × V)) → IsStrictlySortedBy cmp (keys_of es) → lookup (is_at (cmp k)) (remove_entry (is_at (cmp k)) es) ≡ None
  unfolding IsStrictlySortedBy
  lookup_removed k [] s = refl
  lookup_removed k (e ∷ es) s = elim (cases_Bool (is_at (cmp k) e.0)) [
    | inl t ↦ rw t (none_at_low k es (level k e.0 es (equal_is (cmp k e.0) t) s.0)).1
    | inr f ↦ rw (f, f) (lookup_removed k es s.1)
  ]

  -- a put is a removal and a put of a new key
  pub put_removed : CmpEqualImpliesEq cmp → (k : K) (v : V) (es : List (K × V)) → IsStrictlySortedBy cmp (keys_of es) → insert_entry cmp (remove_entry (is_at (cmp k)) es) k v ≡ insert_entry cmp es k v
  unfolding IsStrictlySortedBy
  put_removed exact k v [] s = refl
  put_removed exact k v (e ∷ es) s =
      (elim (cmp k e.0) as (λ o. cmp k e.0 ≡ o → insert_entry cmp (cond (is_eq o) es (e ∷ remove_entry (is_at (cmp k)) es)) k v ≡ match_ordering o ((k, v) ∷ e ∷ es) ((e.0, v) ∷ es) (e ∷ insert_entry cmp es k v)) [
        | Less ↦ (λ c. rw c (ap (λ xs. (k, v) ∷ e ∷ xs) (none_at_low k es (lower k e.0 es c s.0)).0))
        | Equal ↦ (λ c. put_low k v es (level k e.0 es c s.0) ∙ ap (λ x. (x, v) ∷ es) (exact k e.0 c))
        | Greater ↦ (λ c. rw c (ap (λ xs. e ∷ xs) (put_removed exact k v es s.1)))
      ]) refl

  pub lookup_none : (k : K) (es : List (K × V)) → ((e : K × V) → Has es e → is_at (cmp k) e.0 ≡ false) → lookup (is_at (cmp k)) es ≡ None
  lookup_none k [] none = refl
  lookup_none k (e ∷ es) none = rw (none e (inl refl)) (lookup_none k es (λ x h. none x (inr h)))

  pub lookup_some : (k : K) (es : List (K × V)) (e : K × V) → IsStrictlySortedBy cmp (keys_of es) → Has es e → is_at (cmp k) e.0 ≡ true → lookup (is_at (cmp k)) es ≡ Some e.1
  unfolding IsStrictlySortedBy
  lookup_some k [] e s h t = absurd h
  lookup_some k (x ∷ es) e s (inl same) t = rw (ap (λ (y : K × V). is_at (cmp k) y.0) (sym same) ∙ t) (ap (λ (y : K × V). Some y.1) (sym same))
  lookup_some k (x ∷ es) e s (inr h) t =
      let low : cmp x.0 e.0 ≡ Less = all_has _ (keys_of es) e.0 s.0 (has_mapped (λ (y : K × V). y.0) es e h) in
      let first : is_at (cmp k) x.0 ≡ false = false_from_ne_true _ (λ u.
      let tied : cmp x.0 k ≡ Equal = tied_back total k x.0 (equal_is (cmp k x.0) u) in
      let over : cmp x.0 e.0 ≡ Equal = total.congr x.0 k e.0 tied ∙ equal_is (cmp k e.0) t in
      let bad : Less ≡ Equal = sym low ∙ over in absurd (let never = ap is_eq bad in true≢false (sym never))) in
      rw first (lookup_some k es e s.1 h t)

  -- what is found is there, under its key
  pub lookup_has : CmpEqualImpliesEq cmp → (k : K) (v : V) (es : List (K × V)) → lookup (is_at (cmp k)) es ≡ Some v → Has es (k, v)
  lookup_has exact k v [] found = cc
  lookup_has exact k v (e ∷ es) found =
      (elim (is_at (cmp k) e.0) as (λ b. is_at (cmp k) e.0 ≡ b → cond b (Some e.1) (lookup (is_at (cmp k)) es) ≡ Some v → Has (e ∷ es) (k, v)) [
        | true ↦ (λ t is. let key = exact k e.0 (equal_is (cmp k e.0) t) in let value : e.1 ≡ v = same_some is in inl (λ j. (key j, sym value j)))
        | false ↦ (λ f is. inr (lookup_has exact k v es is))
      ]) refl found

-- ---- rows

module _ {K V : Type 0} (cmp : K → K → Ordering) (total : IsTotalOrder cmp) (read : Row → Option (K × V)) where
  abbrev some : List (K × V) → List (Option (K × V))
  some es = map (λ e. Some e) es

  abbrev other : K → Option (K × V) → Bool
  other k (Some e) = not (is_at (cmp k) e.0)
  other k None = true

  abbrev passes : (K × V → Bool) → Option (K × V) → Bool
  passes keep (Some e) = keep e
  passes keep None = false

  all_other : (k : K) (e : K × V) (es : List (K × V)) → is_at (cmp k) e.0 ≡ true → AllByRecursion (λ y. cmp e.0 y ≡ Less) (keys_of es) → filter (other k) (some es) ≡ some es
  all_other k e [] t all = refl
  all_other k e (f ∷ es) t all =
      let low : cmp k f.0 ≡ Less = sym (total.congr e.0 k f.0 (tied_back total k e.0 (equal_is (cmp k e.0) t))) ∙ all.0 in
      rw (low, all_other k e es t all.1) refl

  -- what is left of the entries, in one test
  removed_is : (k : K) (es : List (K × V)) → IsStrictlySortedBy cmp (keys_of es) → filter (other k) (some es) ≡ some (remove_entry (is_at (cmp k)) es)
  unfolding IsStrictlySortedBy
  removed_is k [] s = refl
  removed_is k (e ∷ es) s = elim (cases_Bool (is_at (cmp k) e.0)) [
    | inl t ↦ rw t (all_other k e es t s.0)
    | inr f ↦ rw f (ap (λ l. Some e ∷ l) (removed_is k es s.1))
  ]

  module _ (rows : List Row) (es : List (K × V)) (h : Holds cmp read rows es) where
    -- each row says an entry
    pub entry_of : (r : Row) → Has rows r → (e : K × V) × Has es e × (read r ≡ Some e)
    entry_of r there = mapped_has (λ (x : K × V). Some x) es (read r) (has_permuted (map read rows) (some es) (read r) (IsPermutation-sym (some es) (map read rows) h.said) (has_mapped read rows r there))

    -- and each entry is said
    pub row_of : (e : K × V) → Has es e → (r : Row) × Has rows r × (read r ≡ Some e)
    row_of e there = let r = mapped_has read rows (Some e) (has_permuted (some es) (map read rows) (Some e) h.said (has_mapped (λ (x : K × V). Some x) es e there)) in (r.0, r.1, sym r.2)

    -- the rows that pass a test say the entries that pass it
    pub holds_kept : (keep : K × V → Bool) (stays : Row → Bool) → ((r : Row) → Has rows r → (e : K × V) → read r ≡ Some e → stays r ≡ keep e) → Holds cmp read (filter stays rows) (filter keep es)
    holds_kept keep stays test = record {
      sorted = sorted_kept cmp keep es h.sorted;
      said =
          let moved = IsPermutation-filter (passes keep) (some es) (map read rows) h.said in
          let each : (r : Row) → Has rows r → passes keep (read r) ≡ stays r = λ r there. let e = entry_of r there in ap (passes keep) e.2 ∙ sym (test r there e.0 e.2) in
          let left : filter (passes keep) (map read rows) ≡ map read (filter stays rows) = filter-map (passes keep) read rows ∙ ap (map read) (filter_same _ _ rows (all_from _ rows each)) in
          subst (λ l. IsPermutation l (map read (filter stays rows))) (filter-map (passes keep) (λ e. Some e) es) (subst (IsPermutation (filter (passes keep) (some es))) left moved);
    }

    module _ (k : K) (goes : Row → Bool) (test : (r : Row) → Has rows r → (e : K × V) → read r ≡ Some e → goes r ≡ is_at (cmp k) e.0) where
      -- the rows that say the key are taken out
      pub holds_removed : Holds cmp read (filter (λ r. not (goes r)) rows) (remove_entry (is_at (cmp k)) es)
      holds_removed = record {
        sorted = sorted_gone cmp (is_at (cmp k)) es h.sorted;
        said =
            let moved = IsPermutation-filter (other k) (some es) (map read rows) h.said in
            let each : (r : Row) → Has rows r → other k (read r) ≡ not (goes r) = λ r there.
            let e = entry_of r there in
            ap (other k) e.2 ∙ ap not (sym (test r there e.0 e.2)) in
            let left : filter (other k) (map read rows) ≡ map read (filter (λ r. not (goes r)) rows) = filter-map (other k) read rows ∙ ap (map read) (filter_same _ _ rows (all_from _ rows each)) in
            subst (λ l. IsPermutation l (map read (filter (λ r. not (goes r)) rows))) (removed_is k es h.sorted) (subst (IsPermutation (filter (other k) (some es))) left moved);
      }

      -- a row that says the key is put in their place
      pub holds_put : CmpEqualImpliesEq cmp → (new : Row) (v : V) (next : List Row) → read new ≡ Some (k, v) → IsPermutation (filter (λ r. not (goes r)) rows ++ new ∷ []) next
          → Holds cmp read next (insert_entry cmp es k v)
      holds_put exact new v next says moved =
          let left = filter (λ r. not (goes r)) rows in
          let put = holds_more cmp total read left (remove_entry (is_at (cmp k)) es) new k v holds_removed says (lookup_removed cmp total k es h.sorted) in
          holds_permuted cmp total read (left ++ new ∷ []) next (insert_entry cmp es k v) moved (subst (Holds cmp read (left ++ new ∷ [])) (put_removed cmp total exact k v es h.sorted) put)

      -- the entry that a row of the key says is at the key
      pub found_at : (r : Row) → Has rows r → goes r ≡ true → (e : K × V) → read r ≡ Some e → lookup (is_at (cmp k)) es ≡ Some e.1
      found_at r there t e says =
          let x = entry_of r there in
          let same : x.0 ≡ e = same_some (sym x.2 ∙ says) in
          lookup_some cmp total k es e h.sorted (subst (Has es) same x.1) (sym (test r there e says) ∙ t)

      -- and where no row is of the key, none is
      pub none_at : ((r : Row) → Has rows r → goes r ≡ false) → lookup (is_at (cmp k)) es ≡ None
      none_at none = lookup_none cmp total k es (λ e there. let r = row_of e there in sym (test r.0 r.1 e r.2) ∙ none r.0 r.1)
