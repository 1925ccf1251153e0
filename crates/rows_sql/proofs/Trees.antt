-- What the edits of one tree make of its rows.
use Rattle.std.proofs.Common.{◌≡◌, ℤ, map, Bool, true, false, not, ◌&&◌, ◌||◌, List, [], ◌∷◌, ◌++◌, filter, Ordering, Less, Equal, Greater, refl, sym, ap, ◌∙◌, inl, inr, true≢false}
use Rattle.std.specs.List.{AllByRecursion, list_any}
use Rattle.std.specs.List.Sorted.{IsPermutation}
use Rattle.std.specs.Ordering.{is_eq, is_lt, match_ordering, ordering_reverse}
use Rattle.std.specs.Prelude.{if◌then◌else◌}
use Rattle.std.proofs.lemmas.Bool.{cases_Bool, both_ways, false_from_ne_true}
use Rattle.std.proofs.lemmas.Cmp.{tied_itself, tied_back}
use Rattle.std.proofs.lemmas.List.Sorted.{IsPermutation-refl, IsPermutation-sym, IsPermutation-cons, IsPermutation-to_front}
use Rattle.sqlite_value.specs.declared.value.Value.{Value}
use Rattle.sqlite_value.specs.declared.value.Value.TheVariants.{Int}
use Rattle.sqlite_value.specs.Order.{Row, value_cmp}
use Rattle.sqlite_value.proofs.OrderLemmas.{value_cmp_total}
use Rattle.sqlite_trees.specs.Tree.{rowid, has_rowid, put_row, without_rowid, IsTable}
use Rattle.sqlite_trees.specs.View.{is_int, IsShaped}
use Rattle.sqlite_trees.specs.declared.store.Shape.TheVariants.{Table}
use Rattle.sqlite_trees.proofs.ListLemmas.{filter_same, filter_all, filter_none, all_weaker}
use Rattle.sqlite_trees.proofs.TreeLemmas.{later_rowids}
use Rattle.sqlite_rules.specs.Lists.{Has}
use Rattle.sqlite_rules.specs.Edit.{id_in, is_taken, without_all}
use Rattle.sqlite_rules.specs.Calls.{ids_of}
use Rattle.sqlite_rules.proofs.ListLemmas.{all_has, all_from, some_has, some_from, has_filtered, has_kept}
use Rattle.sqlite_rules.proofs.TableLemmas.{int_is}
use Rattle.rows_sql.proofs.Truths.{equal_is, neither}
use Rattle.rows_sql.proofs.Held.{has_mapped, mapped_has, has_permuted}

-- ---- lists

pub filter_both : {X : Type 0} (p q : X → Bool) (xs : List X) → filter p (filter q xs) ≡ filter (λ x. q x && p x) xs
filter_both p q [] = refl
filter_both p q (x ∷ xs) = elim (cases_Bool (q x)) [ inl t ↦ rw (t, filter_both p q xs) refl | inr f ↦ rw (f, filter_both p q xs) refl ]

pub map_on : {A B : Type 0} (f g : A → B) (xs : List A) → AllByRecursion (λ x. f x ≡ g x) xs → map f xs ≡ map g xs
map_on f g [] all = refl
map_on f g (x ∷ xs) all = rw (all.0, map_on f g xs all.1) refl

none_is : {X : Type 0} (x : X) (xs : List X) → x ∷ xs ≡ [] → ⊥
none_is x xs e = cc

rest_is : {X : Type 0} (x y : X) (xs : List X) → x ∷ xs ≡ y ∷ [] → (x ≡ y) × (xs ≡ [])
rest_is x y xs e = (let first : x ≡ y = cc in first, let rest : xs ≡ [] = cc in rest)

module _ {X : Type 0} (test : X → Bool) (f : X → X) where
  -- what passes the test is changed
  abbrev pub renewed : X → X
  renewed x = if test x then f x else x

  pub none_renewed : (xs : List X) → filter test xs ≡ [] → (map renewed xs ≡ xs) × (filter (λ x. not (test x)) xs ≡ xs)
  none_renewed [] none = (refl, refl)
  none_renewed (x ∷ xs) none = elim (cases_Bool (test x)) [
    | inl t ↦ absurd (none_is x (filter test xs) (ap (λ b. if b then x ∷ filter test xs else filter test xs) (sym t) ∙ none))
    | inr not_it ↦
        let later = none_renewed xs (ap (λ b. if b then x ∷ filter test xs else filter test xs) (sym not_it) ∙ none) in
        (rw (not_it, later.0) refl, rw (not_it, later.1) refl)
  ]

  -- where one does, that is to take it out and to put the changed one to the others
  pub one_renewed : (xs : List X) (one : X) → filter test xs ≡ one ∷ [] → IsPermutation (filter (λ x. not (test x)) xs ++ f one ∷ []) (map renewed xs)
  one_renewed [] one found = absurd (none_is one [] (sym found))
  one_renewed (x ∷ xs) one found = elim (cases_Bool (test x)) [
    | inl t ↦
        let parts = rest_is x one (filter test xs) (ap (λ b. if b then x ∷ filter test xs else filter test xs) (sym t) ∙ found) in
        let later = none_renewed xs parts.1 in
        let front : IsPermutation (xs ++ f one ∷ []) (f one ∷ xs) = IsPermutation-to_front xs (f one) in
        rw (t, later.0, later.1, parts.0) front
    | inr not_it ↦
        let later = one_renewed xs one (ap (λ b. if b then x ∷ filter test xs else filter test xs) (sym not_it) ∙ found) in
        rw not_it (IsPermutation-cons x (filter (λ y. not (test y)) xs ++ f one ∷ []) (map renewed xs) later)
  ]

-- ---- rows and their rowids

pub has_itself : (r : Row) → is_int (rowid r) ≡ true → has_rowid (id_in (rowid r)) r ≡ true
has_itself r int = ap (λ v. is_eq (value_cmp (rowid r) v)) (sym (int_is (rowid r) int)) ∙ ap is_eq (tied_itself value_cmp_total (rowid r))

apart : (o : Ordering) → o ≡ Less → o ≡ Equal → ⊥
apart o less equal = let e = sym less ∙ equal in absurd (let t = ap is_lt e in cc)

pub same_row : (es : List Row) (a b : Row) → IsTable es → Has es a → Has es b → value_cmp (rowid a) (rowid b) ≡ Equal → a ≡ b
same_row [] a b table ha hb tied = absurd ha
same_row (x ∷ es) a b table (inl sa) (inl sb) tied = sa ∙ sym sb
same_row (x ∷ es) a b table (inl sa) (inr hb) tied = absurd (apart _ (ap (λ r. value_cmp (rowid r) (rowid b)) sa ∙ all_has _ es b table.0 hb) tied)
same_row (x ∷ es) a b table (inr ha) (inl sb) tied = absurd (apart _ (ap (λ r. value_cmp (rowid r) (rowid a)) sb ∙ all_has _ es a table.0 ha) (tied_back value_cmp_total (rowid a) (rowid b) tied))
same_row (x ∷ es) a b table (inr ha) (inr hb) tied = same_row es a b table.1 ha hb tied

not_either : (a b : Bool) → (not a && not b) ≡ not (a || b)
not_either true b = refl
not_either false b = refl

pub without_some : (ids : List ℤ) (es : List Row) → without_all es ids ≡ filter (λ r. not (list_any (λ id. has_rowid id r) ids)) es
without_some [] es = sym (filter_all _ es (all_from _ es (λ x h. refl)))
without_some (id ∷ ids) es =
    without_some ids (without_rowid id es) ∙ filter_both _ _ es ∙ filter_same _ _ es (all_from _ es (λ x h. not_either (has_rowid id x) (list_any (λ i. has_rowid i x) ids)))

-- the rows that are shown by their rowids are gone
pub removed : (p : Row → Bool) (es rows : List Row) → IsShaped Table es → IsPermutation (map (λ r. rowid r ∷ []) (filter p es)) rows → without_all es (ids_of rows) ≡ filter (λ r. not (p r)) es
removed p es rows shaped perm = without_some (ids_of rows) es ∙ filter_same _ _ es (all_from _ es (λ r h. ap not (both r h)))
  where
    shows : Row → Row
    shows r = rowid r ∷ []

    there : (r : Row) → Has es r → p r ≡ true → Has (ids_of rows) (id_in (rowid r))
    there r h t = has_mapped (λ x. id_in (rowid x)) rows (shows r) (has_permuted _ rows (shows r) perm (has_mapped shows (filter p es) r (has_kept p es r h t)))

    back : (id : ℤ) → Has (ids_of rows) id → (r : Row) × Has es r × (p r ≡ true) × (id ≡ id_in (rowid r))
    back id h =
        let x = mapped_has (λ y. id_in (rowid y)) rows id h in
        let r = mapped_has shows (filter p es) x.0 (has_permuted rows _ x.0 (IsPermutation-sym _ rows perm) x.1) in
        let kept = has_filtered p es r.0 r.1 in
        (r.0, kept.0, kept.1, x.2 ∙ ap (λ (y : Row). id_in (rowid y)) r.2)

    both : (r : Row) → Has es r → list_any (λ id. has_rowid id r) (ids_of rows) ≡ p r
    both r h = elim (cases_Bool (p r)) [
      | inl t ↦ some_from (λ id. has_rowid id r) (ids_of rows) _ (there r h t) (has_itself r (all_has _ es r shaped.1 h)) ∙ sym t
      | inr f ↦ false_from_ne_true _ (λ found.
          let id = some_has (λ i. has_rowid i r) (ids_of rows) found in
          let x = back id.0 id.1 in
          let tied : value_cmp (rowid r) (rowid x.0) ≡ Equal = equal_is _ (ap (λ v. is_eq (value_cmp (rowid r) v)) (int_is (rowid x.0) (all_has _ es x.0 shaped.1 x.1) ∙ ap Int (sym x.3)) ∙ id.2) in
          both_ways _ f (ap p (same_row es r x.0 shaped.0 h x.1 tied) ∙ x.2)) ∙ sym f
    ]

-- ---- a row of a new rowid

pub put_fresh : (new : Row) (es : List Row) → is_taken es new ≡ false → IsPermutation (es ++ new ∷ []) (put_row new es)
put_fresh new [] free = IsPermutation-refl (new ∷ [])
put_fresh new (x ∷ es) free =
    let parts = neither (is_eq (value_cmp (rowid x) (rowid new))) (is_taken es new) free in
    (elim (value_cmp (rowid x) (rowid new)) as (λ o. is_eq o ≡ false → IsPermutation (x ∷ (es ++ new ∷ [])) (match_ordering o (x ∷ put_row new es) (new ∷ es) (new ∷ x ∷ es))) [
      | Less ↦ (λ _. IsPermutation-cons x (es ++ new ∷ []) (put_row new es) (put_fresh new es parts.1))
      | Equal ↦ (λ differs. absurd (true≢false differs))
      | Greater ↦ (λ _. IsPermutation-to_front (x ∷ es) new)
    ]) parts.0

-- ---- a row in another's place

abbrev pub swap_in : ℤ → Row → Row → Row
swap_in id new x = if has_rowid id x then new else x

mapped_same : {X : Type 0} (f : X → X) (xs : List X) → AllByRecursion (λ x. f x ≡ x) xs → map f xs ≡ xs
mapped_same f [] all = refl
mapped_same f (x ∷ xs) all = rw (all.0, mapped_same f xs all.1) refl

put_first : (new : Row) (es : List Row) → AllByRecursion (λ r. value_cmp (rowid new) (rowid r) ≡ Less) es → put_row new es ≡ new ∷ es
put_first new [] above = refl
put_first new (x ∷ es) above = rw (greater (rowid new) (rowid x) above.0) refl
  where
    greater : (a b : Value) → value_cmp a b ≡ Less → value_cmp b a ≡ Greater
    greater a b less = value_cmp_total.antisymm b a ∙ ap ordering_reverse less

pub replaced : (id : ℤ) (new : Row) (es : List Row) (r : Row) → IsTable es → Has es r → rowid r ≡ Int id → rowid new ≡ Int id → put_row new (without_rowid id es) ≡ map (swap_in id new) es
replaced id new [] r table h is new_is = absurd h
replaced id new (x ∷ es) r table (inl same) is new_is =
    let here : value_cmp (rowid x) (Int id) ≡ Equal = ap (λ v. value_cmp v (Int id)) (sym (ap rowid same) ∙ is) ∙ tied_itself value_cmp_total (Int id) in
    let others : AllByRecursion (λ y. has_rowid id y ≡ false) es = later_rowids (Int id) x es (ap is_lt here) table.0 in
    let above : AllByRecursion (λ y. value_cmp (rowid new) (rowid y) ≡ Less) es = all_weaker _ _ (λ y lt. ap (λ v. value_cmp v (rowid y)) (new_is ∙ sym is ∙ ap rowid same) ∙ lt) es table.0 in
    rw (here, filter_all (λ y. not (has_rowid id y)) es (all_weaker _ _ (λ y none. ap not none) es others), mapped_same (swap_in id new) es (all_weaker _ _ (λ y none. rw none refl) es others)) (put_first new es above)
replaced id new (x ∷ es) r table (inr later) is new_is =
    let low : value_cmp (rowid x) (Int id) ≡ Less = ap (value_cmp (rowid x)) (sym is) ∙ all_has _ es r table.0 later in
    rw (low, new_is, low) (ap (λ ys. x ∷ ys) (replaced id new es r table.1 later is new_is))

-- the one row that passes a test which tells rowids apart
pub only_row : (p : Row → Bool) (es : List Row) (r0 : Row) → IsTable es → Has es r0 → p r0 ≡ true → ((r : Row) → Has es r → p r ≡ true → value_cmp (rowid r) (rowid r0) ≡ Equal) → filter p es ≡ r0 ∷ []
only_row p [] r0 table h t only = absurd h
only_row p (x ∷ es) r0 table (inl same) t only =
    let later : AllByRecursion (λ r. p r ≡ false) es = all_from _ es (λ r h. false_from_ne_true _ (λ yes_r.
    apart _ (all_has _ es r table.0 h) (tied_back value_cmp_total (rowid r) (rowid x) (ap (λ y. value_cmp (rowid r) (rowid y)) (sym same) ∙ only r (inr h) yes_r)))) in
    rw (ap p (sym same) ∙ t, filter_none p es later) (ap (λ y. y ∷ []) (sym same))
only_row p (x ∷ es) r0 table (inr h) t only =
    let first : p x ≡ false = false_from_ne_true _ (λ yes_x. apart _ (all_has _ es r0 table.0 h) (only x (inl refl) yes_x)) in
    rw first (only_row p es r0 table.1 h t (λ r there. only r (inr there)))
