-- What a DELETE makes of the trees that takes nodes out, and their locks with them.
use Rattle.std.proofs.Common.{◌≡◌, ◌≢◌, inl, inr, ℕ, zero, suc, ℤ, arith, Bool, true, false, not, ◌&&◌, List, [], ◌∷◌, ◌++◌, length, length-append, map, filter, Some, None, Ok, refl, sym, ap, ap₂, ◌∙◌, subst}
use Rattle.std.specs.List.{list_any, cons_option, AllByRecursion}
use Rattle.sqlite.specs.Table.{Table}
use Rattle.sqlite_schema.specs.declared.schema.Reference.{Reference}
use Rattle.std.specs.List.Sorted.{IsPermutation}
use Rattle.std.specs.Ordering.{is_eq}
use Rattle.std.specs.Prelude.{if◌then◌else◌}
use Rattle.std.proofs.lemmas.Bool.{and_parts, and_from, cases_Bool, both_ways, false_from_ne_true}
use Rattle.std.proofs.lemmas.Cmp.{tied_itself, int_cmp_total}
use Rattle.std.proofs.lemmas.List.Sorted.{IsPermutation-sym}
use Rattle.sqlite_value.specs.declared.value.Value.TheVariants.{Null, Int}
use Rattle.sqlite_value.specs.declared.keys.Collation.TheVariants.{Binary}
use Rattle.sqlite_value.specs.Order.{Row, column, value_cmp}
use Rattle.sqlite_value.specs.Keys.{joined, first_key, plain}
use Rattle.sqlite_sql.specs.Ops.{binary}
use Rattle.sqlite.specs.Tree.{Trees, rowid}
use Rattle.sqlite.specs.View.{IsShaped, is_int}
use Rattle.sqlite.specs.Edit.{Edit, edit_of, taken_by, row_at, Applies, id_in}
use Rattle.sqlite.specs.Rowids.TheVariants.{Given}
use Rattle.sqlite_trees.specs.Tree.{has_rowid}
use Rattle.sqlite_trees.specs.declared.store.Shape.TheVariants as shape
use Rattle.sqlite_trees.proofs.ListLemmas.{filter_all, filter_same}
use Rattle.sqlite_schema.specs.declared.schema.Keys.TheVariants.{Enforced}
use Rattle.sqlite_schema.specs.Names.{same_name}
use Rattle.sqlite_schema.specs.Rules.{equal}
use Rattle.sqlite_rules.specs.declared.action.Deed.TheVariants.{Delete}
use Rattle.sqlite_rules.specs.Calls.{ids_of}
use Rattle.sqlite_rules.specs.Edit.{without_all}
use Rattle.sqlite_rules.specs.Lists.{Has}
use Rattle.sqlite_rules.specs.Action.{Work, Leads, Acts, ActsOn, AreChildren, action_edit, pairs, is_child_of, loses, works}
use Rattle.sqlite_rules.specs.Action as action
use Rattle.sqlite_rules.proofs.ListLemmas.{all_has, all_from, some_has, some_from, has_kept, has_filtered}
use Rattle.sqlite_rules.proofs.TableLemmas.{int_is}
use Rattle.sqlite_rules.proofs.PlaceLemmas.{row_at_is}
use Rattle.rows_sql.specs.OurSchema.{the_schema, nodes, locks, of_node}
use Rattle.rows_sql.proofs.Held.{has_mapped, mapped_has, has_permuted}
use Rattle.rows_sql.proofs.Columns.{equal-Int}
use Rattle.rows_sql.proofs.Truths.{equal_is, same_truth}
use Rattle.rows_sql.proofs.Trees.{without_some, same_row, has_itself}

-- ---- an action on the children of the rows that are taken out

snoc_is : {X : Type 0} (below : List X) (x : X) (others : List X) (y : X) → below ++ x ∷ [] ≡ others ++ y ∷ [] → (below ≡ others) × (x ≡ y)
snoc_is [] x [] y e = (refl, let same : x ≡ y = cc in same)
snoc_is [] x (z ∷ others) y e = absurd (omega (arith, ap length e, length-append others (y ∷ [])))
snoc_is (z ∷ below) x [] y e = absurd (omega (arith, ap length e, length-append below (x ∷ [])))
snoc_is (z ∷ below) x (w ∷ others) y e =
    let first : z ≡ w = cc in
    let rest : below ++ x ∷ [] ≡ others ++ y ∷ [] = cc in
    let more = snoc_is below x others y rest in
    (λ i. first i ∷ more.0 i, more.1)

not_empty : {X : Type 0} (below : List X) (x : X) → below ++ x ∷ [] ≡ [] → ⊥
not_empty below x e = absurd (omega (arith, ap length e, length-append below (x ∷ [])))

nothing_more : {X : Type 0} (xs : List X) → xs ++ [] ≡ xs
nothing_more [] = refl
nothing_more (x ∷ xs) = ap (λ ys. x ∷ ys) (nothing_more xs)

settled : (n : ℕ) (db end : Trees) → Leads the_schema Enforced n db [] (Ok end) → db ≡ end
settled zero db end h = let e = h.1 in cc
settled (suc n) db end h = absurd (omega (arith, ap length h.2, length-append h.0 (h.1 ∷ [])))

pairs_are : (olds : List Row) → pairs olds [] ≡ map (λ o. (o, [])) olds
pairs_are [] = refl
pairs_are (o ∷ olds) = ap (λ l. (o, []) ∷ l) (pairs_are olds)

module _ (table : Table) (ref : Reference) (places : List ℕ) (no_more : (olds : List Row) → works the_schema Enforced 1 table.tree olds [] ≡ []) where
  abbrev pub work : List Row → Work
  work olds = record { depth = 0; child = table; ref = ref; places = places; order = plain; deed = Delete; moves = pairs olds [] }

  abbrev pub losing : List Row → Bool
  losing olds = list_any (loses plain places) (pairs olds [])

  -- where there is something to be done
  abbrev pub to_do : List Row → List Work
  to_do olds = cons_option (if losing olds then Some (work olds) else None) []

  abbrev pub child : List Row → Row → Bool
  child olds r = list_any (is_child_of (work olds) r) (pairs olds [])

  -- the children are gone, and the other tables are as before
  pub record Gone (olds : List Row) (next mid : Trees) : Type 0 where
    pub rows : mid table.tree ≡ filter (λ r. not (child olds r)) (next table.tree)
    pub others : AllByRecursion (λ (t : Table). t.tree ≢ table.tree → mid t.tree ≡ next t.tree) the_schema.tables

  -- the children by their rowids
  record Taken (olds : List Row) (next mid : Trees) : Type 0 where
    pub ids : List ℤ
    pub children : AreChildren next (work olds) ids
    pub rows : mid table.tree ≡ without_all (next table.tree) ids
    pub others : AllByRecursion (λ (t : Table). t.tree ≢ table.tree → mid t.tree ≡ next t.tree) the_schema.tables

  acts : (olds : List Row) (next end : Trees) (below : List Work) (n : ℕ) (ids : List ℤ) → AreChildren next (work olds) ids → ActsOn the_schema Enforced (Leads the_schema Enforced n) next (work olds) below (Ok end) ids → (mid : Trees) × Leads the_schema Enforced n mid below (Ok end) × Taken olds next mid
  acts olds next end below n [] are h = (next, h, record { ids = []; children = are; rows = refl; others = (λ _. refl, (λ _. refl, (λ _. refl, (λ _. refl, tt)))) })
  acts olds next end below n (id ∷ ids) are (inl refused) = absurd (let e = refused.2 in cc)
  acts olds next end below n (id ∷ ids) are (inr (inl big)) = absurd (let e = big.3 in cc)
  acts olds next end below n (id ∷ ids) are (inr (inr went_on)) =
      let mid = went_on.0 in
      let applied = went_on.1 in
      let left = subst (λ s. Leads the_schema Enforced n mid (below ++ s) (Ok end)) (no_more (taken_by next (action_edit next (work olds) (id ∷ ids)))) went_on.2 in
      (mid, subst (λ s. Leads the_schema Enforced n mid s (Ok end)) (nothing_more below) left, record { ids = id ∷ ids; children = are; rows = applied.rows; others = applied.tables })

  int_at : (rows : List Row) → IsShaped shape.Table rows → (r : Row) → Has rows r → is_int (rowid r) ≡ true
  int_at rows shaped r h = all_has _ rows r shaped.1 h

  -- by their rowids they are just those rows
  gone_by : (olds : List Row) (next mid : Trees) → IsShaped shape.Table (next table.tree) → Taken olds next mid → Gone olds next mid
  gone_by olds next mid shaped t =
      let rows = next table.tree in
      let each : (r : Row) → Has rows r → not (list_any (λ id. has_rowid id r) t.ids) ≡ not (child olds r) = λ r h. ap not (same_truth _ _
      (λ some.
      let id = some_has (λ i. has_rowid i r) t.ids some in
      let x = t.children.sound id.0 id.1 in
      ap (child olds) (same_row rows r x.0 shaped.0 h x.1 (equal_is _ (ap (λ v. is_eq (value_cmp (rowid r) v)) x.3 ∙ id.2))) ∙ x.2)
      (λ of. some_from (λ i. has_rowid i r) t.ids (id_in (rowid r)) (t.children.complete r (id_in (rowid r)) h of (int_is (rowid r) (int_at rows shaped r h))) (has_itself r (int_at rows shaped r h)))) in
      record { rows = t.rows ∙ without_some t.ids rows ∙ filter_same _ _ rows (all_from _ rows each); others = t.others }

  -- where no key is lost there are no children
  none_gone : (olds : List Row) (next : Trees) → losing olds ≡ false → Gone olds next next
  none_gone olds next none =
      let rows = next table.tree in
      let childless : (r : Row) → Has rows r → not (child olds r) ≡ true = λ r h. ap not (false_from_ne_true _ (λ t.
      let move = some_has (is_child_of (work olds) r) (pairs olds []) t in
      both_ways _ none (some_from (loses plain places) (pairs olds []) move.0 move.1 (and_parts _ _ move.2).0))) in
      record { rows = sym (filter_all _ rows (all_from _ rows childless)); others = (λ _. refl, (λ _. refl, (λ _. refl, (λ _. refl, tt)))) }

  leads : (olds : List Row) (next end : Trees) (below : List Work) (n : ℕ) → Leads the_schema Enforced n next (below ++ work olds ∷ []) (Ok end) → (mid : Trees) × (m : ℕ) × Leads the_schema Enforced m mid below (Ok end) × Taken olds next mid
  leads olds next end below zero h = absurd (not_empty below (work olds) h.0)
  leads olds next end below (suc n) h =
      let parts = snoc_is below (work olds) h.0 h.1 h.2 in
      let at_work = subst (λ w. Acts the_schema Enforced (Leads the_schema Enforced n) next w h.0 (Ok end)) (sym parts.1) h.3 in
      let acted = subst (λ b. Acts the_schema Enforced (Leads the_schema Enforced n) next (work olds) b (Ok end)) (sym parts.0) at_work in
      let a = acts olds next end below n acted.0 acted.1 acted.2 in
      (a.0, n, a.1, a.2)

  -- the action on top is done, and those below it are left
  pub done : (olds : List Row) (next end : Trees) (below : List Work) (n : ℕ) → IsShaped shape.Table (next table.tree) → Leads the_schema Enforced n next (below ++ to_do olds) (Ok end) → (mid : Trees) × (m : ℕ) × Leads the_schema Enforced m mid below (Ok end) × Gone olds next mid
  done olds next end below n shaped h = elim (cases_Bool (losing olds)) [
    | inl t ↦
        let l = leads olds next end below n (subst (λ b. Leads the_schema Enforced n next (below ++ cons_option (if b then Some (work olds) else None) []) (Ok end)) t h) in
        (l.0, l.1, l.2, gone_by olds next l.0 shaped l.3)
    | inr f ↦
        let left = subst (λ b. Leads the_schema Enforced n next (below ++ cons_option (if b then Some (work olds) else None) []) (Ok end)) f h in
        (next, n, subst (λ s. Leads the_schema Enforced n next s (Ok end)) (nothing_more below) left, none_gone olds next f)
  ]

  -- ---- which rows are children
  module _ (is_of : Row → Row → Bool) (parts : (olds : List Row) (r o : Row) → is_child_of (work olds) r (o, []) ≡ true → is_of o r ≡ true) where
    child_has : (olds : List Row) (r : Row) → child olds r ≡ true → (o : Row) × Has olds o × (is_of o r ≡ true)
    child_has olds r t =
        let move = some_has (is_child_of (work olds) r) (pairs olds []) t in
        let o = mapped_has (λ (x : Row). (x, [])) olds move.0 (subst (λ l. Has l move.0) (pairs_are olds) move.1) in
        (o.0, o.1, parts olds r o.0 (ap (is_child_of (work olds) r) (sym o.2) ∙ move.2))

    pub none_goes : (olds : List Row) → ((o : Row) → Has olds o → ⊥) → (r : Row) → child olds r ≡ false
    none_goes olds none r = false_from_ne_true _ (λ t. let o = child_has olds r t in none o.0 o.1)

    pub one_goes : (olds : List Row) (o : Row) → Has olds o → ((a : Row) → Has olds a → a ≡ o) → ((r : Row) → is_of o r ≡ true → is_child_of (work olds) r (o, []) ≡ true) → (r : Row) → child olds r ≡ is_of o r
    one_goes olds o there one from r = same_truth _ _
        (λ c. let p = child_has olds r c in ap (λ x. is_of x r) (sym (one p.0 p.1)) ∙ p.2)
        (λ of. some_from (is_child_of (work olds) r) (pairs olds []) (o, []) (subst (λ l. Has l (o, [])) (sym (pairs_are olds)) (has_mapped (λ (x : Row). (x, [])) olds o there)) (from r of))

-- ---- what the removal of nodes sets off

pub no_more_locks : (olds : List Row) → works the_schema Enforced 1 5 olds [] ≡ []
unfolding same_name joined
no_more_locks olds = refl

abbrev pub locks_to_do : List Row → List Work
locks_to_do = to_do locks of_node (2 ∷ []) no_more_locks

the_works : (olds : List Row) → works the_schema Enforced 0 1 olds [] ≡ locks_to_do olds ++ []
unfolding same_name joined
the_works olds = refl

abbrev pub lock_of : List Row → Row → Bool
lock_of = child locks of_node (2 ∷ []) no_more_locks

pub record Cascaded (db : Trees) (edit : Edit) (end : Trees) : Type 0 where
  pub next : Trees
  pub applied : Applies the_schema Enforced db edit next
  pub locks : Gone locks of_node (2 ∷ []) no_more_locks (taken_by db edit) next end

module _ (db end : Trees) (ids0 : List ℤ) where
  abbrev edit0 : Edit
  edit0 = edit_of db nodes ids0 Given 0 []

  abbrev olds0 : List Row
  olds0 = taken_by db edit0

  pub cascaded : IsShaped shape.Table (db 5) → action.Writes the_schema Enforced db edit0 (Ok end) → Cascaded db edit0 end
  cascaded shaped_locks (inl refused) = absurd (let e = refused.2 in cc)
  cascaded shaped_locks (inr (inl big)) = absurd (let e = big.3 in cc)
  cascaded shaped_locks (inr (inr went_on)) =
      let next = went_on.0 in
      let applied = went_on.1 in
      let n = went_on.2.0 in
      let whole : Leads the_schema Enforced n next (locks_to_do olds0 ++ []) (Ok end) = subst (λ s. Leads the_schema Enforced n next s (Ok end)) (the_works olds0) went_on.2.1 in
      let stack : Leads the_schema Enforced n next (locks_to_do olds0) (Ok end) = subst (λ s. Leads the_schema Enforced n next s (Ok end)) (nothing_more (locks_to_do olds0)) whole in
      let same_locks : next 5 ≡ db 5 = applied.tables.1.1.1.0 (λ e. absurd (omega (arith, e))) in
      let only = done locks of_node (2 ∷ []) no_more_locks olds0 next end [] n (subst (IsShaped shape.Table) (sym same_locks) shaped_locks) stack in
      let ends : only.0 ≡ end = settled only.1 only.0 end only.2 in
      record { next = next; applied = applied; locks = subst (Gone locks of_node (2 ∷ []) no_more_locks olds0 next) ends only.3 }

-- ---- which locks go

-- a lock of the row
abbrev pub is_of_row : Row → Row → Bool
is_of_row o r = equal Binary (column r 1) (column o 2) && true

lock_parts : (olds : List Row) (r o : Row) → is_child_of (work locks of_node (2 ∷ []) no_more_locks olds) r (o, []) ≡ true → is_of_row o r ≡ true
unfolding first_key
lock_parts olds r o h = (and_parts _ _ h).1

lock_from : (olds : List Row) (r o : Row) (k : ℤ) → column o 2 ≡ Int k → is_of_row o r ≡ true → is_child_of (work locks of_node (2 ∷ []) no_more_locks olds) r (o, []) ≡ true
unfolding first_key binary
lock_from olds r o k int h =
    and_from _ _ (and_from _ _ (and_from _ _ (ap₂ (equal Binary) int int ∙ equal-Int k k ∙ ap is_eq (tied_itself int_cmp_total k)) refl) (ap (λ v. not (equal Binary v Null && true)) int)) h

-- The rows of the nodes that pass a test are taken out, and what goes with them.
module _ (db end : Trees) (goes : Row → Bool) (rows : List Row) (shown : IsPermutation (map (λ r. rowid r ∷ []) (filter goes (db 1))) rows) (shaped : IsShaped shape.Table (db 1)) where
  abbrev es : List Row
  es = db 1

  abbrev pub olds : List Row
  olds = taken_by db (edit_of db nodes (ids_of rows) Given 0 [])

  at_its_place : (r : Row) → Has es r → row_at es (id_in (rowid r)) ≡ r
  at_its_place r h = row_at_is es (id_in (rowid r)) r shaped.0 h (has_itself r (all_has _ es r shaped.1 h))

  pub taken : (r : Row) → Has es r → goes r ≡ true → Has olds r
  taken r h k =
      let there = has_mapped (λ x. id_in (rowid x)) rows (rowid r ∷ []) (has_permuted _ rows _ shown (has_mapped (λ (x : Row). rowid x ∷ []) (filter goes es) r (has_kept goes es r h k))) in
      subst (Has olds) (at_its_place r h) (has_mapped (row_at es) (ids_of rows) (id_in (rowid r)) there)

  pub was : (o : Row) → Has olds o → Has es o × (goes o ≡ true)
  was o h =
      let id = mapped_has (row_at es) (ids_of rows) o h in
      let x = mapped_has (λ y. id_in (rowid y)) rows id.0 id.1 in
      let r = mapped_has (λ (y : Row). rowid y ∷ []) (filter goes es) x.0 (has_permuted rows _ x.0 (IsPermutation-sym _ rows shown) x.1) in
      let kept = has_filtered goes es r.0 r.1 in
      let same : o ≡ r.0 = id.2 ∙ ap (row_at es) (x.2 ∙ ap (λ (y : Row). id_in (rowid y)) r.2) ∙ at_its_place r.0 kept.0 in
      (subst (Has es) (sym same) kept.0, ap goes same ∙ kept.1)

  pub no_lock_goes : ((o : Row) → Has es o → goes o ≡ false) → (r : Row) → lock_of olds r ≡ false
  no_lock_goes none = none_goes locks of_node (2 ∷ []) no_more_locks is_of_row lock_parts olds (λ o h. let w = was o h in both_ways _ (none o w.0) w.1)

  pub one_lock_goes : (o : Row) (k : ℤ) → Has es o → goes o ≡ true → column o 2 ≡ Int k → ((a : Row) → Has es a → goes a ≡ true → a ≡ o) → (r : Row) → lock_of olds r ≡ is_of_row o r
  one_lock_goes o k h t int one = one_goes locks of_node (2 ∷ []) no_more_locks is_of_row lock_parts olds o (taken o h t) (λ a ha. let w = was a ha in one a w.0 w.1) (λ r of. lock_from olds r o k int of)

  pub record Went : Type 0 where
    pub left : end 1 ≡ without_all es (ids_of rows)
    pub locks : end 5 ≡ filter (λ r. not (lock_of olds r)) (db 5)
    pub metas : end 0 ≡ db 0
    pub sessions : end 4 ≡ db 4

  pub went_with : IsShaped shape.Table (db 5) → action.Writes the_schema Enforced db (edit_of db nodes (ids_of rows) Given 0 []) (Ok end) → Went
  went_with shaped_locks writes =
      let c = cascaded db end (ids_of rows) shaped_locks writes in
      let l = c.locks.others in
      let a = c.applied.tables in
      let next_locks : c.next 5 ≡ db 5 = a.1.1.1.0 (λ e. absurd (omega (arith, e))) in
      record {
        left = l.1.0 (λ e. absurd (omega (arith, e))) ∙ c.applied.rows;
        locks = c.locks.rows ∙ ap (filter (λ r. not (lock_of olds r))) next_locks;
        metas = l.0 (λ e. absurd (omega (arith, e))) ∙ a.0 (λ e. absurd (omega (arith, e)));
        sessions = l.1.1.0 (λ e. absurd (omega (arith, e))) ∙ a.1.1.0 (λ e. absurd (omega (arith, e)));
      }
