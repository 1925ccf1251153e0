-- What an UPDATE of at most one row makes of the rows.
use Rattle.std.proofs.Common.{◌≡◌, ◌≢◌, ◌⊎◌, inl, inr, ℕ, suc, Bool, true, false, List, [], ◌∷◌, filter, map, Option, Ok, refl, sym, ap, ◌∙◌, subst, cond}
use Rattle.std.specs.Prelude.{length, drop}
use Rattle.std.specs.List.{AllByRecursion, list_any}
use Rattle.std.specs.List.Sorted.{IsPermutation}
use Rattle.std.specs.Ordering.{is_eq}
use Rattle.std.proofs.lemmas.Bool.{cases_Bool, both_ways, false_from_ne_true}
use Rattle.std.proofs.lemmas.Cmp.{tied_itself}
use Rattle.std.proofs.lemmas.List.{length-map}
use Rattle.std.proofs.lemmas.List.Sorted.{length_permutation}
use Rattle.sqlite_value.specs.declared.value.Value.TheVariants.{Int}
use Rattle.sqlite_value.specs.Order.{Row, value_cmp}
use Rattle.sqlite_value.proofs.OrderLemmas.{value_cmp_total}
use Rattle.sqlite.specs.Term.{Term}
use Rattle.sqlite.specs.Program.{overlay}
use Rattle.sqlite.specs.Table.{Table}
use Rattle.sqlite.specs.Tree.{Trees, rowid, put_row, without_rowid}
use Rattle.sqlite.specs.View.{IsShaped, is_int}
use Rattle.sqlite_trees.specs.Tree.{has_rowid}
use Rattle.sqlite_trees.proofs.ListLemmas.{filter_none}
use Rattle.sqlite_trees.proofs.TreeLemmas.{IsShaped-filter, IsShaped-put_row}
use Rattle.sqlite_trees.specs.declared.store.Shape.TheVariants as shape
use Rattle.sqlite.specs.Edit.{Edit, edit_of, left_by, taken_by, id_in}
use Rattle.sqlite_rules.specs.Edit.{numbered, with_rowid}
use Rattle.sqlite.specs.Cast.{cast_row}
use Rattle.sqlite.specs.Rowids.{Rowids}
use Rattle.sqlite.specs.Rowids.TheVariants.{Given}
use Rattle.sqlite_rules.specs.Calls.{ids_of}
use Rattle.sqlite_rules.specs.Action as action
use Rattle.sqlite_rules.specs.Lists.{Has}
use Rattle.sqlite_rules.proofs.ActionLemmas.{nil_from_length}
use Rattle.sqlite_rules.proofs.ListLemmas.{all_has, all_from, some_has, some_from}
use Rattle.sqlite_rules.proofs.TableLemmas.{int_is}
use Rattle.sqlite_schema.specs.declared.schema.Keys.TheVariants.{Enforced}
use Rattle.sqlite.specs.Rows.{Written, Task, Updates}
use Rattle.sqlite.proofs.Callers.{one_step, one_permutation}
use Rattle.rows_sql.specs.OurSchema.{the_schema}
use Rattle.rows_sql.specs.Commands.{over}
use Rattle.rows_sql.proofs.Truths.{equal_is}
use Rattle.rows_sql.proofs.Trees.{replaced, only_row, swap_in, same_row, map_on, renewed, none_renewed}
use Rattle.rows_sql.proofs.Query.{passes, shows, answered}
use Rattle.rows_sql.proofs.Deletes.{went, same_value}

length_numbered : (rowids : Rowids) (rows news : List Row) → length (numbered rowids rows news) ≡ length news
length_numbered rowids rows [] = refl
length_numbered rowids rows (r ∷ rs) = ap suc (length_numbered rowids (put_row (with_rowid rowids rows r) rows) rs)

module _ (limit : Option ℕ) (table : Table) (params given : Row) (db : Trees) (terms project : List Term) (plainly : overlay db [] table.tree ≡ db table.tree) where
  abbrev task : Task
  task = record { limit = limit; keys = Enforced; schema = the_schema; table = table; params = params }

  abbrev edit : List Row → Edit
  edit rows = edit_of db table (ids_of rows) Given 1 rows

  abbrev es : List Row
  es = db table.tree

  abbrev pub goes : Row → Bool
  goes = passes table.tree terms project given

  abbrev pub shown_as : Row → Row
  shown_as = shows table.tree terms project given

  pub record Updated (next : Trees) : Type 0 where
    pub rows : List Row
    pub shown : IsPermutation (map shown_as (filter goes es)) rows
    pub wrote : action.Writes the_schema Enforced db (edit rows) (Ok next)

  pub updated : (written : Written) → Updates task (record { lets = []; body = over table.tree terms project }) given db (Ok written) → Updated written.trees
  updated written did =
      let queried = went did in
      let edited = went queried.2 in
      record {
        rows = queried.0;
        shown = answered table.tree terms project given (record { schema = the_schema; trees = db }) queried.0 plainly queried.1;
        wrote = subst (λ t. action.Writes the_schema Enforced db (edit queried.0) (Ok t)) (sym (ap (λ (it : Written). it.trees) (same_value edited.2))) edited.1;
      }

  -- it wrote as many rows as were found
  pub counted : (written : Written) → Updates task (record { lets = []; body = over table.tree terms project }) given db (Ok written) → length written.rows ≡ length (filter goes es)
  counted written did =
      let queried = went did in
      let edited = went queried.2 in
      let perm = answered table.tree terms project given (record { schema = the_schema; trees = db }) queried.0 plainly queried.1 in
      ap (λ (it : Written). length it.rows) (same_value edited.2) ∙ length_numbered Given (left_by db (edit queried.0)) (map (λ s. cast_row table (drop 1 s)) queried.0) ∙ length-map queried.0 (λ s. cast_row table (drop 1 s))
      ∙ length_permutation (map shown_as (filter goes es)) queried.0 perm ∙ length-map (filter goes es) shown_as

  -- a row that is found becomes this one, which has its rowid; no two are found, and no foreign key acts on it
  pub record Renews (becomes : Row → Row) : Type 0 where
    pub shaped : IsShaped shape.Table es
    pub shown : (r : Row) → Has es r → goes r ≡ true → shown_as r ≡ rowid r ∷ becomes r
    pub same_id : (r : Row) → Has es r → goes r ≡ true → rowid (becomes r) ≡ rowid r
    pub fits : (r : Row) → Has es r → goes r ≡ true → cast_row table (becomes r) ≡ becomes r
    pub one : (a b : Row) → Has es a → Has es b → goes a ≡ true → goes b ≡ true → a ≡ b
    pub alone : (olds : List Row) (n : Row) → action.works the_schema Enforced 0 table.tree olds (n ∷ []) ≡ []
    pub idle : action.works the_schema Enforced 0 table.tree [] [] ≡ []

  pub record Renewed (becomes : Row → Row) (next : Trees) : Type 0 where
    pub rows : next table.tree ≡ map (renewed goes becomes) es
    pub found : (filter goes es ≡ []) ⊎ ((r : Row) × Has es r × (goes r ≡ true) × (filter goes es ≡ r ∷ []))
    pub shaped : IsShaped shape.Table (next table.tree)
    pub others : AllByRecursion (λ (t : Table). t.tree ≢ table.tree → next t.tree ≡ db t.tree) the_schema.tables

  module _ (becomes : Row → Row) (next : Trees) (how : Renews becomes) (u : Updated next) where
    int_at : (r : Row) → Has es r → is_int (rowid r) ≡ true
    int_at r h = all_has _ es r how.shaped.1 h

    -- the one row that is found is replaced
    when_found : (r0 : Row) → Has es r0 → goes r0 ≡ true → Renewed becomes next
    when_found r0 h0 t0 =
        let id = id_in (rowid r0) in
        let new = becomes r0 in
        let is_id : rowid r0 ≡ Int id = int_is (rowid r0) (int_at r0 h0) in
        let new_id : rowid new ≡ Int id = how.same_id r0 h0 t0 ∙ is_id in
        let found = only_row goes es r0 how.shaped.0 h0 t0 (λ r h t. ap (λ (x : Row). value_cmp (rowid r) (rowid x)) (how.one r0 r h0 h t0 t) ∙ tied_itself value_cmp_total (rowid r)) in
        let perm : IsPermutation (shown_as r0 ∷ []) u.rows = subst (λ xs. IsPermutation (map shown_as xs) u.rows) found u.shown in
        let rows : u.rows ≡ (rowid r0 ∷ new) ∷ [] = one_permutation _ u.rows perm ∙ ap (λ x. x ∷ []) (how.shown r0 h0 t0) in
        let wrote = subst (λ xs. action.Writes the_schema Enforced db (edit xs) (Ok next)) rows u.wrote in
        let applies = one_step the_schema Enforced db next (edit ((rowid r0 ∷ new) ∷ [])) (how.alone (taken_by db (edit ((rowid r0 ∷ new) ∷ []))) (cast_row table new)) wrote in
        let bare : next table.tree ≡ put_row new (without_rowid id es) = applies.rows ∙ ap (λ n. put_row n (without_rowid id es)) (how.fits r0 h0 t0) in
        let each : (r : Row) → Has es r → swap_in id new r ≡ renewed goes becomes r = λ r h. elim (cases_Bool (has_rowid id r)) [
          | inl t ↦
              let same : r ≡ r0 = same_row es r r0 how.shaped.0 h h0 (equal_is _ (ap (λ w. is_eq (value_cmp (rowid r) w)) is_id ∙ t)) in
              ap (λ b. cond b new r) t ∙ ap becomes (sym same) ∙ sym (ap (λ b. cond b (becomes r) r) (ap goes same ∙ t0))
          | inr f ↦
              let no : goes r ≡ false = false_from_ne_true _ (λ t. both_ways _ f (ap (λ v. is_eq (value_cmp v (Int id))) (ap rowid (how.one r r0 h h0 t t0) ∙ is_id) ∙ ap is_eq (tied_itself value_cmp_total (Int id)))) in
              ap (λ b. cond b new r) f ∙ sym (ap (λ b. cond b (becomes r) r) no)
        ] in
        record {
          rows = bare ∙ replaced id new es r0 how.shaped.0 h0 is_id new_id ∙ map_on _ _ es (all_from _ es each);
          found = inr (r0, h0, t0, found);
          shaped = subst (IsShaped shape.Table) (sym bare) (IsShaped-put_row new _ (ap is_int new_id) (IsShaped-filter shape.Table _ _ how.shaped));
          others = applies.tables;
        }

    when_none : list_any goes es ≡ false → Renewed becomes next
    when_none none =
        let found = filter_none goes es (all_from _ es (λ r h. false_from_ne_true _ (λ t. both_ways _ none (some_from goes es r h t)))) in
        let perm : IsPermutation [] u.rows = subst (λ xs. IsPermutation (map shown_as xs) u.rows) found u.shown in
        let rows : u.rows ≡ [] = nil_from_length u.rows (length_permutation [] u.rows perm) in
        let wrote = subst (λ xs. action.Writes the_schema Enforced db (edit xs) (Ok next)) rows u.wrote in
        let applies = one_step the_schema Enforced db next (edit []) how.idle wrote in
        record {
          rows = applies.rows ∙ sym (none_renewed goes becomes es found).0;
          found = inl found;
          shaped = subst (IsShaped shape.Table) (sym applies.rows) how.shaped;
          others = applies.tables;
        }

    pub renewed_by : Renewed becomes next
    renewed_by = elim (cases_Bool (list_any goes es)) [
      | inl t ↦ let r = some_has goes es t in when_found r.0 r.1 r.2
      | inr f ↦ when_none f
    ]
