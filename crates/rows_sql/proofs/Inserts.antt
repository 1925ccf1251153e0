-- What an INSERT of one row makes of the rows.
use Rattle.std.proofs.Common.{◌≡◌, ◌≢◌, ℕ, ℤ, Bool, true, false, List, [], ◌∷◌, ◌++◌, Option, Ok, inl, refl, sym, ap, ◌∙◌, subst}
use Rattle.std.specs.Prelude.{MatchBool, if◌then◌else◌, ◌/◌, length, fold}
use Rattle.std.specs.List.{AllByRecursion}
use Rattle.std.specs.List.Sorted.{IsPermutation}
use Rattle.std.specs.Ordering.{is_eq, is_lt, int_cmp}
use Rattle.std.proofs.lemmas.Bool.{and_parts, both_ways, false_from_ne_true, not-true}
use Rattle.std.proofs.lemmas.Cmp.{tied_itself}
use Rattle.sqlite_value.specs.Order.{Row, value_cmp}
use Rattle.sqlite_value.proofs.OrderLemmas.{value_cmp_total}
use Rattle.sqlite.specs.Term.{Term}
use Rattle.sqlite.specs.Table.{Table}
use Rattle.sqlite.specs.Tree.{Trees, rowid, put_row}
use Rattle.sqlite.specs.View.{IsShaped, is_int}
use Rattle.sqlite_trees.specs.declared.store.Shape.TheVariants as shape
use Rattle.sqlite_trees.proofs.TreeLemmas.{IsShaped-put_row}
use Rattle.sqlite_schema.specs.declared.schema.Keys.TheVariants.{Enforced}
use Rattle.sqlite.specs.Source.TheVariants.{Values}
use Rattle.sqlite.specs.Edit.{edit_of}
use Rattle.sqlite.specs.Cast.{cast_row}
use Rattle.sqlite.specs.Rowids.TheVariants.{Chosen, Above}
use Rattle.sqlite_rules.specs.Action as action
use Rattle.sqlite_rules.specs.Edit.{with_rowid, is_taken}
use Rattle.sqlite_rules.specs.Lists.{Has}
use Rattle.sqlite_rules.proofs.ActionLemmas.{no_works}
use Rattle.sqlite_rules.proofs.ListLemmas.{has_left, has_right, some_from}
use Rattle.sqlite.specs.Effect.{value_rows}
use Rattle.sqlite.specs.Rows.{Written, Task, Inserts, Gives, CountsIn, count_of, higher, sequence, rowids_for, stamped}
use Rattle.sqlite.proofs.Callers.{one_step}
use Rattle.rows_sql.specs.OurSchema.{the_schema}
use Rattle.rows_sql.proofs.Held.{has_permuted}
use Rattle.rows_sql.proofs.Trees.{put_fresh}
use Rattle.rows_sql.proofs.Deletes.{went, same_value}

module _ (limit : Option ℕ) (table : Table) (params : Row) (db : Trees) (values : List Term) (width : ℕ) (source new : Row) where
  abbrev task : Task
  task = record { limit = limit; keys = Enforced; schema = the_schema; table = table; params = params }

  abbrev es : List Row
  es = db table.tree

  -- the source is this row, whose rowid is chosen
  pub record CanInsert : Type 0 where
    pub shaped : IsShaped shape.Table es
    pub uncounted : table.is_counted ≡ false
    pub sources : (rows : List Row) → rows ≡ value_rows (stamped table params) width (length values / width) values → rows ≡ source ∷ []
    pub numbered : with_rowid Chosen es (cast_row table source) ≡ new
    pub keyed : is_int (rowid new) ≡ true

  -- a row more, of a new rowid
  pub record Inserted (next : Trees) : Type 0 where
    pub free : is_taken es new ≡ false
    pub rows : IsPermutation (es ++ new ∷ []) (next table.tree)
    pub shaped : IsShaped shape.Table (next table.tree)
    pub others : AllByRecursion (λ (t : Table). t.tree ≢ table.tree → next t.tree ≡ db t.tree) the_schema.tables

  module _ (how : CanInsert) where
    new_is : (top : ℤ) → with_rowid (rowids_for table top) es (cast_row table source) ≡ new
    new_is top = ap (λ b. with_rowid (if b then Above top else Chosen) es (cast_row table source)) how.uncounted ∙ how.numbered

    wrote : (top : ℤ) (mid : Trees) → action.Writes the_schema Enforced db (edit_of db table [] (rowids_for table top) 0 (source ∷ [])) (Ok mid) → Inserted mid
    wrote top mid did =
        let e = edit_of db table [] (rowids_for table top) 0 (source ∷ []) in
        let applies = one_step the_schema Enforced db mid e (no_works the_schema Enforced 0 table.tree e.news) did in
        let bare : mid table.tree ≡ put_row new es = applies.rows ∙ ap (λ n. put_row n es) (new_is top) in
        let free : is_taken es new ≡ false = ap (is_taken es) (sym (new_is top)) ∙ not-true _ (and_parts _ _ applies.fresh).0 in
        record {
          free = free;
          rows = subst (IsPermutation (es ++ new ∷ [])) (sym bare) (put_fresh new es free);
          shaped = subst (IsShaped shape.Table) (sym bare) (IsShaped-put_row new es how.keyed how.shaped);
          others = applies.tables;
        }

    pub inserts : (written : Written) → Inserts task (Values values width) db (Ok written) → Inserted written.trees
    inserts written did =
        let sourced = went did in
        let counted = went sourced.2 in
        let edited = went counted.2 in
        let ended = went edited.2 in
        let top = count_of counted.0 in
        let rows = how.sources sourced.0 sourced.1.1 in
        let mid = wrote top edited.0 (subst (λ rs. action.Writes the_schema Enforced db (edit_of db table [] (rowids_for table top) 0 rs) (Ok edited.0)) rows edited.1) in
        let highest = fold higher top (edit_of db table [] (rowids_for table top) 0 sourced.0).news in
        let bare = subst (λ b. MatchBool (if b then is_lt (int_cmp top highest) else false) (CountsIn task edited.0 counted.0 highest (sequence the_schema) (Ok ended.0)) (Gives edited.0 (Ok ended.0))) how.uncounted ended.1 in
        let trees = ap (λ (it : Written). it.trees) (same_value ended.2) ∙ same_value bare in
        subst Inserted (sym trees) mid

  -- where one row at most has the key, and the new one has it, none had it
  pub none_had : (key : Row → Bool) (next : Trees) → Inserted next → ((a b : Row) → Has (next table.tree) a → Has (next table.tree) b → key a ≡ true → key b ≡ true → a ≡ b) → key new ≡ true → (r : Row) → Has es r → key r ≡ false
  none_had key next done one its r there = false_from_ne_true _ (λ same.
      let was = has_permuted (es ++ new ∷ []) (next table.tree) r done.rows (has_left es (new ∷ []) r there) in
      let is = has_permuted (es ++ new ∷ []) (next table.tree) new done.rows (has_right es (new ∷ []) new (inl refl)) in
      let it : r ≡ new = one r new was is same its in
      both_ways _ done.free (some_from (λ (x : Row). is_eq (value_cmp (rowid x) (rowid new))) es r there (ap (λ (x : Row). is_eq (value_cmp (rowid x) (rowid new))) it ∙ ap is_eq (tied_itself value_cmp_total (rowid new)))))
