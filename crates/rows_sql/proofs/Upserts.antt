-- What an INSERT with an ON CONFLICT makes of the rows.
use Rattle.std.proofs.Common.{◌≡◌, ◌≢◌, ◌⊎◌, inl, inr, ℕ, ℤ, Bool, true, false, not, ◌&&◌, List, [], ◌∷◌, ◌++◌, filter, Option, Some, None, Ok, Err, Result, refl, sym, ap, ap₂, ◌∙◌, subst}
use Rattle.std.specs.Prelude.{MatchBool, if◌then◌else◌, ◌/◌, length}
use Rattle.std.specs.List.{AllByRecursion}
use Rattle.std.specs.List.Sorted.{IsPermutation}
use Rattle.std.specs.Ordering.{is_eq, is_lt, int_cmp, int_eq}
use Rattle.std.proofs.lemmas.Bool.{and_parts, false_from_ne_true, not-true}
use Rattle.std.proofs.lemmas.Cmp.{tied_itself, int_cmp_total}
use Rattle.sqlite_value.specs.declared.keys.Collation.TheVariants.{Binary}
use Rattle.sqlite_value.specs.Order.{Row, value_cmp}
use Rattle.sqlite_value.proofs.OrderLemmas.{value_cmp-Int}
use Rattle.sqlite.specs.Term.{Term}
use Rattle.sqlite.specs.Program.{overlay}
use Rattle.sqlite.specs.Table.{Table}
use Rattle.sqlite.specs.Tree.{Trees, rowid, put_row}
use Rattle.sqlite.specs.View.{IsShaped, is_int}
use Rattle.sqlite_trees.specs.declared.store.Shape.TheVariants as shape
use Rattle.sqlite_trees.proofs.TreeLemmas.{IsShaped-put_row}
use Rattle.sqlite_trees.proofs.ListLemmas.{filter_all, filter_same}
use Rattle.sqlite_schema.specs.declared.program.Program.{Program}
use Rattle.sqlite_schema.specs.declared.command.Upsert.{Upsert}
use Rattle.sqlite_schema.specs.declared.command.Conflict.TheVariants.{Abort}
use Rattle.sqlite_schema.specs.declared.schema.Keys.TheVariants.{Enforced}
use Rattle.sqlite_schema.specs.Rules.{equal}
use Rattle.sqlite.specs.Source.TheVariants.{Values}
use Rattle.sqlite.specs.Edit.{edit_of, id_in}
use Rattle.sqlite.specs.Cast.{cast_row}
use Rattle.sqlite.specs.Rowids.TheVariants.{Given, Chosen, Above}
use Rattle.sqlite_rules.specs.Edit.{with_rowid, is_taken}
use Rattle.sqlite_rules.specs.Action as action
use Rattle.sqlite_rules.specs.Lists.{Has}
use Rattle.sqlite_rules.specs.Keys.{AreConflicts, conflicts}
use Rattle.sqlite_rules.specs.declared.error.Refusal.{Refusal}
use Rattle.sqlite_rules.proofs.ActionLemmas.{no_works}
use Rattle.sqlite_rules.proofs.ListLemmas.{all_has, all_from, has_kept}
use Rattle.sqlite_rules.proofs.TableLemmas.{int_is}
use Rattle.sqlite.specs.Effect.{value_rows, edit_error}
use Rattle.sqlite.specs.Rows.{Written, Task, Updates, InsertsOr, Upserts, Meets, Clears, Judged, Tries, Puts, TriesEach, Gives, CountsIn, nothing, count_of, sequence, rowids_for, shown, stamped}
use Rattle.sqlite.specs.declared.error.Error.{Error}
use Rattle.sqlite.proofs.Callers.{one_step}
use Rattle.rows_sql.specs.OurSchema.{the_schema}
use Rattle.rows_sql.specs.Commands.{over}
use Rattle.rows_sql.proofs.Columns.{equal-Int}
use Rattle.rows_sql.proofs.Truths.{alone_and, equal_is, same_truth}
use Rattle.rows_sql.proofs.Trees.{put_fresh, same_row, one_renewed}
use Rattle.rows_sql.proofs.Query.{passes, shows}
use Rattle.rows_sql.proofs.Deletes.{went, same_value}
use Rattle.rows_sql.proofs.Updates as updates

module _ (limit : Option ℕ) (table : Table) (params : Row) (db : Trees) (values : List Term) (width : ℕ) (source new : Row) (target : List ℕ) (finders project : List Term)
    (plainly : overlay db [] table.tree ≡ db table.tree) where
  abbrev task : Task
  task = record { limit = limit; keys = Enforced; schema = the_schema; table = table; params = params }

  abbrev es : List Row
  es = db table.tree

  abbrev q : Program
  q = record { lets = []; body = over table.tree finders project }

  abbrev clauses : List Upsert
  clauses = record { target = Some target; update = Some q } ∷ []

  -- a row has the key of the new one
  abbrev pub clash : Row → Bool
  clash = conflicts (Some target) the_schema.indexes table new

  -- what the update of a row is given
  abbrev pub given : Row → Row
  given r = params ++ rowid r ∷ shown table new

  -- the source is this row, its rowid is its own or is chosen, and a row of its key, of which there is one at most, becomes another
  pub record CanPut (becomes : Row → Row) : Type 0 where
    pub shaped : IsShaped shape.Table es
    pub uncounted : table.is_counted ≡ false
    pub sources : (rows : List Row) → rows ≡ value_rows (stamped table params) width (length values / width) values → rows ≡ source ∷ []
    pub numbered : with_rowid Chosen es (cast_row table source) ≡ new
    pub fits : cast_row table new ≡ new
    pub keyed : is_int (rowid new) ≡ true
    pub one : (a b : Row) → Has es a → Has es b → clash a ≡ true → clash b ≡ true → a ≡ b
    pub finds : (r0 r : Row) → passes table.tree finders project (given r0) r ≡ (equal Binary (rowid r) (rowid r0) && true)
    pub shows_it : (r0 r : Row) → Has es r → clash r ≡ true → shows table.tree finders project (given r0) r ≡ rowid r ∷ becomes r
    pub same_id : (r : Row) → rowid (becomes r) ≡ rowid r
    pub stays : (r : Row) → Has es r → clash r ≡ true → cast_row table (becomes r) ≡ becomes r
    pub alone : (olds : List Row) (n : Row) → action.works the_schema Enforced 0 table.tree olds (n ∷ []) ≡ []
    pub idle : action.works the_schema Enforced 0 table.tree [] [] ≡ []

  -- a row more, or one that has the key is updated
  data Upserted (next : Trees) : Type 0 where
    added : ((r : Row) → Has es r → clash r ≡ false) → IsPermutation (es ++ new ∷ []) (next table.tree) → IsShaped shape.Table (next table.tree)
        → AllByRecursion (λ (t : Table). t.tree ≢ table.tree → next t.tree ≡ db t.tree) the_schema.tables → Upserted next
    changed : (r0 : Row) → Has es r0 → clash r0 ≡ true → (w : Written) → w.trees ≡ next → Updates task q (given r0) db (Ok w) → Upserted next

  -- the rows but that of the key, and this one
  pub record PutIn (becomes : Row → Row) (next : Trees) : Type 0 where
    pub last : Row
    pub rows : IsPermutation (filter (λ r. not (clash r)) es ++ last ∷ []) (next table.tree)
    pub was : (((r : Row) → Has es r → clash r ≡ false) × (last ≡ new)) ⊎ ((r : Row) × Has es r × (clash r ≡ true) × (last ≡ becomes r))
    pub shaped : IsShaped shape.Table (next table.tree)
    pub others : AllByRecursion (λ (t : Table). t.tree ≢ table.tree → next t.tree ≡ db t.tree) the_schema.tables

  module _ (becomes : Row → Row) (how : CanPut becomes) where
    -- ---- which of the two it is

    put : (written : Written) → Puts task new db (Ok written) → ((r : Row) → Has es r → clash r ≡ false) → Upserted written.trees
    put written did none =
        let edited = went did in
        let e = edit_of db table [] Given 0 (new ∷ []) in
        let trees = ap (λ (it : Written). it.trees) (same_value edited.2) in
        let applies = one_step the_schema Enforced db edited.0 e (no_works the_schema Enforced 0 table.tree e.news) edited.1 in
        let bare : edited.0 table.tree ≡ put_row new es = applies.rows ∙ ap (λ n. put_row n es) how.fits in
        let free : is_taken es new ≡ false = ap (is_taken es) (sym how.fits) ∙ not-true _ (and_parts _ _ applies.fresh).0 in
        subst Upserted (sym trees)
        (added none (subst (IsPermutation (es ++ new ∷ [])) (sym bare) (put_fresh new es free)) (subst (IsShaped shape.Table) (sym bare) (IsShaped-put_row new es how.keyed how.shaped)) applies.tables)

    meet : (written : Written) (found : List Row) → AreConflicts (Some target) the_schema.indexes table es new found → Meets task (Upserts task Abort new db []) new db (record { target = Some target; update = Some q }) found (Ok written) → Upserted written.trees
    meet written [] are did =
        put written (clear did.0 did.2) (λ r h. false_from_ne_true _ (λ t. are.complete r h t))
      where
        clear : (found : List Row) → Clears task Abort new db found (Ok written) → Puts task new db (Ok written)
        clear [] h = h
        clear (x ∷ more) h = h
    meet written (there ∷ more) are did =
        let r = are.sound there (inl refl) in
        changed r.0 r.1 r.2 written refl (subst (λ (th : Row). Updates task q (params ++ rowid th ∷ shown table new) db (Ok written)) r.3 did)

    judge : (written : Written) (verdict : Option Refusal) → Judged task Abort clauses new db verdict (Ok written) → Upserted written.trees
    judge written None did = meet written did.0 did.1 did.2
    judge written (Some why) did = absurd (let e : ◌≡◌ {A = Result Written (Option Error)} (Ok written) (Err (Some (edit_error why))) = did in cc)

    try : (written : Written) → Tries task Abort clauses new db (Ok written) → Upserted written.trees
    try written (inl unfit) = absurd (let e = unfit.1 in cc)
    try written (inr judged) = judge written judged.0 judged.2

    new_is : (top : ℤ) → with_rowid (rowids_for table top) es (cast_row table source) ≡ new
    new_is top = ap (λ b. with_rowid (if b then Above top else Chosen) es (cast_row table source)) how.uncounted ∙ how.numbered

    each : (top : ℤ) (done : Written × ℤ) → TriesEach task Abort clauses (source ∷ []) top (nothing db) (Ok done) → Upserted done.0.trees
    each top done did =
        let tried = went did in
        let one = try tried.0 (subst (λ n. Tries task Abort clauses n db (Ok tried.0)) (new_is top) tried.1) in
        subst Upserted (sym (ap (λ (p : Written × ℤ). p.0.trees) (same_value tried.2))) one

    upserted : (written : Written) → InsertsOr task Abort clauses (Values values width) db (Ok written) → Upserted written.trees
    upserted written did =
        let sourced = went did in
        let counted = went sourced.2 in
        let done = went counted.2 in
        let ended = went done.2 in
        let rows = how.sources sourced.0 sourced.1.1 in
        let all = each _ done.0 (subst (λ rs. TriesEach task Abort clauses rs (count_of counted.0) (nothing db) (Ok done.0)) rows done.1) in
        let bare = subst (λ b. MatchBool (if b then is_lt (int_cmp (count_of counted.0) done.0.1) else false) (CountsIn task done.0.0.trees counted.0 done.0.1 (sequence the_schema) (Ok ended.0)) (Gives done.0.0.trees (Ok ended.0))) how.uncounted ended.1 in
        let trees = ap (λ (it : Written). it.trees) (same_value ended.2) ∙ same_value bare in
        subst Upserted (sym trees) all

    -- ---- what becomes of the rows

    int_at : (r : Row) → Has es r → is_int (rowid r) ≡ true
    int_at r h = all_has _ es r how.shaped.1 h

    told_by : (r0 r : Row) → Has es r0 → Has es r → passes table.tree finders project (given r0) r ≡ int_eq (id_in (rowid r)) (id_in (rowid r0))
    told_by r0 r h0 h = how.finds r0 r ∙ alone_and _ ∙ ap₂ (equal Binary) (int_is (rowid r) (int_at r h)) (int_is (rowid r0) (int_at r0 h0)) ∙ equal-Int _ _

    found_by : (r0 r : Row) → Has es r0 → clash r0 ≡ true → Has es r → passes table.tree finders project (given r0) r ≡ clash r
    found_by r0 r h0 t0 h = same_truth _ _
        (λ t. let same : r ≡ r0 = same_row es r r0 how.shaped.0 h h0 (ap₂ value_cmp (int_is (rowid r) (int_at r h)) (int_is (rowid r0) (int_at r0 h0)) ∙ value_cmp-Int _ _ ∙ equal_is _ (sym (told_by r0 r h0 h) ∙ t)) in ap clash same ∙ t0)
        (λ t. told_by r0 r h0 h ∙ ap (λ (x : Row). int_eq (id_in (rowid x)) (id_in (rowid r0))) (how.one r r0 h h0 t t0) ∙ ap is_eq (tied_itself int_cmp_total (id_in (rowid r0))))

    put_in : (next : Trees) → Upserted next → PutIn becomes next
    put_in next (added none rows shaped others) = record {
      last = new;
      rows = subst (λ l. IsPermutation (l ++ new ∷ []) (next table.tree)) (sym (filter_all (λ r. not (clash r)) es (all_from _ es (λ r h. ap not (none r h))))) rows;
      was = inl (none, refl);
      shaped = shaped;
      others = others;
    }
    put_in next (changed r0 h0 t0 w is did) =
        let goes = passes table.tree finders project (given r0) in
        let same = found_by r0 in
        let u = subst (updates.Updated limit table params (given r0) db finders project plainly) is (updates.updated limit table params (given r0) db finders project plainly w did) in
        let renews : updates.Renews limit table params (given r0) db finders project plainly becomes = record {
          shaped = how.shaped;
          shown = λ r h t. how.shows_it r0 r h (sym (same r h0 t0 h) ∙ t);
          same_id = λ r h t. how.same_id r;
          fits = λ r h t. how.stays r h (sym (same r h0 t0 h) ∙ t);
          one = λ a b ha hb ta tb. how.one a b ha hb (sym (same a h0 t0 ha) ∙ ta) (sym (same b h0 t0 hb) ∙ tb);
          alone = how.alone;
          idle = how.idle;
        } in
        let r = updates.renewed_by limit table params (given r0) db finders project plainly becomes next renews u in
        let it = elim r.found as (λ _. (x : Row) × Has es x × (goes x ≡ true) × (filter goes es ≡ x ∷ [])) [
          | inl empty ↦ absurd (subst (λ l. Has l r0) empty (has_kept goes es r0 h0 (same r0 h0 t0 h0 ∙ t0)))
          | inr found ↦ found
        ] in
        record {
          last = becomes it.0;
          rows = subst (λ l. IsPermutation (l ++ becomes it.0 ∷ []) (next table.tree)) (filter_same _ _ es (all_from _ es (λ x h. ap not (same x h0 t0 h))))
              (subst (IsPermutation (filter (λ x. not (goes x)) es ++ becomes it.0 ∷ [])) (sym r.rows) (one_renewed goes becomes es it.0 it.3));
          was = inr (it.0, it.1, sym (same it.0 h0 t0 it.1) ∙ it.2, refl);
          shaped = r.shaped;
          others = r.others;
        }

    pub upserts : (written : Written) → InsertsOr task Abort clauses (Values values width) db (Ok written) → PutIn becomes written.trees
    upserts written did = put_in written.trees (upserted written did)
