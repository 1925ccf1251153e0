-- What the rows are that a query over one table answers.
use Rattle.std.proofs.Common.{◌≡◌, inl, inr, ℕ, map, Bool, cond, List, [], ◌∷◌, filter, refl, sym, ap, ◌∙◌, subst}
use Rattle.std.specs.List.{flat_map, list_all}
use Rattle.std.specs.List.Sorted.{IsPermutation}
use Rattle.std.proofs.lemmas.Bool.{cases_Bool}
use Rattle.std.proofs.lemmas.List.Sorted.{IsPermutation-map}
use Rattle.sqlite_value.specs.declared.value.Value.TheVariants.{Null}
use Rattle.sqlite_value.specs.Order.{Row}
use Rattle.sqlite.specs.Term.{Term, eval_all, holds}
use Rattle.sqlite.specs.Query.{IsAnswer, output, Output}
use Rattle.sqlite.specs.Program.{overlay}
use Rattle.sqlite.specs.Effect.{Database, Answers}
use Rattle.sqlite_trees.proofs.ListLemmas.{map-map}
use Rattle.rows_sql.specs.Commands.{over}

module _ (table : ℕ) (terms project : List Term) (params : Row) where
  abbrev pub passes : Row → Bool
  passes r = list_all (holds (params ∷ r ∷ [])) terms

  abbrev pub shows : Row → Row
  shows r = eval_all project (params ∷ r ∷ [])

  matched : (es : List Row) → flat_map (λ r. cond (passes r) ((params ∷ r ∷ []) ∷ []) []) es ≡ map (λ r. params ∷ r ∷ []) (filter passes es)
  matched [] = refl
  matched (r ∷ es) = elim (cases_Bool (passes r)) [ inl t ↦ rw (t, matched es) refl | inr f ↦ rw (f, matched es) refl ]

  pub answered : (db : Database) (rows : List Row) → overlay db.trees [] table ≡ db.trees table
      → Answers db (record { lets = []; body = over table terms project }) params rows → IsPermutation (map shows (filter passes (db.trees table))) rows
  answered db rows plainly h =
      let q = over table terms project in
      let a : IsAnswer q (overlay db.trees []) params rows = h.answer Null in
      let staged = a.grouped ∙ ap (flat_map (λ r. cond (passes r) ((params ∷ r ∷ []) ∷ []) [])) plainly ∙ matched (db.trees table) in
      let kept = a.distinct ∙ ap (map (output q)) staged in
      let shown : rows ≡ map (λ (o : Output). o.1) a.ordered = a.shown in
      let moved = IsPermutation-map (λ (o : Output). o.1) a.kept a.ordered a.same in
      let front : map (λ (o : Output). o.1) a.kept ≡ map shows (filter passes (db.trees table)) = ap (map (λ (o : Output). o.1)) kept ∙ map-map (λ (o : Output). o.1) (output q) _ ∙ map-map (λ e. (output q e).1) (λ (r : Row). params ∷ r ∷ []) (filter passes (db.trees table)) in
      subst (λ xs. IsPermutation xs rows) front (subst (IsPermutation (map (λ (o : Output). o.1) a.kept)) (sym shown) moved)
