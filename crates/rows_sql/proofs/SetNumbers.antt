-- What the statements make of the tables that set a number of the cell.
use Rattle.std.proofs.Common.{◌≡◌, ℕ, ℤ, pos, true, not, ◌&&◌, List, [], ◌∷◌, map, Ok, refl, sym, ap, ap₂, ◌∙◌}
use Rattle.std.proofs.lemmas.Bool.{and_parts}
use Rattle.std.proofs.lemmas.Cmp.{tied_itself}
use Rattle.std.specs.FinMap.{int_cmp-IsAntisymmetric}
use Rattle.std.specs.Ordering.{int_eq}
use Rattle.sqlite_value.specs.declared.value.Value.TheVariants.{Null, Int}
use Rattle.sqlite_value.specs.declared.keys.Collation.TheVariants.{Binary}
use Rattle.sqlite_value.specs.Order.{Row, column, value_cmp}
use Rattle.sqlite_value.proofs.OrderLemmas.{value_cmp_total}
use Rattle.sqlite.specs.Term.{Term, col, lit}
use Rattle.sqlite.specs.Tree.{rowid}
use Rattle.sqlite.specs.View.{is_int}
use Rattle.sqlite_rules.specs.Action.{works}
use Rattle.sqlite_rules.specs.Lists.{Has}
use Rattle.sqlite_rules.proofs.ListLemmas.{all_has}
use Rattle.sqlite_rules.proofs.TableLemmas.{int_is}
use Rattle.sqlite_schema.specs.declared.schema.Keys.TheVariants.{Enforced}
use Rattle.sqlite_schema.specs.Rules.{equal, differ}
use Rattle.sqlite_schema.specs.Names.{same_name}
use Rattle.sqlite_value.specs.Keys.{joined}
use Rattle.sqlite.specs.Edit.{id_in}
use Rattle.sqlite.specs.Effect.{Database}
use Rattle.sqlite.specs.State.{State, Executes}
use Rattle.rows_sql.specs.OurSchema.{the_schema, meta}
use Rattle.rows_sql.specs.WriteTexts.{set_epoch_text, set_next_instance_text, set_ended_below_text}
use Rattle.rows_sql.specs.WriteCommands.{is, isnt}
use Rattle.rows_sql.specs.Carrying.{set_version_text}
use Rattle.rows_sql.specs.Ongoing.{IsStore}
use Rattle.rows_sql.proofs.WriteMeaning.{set_epoch_is, set_epoch_plain, set_next_instance_is, set_next_instance_plain, set_ended_below_is, set_ended_below_plain, set_version_is, set_version_plain}
use Rattle.rows_sql.proofs.Columns.{equal-Int, differ-Int}
use Rattle.rows_sql.proofs.Casts.{cast_null, cast_int, int_stays, text_stays}
use Rattle.rows_sql.proofs.Query.{passes}
use Rattle.rows_sql.proofs.Truths.{alone_and, equal_is}
use Rattle.rows_sql.proofs.Trees.{same_row, renewed}
use Rattle.rows_sql.proofs.Stores.{Rewrote, meta_rows}
use Rattle.rows_sql.proofs.Runs.{ran_update}
use Rattle.rows_sql.proofs.Updates as updates

abbrev pub terms : List Term
terms = is (col 1 0) (lit (Int (pos 1))) ∷ []

-- of the next instance, the row that says another one
abbrev pub next_terms : List Term
next_terms = is (col 1 0) (lit (Int (pos 1))) ∷ isnt (col 1 6) (col 0 0) ∷ []

abbrev pub epoch_project : List Term
epoch_project = col 1 0 ∷ col 1 0 ∷ lit Null ∷ col 1 2 ∷ col 1 3 ∷ col 1 4 ∷ col 0 0 ∷ col 1 6 ∷ []

abbrev pub next_project : List Term
next_project = col 1 0 ∷ col 1 0 ∷ lit Null ∷ col 1 2 ∷ col 1 3 ∷ col 1 4 ∷ col 1 5 ∷ col 0 0 ∷ []

abbrev pub ended_project : List Term
ended_project = col 1 0 ∷ col 1 0 ∷ lit Null ∷ col 0 0 ∷ col 1 3 ∷ col 1 4 ∷ col 1 5 ∷ col 1 6 ∷ []

abbrev pub version_project : List Term
version_project = col 1 0 ∷ col 1 0 ∷ lit Null ∷ lit (Int (pos 3)) ∷ col 1 3 ∷ col 1 4 ∷ col 0 0 ∷ col 1 6 ∷ []

no_action : (olds : List Row) (n : Row) → works the_schema Enforced 0 0 olds (n ∷ []) ≡ []
unfolding same_name joined
no_action olds n = refl

nor_none : works the_schema Enforced 0 0 [] [] ≡ []
unfolding same_name joined
nor_none = refl

module _ (n : ℤ) where
  abbrev pub params : Row
  params = Int n ∷ []

  abbrev pub with_epoch : Row → Row
  with_epoch r = column r 0 ∷ Null ∷ column r 2 ∷ column r 3 ∷ column r 4 ∷ Int n ∷ column r 6 ∷ []

  abbrev pub with_next : Row → Row
  with_next r = column r 0 ∷ Null ∷ column r 2 ∷ column r 3 ∷ column r 4 ∷ column r 5 ∷ Int n ∷ []

  abbrev pub with_ended : Row → Row
  with_ended r = column r 0 ∷ Null ∷ Int n ∷ column r 3 ∷ column r 4 ∷ column r 5 ∷ column r 6 ∷ []

  abbrev pub with_version : Row → Row
  with_version r = column r 0 ∷ Null ∷ Int (pos 3) ∷ column r 3 ∷ column r 4 ∷ Int n ∷ column r 6 ∷ []

  module _ (db : Database) (store : IsStore db) (project : List Term) where
    int_at : (r : Row) → Has (db.trees 0) r → is_int (rowid r) ≡ true
    int_at r h = all_has _ (db.trees 0) r store.metas.1 h

    -- the row is found by its rowid
    pub goes_is : (r : Row) → Has (db.trees 0) r → passes 0 terms project params r ≡ int_eq (id_in (rowid r)) (pos 1)
    goes_is r h = alone_and _ ∙ ap (λ v. equal Binary v (Int (pos 1))) (int_is (rowid r) (int_at r h)) ∙ equal-Int _ (pos 1)

    pub next_goes_is : (r : Row) → Has (db.trees 0) r → passes 0 next_terms project params r ≡ (int_eq (id_in (rowid r)) (pos 1) && not (int_eq (id_in (column r 6)) n))
    next_goes_is r h =
        ap (λ b. equal Binary (rowid r) (Int (pos 1)) && b) (alone_and _)
        ∙ ap₂ ◌&&◌
        (ap (λ v. equal Binary v (Int (pos 1))) (int_is (rowid r) (int_at r h)) ∙ equal-Int _ (pos 1))
        (ap (λ v. differ v (Int n)) (meta_rows db store r h).next_instance ∙ differ-Int _ n)

    first_is : (r : Row) → Has (db.trees 0) r → int_eq (id_in (rowid r)) (pos 1) ≡ true → rowid r ≡ Int (pos 1)
    first_is r h t = int_is (rowid r) (int_at r h) ∙ ap Int (int_cmp-IsAntisymmetric _ _ (equal_is _ t))

    one_row : (a b : Row) → Has (db.trees 0) a → Has (db.trees 0) b → int_eq (id_in (rowid a)) (pos 1) ≡ true → int_eq (id_in (rowid b)) (pos 1) ≡ true → a ≡ b
    one_row a b ha hb ta tb = same_row (db.trees 0) a b store.metas.0 ha hb (ap₂ value_cmp (first_is a ha ta) (first_is b hb tb) ∙ tied_itself value_cmp_total (Int (pos 1)))

    one_first : (a b : Row) → Has (db.trees 0) a → Has (db.trees 0) b → passes 0 terms project params a ≡ true → passes 0 terms project params b ≡ true → a ≡ b
    one_first a b ha hb ta tb = one_row a b ha hb (sym (goes_is a ha) ∙ ta) (sym (goes_is b hb) ∙ tb)

    one_other : (a b : Row) → Has (db.trees 0) a → Has (db.trees 0) b → passes 0 next_terms project params a ≡ true → passes 0 next_terms project params b ≡ true → a ≡ b
    one_other a b ha hb ta tb = one_row a b ha hb (and_parts _ _ (sym (next_goes_is a ha) ∙ ta)).0 (and_parts _ _ (sym (next_goes_is b hb) ∙ tb)).0

  pub set_epoch_done : (old new : State) (count : ℕ) → IsStore old.now → Executes set_epoch_text params old new (Ok count) → Rewrote 0 (map (renewed (passes 0 terms epoch_project params) with_epoch) (old.now.trees 0)) old.now new.now
  set_epoch_done old new count store ran =
      let how : updates.Renews old.step_limit meta params params old.now.trees terms epoch_project refl with_epoch = record {
        shaped = store.metas;
        shown = λ r h t. refl;
        same_id = λ r h t. refl;
        fits = λ r h t.
            let typed = meta_rows old.now store r h in
            λ j. int_stays (column r 0) (int_is (rowid r) (int_at old.now store epoch_project r h)) j ∷ cast_null j ∷ int_stays (column r 2) typed.version j ∷ text_stays (column r 3) typed.cell j ∷ column r 4 ∷ cast_int n j ∷ int_stays (column r 6) typed.next_instance j ∷ [];
        one = one_first old.now store epoch_project;
        alone = no_action;
        idle = nor_none;
      } in
      (ran_update 0 meta refl set_epoch_text terms epoch_project params old new refl set_epoch_is set_epoch_plain with_epoch store how count ran).1

  pub set_next_done : (old new : State) (count : ℕ) → IsStore old.now → Executes set_next_instance_text params old new (Ok count) → Rewrote 0 (map (renewed (passes 0 next_terms next_project params) with_next) (old.now.trees 0)) old.now new.now
  set_next_done old new count store ran =
      let how : updates.Renews old.step_limit meta params params old.now.trees next_terms next_project refl with_next = record {
        shaped = store.metas;
        shown = λ r h t. refl;
        same_id = λ r h t. refl;
        fits = λ r h t.
            let typed = meta_rows old.now store r h in
            λ j. int_stays (column r 0) (int_is (rowid r) (int_at old.now store next_project r h)) j ∷ cast_null j ∷ int_stays (column r 2) typed.version j ∷ text_stays (column r 3) typed.cell j ∷ column r 4 ∷ int_stays (column r 5) typed.epoch j ∷ cast_int n j ∷ [];
        one = one_other old.now store next_project;
        alone = no_action;
        idle = nor_none;
      } in
      (ran_update 0 meta refl set_next_instance_text next_terms next_project params old new refl set_next_instance_is set_next_instance_plain with_next store how count ran).1

  pub set_ended_done : (old new : State) (count : ℕ) → IsStore old.now → Executes set_ended_below_text params old new (Ok count) → Rewrote 0 (map (renewed (passes 0 terms ended_project params) with_ended) (old.now.trees 0)) old.now new.now
  set_ended_done old new count store ran =
      let how : updates.Renews old.step_limit meta params params old.now.trees terms ended_project refl with_ended = record {
        shaped = store.metas;
        shown = λ r h t. refl;
        same_id = λ r h t. refl;
        fits = λ r h t.
            let typed = meta_rows old.now store r h in
            λ j. int_stays (column r 0) (int_is (rowid r) (int_at old.now store ended_project r h)) j ∷ cast_null j ∷ cast_int n j ∷ text_stays (column r 3) typed.cell j ∷ column r 4 ∷ int_stays (column r 5) typed.epoch j ∷ int_stays (column r 6) typed.next_instance j ∷ [];
        one = one_first old.now store ended_project;
        alone = no_action;
        idle = nor_none;
      } in
      (ran_update 0 meta refl set_ended_below_text terms ended_project params old new refl set_ended_below_is set_ended_below_plain with_ended store how count ran).1

  pub set_version_done : (old new : State) (count : ℕ) → IsStore old.now → Executes set_version_text params old new (Ok count) → Rewrote 0 (map (renewed (passes 0 terms version_project params) with_version) (old.now.trees 0)) old.now new.now
  set_version_done old new count store ran =
      let how : updates.Renews old.step_limit meta params params old.now.trees terms version_project refl with_version = record {
        shaped = store.metas;
        shown = λ r h t. refl;
        same_id = λ r h t. refl;
        fits = λ r h t.
            let typed = meta_rows old.now store r h in
            λ j. int_stays (column r 0) (int_is (rowid r) (int_at old.now store version_project r h)) j ∷ cast_null j ∷ cast_int (pos 3) j ∷ text_stays (column r 3) typed.cell j ∷ column r 4 ∷ cast_int n j ∷ int_stays (column r 6) typed.next_instance j ∷ [];
        one = one_first old.now store version_project;
        alone = no_action;
        idle = nor_none;
      } in
      (ran_update 0 meta refl set_version_text terms version_project params old new refl set_version_is set_version_plain with_version store how count ran).1
