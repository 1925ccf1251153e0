-- What the statement makes of the tables that puts the row of the cell.
use Rattle.std.proofs.Common.{◌≡◌, ℕ, pos, Bool, true, List, [], ◌∷◌, length, filter, map, not, Some, Ok, inl, inr, refl, sym, ap, ap₂, ◌∙◌, subst, cond, false, None, true≢false, arith}
use Rattle.std.specs.Prelude.{◌==◌, ◌++◌, ◌&&◌}
use Rattle.std.specs.List.Sorted.{IsPermutation}
use Rattle.std.proofs.lemmas.Bool.{and_parts}
use Rattle.std.specs.Ordering.{nat_cmp}
use Rattle.std.specs.Cmp.Lexicographic.{slice_cmp}
use Rattle.std.proofs.lemmas.Cmp.{tied_itself, nat_cmp_total, nat_list_cmp_total}
use Rattle.rows_cell.specs.Keys.{lock_order}
use Rattle.rows_sql.proofs.Held.{holds_none}
use Rattle.rows_sql.proofs.ReadLoops.{locks_total}
use Rattle.sqlite.proofs.Callers.{one_permutation}
use Rattle.sqlite_value.specs.declared.value.Value.TheVariants.{Null, Int, Text, Blob}
use Rattle.sqlite_value.specs.declared.keys.Collation.TheVariants.{Binary}
use Rattle.sqlite_value.specs.Order.{Row, column, value_cmp}
use Rattle.sqlite_value.specs.Keys.{joined, first_key}
use Rattle.sqlite_value.proofs.OrderLemmas.{value_cmp_total}
use Rattle.sqlite.specs.Term.{Term, col, lit}
use Rattle.sqlite.specs.Cast.{cast_row}
use Rattle.sqlite.specs.Edit.{id_in}
use Rattle.sqlite.specs.Effect.{Database, IsDatabase}
use Rattle.sqlite.specs.Rowids.TheVariants.{Chosen}
use Rattle.sqlite.specs.Tree.{rowid}
use Rattle.sqlite.specs.View.{IsShaped}
use Rattle.sqlite_trees.specs.declared.store.Shape.TheVariants as shape
use Rattle.sqlite_schema.specs.declared.schema.Keys.TheVariants.{Enforced}
use Rattle.sqlite_schema.specs.Names.{same_name}
use Rattle.sqlite_schema.specs.Rules.{equal}
use Rattle.sqlite_rules.specs.Action.{works}
use Rattle.sqlite_rules.specs.Edit.{with_rowid}
use Rattle.sqlite_rules.specs.Keys.{conflicts}
use Rattle.sqlite_rules.specs.Lists.{Has}
use Rattle.sqlite_rules.proofs.ListLemmas.{all_has}
use Rattle.sqlite_rules.proofs.TableLemmas.{int_is}
use Rattle.sqlite.specs.State.{State, Executes}
use Rattle.names_cell.specs.Text.{is_component}
use Rattle.rows_cell.specs.Settings.{Settled}
use Rattle.rows_sql.specs.OurSchema.{the_schema, meta}
use Rattle.rows_sql.specs.Decode.{meta_from, meta_in, node_in, session_in, lock_in, child_in, secret_in}
use Rattle.rows_sql.specs.Held.{HoldsNodes, HoldsSessions, HoldsLocks, meta_of}
use Rattle.rows_sql.specs.Ready.{meta_shown, node_shown, session_shown, lock_shown}
use Rattle.rows_sql.specs.WriteCommands.{is}
use Rattle.rows_sql.specs.Ongoing.{IsStore, RanInside}
use Rattle.rows_sql.specs.Creation.{put_cell_text, IsEmptyAs, PutsCell, bare_rows}
use Rattle.rows_sql.proofs.MeaningOfCreation.{put_cell_is, put_cell_plain}
use Rattle.rows_sql.proofs.Casts.{cast_null, cast_int, int_stays, component_reads}
use Rattle.rows_sql.proofs.Columns.{int_value}
use Rattle.rows_sql.proofs.Truths.{alone_or}
use Rattle.rows_sql.proofs.Runs.{CanPut, PutIn, ran_put}
use Rattle.rows_sql.proofs.Stores.{Rewrote}
use Rattle.rows_sql.proofs.Trees.{same_row}
use Rattle.rows_sql.proofs.Upserts as upserts

abbrev values : List Term
values = lit (Int (pos 1)) ∷ lit Null ∷ lit (Int (pos 3)) ∷ col 0 0 ∷ col 0 1 ∷ lit (Int (pos 0)) ∷ lit (Int (pos 4)) ∷ []

abbrev terms : List Term
terms = is (col 1 0) (col 0 2) ∷ []

abbrev project : List Term
project = col 1 0 ∷ col 1 0 ∷ lit Null ∷ col 0 5 ∷ col 0 6 ∷ col 0 7 ∷ col 0 8 ∷ col 0 9 ∷ []

no_action : (olds : List Row) (n : Row) → works the_schema Enforced 0 0 olds (n ∷ []) ≡ []
unfolding same_name joined
no_action olds n = refl

nor_none : works the_schema Enforced 0 0 [] [] ≡ []
unfolding same_name joined
nor_none = refl

meta_clash : (new r : Row) → conflicts (Some (0 ∷ [])) the_schema.indexes meta new r ≡ (equal Binary (rowid r) (rowid new) && true)
unfolding first_key
meta_clash new r = alone_or _

-- a store without rows is one
pub empty_store : (db : Database) → IsEmptyAs the_schema db → IsDatabase db → IsStore db
empty_store db none sound =
    let shaped : (rows : List Row) → rows ≡ [] → IsShaped shape.Table rows = λ rows e. subst (IsShaped shape.Table) (sym e) (tt, tt) in
    record { schema = none.has; sound = sound; metas = shaped _ none.empty.0; nodes = shaped _ none.empty.1.0; sessions = shaped _ none.empty.1.1.0; locks = shaped _ none.empty.1.1.1.0 }

module _ (cell secret : List ℕ) where
  abbrev params : Row
  params = Text cell ∷ Blob secret ∷ []

  abbrev new : Row
  new = Int (pos 1) ∷ Null ∷ Int (pos 3) ∷ Text cell ∷ Blob secret ∷ Int (pos 0) ∷ Int (pos 4) ∷ []

  abbrev becomes : Row → Row
  becomes r = column r 0 ∷ Null ∷ Int (pos 3) ∷ Text cell ∷ Blob secret ∷ Int (pos 0) ∷ Int (pos 4) ∷ []

  fits : cast_row meta new ≡ new
  fits = λ j. cast_int (pos 1) j ∷ cast_null j ∷ cast_int (pos 3) j ∷ Text cell ∷ Blob secret ∷ cast_int (pos 0) j ∷ cast_int (pos 4) j ∷ []

  module _ (old new_state : State) (store : IsStore old.now) where
    abbrev es : List Row
    es = old.now.trees 0

    abbrev clash : Row → Bool
    clash = upserts.clash old.step_limit meta params old.now.trees values 7 new new (0 ∷ []) terms project refl

    int_at : (r : Row) → Has es r → rowid r ≡ Int (id_in (rowid r))
    int_at r there = int_is (rowid r) (all_has _ es r store.metas.1 there)

    id_of : (r : Row) → Has es r → clash r ≡ true → rowid r ≡ Int (pos 1)
    id_of r there t = int_value (rowid r) (pos 1) (int_at r there) (and_parts _ _ (sym (meta_clash new r) ∙ t)).0

    how : CanPut 0 meta refl put_cell_text terms project params old new_state refl values 7 new new (0 ∷ []) becomes
    how = record {
      shaped = store.metas;
      uncounted = refl;
      sources = λ rows e. e;
      numbered = ap (with_rowid Chosen es) fits;
      fits = fits;
      keyed = refl;
      one = λ a b ha hb ta tb. same_row es a b store.metas.0 ha hb (ap₂ value_cmp (id_of a ha ta) (id_of b hb tb) ∙ tied_itself value_cmp_total (Int (pos 1)));
      finds = λ r0 r. refl;
      shows_it = λ r0 r there t. refl;
      same_id = λ r. refl;
      stays = λ r there t. λ j. int_stays (column r 0) (int_at r there) j ∷ cast_null j ∷ cast_int (pos 3) j ∷ Text cell ∷ Blob secret ∷ cast_int (pos 0) j ∷ cast_int (pos 4) j ∷ [];
      alone = no_action;
      idle = nor_none;
    }

    cell_put : (count : ℕ) → Executes put_cell_text params old new_state (Ok count)
        → PutIn 0 meta refl put_cell_text terms project params old new_state refl values 7 new new (0 ∷ []) becomes × Rewrote 0 (new_state.now.trees 0) old.now new_state.now
    cell_put count ran = ran_put 0 meta refl put_cell_text terms project params old new_state refl values 7 new new (0 ∷ []) put_cell_is put_cell_plain becomes store how count ran

passed : (b : Bool) (t : List ℕ) → b ≡ true → cond b (Some t) None ≡ Some t
passed true t h = refl
passed false t h = absurd (true≢false (sym h))

secret_reads : (s : List ℕ) → length s ≡ 32 → secret_in (Blob s) ≡ Some s
secret_reads s h = passed (length s == 32) s (ap (λ n. n == 32) h)

pub cell_there : (settings : Settled) → is_component settings.cell ≡ true → length settings.secret ≡ 32 → (old new : State) → RanInside put_cell_text (params settings.cell settings.secret) old new → PutsCell settings old new
cell_there settings named long old new_state run none =
    let store = empty_store old.now none.0 none.1 in
    let done = cell_put settings.cell settings.secret old new_state store run.count run.ran in
    let put = done.0 in
    let others = done.1.others in
    let bare : old.now.trees 0 ≡ [] = none.0.empty.0 in
    let last : put.last ≡ new settings.cell settings.secret = elim put.was [
      | inl free ↦ free.1
      | inr one ↦ absurd (subst (λ rows. Has rows one.0) bare one.1)
    ] in
    let rows : IsPermutation (filter (λ r. not (clash settings.cell settings.secret old new_state store r)) [] ++ put.last ∷ []) (new_state.now.trees 0) =
    subst (λ es. IsPermutation (filter (λ r. not (clash settings.cell settings.secret old new_state store r)) es ++ put.last ∷ []) (new_state.now.trees 0)) bare put.rows in
    let only : new_state.now.trees 0 ≡ new settings.cell settings.secret ∷ [] = one_permutation put.last (new_state.now.trees 0) rows ∙ ap (λ r. r ∷ []) last in
    let cell = settings.cell in
    let secret = settings.secret in
    let says : meta_in (meta_shown (new cell secret)) ≡ Some (meta_of (bare_rows settings)) = λ j. meta_from true (Some 0) (Some 0) (Some 4) (secret_reads secret long j) (component_reads cell named j) in
    record {
      store = done.1.store;
      said = record {
        meta = ap (λ rs. map meta_in (map meta_shown rs)) only ∙ ap (λ o. o ∷ []) says;
        nodes = subst (λ rs. HoldsNodes (map node_shown rs) []) (sym (others.1.0 (λ e. absurd (omega (arith, e))) ∙ none.0.empty.1.0)) (holds_none (slice_cmp nat_cmp) nat_list_cmp_total node_in);
        sessions = subst (λ rs. HoldsSessions (map session_shown rs) []) (sym (others.1.1.0 (λ e. absurd (omega (arith, e))) ∙ none.0.empty.1.1.0)) (holds_none nat_cmp nat_cmp_total session_in);
        locks = subst (λ rs. HoldsLocks (map lock_shown rs) []) (sym (others.1.1.1.0 (λ e. absurd (omega (arith, e))) ∙ none.0.empty.1.1.1.0)) (holds_none lock_order locks_total lock_in);
        children = holds_none (slice_cmp nat_cmp) nat_list_cmp_total child_in;
      };
    }
