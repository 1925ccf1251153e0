-- What the statement makes of the tables that removes a node.
use Rattle.std.proofs.Common.{◌≡◌, ℕ, Bool, true, false, not, ◌&&◌, ◌==◌, List, [], ◌∷◌, map, filter, Option, Some, None, Ok, inl, inr, refl, sym, ap, ap₂, ◌∙◌, subst, arith}
use Rattle.std.specs.List.{list_any}
use Rattle.std.specs.BTreeMap.{is_at}
use Rattle.std.specs.Map.{remove_entry}
use Rattle.std.specs.Ordering.{nat_cmp, is_eq}
use Rattle.std.specs.Cmp.Lexicographic.{slice_cmp}
use Rattle.std.proofs.lemmas.Bool.{cases_Bool, both_ways, false_from_ne_true}
use Rattle.std.proofs.lemmas.Bool.Decides.{nat_tests}
use Rattle.std.proofs.lemmas.Cmp.{nat_list_cmp_total}
use Rattle.sqlite_value.specs.declared.value.Value.TheVariants.{Text}
use Rattle.sqlite_value.specs.declared.value.ValueRef.{ValueRef}
use Rattle.sqlite_value.specs.Value.{owned}
use Rattle.sqlite_value.specs.declared.keys.Collation.TheVariants.{Binary}
use Rattle.sqlite_value.specs.Order.{Row, column}
use Rattle.sqlite.specs.Term.{Term, col}
use Rattle.sqlite.specs.Values.{bound, bound_value}
use Rattle.sqlite.specs.View.{IsShaped}
use Rattle.sqlite.specs.Edit.{id_in}
use Rattle.sqlite_trees.specs.declared.store.Shape.TheVariants as shape
use Rattle.sqlite_trees.proofs.TreeLemmas.{IsShaped-filter}
use Rattle.sqlite_trees.proofs.ListLemmas.{filter_all}
use Rattle.sqlite.specs.Command.TheVariants.{Delete}
use Rattle.sqlite_schema.specs.declared.program.Program.{Program}
use Rattle.sqlite_schema.specs.Rules.{equal}
use Rattle.sqlite_rules.specs.Lists.{Has}
use Rattle.sqlite_rules.proofs.ListLemmas.{all_from, some_has, some_from}
use Rattle.sqlite.specs.Effect.{Database}
use Rattle.sqlite.specs.Listing.{understood}
use Rattle.sqlite.specs.State.{State, Executes, Writes}
use Rattle.sqlite.proofs.Callers.{runs_as, statement_of}
use Rattle.rows_cell.specs.declared.keys.LockKey.{LockKey}
use Rattle.rows_cell.specs.declared.tables.LockRow.{LockRow}
use Rattle.rows_cell.specs.declared.tables.StoredNode.{StoredNode}
use Rattle.rows_cell.specs.declared.tables.Edit.TheVariants.{RemoveNode}
use Rattle.rows_cell.specs.Keys.{lock_order}
use Rattle.rows_cell.specs.Rows.{StoredNodes, StoredLocks, stored_node, without_locks_of}
use Rattle.rows_sql.specs.OurSchema.{the_schema, nodes}
use Rattle.rows_sql.specs.Commands.{over}
use Rattle.rows_sql.specs.Decode.{count_in, meta_in, node_in, lock_in}
use Rattle.rows_sql.specs.Held.{Holds, HoldsSessions}
use Rattle.rows_sql.specs.Ready.{meta_shown, node_shown, session_shown, lock_shown}
use Rattle.rows_sql.proofs.ReadLoops.{locks_total}
use Rattle.rows_sql.specs.WriteTexts.{remove_node_text}
use Rattle.rows_sql.specs.WriteCommands.{is, remove_node_command}
use Rattle.rows_sql.specs.Ongoing.{IsStore, RanInside, Changed}
use Rattle.rows_sql.proofs.WriteMeaning.{remove_node_is, remove_node_plain}
use Rattle.rows_sql.proofs.Cascades.{is_of_row, lock_of, olds, went_with, no_lock_goes, one_lock_goes}
use Rattle.rows_sql.proofs.Deletes as deletes
use Rattle.rows_sql.proofs.Entries.{holds_removed, holds_kept, found_at, none_at, entry_of}
use Rattle.rows_sql.proofs.Truths.{alone_and}
use Rattle.rows_sql.proofs.Counts.{equal_counts}
use Rattle.rows_sql.proofs.LockKeys.{lock_said}
use Rattle.rows_sql.proofs.NodeKeys.{has_name, name_test, node_said}
use Rattle.rows_sql.proofs.SetGeneration.{one_named}
use Rattle.rows_sql.proofs.Stores.{node_rows, lock_rows, held_as_shown, shown_as_held}

abbrev terms : List Term
terms = is (col 1 1) (col 0 0) ∷ []

abbrev q : Program
q = record { lets = []; body = over 1 terms (col 1 0 ∷ []) }

same_number : (x y : ℕ) → is_eq (nat_cmp y x) ≡ (x == y)
same_number x y = grind (arith, nat_tests)

-- the rows of the name are gone, and the locks of their instances
record NodeGone (t : List ℕ) (old new : Database) : Type 0 where
  pub store : IsStore new
  pub lock : Row → Bool
  pub no_lock : ((o : Row) → Has (old.trees 1) o → has_name t o ≡ false) → (r : Row) → lock r ≡ false
  pub one_lock : (o : Row) → Has (old.trees 1) o → has_name t o ≡ true → (r : Row) → lock r ≡ is_of_row o r
  pub nodes : new.trees 1 ≡ filter (λ r. not (has_name t r)) (old.trees 1)
  pub locks : new.trees 5 ≡ filter (λ r. not (lock r)) (old.trees 5)
  pub metas : new.trees 0 ≡ old.trees 0
  pub sessions : new.trees 4 ≡ old.trees 4

module _ (t : List ℕ) where
  abbrev params : Row
  params = Text t ∷ []

  node_removed : (old new : State) (count : ℕ) → IsStore old.now → Executes remove_node_text params old new (Ok count) → NodeGone t old.now new.now
  node_removed old new count store ran =
      let text = statement_of remove_node_text (understood the_schema remove_node_text) in
      let w : Writes old new None (Delete 1 q) text params count = runs_as remove_node_text params old new the_schema store.schema remove_node_command remove_node_is remove_node_plain count ran in
      let wrote = deletes.wrote 1 nodes refl text params old new store.schema (Delete 1 q) count w (λ _ _ _. refl) in
      let d = deletes.deleted 1 nodes refl text params old new store.schema terms refl store.nodes wrote in
      let went = went_with old.now.trees new.now.trees (has_name t) d.rows d.shown store.nodes store.locks d.wrote in
      let left : new.now.trees 1 ≡ filter (λ r. not (has_name t r)) (old.now.trees 1) = went.left ∙ d.left in
      record {
        store = record {
          schema = wrote.schema;
          sound = w.sound;
          metas = subst (IsShaped shape.Table) (sym went.metas) store.metas;
          nodes = subst (IsShaped shape.Table) (sym left) (IsShaped-filter shape.Table _ _ store.nodes);
          sessions = subst (IsShaped shape.Table) (sym went.sessions) store.sessions;
          locks = subst (IsShaped shape.Table) (sym went.locks) (IsShaped-filter shape.Table _ _ store.locks);
        };
        lock = lock_of (olds old.now.trees new.now.trees (has_name t) d.rows d.shown store.nodes);
        no_lock = no_lock_goes old.now.trees new.now.trees (has_name t) d.rows d.shown store.nodes;
        one_lock = λ o h k. one_lock_goes old.now.trees new.now.trees (has_name t) d.rows d.shown store.nodes o (id_in (column o 2)) h k (node_rows old.now store o h).instance (λ a ha ka. one_named old.now store t a o ha h ka k);
        nodes = left;
        locks = went.locks;
        metas = went.metas;
        sessions = went.sessions;
      }

  module _ (old new : Database) (store : IsStore old) (gone : NodeGone t old new) (nodes : StoredNodes) (locks : StoredLocks) (held : Holds (slice_cmp nat_cmp) (λ r. node_in (node_shown r)) (old.trees 1) nodes)
      (held_locks : Holds lock_order (λ r. lock_in (lock_shown r)) (old.trees 5) locks) where
    test : (r : Row) → Has (old.trees 1) r → (e : List ℕ × StoredNode) → node_in (node_shown r) ≡ Some e → has_name t r ≡ is_at (slice_cmp nat_cmp t) e.0
    test r there e says = name_test t r (node_rows old store r there) e says

    abbrev After : Option StoredNode → Type 0
    After o = Holds lock_order (λ r. lock_in (lock_shown r)) (filter (λ r. not (gone.lock r)) (old.trees 5)) (without_locks_of o locks)

    with_none : ((o : Row) → Has (old.trees 1) o → has_name t o ≡ false) → After (stored_node nodes t)
    with_none none =
        let absent : stored_node nodes t ≡ None = none_at (slice_cmp nat_cmp) nat_list_cmp_total (λ r. node_in (node_shown r)) (old.trees 1) nodes held t (has_name t) test none in
        let all : filter (λ r. not (gone.lock r)) (old.trees 5) ≡ old.trees 5 = filter_all _ (old.trees 5) (all_from _ (old.trees 5) (λ r h. ap not (gone.no_lock none r))) in
        subst After (sym absent) (subst (λ rs. Holds lock_order (λ r. lock_in (lock_shown r)) rs locks) (sym all) held_locks)

    with_one : (o : Row) → Has (old.trees 1) o → has_name t o ≡ true → After (stored_node nodes t)
    with_one o h k =
        let e = entry_of (slice_cmp nat_cmp) nat_list_cmp_total (λ r. node_in (node_shown r)) (old.trees 1) nodes held o h in
        let found : stored_node nodes t ≡ Some e.0.1 = found_at (slice_cmp nat_cmp) nat_list_cmp_total (λ r. node_in (node_shown r)) (old.trees 1) nodes held t (has_name t) test o h k e.0 e.2 in
        let instance : count_in (column o 2) ≡ Some e.0.1.node.instance = (node_said o e.0 e.2).2 in
        let same : (r : Row) → Has (old.trees 5) r → (l : LockKey × LockRow) → lock_in (lock_shown r) ≡ Some l → gone.lock r ≡ (l.0.instance == e.0.1.node.instance) = λ r there l says.
        gone.one_lock o h k r ∙ alone_and _ ∙ ap₂ (equal Binary) (lock_rows old store r there).instance (node_rows old store o h).instance
        ∙ equal_counts (id_in (column r 1)) (id_in (column o 2)) l.0.instance e.0.1.node.instance (lock_said r l says).instance instance ∙ same_number l.0.instance e.0.1.node.instance in
        subst After (sym found)
        (holds_kept lock_order locks_total (λ r. lock_in (lock_shown r)) (old.trees 5) locks held_locks (λ l. not (l.0.instance == e.0.1.node.instance)) (λ r. not (gone.lock r)) (λ r there l says. ap not (same r there l says)))

    locks_left : After (stored_node nodes t)
    locks_left = elim (cases_Bool (list_any (has_name t) (old.trees 1))) [
      | inl some ↦ let o = some_has (has_name t) (old.trees 1) some in with_one o.0 o.1 o.2
      | inr none ↦ with_none (λ o h. false_from_ne_true _ (λ k. both_ways _ none (some_from (has_name t) (old.trees 1) o h k)))
    ]

    nodes_left : Holds (slice_cmp nat_cmp) (λ r. node_in (node_shown r)) (filter (λ r. not (has_name t r)) (old.trees 1)) (remove_entry (is_at (slice_cmp nat_cmp t)) nodes)
    nodes_left = holds_removed (slice_cmp nat_cmp) nat_list_cmp_total (λ r. node_in (node_shown r)) (old.trees 1) nodes held t (has_name t) test

pub node_gone : (t : List ℕ) (v : ValueRef) → bound_value (owned v) ≡ Text t → (old new : State) → RanInside remove_node_text (bound (v ∷ [])) old new → Changed (RemoveNode t ∷ []) old new
node_gone t v is_text old new run = record {
  store = λ store. (node_removed t old new run.count store (ran run)).store;
  says = λ store rows said.
      let gone = node_removed t old new run.count store (ran run) in
      let held = held_as_shown (slice_cmp nat_cmp) node_in node_shown (old.now.trees 1) rows.nodes said.nodes in
      let held_locks = held_as_shown lock_order lock_in lock_shown (old.now.trees 5) rows.locks said.locks in
      record {
        meta = ap (λ rs. map meta_in (map meta_shown rs)) gone.metas ∙ said.meta;
        nodes = shown_as_held (slice_cmp nat_cmp) node_in node_shown (new.now.trees 1) _
            (subst (λ rs. Holds (slice_cmp nat_cmp) (λ r. node_in (node_shown r)) rs (remove_entry (is_at (slice_cmp nat_cmp t)) rows.nodes)) (sym gone.nodes) (nodes_left t old.now new.now store gone rows.nodes rows.locks held held_locks));
        sessions = subst (λ rs. HoldsSessions (map session_shown rs) rows.sessions) (sym gone.sessions) said.sessions;
        locks = shown_as_held lock_order lock_in lock_shown (new.now.trees 5) _
            (subst (λ rs. Holds lock_order (λ r. lock_in (lock_shown r)) rs (without_locks_of (stored_node rows.nodes t) rows.locks)) (sym gone.locks) (locks_left t old.now new.now store gone rows.nodes rows.locks held held_locks));
        children = said.children;
      };
}
  where
    ran : (r : RanInside remove_node_text (bound (v ∷ [])) old new) → Executes remove_node_text (Text t ∷ []) old new (Ok r.count)
    ran r = subst (λ x. Executes remove_node_text (x ∷ []) old new (Ok r.count)) is_text r.ran
