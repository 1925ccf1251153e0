-- What the statement makes of the tables that sets the generation of a node's lock.
use Rattle.std.proofs.Common.{◌≡◌, ◌⊎◌, ℕ, ℤ, true, ◌&&◌, List, [], ◌∷◌, map, filter, Some, None, Ok, inl, inr, refl, sym, ap, ◌∙◌, subst}
use Rattle.std.specs.BTreeMap.{is_at}
use Rattle.std.specs.Ordering.{nat_cmp}
use Rattle.std.specs.Cmp.Lexicographic.{slice_cmp}
use Rattle.std.proofs.lemmas.Bool.{and_parts, false_from_ne_true}
use Rattle.std.proofs.lemmas.Cmp.{nat_list_cmp_total}
use Rattle.std.proofs.lemmas.Map.Lookups.{exact_bytes}
use Rattle.sqlite_value.specs.declared.value.Value.TheVariants.{Int, Text}
use Rattle.sqlite_value.specs.declared.value.ValueRef.{ValueRef}
use Rattle.sqlite_value.specs.Value.{owned}
use Rattle.sqlite_value.specs.declared.keys.Collation.TheVariants.{Binary}
use Rattle.sqlite_value.specs.Order.{Row, column, bytes}
use Rattle.sqlite_value.specs.Keys.{joined}
use Rattle.sqlite.specs.Term.{Term, col}
use Rattle.sqlite.specs.Values.{bound, bound_value}
use Rattle.sqlite.specs.Edit.{id_in}
use Rattle.sqlite.specs.Tree.{rowid}
use Rattle.sqlite_schema.specs.declared.schema.Keys.TheVariants.{Enforced}
use Rattle.sqlite_schema.specs.Names.{same_name}
use Rattle.sqlite_schema.specs.Rules.{equal}
use Rattle.sqlite_rules.specs.Action.{works}
use Rattle.sqlite_rules.specs.Lists.{Has}
use Rattle.sqlite_rules.proofs.ListLemmas.{all_has, has_kept}
use Rattle.sqlite_rules.proofs.TableLemmas.{int_is}
use Rattle.sqlite.specs.Effect.{Database}
use Rattle.sqlite.specs.State.{State, Executes}
use Rattle.rows_cell.specs.declared.tables.StoredNode.{StoredNode}
use Rattle.rows_cell.specs.declared.tables.Edit.TheVariants.{LockGeneration}
use Rattle.rows_cell.specs.Rows.{StoredNodes, stored_node, at_generation}
use Rattle.rows_cell.proofs.EntriesInOrder.{put_is_set}
use Rattle.rows_sql.specs.OurSchema.{the_schema, nodes}
use Rattle.rows_sql.specs.Decode.{count_of, count_in, kind_of, life_of, acls_in, name_in, numbers_from, node_from, node_in}
use Rattle.rows_sql.specs.declared.schema.ours.Version.TheVariants.{Third}
use Rattle.rows_sql.specs.Held.{Holds}
use Rattle.rows_sql.specs.Ready.{node_shown}
use Rattle.rows_sql.specs.WriteTexts.{set_lock_generation_text}
use Rattle.rows_sql.specs.WriteCommands.{is}
use Rattle.rows_sql.specs.Numbers.{IsNumber}
use Rattle.rows_sql.specs.Ongoing.{IsStore, RanInside, Changed}
use Rattle.rows_sql.proofs.WriteMeaning.{set_lock_generation_is, set_lock_generation_plain}
use Rattle.rows_sql.proofs.Casts.{cast_int, int_stays, text_stays}
use Rattle.rows_sql.proofs.Columns.{text_value}
use Rattle.rows_sql.proofs.Clashes.{one_node}
use Rattle.rows_sql.proofs.Entries.{holds_put, found_at, none_at, entry_of}
use Rattle.rows_sql.proofs.NodeKeys.{has_name, name_test, name_said, generation_from}
use Rattle.rows_sql.proofs.Runs.{ran_update}
use Rattle.rows_sql.proofs.Stores.{Rewrote, node_rows, nodes_say, held_as_shown, shown_as_held}
use Rattle.rows_sql.proofs.Trees.{renewed, one_renewed, none_renewed}
use Rattle.rows_sql.proofs.Updates as updates

abbrev terms : List Term
terms = is (col 1 1) (col 0 0) ∷ []

abbrev project : List Term
project = col 1 0 ∷ col 1 0 ∷ col 1 1 ∷ col 1 2 ∷ col 1 3 ∷ col 1 4 ∷ col 1 5 ∷ col 1 6 ∷ col 0 1 ∷ col 1 8 ∷ col 1 9 ∷ col 1 10 ∷ col 1 11 ∷ []

pub no_action : (olds : List Row) (n : Row) → works the_schema Enforced 0 1 olds (n ∷ []) ≡ []
unfolding same_name joined
no_action olds n = refl

pub nor_none : works the_schema Enforced 0 1 [] [] ≡ []
unfolding same_name joined
nor_none = refl

-- no two rows have one name
pub one_named : (db : Database) (store : IsStore db) (t : List ℕ) (a b : Row) → Has (db.trees 1) a → Has (db.trees 1) b → has_name t a ≡ true → has_name t b ≡ true → a ≡ b
one_named db store t a b ha hb ta tb =
    let k = text_value (column b 1) t (node_rows db store b hb).name (and_parts _ _ tb).0 in
    one_node db store a b ha hb (ap (λ v. equal Binary (column a 1) v && true) k ∙ ta)

module _ (t : List ℕ) (g : ℤ) where
  abbrev params : Row
  params = Text t ∷ Int g ∷ []

  abbrev becomes : Row → Row
  becomes r =
      column r 0 ∷ column r 1 ∷ column r 2 ∷ column r 3 ∷ column r 4 ∷ column r 5 ∷ column r 6 ∷ Int g ∷ column r 8 ∷ column r 9 ∷ column r 10 ∷ column r 11 ∷ []

  module _ (old new : State) (store : IsStore old.now) where
    abbrev es : List Row
    es = old.now.trees 1

    abbrev Renews : Type 0
    Renews = updates.Renews old.step_limit nodes params params old.now.trees terms project refl becomes

    how : Renews
    how = record {
      shaped = store.nodes;
      shown = λ r h s. refl;
      same_id = λ r h s. refl;
      fits = λ r h s.
          let typed = node_rows old.now store r h in
          λ j. int_stays (column r 0) (int_is (rowid r) (all_has _ es r store.nodes.1 h)) j ∷ text_stays (column r 1) typed.name j ∷ int_stays (column r 2) typed.instance j ∷ int_stays (column r 3) typed.kind j
          ∷ int_stays (column r 4) typed.life j ∷ int_stays (column r 5) typed.content_gen j ∷ int_stays (column r 6) typed.acl_gen j ∷ cast_int g j ∷ text_stays (column r 8) typed.acl_read j
          ∷ text_stays (column r 9) typed.acl_write j ∷ text_stays (column r 10) typed.acl_change j ∷ column r 11 ∷ [];
      one = one_named old.now store t;
      alone = no_action;
      idle = nor_none;
    }

    generation_set : (count : ℕ) → Executes set_lock_generation_text params old new (Ok count)
        → ((filter (has_name t) es ≡ []) ⊎ ((r : Row) × Has es r × (has_name t r ≡ true) × (filter (has_name t) es ≡ r ∷ []))) × Rewrote 1 (map (renewed (has_name t) becomes) es) old.now new.now
    generation_set count ran = ran_update 1 nodes refl set_lock_generation_text terms project params old new refl set_lock_generation_is set_lock_generation_plain becomes store how count ran

    -- what the nodes are then
    module _ (n : ℕ) (counted : count_of g ≡ Some n) (entries : StoredNodes) (held : Holds (slice_cmp nat_cmp) (λ r. node_in (node_shown r)) es entries) where
      test : (r : Row) → Has es r → (e : List ℕ × StoredNode) → node_in (node_shown r) ≡ Some e → has_name t r ≡ is_at (slice_cmp nat_cmp t) e.0
      test r there e says = name_test t r (node_rows old.now store r there) e says

      -- the row that is changed
      changed_says : (r : Row) → Has es r → has_name t r ≡ true → (e : List ℕ × StoredNode) → node_in (node_shown r) ≡ Some e → node_in (node_shown (becomes r)) ≡ Some (t, record e.1 { lock_generation = n })
      changed_says r there has e says =
          let k : column r 1 ≡ Text t = text_value (column r 1) t (node_rows old.now store r there).name (and_parts _ _ has).0 in
          let named : e.0 ≡ t = sym (name_said r e says) ∙ ap bytes k in
          ap (λ o. node_from (numbers_from (kind_of (id_in (column r 3))) (life_of (id_in (column r 4))) (count_in (column r 2)) (count_in (column r 5)) (count_in (column r 6)) o) (acls_in (node_shown r)) (name_in (column r 1)) (bytes (column r 11))) counted
          ∙ generation_from (kind_of (id_in (column r 3))) (life_of (id_in (column r 4))) (count_in (column r 2)) (count_in (column r 5)) (count_in (column r 6)) (count_in (column r 7)) (acls_in (node_shown r)) (name_in (column r 1)) (bytes (column r 11)) e n says
          ∙ ap (λ (s : List ℕ). Some (s, record e.1 { lock_generation = n })) named

      none_changed : filter (has_name t) es ≡ [] → Holds (slice_cmp nat_cmp) (λ r. node_in (node_shown r)) (map (renewed (has_name t) becomes) es) (at_generation entries t (stored_node entries t) n)
      none_changed empty =
          let none : stored_node entries t ≡ None = none_at (slice_cmp nat_cmp) nat_list_cmp_total (λ r. node_in (node_shown r)) es entries held t (has_name t) test
          (λ r there. false_from_ne_true _ (λ has. subst (λ l. Has l r) empty (has_kept (has_name t) es r there has))) in
          subst (λ o. Holds (slice_cmp nat_cmp) (λ r. node_in (node_shown r)) (map (renewed (has_name t) becomes) es) (at_generation entries t o n)) (sym none)
          (subst (λ rs. Holds (slice_cmp nat_cmp) (λ r. node_in (node_shown r)) rs entries) (sym (none_renewed (has_name t) becomes es empty).0) held)

      one_changed : (r : Row) → Has es r → has_name t r ≡ true → filter (has_name t) es ≡ r ∷ [] → Holds (slice_cmp nat_cmp) (λ x. node_in (node_shown x)) (map (renewed (has_name t) becomes) es) (at_generation entries t (stored_node entries t) n)
      one_changed r there has one =
          let e = entry_of (slice_cmp nat_cmp) nat_list_cmp_total (λ x. node_in (node_shown x)) es entries held r there in
          let node : StoredNode = record e.0.1 { lock_generation = n } in
          let found : stored_node entries t ≡ Some e.0.1 = found_at (slice_cmp nat_cmp) nat_list_cmp_total (λ x. node_in (node_shown x)) es entries held t (has_name t) test r there has e.0 e.2 in
          let put = holds_put (slice_cmp nat_cmp) nat_list_cmp_total (λ x. node_in (node_shown x)) es entries held t (has_name t) test exact_bytes (becomes r) node (map (renewed (has_name t) becomes) es)
          (changed_says r there has e.0 e.2) (one_renewed (has_name t) becomes es r one) in
          subst (λ o. Holds (slice_cmp nat_cmp) (λ x. node_in (node_shown x)) (map (renewed (has_name t) becomes) es) (at_generation entries t o n)) (sym found)
          (subst (Holds (slice_cmp nat_cmp) (λ x. node_in (node_shown x)) (map (renewed (has_name t) becomes) es)) (put_is_set (slice_cmp nat_cmp) nat_list_cmp_total entries t node e.0.1 held.sorted found) put)

pub generation_there : (t : List ℕ) (n : ℕ) (v g : ValueRef) → bound_value (owned v) ≡ Text t → IsNumber g n → (old new : State) → RanInside set_lock_generation_text (bound (v ∷ g ∷ [])) old new → Changed (LockGeneration t n ∷ []) old new
generation_there t n v g is_text ng old new run =
    let row : bound (v ∷ g ∷ []) ≡ Text t ∷ Int ng.0 ∷ [] = λ j. is_text j ∷ bound_value (owned (ng.1 j)) ∷ [] in
    let r = subst (λ x. RanInside set_lock_generation_text x old new) row run in
    let e = ng.0 in
    record {
      store = λ store. (generation_set t e old new store r.count r.ran).1.store;
      says = λ store rows said.
          let es = old.now.trees 1 in
          let done = generation_set t e old new store r.count r.ran in
          let held = held_as_shown (slice_cmp nat_cmp) node_in node_shown es rows.nodes said.nodes in
          let after : Holds (slice_cmp nat_cmp) (λ x. node_in (node_shown x)) (map (renewed (has_name t) (becomes t e)) es) (at_generation rows.nodes t (stored_node rows.nodes t) n) = elim done.0 [
            | inl empty ↦ none_changed t e old new store n ng.2 rows.nodes held empty
            | inr one ↦ one_changed t e old new store n ng.2 rows.nodes held one.0 one.1 one.2 one.3
          ] in
          nodes_say old.now new.now _ Third rows [] said done.1 _ (shown_as_held (slice_cmp nat_cmp) node_in node_shown (map (renewed (has_name t) (becomes t e)) es) _ after);
    }
