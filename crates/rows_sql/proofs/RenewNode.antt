-- What the statement makes of the tables that puts the row of a node which is there.
use Rattle.std.proofs.Common.{◌≡◌, ◌⊎◌, ℕ, Bool, true, not, ◌==◌, List, [], ◌∷◌, map, filter, Some, None, Ok, inl, inr, refl, sym, ap, ◌∙◌, subst}
use Rattle.std.specs.Prelude.{MatchBool, length}
use Rattle.std.specs.BTreeMap.{is_at, insert_entry}
use Rattle.std.specs.Option.{option_map_or}
use Rattle.std.specs.Ordering.{nat_cmp}
use Rattle.std.specs.Cmp.Lexicographic.{slice_cmp}
use Rattle.std.proofs.lemmas.Bool.{and_parts, false_from_ne_true}
use Rattle.std.proofs.lemmas.Cmp.{nat_list_cmp_total}
use Rattle.std.proofs.lemmas.Map.Lookups.{exact_bytes}
use Rattle.sqlite_value.specs.declared.value.Value.TheVariants.{Int, Text, Blob}
use Rattle.sqlite_value.specs.declared.value.ValueRef.{ValueRef}
use Rattle.sqlite_value.specs.Value.{owned}
use Rattle.sqlite_value.specs.Order.{Row, column}
use Rattle.sqlite.specs.Term.{Term, col}
use Rattle.sqlite.specs.Values.{bound, bound_value}
use Rattle.sqlite.specs.Tree.{rowid}
use Rattle.sqlite_rules.specs.Lists.{Has}
use Rattle.sqlite_rules.proofs.ListLemmas.{all_has, has_kept}
use Rattle.sqlite_rules.proofs.TableLemmas.{int_is}
use Rattle.sqlite.specs.State.{State, Executes}
use Rattle.names_cell.specs.Text.{is_name}
use Rattle.node_core.specs.declared.nodes.Node.{Node}
use Rattle.rows_cell.specs.declared.tables.Rows.{Rows}
use Rattle.rows_cell.specs.declared.tables.StoredNode.{StoredNode}
use Rattle.rows_cell.specs.declared.tables.Edit.TheVariants.{PutNode}
use Rattle.rows_cell.specs.Rows.{StoredNodes, edited, stored_node, put_stored}
use Rattle.rows_sql.specs.OurSchema.{nodes}
use Rattle.rows_sql.specs.Decode.{count_in, kind_of, life_of, node_in}
use Rattle.rows_sql.specs.declared.schema.ours.Version.TheVariants.{Third}
use Rattle.rows_sql.specs.Held.{Holds, Says}
use Rattle.rows_sql.specs.Ready.{node_shown, tables_of}
use Rattle.rows_sql.specs.WriteTexts.{renew_node_text}
use Rattle.rows_sql.specs.WriteCommands.{is}
use Rattle.rows_sql.specs.Numbers.{IsNumber, IsReadAs}
use Rattle.rows_sql.specs.Ongoing.{IsStore, RanCounted, Renews}
use Rattle.rows_sql.proofs.WriteMeaning.{renew_node_is, renew_node_plain}
use Rattle.rows_sql.proofs.Casts.{cast_int, int_stays, text_stays}
use Rattle.rows_sql.proofs.Columns.{text_value}
use Rattle.rows_sql.proofs.Entries.{holds_put, found_at, none_at, entry_of}
use Rattle.rows_sql.proofs.NodeKeys.{has_name, name_test, node_said}
use Rattle.rows_sql.proofs.AddNode.{Counted, Counts, HasNames, Given, params, says_view}
use Rattle.rows_sql.proofs.Runs.{ran_update, update_counted}
use Rattle.rows_sql.proofs.SetGeneration.{no_action, nor_none, one_named}
use Rattle.rows_sql.proofs.Stores.{Rewrote, node_rows, nodes_say, held_as_shown, shown_as_held}
use Rattle.rows_sql.proofs.Trees.{renewed, one_renewed, none_renewed}
use Rattle.rows_sql.proofs.Updates as updates

abbrev terms : List Term
terms = is (col 1 1) (col 0 0) ∷ []

abbrev project : List Term
project = col 1 0 ∷ col 1 0 ∷ col 1 1 ∷ col 0 1 ∷ col 0 2 ∷ col 0 3 ∷ col 0 4 ∷ col 0 5 ∷ col 1 7 ∷ col 0 6 ∷ col 0 7 ∷ col 0 8 ∷ col 0 9 ∷ []

module _ (t : List ℕ) (node : Node) (c : Counted) where
  abbrev given : Row
  given = params t node c

  -- the generation of the lock stays
  abbrev becomes : Row → Row
  becomes r = column r 0 ∷ column r 1 ∷ Int c.instance ∷ Int c.kind ∷ Int c.life ∷ Int c.content ∷ Int c.acl ∷ column r 7 ∷ Text node.read ∷ Text node.write ∷ Text node.change ∷ Blob node.content ∷ []

  module _ (old new : State) (store : IsStore old.now) where
    abbrev es : List Row
    es = old.now.trees 1

    how : updates.Renews old.step_limit nodes given given old.now.trees terms project refl becomes
    how = record {
      shaped = store.nodes;
      shown = λ r h s. refl;
      same_id = λ r h s. refl;
      fits = λ r h s.
          let typed = node_rows old.now store r h in
          λ j. int_stays (column r 0) (int_is (rowid r) (all_has _ es r store.nodes.1 h)) j ∷ text_stays (column r 1) typed.name j ∷ cast_int c.instance j ∷ cast_int c.kind j ∷ cast_int c.life j ∷ cast_int c.content j
          ∷ cast_int c.acl j ∷ int_stays (column r 7) typed.lock_gen j ∷ Text node.read ∷ Text node.write ∷ Text node.change ∷ Blob node.content ∷ [];
      one = one_named old.now store t;
      alone = no_action;
      idle = nor_none;
    }

    abbrev Found : Type 0
    Found = (filter (has_name t) es ≡ []) ⊎ ((r : Row) × Has es r × (has_name t r ≡ true) × (filter (has_name t) es ≡ r ∷ []))

    rows_renewed : (count : ℕ) → Executes renew_node_text given old new (Ok count) → Found × Rewrote 1 (map (renewed (has_name t) becomes) es) old.now new.now
    rows_renewed count ran = ran_update 1 nodes refl renew_node_text terms project given old new refl renew_node_is renew_node_plain becomes store how count ran

    rows_counted : (count : ℕ) → Executes renew_node_text given old new (Ok count) → count ≡ length (filter (has_name t) es)
    rows_counted count ran = update_counted 1 nodes refl renew_node_text terms project given old new refl renew_node_is renew_node_plain store count ran

    -- what the nodes are then
    module _ (counts : Counts node c) (names : HasNames node) (named : is_name t ≡ true) (entries : StoredNodes) (held : Holds (slice_cmp nat_cmp) (λ r. node_in (node_shown r)) es entries) where
      test : (r : Row) → Has es r → (e : List ℕ × StoredNode) → node_in (node_shown r) ≡ Some e → has_name t r ≡ is_at (slice_cmp nat_cmp t) e.0
      test r there e says = name_test t r (node_rows old.now store r there) e says

      absent : filter (has_name t) es ≡ [] → stored_node entries t ≡ None
      absent empty = none_at (slice_cmp nat_cmp) nat_list_cmp_total (λ r. node_in (node_shown r)) es entries held t (has_name t) test (λ r there. false_from_ne_true _ (λ has. subst (λ l. Has l r) empty (has_kept (has_name t) es r there has)))

      record Present : Type 0 where
        pub was : StoredNode
        pub found : stored_node entries t ≡ Some was
        pub holds : Holds (slice_cmp nat_cmp) (λ x. node_in (node_shown x)) (map (renewed (has_name t) becomes) es) (put_stored entries t node)

      present : (r : Row) → Has es r → has_name t r ≡ true → filter (has_name t) es ≡ r ∷ [] → Present
      present r there has one =
          let e = entry_of (slice_cmp nat_cmp) nat_list_cmp_total (λ x. node_in (node_shown x)) es entries held r there in
          let put : StoredNode = record { node = node; lock_generation = e.0.1.lock_generation } in
          let found : stored_node entries t ≡ Some e.0.1 = found_at (slice_cmp nat_cmp) nat_list_cmp_total (λ x. node_in (node_shown x)) es entries held t (has_name t) test r there has e.0 e.2 in
          let counted : count_in (column r 7) ≡ Some e.0.1.lock_generation = (node_said r e.0 e.2).1 in
          let text : column r 1 ≡ Text t = text_value (column r 1) t (node_rows old.now store r there).name (and_parts _ _ has).0 in
          let says : node_in (node_shown (becomes r)) ≡ Some (t, put) = says_view t node c counts names (column r 1) (column r 7) e.0.1.lock_generation text named counted in
          let moved = holds_put (slice_cmp nat_cmp) nat_list_cmp_total (λ x. node_in (node_shown x)) es entries held t (has_name t) test exact_bytes (becomes r) put (map (renewed (has_name t) becomes) es) says (one_renewed (has_name t) becomes es r one) in
          record {
            was = e.0.1;
            found = found;
            holds = subst (λ o. Holds (slice_cmp nat_cmp) (λ x. node_in (node_shown x)) (map (renewed (has_name t) becomes) es) (insert_entry (slice_cmp nat_cmp) entries t (record { node = node; lock_generation = option_map_or (λ (stored : StoredNode). stored.lock_generation) o 0 }))) (sym found) moved;
          }

    -- what the tables say then
    module _ (counts : Counts node c) (names : HasNames node) (named : is_name t ≡ true) (rows : Rows) (said : Says (tables_of old.now.trees) rows) where
      held : Holds (slice_cmp nat_cmp) (λ r. node_in (node_shown r)) es rows.nodes
      held = held_as_shown (slice_cmp nat_cmp) node_in node_shown es rows.nodes said.nodes

      abbrev Outcome : Bool → Type 0
      Outcome is_there = MatchBool is_there (Says (tables_of new.now.trees) (edited rows (PutNode t node))) ((stored_node rows.nodes t ≡ None) × Says (tables_of new.now.trees) rows)

      when_absent : filter (has_name t) es ≡ [] → Rewrote 1 (map (renewed (has_name t) becomes) es) old.now new.now → (stored_node rows.nodes t ≡ None) × Says (tables_of new.now.trees) rows
      when_absent empty done =
          let same = subst (λ rs. Holds (slice_cmp nat_cmp) (λ x. node_in (node_shown x)) rs rows.nodes) (sym (none_renewed (has_name t) becomes es empty).0) held in (
            absent counts names named rows.nodes held empty,
            nodes_say old.now new.now _ Third rows [] said done rows.nodes (shown_as_held (slice_cmp nat_cmp) node_in node_shown (map (renewed (has_name t) becomes) es) rows.nodes same),
          )

      when_present : Present counts names named rows.nodes held → Rewrote 1 (map (renewed (has_name t) becomes) es) old.now new.now → Says (tables_of new.now.trees) (edited rows (PutNode t node))
      when_present p done =
          nodes_say old.now new.now _ Third rows [] said done (put_stored rows.nodes t node) (shown_as_held (slice_cmp nat_cmp) node_in node_shown (map (renewed (has_name t) becomes) es) (put_stored rows.nodes t node) p.holds)

      outcome : (count : ℕ) → count ≡ length (filter (has_name t) es) → Found → Rewrote 1 (map (renewed (has_name t) becomes) es) old.now new.now → Outcome (not (count == 0))
      outcome count counted (inl empty) done = subst (λ n. Outcome (not (n == 0))) (sym (counted ∙ ap length empty)) (when_absent empty done)
      outcome count counted (inr one) done = subst (λ n. Outcome (not (n == 0))) (sym (counted ∙ ap length one.3)) (when_present (present counts names named rows.nodes held one.0 one.1 one.2 one.3) done)

pub node_renewed : (t : List ℕ) (node : Node) (name i k l g a read write change content : ValueRef) → Given t node name read write change content → is_name t ≡ true → HasNames node → IsNumber i node.instance → IsReadAs kind_of k node.kind → IsReadAs life_of l node.life → IsNumber g node.content_generation → IsNumber a node.acl_generation
    → (old new : State) (count : ℕ) → RanCounted renew_node_text (bound (name ∷ i ∷ k ∷ l ∷ g ∷ a ∷ read ∷ write ∷ change ∷ content ∷ [])) count old new
    → Renews t node (not (count == 0)) old new
node_renewed t node name i k l g a read write change content texts named names ni nk nl ng na old new count run =
    let row : bound (name ∷ i ∷ k ∷ l ∷ g ∷ a ∷ read ∷ write ∷ change ∷ content ∷ []) ≡ Text t ∷ Int ni.0 ∷ Int nk.0 ∷ Int nl.0 ∷ Int ng.0 ∷ Int na.0 ∷ Text node.read ∷ Text node.write ∷ Text node.change ∷ Blob node.content ∷ [] = λ j.
    texts.name_is j ∷ bound_value (owned (ni.1 j)) ∷ bound_value (owned (nk.1 j)) ∷ bound_value (owned (nl.1 j)) ∷ bound_value (owned (ng.1 j)) ∷ bound_value (owned (na.1 j)) ∷ texts.read_is j ∷ texts.write_is j ∷ texts.change_is j ∷ texts.content_is j ∷ [] in
    let r = subst (λ x. RanCounted renew_node_text x count old new) row run in
    let c : Counted = record { instance = ni.0; kind = nk.0; life = nl.0; content = ng.0; acl = na.0 } in
    let counts : Counts node c = record { instance = ni.2; kind = nk.2; life = nl.2; content = ng.2; acl = na.2 } in
    record {
      inside = r.inside;
      store = λ store. (rows_renewed t node c old new store count r.ran).1.store;
      says = λ store rows said.
          let done = rows_renewed t node c old new store count r.ran in
          outcome t node c old new store counts names named rows said count (rows_counted t node c old new store count r.ran) done.0 done.1;
    }
