-- What the statement makes of the tables that puts the row of a new node.
use Rattle.std.proofs.Common.{◌≡◌, ℕ, ℤ, pos, true, false, List, [], ◌∷◌, ◌++◌, Option, Some, None, Ok, refl, sym, ap, ◌∙◌, subst}
use Rattle.std.specs.BTreeMap.{insert_entry}
use Rattle.std.specs.Option.{option_map_or}
use Rattle.std.specs.Ordering.{nat_cmp}
use Rattle.std.specs.Cmp.Lexicographic.{slice_cmp}
use Rattle.std.proofs.lemmas.Bool.{and_from}
use Rattle.std.proofs.lemmas.Slice.Eq.{bytes_eq-Decides}
use Rattle.std.proofs.lemmas.Cmp.{nat_list_cmp_total}
use Rattle.sqlite_value.specs.declared.value.Value.{Value}
use Rattle.sqlite_value.specs.declared.value.Value.TheVariants.{Null, Int, Text, Blob}
use Rattle.sqlite_value.specs.declared.value.ValueRef.{ValueRef}
use Rattle.sqlite_value.specs.Value.{owned}
use Rattle.sqlite_value.specs.Order.{Row}
use Rattle.sqlite.specs.Term.{Term, col, lit}
use Rattle.sqlite.specs.Values.{bound, bound_value}
use Rattle.sqlite.specs.Cast.{cast, cast_row}
use Rattle.sqlite.specs.Kind.TheVariants.{Integer}
use Rattle.sqlite.specs.Edit.{next_rowid}
use Rattle.sqlite.specs.Rowids.TheVariants.{Chosen}
use Rattle.sqlite_rules.specs.Edit.{with_rowid}
use Rattle.sqlite_rules.specs.Lists.{Has}
use Rattle.sqlite.specs.State.{State, Executes}
use Rattle.names_cell.specs.Text.{is_component, is_name}
use Rattle.node_core.specs.declared.nodes.Node.{Node}
use Rattle.rows_cell.specs.declared.tables.StoredNode.{StoredNode}
use Rattle.rows_cell.specs.declared.tables.Edit.TheVariants.{PutNode}
use Rattle.rows_cell.specs.Rows.{StoredNodes, stored_node, put_stored}
use Rattle.rows_sql.specs.OurSchema.{nodes}
use Rattle.rows_sql.specs.Decode.{count_of, count_in, kind_of, life_of, acls_from, numbers_from, node_from, node_in}
use Rattle.rows_sql.specs.declared.schema.ours.Version.TheVariants.{Third}
use Rattle.rows_sql.specs.Held.{Holds}
use Rattle.rows_sql.specs.Ready.{node_shown}
use Rattle.rows_sql.specs.WriteTexts.{add_node_text}
use Rattle.rows_sql.specs.Numbers.{IsNumber, IsReadAs}
use Rattle.rows_sql.specs.Ongoing.{IsStore, RanInside, Changed}
use Rattle.rows_sql.proofs.WriteMeaning.{add_node_is, add_node_plain}
use Rattle.rows_sql.proofs.Casts.{cast_null, cast_int, component_reads, name_reads}
use Rattle.rows_sql.proofs.Columns.{equal-Text}
use Rattle.rows_sql.proofs.Entries.{none_at}
use Rattle.rows_sql.proofs.Held.{holds_more, holds_permuted}
use Rattle.rows_sql.proofs.Inserts as inserts
use Rattle.rows_sql.proofs.NodeKeys.{has_name, name_test}
use Rattle.rows_sql.proofs.Runs.{Inserted, ran_insert}
use Rattle.rows_sql.proofs.SetGeneration.{one_named}
use Rattle.rows_sql.proofs.Stores.{Rewrote, node_rows, nodes_say, held_as_shown, shown_as_held}

abbrev values : List Term
values = lit Null ∷ col 0 0 ∷ col 0 1 ∷ col 0 2 ∷ col 0 3 ∷ col 0 4 ∷ col 0 5 ∷ lit (Int (pos 0)) ∷ col 0 6 ∷ col 0 7 ∷ col 0 8 ∷ col 0 9 ∷ []

-- the numbers of a node in SQL
pub record Counted : Type 0 where
  pub instance : ℤ
  pub kind : ℤ
  pub life : ℤ
  pub content : ℤ
  pub acl : ℤ

pub record Counts (node : Node) (c : Counted) : Type 0 where
  pub instance : count_of c.instance ≡ Some node.instance
  pub kind : kind_of c.kind ≡ Some node.kind
  pub life : life_of c.life ≡ Some node.life
  pub content : count_of c.content ≡ Some node.content_generation
  pub acl : count_of c.acl ≡ Some node.acl_generation

-- the names of a node's ACLs
pub record HasNames (node : Node) : Type 0 where
  pub read : is_component node.read ≡ true
  pub write : is_component node.write ≡ true
  pub change : is_component node.change ≡ true

module _ (t : List ℕ) (node : Node) (c : Counted) where
  abbrev pub params : Row
  params = Text t ∷ Int c.instance ∷ Int c.kind ∷ Int c.life ∷ Int c.content ∷ Int c.acl ∷ Text node.read ∷ Text node.write ∷ Text node.change ∷ Blob node.content ∷ []

  abbrev fields : Row
  fields = Text t ∷ Int c.instance ∷ Int c.kind ∷ Int c.life ∷ Int c.content ∷ Int c.acl ∷ Int (pos 0) ∷ Text node.read ∷ Text node.write ∷ Text node.change ∷ Blob node.content ∷ []

  fits : (id : Value) → cast_row nodes (id ∷ fields) ≡ cast Integer id ∷ fields
  fits id = λ j. cast Integer id ∷ Text t ∷ cast_int c.instance j ∷ cast_int c.kind j ∷ cast_int c.life j ∷ cast_int c.content j ∷ cast_int c.acl j ∷ cast_int (pos 0) j ∷ Text node.read ∷ Text node.write ∷ Text node.change ∷ Blob node.content ∷ []

  -- what such a row says
  pub says_view : Counts node c → HasNames node → (name g : Value) (n : ℕ) → name ≡ Text t → is_name t ≡ true → count_in g ≡ Some n
      → node_in (name ∷ Int c.instance ∷ Int c.kind ∷ Int c.life ∷ Int c.content ∷ Int c.acl ∷ g ∷ Text node.read ∷ Text node.write ∷ Text node.change ∷ Blob node.content ∷ []) ≡ Some (t, record { node = node; lock_generation = n })
  says_view counts names name g n is_text named counted =
      let row : Value → Row = λ v. v ∷ Int c.instance ∷ Int c.kind ∷ Int c.life ∷ Int c.content ∷ Int c.acl ∷ g ∷ Text node.read ∷ Text node.write ∷ Text node.change ∷ Blob node.content ∷ [] in
      let read : node_in (row (Text t)) ≡ Some (t, record { node = node; lock_generation = n }) = λ j. node_from (numbers_from (counts.kind j) (counts.life j) (counts.instance j) (counts.content j) (counts.acl j) (counted j)) (acls_from (component_reads node.read names.read j) (component_reads node.write names.write j) (component_reads node.change names.change j)) (name_reads t named j) node.content in
      ap (λ v. node_in (row v)) is_text ∙ read

  module _ (old new_state : State) (store : IsStore old.now) where
    abbrev es : List Row
    es = old.now.trees 1

    abbrev new : Row
    new = Int (next_rowid es) ∷ fields

    how : inserts.CanInsert old.step_limit nodes params old.now.trees values 12 (Null ∷ fields) new
    how = record {
      shaped = store.nodes;
      uncounted = refl;
      sources = λ rows e. e;
      numbered = ap (with_rowid Chosen es) (fits Null ∙ ap (λ v. v ∷ fields) cast_null);
      keyed = refl;
    }

    abbrev Added : Type 0
    Added = Inserted 1 nodes refl add_node_text params old new_state values 12 (Null ∷ fields) new

    row_added : (count : ℕ) → Executes add_node_text params old new_state (Ok count) → Added × Rewrote 1 (new_state.now.trees 1) old.now new_state.now
    row_added count ran = ran_insert 1 nodes refl add_node_text params old new_state values 12 (Null ∷ fields) new add_node_is add_node_plain store how count ran

    -- no row had the name
    none_named : Added → IsStore new_state.now → (r : Row) → Has es r → has_name t r ≡ false
    none_named added after r there =
        inserts.none_had old.step_limit nodes params old.now.trees values 12 (Null ∷ fields) new (has_name t) new_state.now.trees added (one_named new_state.now after t)
        (and_from _ _ (equal-Text t t ∙ (bytes_eq-Decides t t).1 refl) refl) r there

    -- what the nodes are then
    module _ (counts : Counts node c) (names : HasNames node) (named : is_name t ≡ true) (entries : StoredNodes) (held : Holds (slice_cmp nat_cmp) (λ r. node_in (node_shown r)) es entries) where
      abbrev at_first : Option StoredNode → StoredNode
      at_first o = record { node = node; lock_generation = option_map_or (λ (stored : StoredNode). stored.lock_generation) o 0 }

      nodes_then : Added → IsStore new_state.now → Holds (slice_cmp nat_cmp) (λ r. node_in (node_shown r)) (new_state.now.trees 1) (put_stored entries t node)
      nodes_then added after =
          let absent : stored_node entries t ≡ None = none_at (slice_cmp nat_cmp) nat_list_cmp_total (λ r. node_in (node_shown r)) es entries held t (has_name t) (λ r there e says. name_test t r (node_rows old.now store r there) e says) (none_named added after) in
          let says : node_in (node_shown new) ≡ Some (t, at_first None) = says_view counts names (Text t) (Int (pos 0)) 0 refl named refl in
          subst (λ o. Holds (slice_cmp nat_cmp) (λ r. node_in (node_shown r)) (new_state.now.trees 1) (insert_entry (slice_cmp nat_cmp) entries t (at_first o))) (sym absent)
          (holds_permuted (slice_cmp nat_cmp) nat_list_cmp_total (λ r. node_in (node_shown r)) (es ++ new ∷ []) (new_state.now.trees 1) (insert_entry (slice_cmp nat_cmp) entries t (at_first None)) added.rows
          (holds_more (slice_cmp nat_cmp) nat_list_cmp_total (λ r. node_in (node_shown r)) es entries new t (at_first None) held says absent))

-- the texts and the content of a node, as they are given
pub record Given (t : List ℕ) (node : Node) (name read write change content : ValueRef) : Type 0 where
  pub name_is : bound_value (owned name) ≡ Text t
  pub read_is : bound_value (owned read) ≡ Text node.read
  pub write_is : bound_value (owned write) ≡ Text node.write
  pub change_is : bound_value (owned change) ≡ Text node.change
  pub content_is : bound_value (owned content) ≡ Blob node.content

pub node_added : (t : List ℕ) (node : Node) (name i k l g a read write change content : ValueRef) → Given t node name read write change content → is_name t ≡ true → HasNames node → IsNumber i node.instance → IsReadAs kind_of k node.kind → IsReadAs life_of l node.life → IsNumber g node.content_generation → IsNumber a node.acl_generation
    → (old new : State) → RanInside add_node_text (bound (name ∷ i ∷ k ∷ l ∷ g ∷ a ∷ read ∷ write ∷ change ∷ content ∷ [])) old new
    → Changed (PutNode t node ∷ []) old new
node_added t node name i k l g a read write change content texts named names ni nk nl ng na old new run =
    let row : bound (name ∷ i ∷ k ∷ l ∷ g ∷ a ∷ read ∷ write ∷ change ∷ content ∷ []) ≡ Text t ∷ Int ni.0 ∷ Int nk.0 ∷ Int nl.0 ∷ Int ng.0 ∷ Int na.0 ∷ Text node.read ∷ Text node.write ∷ Text node.change ∷ Blob node.content ∷ [] = λ j.
    texts.name_is j ∷ bound_value (owned (ni.1 j)) ∷ bound_value (owned (nk.1 j)) ∷ bound_value (owned (nl.1 j)) ∷ bound_value (owned (ng.1 j)) ∷ bound_value (owned (na.1 j)) ∷ texts.read_is j ∷ texts.write_is j ∷ texts.change_is j ∷ texts.content_is j ∷ [] in
    let r = subst (λ x. RanInside add_node_text x old new) row run in
    let c : Counted = record { instance = ni.0; kind = nk.0; life = nl.0; content = ng.0; acl = na.0 } in
    let counts : Counts node c = record { instance = ni.2; kind = nk.2; life = nl.2; content = ng.2; acl = na.2 } in
    record {
      store = λ store. (row_added t node c old new store r.count r.ran).1.store;
      says = λ store rows said.
          let done = row_added t node c old new store r.count r.ran in
          let held = held_as_shown (slice_cmp nat_cmp) node_in node_shown (old.now.trees 1) rows.nodes said.nodes in
          nodes_say old.now new.now (new.now.trees 1) Third rows [] said done.1 (put_stored rows.nodes t node)
          (shown_as_held (slice_cmp nat_cmp) node_in node_shown (new.now.trees 1) (put_stored rows.nodes t node) (nodes_then t node c old new store counts names named rows.nodes held done.0 done.1.store));
    }
