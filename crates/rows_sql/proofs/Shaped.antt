-- The rowids of a store rise, whoever made it.
use Rattle.std.proofs.Common.{◌≡◌, inl, inr, ℕ, ◌+◌, pos, true, List, [], ◌∷◌, filter, refl, sym, ap, ◌∙◌, subst, arith}
use Rattle.std.specs.Ordering.{is_eq}
use Rattle.std.specs.List.{AllZip}
use Rattle.std.proofs.lemmas.Cmp.{tied_itself}
use Rattle.sqlite_value.specs.declared.value.Value.TheVariants.{Int}
use Rattle.sqlite_value.specs.Order.{Row, column, value_cmp}
use Rattle.sqlite_value.proofs.OrderLemmas.{value_cmp_total}
use Rattle.sqlite_trees.specs.Tree.{Trees, IsTable, has_rowid}
use Rattle.sqlite_trees.specs.View.{View, IsShaped, IsOrdered}
use Rattle.sqlite_trees.specs.Objects.{catalog_tree, shape_code, number_in, IsListed}
use Rattle.sqlite_trees.specs.declared.store.Shape.{Shape}
use Rattle.sqlite_trees.specs.declared.store.Shape.TheVariants.{Absent, Table as Rows, Index, Pageless, FrozenTable, FrozenIndex}
use Rattle.sqlite_schema.specs.declared.schema.Table.{Table}
use Rattle.sqlite_schema.specs.declared.schema.Schema.{Schema}
use Rattle.sqlite_catalog.specs.Listing.{IsTableRow, is_table_row}
use Rattle.sqlite_rules.specs.Lists.{Has}
use Rattle.sqlite_rules.proofs.ListLemmas.{has_filtered}
use Rattle.sqlite_rules.proofs.PlaceLemmas.{row_at_is}
use Rattle.sqlite.specs.Effect.{Database, IsDatabase}
use Rattle.rows_sql.specs.OurSchema.{meta, nodes, sessions, locks}
use Rattle.rows_sql.specs.declared.schema.ours.Version.{Version}
use Rattle.rows_sql.specs.declared.schema.ours.Version.TheVariants.{First, Unindexed, Second, Third}
use Rattle.rows_sql.specs.Versions.{schema_of}
use Rattle.rows_sql.specs.Ongoing.{IsStoreBy}

zip_has : {A B : Type 0} (R : A → B → Type 0) (xs : List A) (ys : List B) (y : B) → AllZip R xs ys → Has ys y → (x : A) × Has xs x × R x y
zip_has R [] [] y z h = absurd h
zip_has R [] (b ∷ ys) y z h = absurd z
zip_has R (a ∷ xs) [] y z h = absurd h
zip_has R (a ∷ xs) (b ∷ ys) y z (inl same) = (a, inl refl, subst (R a) (sym same) z.0)
zip_has R (a ∷ xs) (b ∷ ys) y z (inr h) = let found = zip_has R xs ys y z.1 h in (found.0, inr found.1, found.2)

is_rows : (s : Shape) → shape_code s ≡ 1 → s ≡ Rows
is_rows Absent e = absurd (omega (arith, e))
is_rows Rows e = refl
is_rows (Index o) e = absurd (omega (arith, e))
is_rows Pageless e = absurd (omega (arith, e))
is_rows FrozenTable e = absurd (omega (arith, e))
is_rows (FrozenIndex o) e = absurd (omega (arith, e))

module _ (objects : List Row) (shape : ℕ → Shape) (reals : ℕ → ℕ) (trees : Trees) (listed : IsListed objects shape reals) (rises : IsTable objects) (ordered : IsOrdered shape trees) where
  shaped_by : (table : Table) (r : Row) → Has objects r → IsTableRow r table → IsShaped Rows (trees table.tree)
  shaped_by table r h is =
      let t = table.tree in
      let low = is.described.low in
      let at : has_rowid (pos (t + 1)) r ≡ true = ap (λ v. is_eq (value_cmp v (Int (pos (t + 1))))) is.described.id ∙ ap is_eq (tied_itself value_cmp_total (Int (pos (t + 1)))) in
      let row = row_at_is objects (pos (t + 1)) r rises h at in
      let code : shape_code (shape t) ≡ 1 = listed.shapes t (λ e. omega (arith, low, e)) (λ e. omega (arith, low, e)) ∙ ap (λ (x : Row). number_in (column x 5)) row ∙ is.described.shape_is in
      subst (λ s. IsShaped s (trees t)) (is_rows (shape t) code) (ordered t)

  pub shaped : (tables : List Table) → AllZip IsTableRow (filter is_table_row objects) tables → (table : Table) → Has tables table → IsShaped Rows (trees table.tree)
  shaped tables z table h =
      let found = zip_has IsTableRow (filter is_table_row objects) tables table z h in
      shaped_by table found.0 (has_filtered is_table_row objects found.0 found.1).0 found.2

-- each table of a database has rowids that rise
shaped_as : (schema : Schema) (v : View) (db : Database) → db.trees ≡ v.trees → db.schema ≡ schema → IsDatabase db → IsListed (v.trees catalog_tree) v.shape v.reals → IsOrdered v.shape v.trees → (table : Table) → Has schema.tables table → IsShaped Rows (db.trees table.tree)
shaped_as schema v db same ours sound listed ordered table h =
    let rises : IsTable (v.trees catalog_tree) = (subst (λ s. IsShaped s (v.trees catalog_tree)) listed.itself.0 (ordered catalog_tree)).0 in
    let zip = subst (λ (s : Schema). AllZip IsTableRow (filter is_table_row (db.trees catalog_tree)) s.tables) ours sound.lists.listed.tables in
    let zipped = subst (λ (t : Trees). AllZip IsTableRow (filter is_table_row (t catalog_tree)) schema.tables) same zip in
    subst (λ (t : Trees). IsShaped Rows (t table.tree)) (sym same) (shaped (v.trees catalog_tree) v.shape v.reals v.trees listed rises ordered schema.tables zipped table h)

-- the four tables are those of each version
has_four : (version : Version) → Has (schema_of version).tables meta × Has (schema_of version).tables nodes × Has (schema_of version).tables sessions × Has (schema_of version).tables locks
has_four First = (inl refl, inr (inl refl), inr (inr (inl refl)), inr (inr (inr (inl refl))))
has_four Unindexed = (inl refl, inr (inl refl), inr (inr (inl refl)), inr (inr (inr (inl refl))))
has_four Second = (inl refl, inr (inl refl), inr (inr (inl refl)), inr (inr (inr (inl refl))))
has_four Third = (inl refl, inr (inl refl), inr (inr (inl refl)), inr (inr (inr (inl refl))))

pub is_store_of : (version : Version) (v : View) (db : Database) → db.trees ≡ v.trees → db.schema ≡ schema_of version → IsDatabase db → IsListed (v.trees catalog_tree) v.shape v.reals → IsOrdered v.shape v.trees → IsStoreBy (schema_of version) db
is_store_of version v db same ours sound listed ordered =
    let at = shaped_as (schema_of version) v db same ours sound listed ordered in
    let four = has_four version in
    record {
      schema = ours;
      sound = sound;
      metas = at meta four.0;
      nodes = at nodes four.1;
      sessions = at sessions four.2;
      locks = at locks four.3;
    }
