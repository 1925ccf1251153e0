-- Trees list one schema at most.
use Rattle.std.proofs.Common.{◌≡◌, ◌≢◌, inl, inr, ℕ, ◌+◌, ◌<◌, ◌⊎◌, pos, Bool, true, false, not, List, [], ◌∷◌, ◌++◌, length, filter, Option, Some, None, Ok, refl, sym, ap, ◌∙◌, subst, arith, codes, true≢false}
use Rattle.std.specs.Prelude.{slice_get, MatchBool}
use Rattle.std.specs.List.{AllZip}
use Rattle.std.specs.Ordering.{is_eq}
use Rattle.sqlite_value.specs.declared.value.Value.{Value}
use Rattle.sqlite_value.specs.declared.value.Value.TheVariants.{Null, Int, Real, Text, Blob}
use Rattle.sqlite_value.specs.Order.{Row, bytes, column, value_cmp}
use Rattle.sqlite_trees.specs.Tree.{Trees, IsAscending}
use Rattle.sqlite_trees.specs.Objects.{catalog_tree, number_in}
use Rattle.sqlite_schema.specs.declared.schema.Table.{Table}
use Rattle.sqlite_schema.specs.declared.schema.View.{View as Stored}
use Rattle.sqlite_schema.specs.declared.schema.Index.{Index}
use Rattle.sqlite_schema.specs.declared.schema.Schema.{Schema}
use Rattle.sqlite_schema.specs.Names.{same_name}
use Rattle.sqlite_rules.specs.Lists.{Has}
use Rattle.sqlite_resolve.specs.Compile.{table_defined_by, index_defined_by}
use Rattle.sqlite_catalog.specs.Listing.{Describes, DefinesTable, IsTableRow, IsIndexRow, IsViewRow, IsDefined, IsAside, IsForeign, IsReadable, automatic, is_table_row, is_index_row, is_view_row, is_unread, AreListed, IsSound}
use Rattle.sqlite_catalog.proofs.StepLemmas.{same_itself, named_once, table_is_table, index_is_no_table}
use Rattle.sqlite_catalog.proofs.AlterLemmas.{numbers_differ}
use Rattle.sqlite.specs.Effect.{Database, IsDatabase}

-- ---- of a row

text_is : (v : Value) (a b : List ℕ) → v ≡ Text a → v ≡ Text b → a ≡ b
text_is v a b p q = sym (ap bytes p) ∙ ap bytes q

tree_is : (v : Value) (a b : ℕ) → v ≡ Int (pos (a + 1)) → v ≡ Int (pos (b + 1)) → a ≡ b
tree_is v a b p q = let e : a + 1 ≡ b + 1 = sym (ap number_in p) ∙ ap number_in q in omega (arith, e)

-- ---- tables

defined_is : (sql other : List ℕ) (s t : Table) → sql ≡ other → s.tree ≡ t.tree → DefinesTable sql s → DefinesTable other t → s ≡ t
defined_is sql other s t same tree p q =
    let one : Ok p.0 ≡ Ok q.0 = sym p.1 ∙ ap table_defined_by same ∙ q.1 in
    let made : p.0 ≡ q.0 = cc in
    p.2 ∙ (λ i. record (made i) { tree = tree i }) ∙ sym q.2

table_is : (row : Row) (s t : Table) → IsTableRow row s → IsTableRow row t → s ≡ t
table_is row s t p q =
    defined_is p.sql q.sql s t (text_is _ _ _ p.sql_is q.sql_is) (tree_is _ _ _ p.described.id q.described.id) p.defined q.defined

zipped : {A B : Type 0} (R : A → B → Type 0) → ((x : A) (y z : B) → R x y → R x z → y ≡ z) → (xs : List A) (ys zs : List B) → AllZip R xs ys → AllZip R xs zs → ys ≡ zs
zipped R one [] [] [] p q = refl
zipped R one [] [] (z ∷ zs) p q = absurd q
zipped R one [] (y ∷ ys) zs p q = absurd p
zipped R one (x ∷ xs) [] zs p q = absurd p
zipped R one (x ∷ xs) (y ∷ ys) [] p q = absurd q
zipped R one (x ∷ xs) (y ∷ ys) (z ∷ zs) p q =
    let first = one x y z p.0 q.0 in
    let rest = zipped R one xs ys zs p.1 q.1 in
    λ i. first i ∷ rest i

-- ---- indexes

index_of : (table : Table) (v : Value) (a b : Index) → a.name ≡ b.name → a.tree ≡ b.tree → IsDefined table a v → IsDefined table b v → a ≡ b
index_of table Null a b name tree p q =
    let named : (automatic table p.0 [] 0).name ≡ (automatic table q.0 [] 0).name = sym (ap (λ (x : Index). x.name) p.3) ∙ name ∙ ap (λ (x : Index). x.name) q.3 in
    let alike = subst (λ n. same_name (automatic table p.0 [] 0).name n ≡ true) named (same_itself (automatic table p.0 [] 0).name) in
    let at : p.0 ≡ q.0 = numbers_differ table p.0 q.0 p.4 q.4 alike in
    let found : Some p.1 ≡ Some q.1 = sym p.2 ∙ ap (slice_get table.uniques) at ∙ q.2 in
    let key : p.1 ≡ q.1 = cc in
    p.3 ∙ (λ i. automatic table (at i) (key i) (tree i)) ∙ sym q.3
index_of table (Int n) a b name tree p q = absurd p
index_of table (Real x) a b name tree p q = absurd p
index_of table (Text sql) a b name tree p q =
    let one : Ok p.0 ≡ Ok q.0 = sym p.1 ∙ q.1 in
    let made : p.0 ≡ q.0 = cc in
    p.2 ∙ (λ i. record (made i) { tree = tree i; table = table.tree }) ∙ sym q.2
index_of table (Blob bs) a b name tree p q = absurd p

module _ (tables : List Table) (apart : IsAscending (λ s t. same_name s.name t.name ≡ false) tables) where
  index_is : (row : Row) (a b : Index) → IsIndexRow tables row a → IsIndexRow tables row b → a ≡ b
  index_is row a b p q =
      let owner : p.table.name ≡ q.table.name = text_is _ _ _ p.described.owner_is q.described.owner_is in
      let alike = subst (λ n. same_name p.table.name n ≡ true) owner (same_itself p.table.name) in
      let table : p.table ≡ q.table = named_once tables p.table q.table apart p.listed q.listed alike in
      index_of p.table (column row 4) a b (text_is _ _ _ p.described.name_is q.described.name_is) (tree_is _ _ _ p.described.id q.described.id) p.defined
      (subst (λ t. IsDefined t b (column row 4)) (sym table) q.defined)

-- ---- views, and what is kept as it is

-- what a row that is kept as it is says by its kind
abbrev Kept : Row → Stored → List ℕ → Type 0
Kept row view kind = (code : ℕ) × IsForeign row view kind code

bound_is : (R : Type 0) (a b : Bool) → MatchBool a R (¬ R) → MatchBool b R (¬ R) → a ≡ b
bound_is R true true p q = refl
bound_is R true false p q = absurd (q p)
bound_is R false true p q = absurd (p q)
bound_is R false false p q = refl

no_view : (k : List ℕ) (row : Row) (view : Stored) (code : ℕ) → k ≡ codes "view" → IsForeign row view k code → ⊥
no_view k row view code is (inl p) = let e : 4 ≡ 5 = sym (ap length is) ∙ ap length p.0 in omega (arith, e)
no_view k row view code is (inr (inl p)) = let e : 4 ≡ 5 = sym (ap length is) ∙ ap length p.0 in omega (arith, e)
no_view k row view code is (inr (inr p)) = let e : 4 ≡ 7 = sym (ap length is) ∙ ap length p.0 in omega (arith, e)

no_index : codes "index" ≡ codes "table" → ⊥
no_index e = true≢false (sym table_is_table ∙ ap (λ k. is_eq (value_cmp (Text k) (Text (codes "table")))) (sym e) ∙ index_is_no_table)

foreign_is : (row : Row) (v w : Stored) (k : List ℕ) (c d : ℕ) → IsForeign row v k c → IsForeign row w k d → (v.binds ≡ w.binds) × (v.is_bound ≡ w.is_bound)
foreign_is row v w k c d (inl p) (inl q) = (p.2 ∙ sym q.2, bound_is (IsReadable row) v.is_bound w.is_bound p.3 q.3)
foreign_is row v w k c d (inl p) (inr (inl q)) = absurd (no_index (sym q.0 ∙ p.0))
foreign_is row v w k c d (inl p) (inr (inr q)) = absurd (let e : 5 ≡ 7 = sym (ap length p.0) ∙ ap length q.0 in omega (arith, e))
foreign_is row v w k c d (inr (inl p)) (inl q) = absurd (no_index (sym p.0 ∙ q.0))
foreign_is row v w k c d (inr (inl p)) (inr (inl q)) = (p.2 ∙ sym q.2, p.3 ∙ sym q.3)
foreign_is row v w k c d (inr (inl p)) (inr (inr q)) = absurd (let e : 5 ≡ 7 = sym (ap length p.0) ∙ ap length q.0 in omega (arith, e))
foreign_is row v w k c d (inr (inr p)) (inl q) = absurd (let e : 7 ≡ 5 = sym (ap length p.0) ∙ ap length q.0 in omega (arith, e))
foreign_is row v w k c d (inr (inr p)) (inr (inl q)) = absurd (let e : 7 ≡ 5 = sym (ap length p.0) ∙ ap length q.0 in omega (arith, e))
foreign_is row v w k c d (inr (inr p)) (inr (inr q)) = (p.2 ∙ sym q.2, p.3 ∙ sym q.3)

stored_is : (v w : Stored) → v.name ≡ w.name → v.tree ≡ w.tree → v.sql ≡ w.sql → v.foreign ≡ w.foreign → v.binds ≡ w.binds → v.is_bound ≡ w.is_bound → v ≡ w
stored_is v w name tree sql foreign binds bound = λ i. record { name = name i; tree = tree i; sql = sql i; foreign = foreign i; binds = binds i; is_bound = bound i }

aside_is : (row : Row) (v w : Stored) (k o : List ℕ) (c d : ℕ) (f h : Option (List ℕ)) → v.foreign ≡ f → w.foreign ≡ h → v.name ≡ w.name → v.tree ≡ w.tree → IsAside row v k o c f → IsAside row w k o d h → v ≡ w
aside_is row v w k o c d None None f h name tree p q =
    stored_is v w name tree (text_is _ _ _ p.3 q.3) (f ∙ sym h) (p.6 ∙ sym q.6) (p.7 ∙ sym q.7)
aside_is row v w k o c d None (Some t) f h name tree p q = absurd (no_view k row w d p.0 q.2)
aside_is row v w k o c d (Some t) None f h name tree p q = absurd (no_view k row v c q.0 p.2)
aside_is row v w k o c d (Some t) (Some u) f h name tree p q =
    let both = foreign_is row v w k c d p.2 q.2 in
    stored_is v w name tree (p.1 ∙ sym q.1) (f ∙ ap (λ (x : List ℕ). Some x) (sym p.0 ∙ q.0) ∙ sym h) both.0 both.1

view_is : (row : Row) (v w : Stored) → IsViewRow row v → IsViewRow row w → v ≡ w
view_is row v w p q =
    let kind : q.kind ≡ p.kind = text_is _ _ _ q.described.kind_is p.described.kind_is in
    let owner : q.owner ≡ p.owner = text_is _ _ _ q.described.owner_is p.described.owner_is in
    let aside = subst (λ o. IsAside row w p.kind o q.code w.foreign) owner (subst (λ k. IsAside row w k q.owner q.code w.foreign) kind q.aside) in
    aside_is row v w p.kind p.owner p.code q.code v.foreign w.foreign refl refl (text_is _ _ _ p.described.name_is q.described.name_is) (tree_is _ _ _ p.described.id q.described.id) p.aside aside

-- ---- of all rows

listed_once : (objects : List Row) (a b : Schema) → AreListed objects a → AreListed objects b → a ≡ b
listed_once objects a b p q =
    let tables : a.tables ≡ b.tables = zipped IsTableRow table_is (filter is_table_row objects) a.tables b.tables p.tables q.tables in
    let rows = filter is_index_row objects in
    let there = subst (λ ts. AllZip (IsIndexRow ts) rows b.indexes) (sym tables) q.indexes in
    let indexes : a.indexes ≡ b.indexes = zipped (IsIndexRow a.tables) (index_is a.tables p.named) rows a.indexes b.indexes p.indexes there in
    let views : a.views ≡ b.views = zipped IsViewRow view_is (filter is_view_row objects) a.views b.views p.views q.views in
    λ i. record { tables = tables i; indexes = indexes i; views = views i }

pub one_schema : (trees : Trees) (a b : Schema) → IsSound a trees → IsSound b trees → a ≡ b
one_schema trees a b p q = listed_once (trees catalog_tree) a b p.lists.listed q.lists.listed

-- so two databases with the same trees are one
pub one_database : (a b : Database) → a.trees ≡ b.trees → IsDatabase a → IsDatabase b → a ≡ b
one_database a b same p q =
    let schema : a.schema ≡ b.schema = one_schema b.trees a.schema b.schema (subst (λ (t : Trees). IsSound a.schema t) same p) q in
    λ i. record { schema = schema i; trees = same i }
