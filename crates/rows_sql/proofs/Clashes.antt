-- When a row has the key of another.
use Rattle.std.proofs.Common.{◌≡◌, ℤ, Bool, true, false, not, ◌&&◌, List, [], ◌∷◌, Some, Less, Equal, Greater, Ordering, refl, ap, ap₂, ◌∙◌, inl, inr}
use Rattle.std.specs.List.{list_any}
use Rattle.std.specs.Ordering.{is_eq, is_ne, int_cmp, int_eq}
use Rattle.std.proofs.lemmas.Bool.{and_parts, and_from, cases_Bool, both_ways, not-true}
use Rattle.sqlite_value.specs.declared.value.Value.TheVariants.{Int}
use Rattle.sqlite_value.specs.declared.keys.Collation.TheVariants.{Binary}
use Rattle.sqlite_value.specs.Order.{Row, column, value_cmp}
use Rattle.sqlite_value.specs.Keys.{first_key}
use Rattle.sqlite_value.proofs.OrderLemmas.{value_cmp-Int}
use Rattle.sqlite_trees.specs.Tree.{rowid}
use Rattle.sqlite_trees.specs.View.{IsShaped}
use Rattle.sqlite_trees.specs.declared.store.Shape.TheVariants as shape
use Rattle.sqlite_sql.specs.Ops.{binary}
use Rattle.sqlite_schema.specs.Rules.{equal, differ}
use Rattle.sqlite_schema.specs.declared.schema.Constraint.TheVariants.{Unique}
use Rattle.sqlite_rules.specs.Keys.{conflicts}
use Rattle.sqlite_rules.specs.Lists.{Has}
use Rattle.sqlite_rules.specs.Edit.{id_in}
use Rattle.sqlite_rules.proofs.ListLemmas.{all_has, some_from}
use Rattle.sqlite_rules.proofs.TableLemmas.{int_is}
use Rattle.sqlite.specs.Effect.{Database}
use Rattle.rows_sql.specs.OurSchema.{the_schema, sessions, locks}
use Rattle.rows_sql.specs.Ongoing.{IsStore}
use Rattle.rows_sql.proofs.Truths.{alone_or, equal_is}
use Rattle.rows_sql.proofs.Trees.{same_row}
use Rattle.rows_sql.proofs.Columns.{told}
use Rattle.rows_sql.proofs.Stores.{rule_kept}

abbrev pub same_lock : Row → Row → Bool
same_lock r new = equal Binary (column r 1) (column new 1) && (equal Binary (column r 2) (column new 2) && (equal Binary (column r 3) (column new 3) && true))

abbrev pub same_name : Row → Row → Bool
same_name r new = equal Binary (column r 1) (column new 1) && true

pub lock_clash : (new r : Row) → conflicts (Some (1 ∷ 2 ∷ 3 ∷ [])) the_schema.indexes locks new r ≡ same_lock r new
unfolding first_key
lock_clash new r = alone_or _

pub session_clash : (new r : Row) → conflicts (Some (0 ∷ [])) the_schema.indexes sessions new r ≡ (equal Binary (rowid r) (rowid new) && true)
unfolding first_key
session_clash new r = alone_or _

ne_is : (o : Ordering) → is_ne o ≡ not (is_eq o)
ne_is Less = refl
ne_is Equal = refl
ne_is Greater = refl

differ-Int : (a b : ℤ) → differ (Int a) (Int b) ≡ not (int_eq a b)
unfolding binary
differ-Int a b = told _ ∙ ap is_ne (value_cmp-Int a b) ∙ ne_is (int_cmp a b)

-- rows whose keys agree are one, where no row clashes
one_of_key : (es : List Row) (key : Row → Row → Bool) (a b : Row) → IsShaped shape.Table es → Has es a → Has es b → list_any (λ x. key x b && differ (rowid x) (rowid b)) es ≡ false → key a b ≡ true → a ≡ b
one_of_key es key a b shaped ha hb unique same = elim (cases_Bool (int_eq (id_in (rowid a)) (id_in (rowid b)))) [
  | inl t ↦ same_row es a b shaped.0 ha hb (ap₂ value_cmp (int_is _ (all_has _ es a shaped.1 ha)) (int_is _ (all_has _ es b shaped.1 hb)) ∙ value_cmp-Int _ _ ∙ equal_is _ t)
  | inr f ↦ absurd (both_ways _ unique (some_from _ es a ha (and_from _ _ same (ap₂ differ (int_is _ (all_has _ es a shaped.1 ha)) (int_is _ (all_has _ es b shaped.1 hb)) ∙ differ-Int _ _ ∙ ap not f))))
]

module _ (db : Database) (store : IsStore db) where
  lock_unique : (r : Row) → Has (db.trees 5) r → list_any (λ x. same_lock x r && differ (rowid x) (rowid r)) (db.trees 5) ≡ false
  unfolding first_key
  lock_unique r h = not-true _ (and_parts _ _ (all_has _ (db.trees 5) r (rule_kept db store Unique).1.1.1.0 h)).0

  pub one_lock : (a b : Row) → Has (db.trees 5) a → Has (db.trees 5) b → same_lock a b ≡ true → a ≡ b
  one_lock a b ha hb same = one_of_key (db.trees 5) same_lock a b store.locks ha hb (lock_unique b hb) same

  name_unique : (r : Row) → Has (db.trees 1) r → list_any (λ x. same_name x r && differ (rowid x) (rowid r)) (db.trees 1) ≡ false
  unfolding first_key
  name_unique r h = not-true _ (and_parts _ _ (all_has _ (db.trees 1) r (rule_kept db store Unique).1.0 h)).0

  pub one_node : (a b : Row) → Has (db.trees 1) a → Has (db.trees 1) b → same_name a b ≡ true → a ≡ b
  one_node a b ha hb same = one_of_key (db.trees 1) same_name a b store.nodes ha hb (name_unique b hb) same
