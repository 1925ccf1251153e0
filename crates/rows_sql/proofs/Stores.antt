-- A store of which one table was written.
use Rattle.std.proofs.Common.{◌≡◌, ◌≢◌, ℕ, ◌==◌, List, [], ◌∷◌, map, Option, Some, Ordering, sym, ap, ◌∙◌, subst, inl, inr, arith}
use Rattle.std.specs.List.{AllByRecursion}
use Rattle.std.proofs.lemmas.Bool.{cases_Bool, and_parts}
use Rattle.std.proofs.lemmas.Bool.Decides.{nat_tests}
use Rattle.sqlite_value.specs.Order.{Row}
use Rattle.sqlite.specs.Effect.{Database, IsDatabase}
use Rattle.sqlite.specs.Table.{Table}
use Rattle.sqlite.specs.View.{IsShaped}
use Rattle.sqlite_trees.specs.declared.store.Shape.TheVariants as shape
use Rattle.sqlite_schema.specs.declared.schema.Constraint.{Constraint}
use Rattle.sqlite_schema.specs.declared.schema.Constraint.TheVariants.{Datatype, NotNull}
use Rattle.sqlite_schema.specs.Rules.{Keeps}
use Rattle.sqlite_rules.specs.Lists.{Has}
use Rattle.sqlite_rules.proofs.ListLemmas.{all_has}
use Rattle.rows_sql.specs.OurSchema.{the_schema}
use Rattle.rows_cell.specs.declared.tables.Rows.{Rows}
use Rattle.rows_sql.specs.declared.schema.ours.Version.{Version}
use Rattle.rows_sql.specs.Decode.{meta_as}
use Rattle.rows_sql.specs.Children.{Parents}
use Rattle.rows_cell.specs.declared.tables.SessionRow.{SessionRow}
use Rattle.rows_cell.specs.Rows.{StoredNodes, StoredLocks}
use Rattle.sqlite_trees.proofs.ListLemmas.{map-map}
use Rattle.std.specs.List.Sorted.{IsPermutation}
use Rattle.rows_sql.specs.Held.{Holds, SaysWith, HoldsNodes, HoldsSessions, HoldsLocks, meta_of}
use Rattle.rows_sql.specs.Ready.{tables_of, meta_shown, node_shown, session_shown, lock_shown}
use Rattle.rows_sql.specs.Ongoing.{IsStore}
use Rattle.rows_sql.proofs.Columns.{IsMetaRow, IsNodeRow, IsSessionRow, IsLockRow, meta_typed, node_typed, session_typed, lock_typed}

-- the tables are as before, but for that of one tree
abbrev pub SameOthers : ℕ → Database → Database → Type 0
SameOthers at old new = AllByRecursion (λ (t : Table). t.tree ≢ at → new.trees t.tree ≡ old.trees t.tree) the_schema.tables

stays : (at t : ℕ) (old new : Database) → IsShaped shape.Table (new.trees at) → (t ≢ at → new.trees t ≡ old.trees t) → IsShaped shape.Table (old.trees t) → IsShaped shape.Table (new.trees t)
stays at t old new shaped same was = elim (cases_Bool (t == at)) [
  | inl same_tree ↦ let is : t ≡ at = grind (arith, nat_tests) in subst (λ k. IsShaped shape.Table (new.trees k)) (sym is) shaped
  | inr other_tree ↦ let apart : t ≢ at = λ e. grind (arith, nat_tests) in subst (IsShaped shape.Table) (sym (same apart)) was
]

-- it is a store still
pub still_store : (at : ℕ) (old new : Database) → IsStore old → new.schema ≡ the_schema → IsDatabase new → IsShaped shape.Table (new.trees at) → SameOthers at old new → IsStore new
still_store at old new store schema sound shaped others = record {
  schema = schema;
  sound = sound;
  metas = stays at 0 old new shaped others.0 store.metas;
  nodes = stays at 1 old new shaped others.1.0 store.nodes;
  sessions = stays at 4 old new shaped others.1.1.0 store.sessions;
  locks = stays at 5 old new shaped others.1.1.1.0 store.locks;
}

-- ---- the rows of a store have values of the types of their columns

module _ (db : Database) (store : IsStore db) where
  pub rule_kept : (rule : Constraint) → Keeps rule the_schema db.trees
  rule_kept rule = subst (λ s. Keeps rule s db.trees) store.schema (store.sound.obeys.rules rule)

  pub meta_rows : (r : Row) → Has (db.trees 0) r → IsMetaRow r
  meta_rows r h = meta_typed r (and_parts _ _ (all_has _ (db.trees 0) r (rule_kept Datatype).0 h)).0 (all_has _ (db.trees 0) r (rule_kept NotNull).0 h)

  pub node_rows : (r : Row) → Has (db.trees 1) r → IsNodeRow r
  node_rows r h = node_typed r (and_parts _ _ (all_has _ (db.trees 1) r (rule_kept Datatype).1.0 h)).0 (all_has _ (db.trees 1) r (rule_kept NotNull).1.0 h)

  pub session_rows : (r : Row) → Has (db.trees 4) r → IsSessionRow r
  session_rows r h = session_typed r (and_parts _ _ (all_has _ (db.trees 4) r (rule_kept Datatype).1.1.0 h)).0 (all_has _ (db.trees 4) r (rule_kept NotNull).1.1.0 h)

  pub lock_rows : (r : Row) → Has (db.trees 5) r → IsLockRow r
  lock_rows r h = lock_typed r (and_parts _ _ (all_has _ (db.trees 5) r (rule_kept Datatype).1.1.1.0 h)).0 (all_has _ (db.trees 5) r (rule_kept NotNull).1.1.1.0 h)

-- one tree has these rows, and the other tables are as before
pub record Rewrote (at : ℕ) (rows : List Row) (old new : Database) : Type 0 where
  pub store : IsStore new
  pub tree : new.trees at ≡ rows
  pub others : SameOthers at old new

-- ---- what the tables say once one of them was written

module _ {K V : Type 0} (cmp : K → K → Ordering) (read : Row → Option (K × V)) (shown : Row → Row) (rows : List Row) (entries : List (K × V)) where
  -- the rows of a tree say what is shown of them
  pub held_as_shown : Holds cmp read (map shown rows) entries → Holds cmp (λ r. read (shown r)) rows entries
  held_as_shown h = record { sorted = h.sorted; said = subst (IsPermutation (map (λ e. Some e) entries)) (map-map read shown rows) h.said }

  pub shown_as_held : Holds cmp (λ r. read (shown r)) rows entries → Holds cmp read (map shown rows) entries
  shown_as_held h = record { sorted = h.sorted; said = subst (IsPermutation (map (λ e. Some e) entries)) (sym (map-map read shown rows)) h.said }

module _ (old new : Database) (rows : List Row) where
  metas_kept : (at : ℕ) → 0 ≢ at → Rewrote at rows old new → new.trees 0 ≡ old.trees 0
  metas_kept at apart done = done.others.0 apart

  nodes_kept : (at : ℕ) → 1 ≢ at → Rewrote at rows old new → new.trees 1 ≡ old.trees 1
  nodes_kept at apart done = done.others.1.0 apart

  sessions_kept : (at : ℕ) → 4 ≢ at → Rewrote at rows old new → new.trees 4 ≡ old.trees 4
  sessions_kept at apart done = done.others.1.1.0 apart

  locks_kept : (at : ℕ) → 5 ≢ at → Rewrote at rows old new → new.trees 5 ≡ old.trees 5
  locks_kept at apart done = done.others.1.1.1.0 apart

  module _ (version : Version) (was : Rows) (children : Parents) (h : SaysWith version (tables_of old.trees) was children) where
    -- the row of the cell
    pub metas_say : Rewrote 0 rows old new → (kind : Version) (is : Rows) → is.nodes ≡ was.nodes → is.sessions ≡ was.sessions → is.locks ≡ was.locks
        → map (meta_as kind) (map meta_shown rows) ≡ Some (meta_of is) ∷ [] → SaysWith kind (tables_of new.trees) is children
    metas_say done kind is n s l said = record {
      meta = ap (λ rs. map (meta_as kind) (map meta_shown rs)) done.tree ∙ said;
      nodes = subst (HoldsNodes _) (sym n) (subst (λ rs. HoldsNodes (map node_shown rs) was.nodes) (sym (nodes_kept 0 (λ e. absurd (omega (arith, e))) done)) h.nodes);
      sessions = subst (HoldsSessions _) (sym s) (subst (λ rs. HoldsSessions (map session_shown rs) was.sessions) (sym (sessions_kept 0 (λ e. absurd (omega (arith, e))) done)) h.sessions);
      locks = subst (HoldsLocks _) (sym l) (subst (λ rs. HoldsLocks (map lock_shown rs) was.locks) (sym (locks_kept 0 (λ e. absurd (omega (arith, e))) done)) h.locks);
      children = h.children;
    }

    pub nodes_say : Rewrote 1 rows old new → (nodes : StoredNodes) → HoldsNodes (map node_shown rows) nodes → SaysWith version (tables_of new.trees) (record was { nodes = nodes }) children
    nodes_say done nodes said = record {
      meta = ap (λ rs. map (meta_as version) (map meta_shown rs)) (metas_kept 1 (λ e. absurd (omega (arith, e))) done) ∙ h.meta;
      nodes = subst (λ rs. HoldsNodes (map node_shown rs) nodes) (sym done.tree) said;
      sessions = subst (λ rs. HoldsSessions (map session_shown rs) was.sessions) (sym (sessions_kept 1 (λ e. absurd (omega (arith, e))) done)) h.sessions;
      locks = subst (λ rs. HoldsLocks (map lock_shown rs) was.locks) (sym (locks_kept 1 (λ e. absurd (omega (arith, e))) done)) h.locks;
      children = h.children;
    }

    pub sessions_say : Rewrote 4 rows old new → (sessions : List (ℕ × SessionRow)) → HoldsSessions (map session_shown rows) sessions → SaysWith version (tables_of new.trees) (record was { sessions = sessions }) children
    sessions_say done sessions said = record {
      meta = ap (λ rs. map (meta_as version) (map meta_shown rs)) (metas_kept 4 (λ e. absurd (omega (arith, e))) done) ∙ h.meta;
      nodes = subst (λ rs. HoldsNodes (map node_shown rs) was.nodes) (sym (nodes_kept 4 (λ e. absurd (omega (arith, e))) done)) h.nodes;
      sessions = subst (λ rs. HoldsSessions (map session_shown rs) sessions) (sym done.tree) said;
      locks = subst (λ rs. HoldsLocks (map lock_shown rs) was.locks) (sym (locks_kept 4 (λ e. absurd (omega (arith, e))) done)) h.locks;
      children = h.children;
    }

    pub locks_say : Rewrote 5 rows old new → (locks : StoredLocks) → HoldsLocks (map lock_shown rows) locks → SaysWith version (tables_of new.trees) (record was { locks = locks }) children
    locks_say done locks said = record {
      meta = ap (λ rs. map (meta_as version) (map meta_shown rs)) (metas_kept 5 (λ e. absurd (omega (arith, e))) done) ∙ h.meta;
      nodes = subst (λ rs. HoldsNodes (map node_shown rs) was.nodes) (sym (nodes_kept 5 (λ e. absurd (omega (arith, e))) done)) h.nodes;
      sessions = subst (λ rs. HoldsSessions (map session_shown rs) was.sessions) (sym (sessions_kept 5 (λ e. absurd (omega (arith, e))) done)) h.sessions;
      locks = subst (λ rs. HoldsLocks (map lock_shown rs) locks) (sym done.tree) said;
      children = h.children;
    }
