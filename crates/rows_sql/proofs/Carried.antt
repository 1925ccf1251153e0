-- A store of an earlier version, carried over step by step.
use Rattle.std.proofs.Common.{◌≡◌, ℕ, Bool, true≢false, [], ◌∷◌, Some, None, Ok, inl, inr, refl, sym, ap, subst, ◌∙◌, arith, slice_get}
use Rattle.std.specs.Prelude.{true, false, map, MatchBool}
use Rattle.std.specs.Ordering.{nat_cmp}
use Rattle.std.specs.Cmp.Lexicographic.{slice_cmp}
use Rattle.std.proofs.lemmas.Cmp.{nat_list_cmp_total}
use Rattle.sqlite.specs.Table.{Table}
use Rattle.sqlite.specs.Tree.{Trees}
use Rattle.sqlite.specs.Schema.{Schema}
use Rattle.sqlite.specs.Command.TheVariants.{DropTable}
use Rattle.sqlite.specs.Change.{without_table}
use Rattle.sqlite.specs.Does.{Tally, AtPlace, Drops, is_acted_on}
use Rattle.sqlite.specs.Given.{IsPlain}
use Rattle.sqlite.specs.Listing.{understood}
use Rattle.sqlite.specs.Effect.{Database}
use Rattle.sqlite.specs.State.{State, HasCleanDisk, Survives, Shows, Writes, mode_of}
use Rattle.sqlite.specs.Held.{Held, state}
use Rattle.sqlite.specs.View.{IsShaped}
use Rattle.sqlite.proofs.StateLemmas.{survives_then}
use Rattle.sqlite.proofs.Callers.{survives_begin, command_of, statement_of, runs_as}
use Rattle.sqlite_catalog.specs.Change.{KeepsRows}
use Rattle.sqlite_schema.specs.declared.schema.Keys.TheVariants.{Enforced}
use Rattle.sqlite_trees.specs.declared.store.Store.{Ghosts}
use Rattle.sqlite_trees.specs.declared.store.Shape.TheVariants as shape
use Rattle.rows_cell.specs.declared.tables.Rows.{Rows}
use Rattle.rows_sql.specs.declared.schema.ours.Version.{Version}
use Rattle.rows_sql.specs.declared.schema.ours.Version.TheVariants.{First, Third}
use Rattle.rows_sql.specs.OurSchema.{children, first_schema, unindexed_schema, second_schema}
use Rattle.rows_sql.specs.Versions.{schema_of, IsEarlier, HasFifth}
use Rattle.rows_sql.specs.Decode.{child_in, meta_as}
use Rattle.rows_sql.specs.Held.{Says, SaysAs, SaysWith, HoldsNodes, HoldsSessions, HoldsLocks}
use Rattle.rows_sql.specs.Ready.{tables_of, tables_as, meta_shown, node_shown, session_shown, lock_shown}
use Rattle.rows_sql.specs.Ongoing.{IsStoreBy, IsStore, RanInside}
use Rattle.rows_sql.specs.Creation.{AddsView, HasView, IsStoreOf}
use Rattle.rows_sql.specs.Carrying.{drop_children_text, HasFour, DropsChildren, LeavesFour, SetsVersion, Carries, IsCarried, MayCarry}
use Rattle.rows_sql.proofs.Held.{holds_none}
use Rattle.rows_sql.proofs.Deletes.{went, same_value}
use Rattle.rows_sql.proofs.MeaningOfCreation.{drop_second, drop_second_plain, drop_unindexed, drop_unindexed_plain, second_idle, unindexed_idle}

-- ---- the fifth table goes

of_two : (b : Bool) (P Q : Type 0) → b ≡ false → MatchBool b P Q → Q
of_two true P Q e h = absurd (true≢false e)
of_two false P Q e h = h

abbrev AtFifth : State → Schema → Tally × Database → Type 0
AtFifth old schema out =
    AtPlace (λ (t : Table). Drops (record { limit = old.step_limit; keys = Enforced; schema = schema; table = t; params = [] }) (mode_of old) old.now.trees) (slice_get schema.tables 4) (Ok out)

module _ (schema : Schema) (is : command_of (understood schema drop_children_text) ≡ DropTable 4) (plain : IsPlain (understood schema drop_children_text)) (placed : slice_get schema.tables 4 ≡ Some children)
    (idle : is_acted_on schema Enforced children ≡ false) (four : without_table schema 7 ≡ first_schema) where
  abbrev AtTable : State → Tally × Database → Type 0
  AtTable old out = Drops (record { limit = old.step_limit; keys = Enforced; schema = schema; table = children; params = [] }) (mode_of old) old.now.trees (Ok out)

  drops : (old new : State) → RanInside drop_children_text [] old new → old.now.schema ≡ schema → HasFour old.now new.now
  drops old new run has =
      let text = statement_of drop_children_text (understood schema drop_children_text) in
      let w : Writes old new None (DropTable 4) text [] run.count = runs_as drop_children_text [] old new schema has (DropTable 4) is plain run.count run.ran in
      let at_schema : AtFifth old schema (w.tally, new.now) = subst (λ s. AtFifth old s (w.tally, new.now)) has w.changed in
      let at_table : AtTable old (w.tally, new.now) =
      subst (λ o. AtPlace (λ (t : Table). Drops (record { limit = old.step_limit; keys = Enforced; schema = schema; table = t; params = [] }) (mode_of old) old.now.trees) o (Ok (w.tally, new.now))) placed at_schema in
      let emptied = went at_table in
      let uncounted = went emptied.2 in
      let tested = went uncounted.2 in
      let after = went tested.2 in
      let first : emptied.0 ≡ old.now.trees = same_value (of_two (is_acted_on schema Enforced children) _ _ idle emptied.1) in
      let second : uncounted.0 ≡ emptied.0 = same_value uncounted.1 in
      let now : new.now ≡ after.0 = ap (λ (p : Tally × Database). p.1) (same_value after.2) in
      let kept : KeepsRows first_schema.tables uncounted.0 after.0.trees = subst (λ (s : Schema). KeepsRows s.tables uncounted.0 after.0.trees) four after.1.1 in
      record {
        schema = ap (λ (d : Database). d.schema) now ∙ after.1.0 ∙ four;
        sound = w.sound;
        kept = subst (λ (d : Database). KeepsRows first_schema.tables old.now.trees d.trees) (sym now) (subst (λ (t : Trees). KeepsRows first_schema.tables t after.0.trees) (second ∙ first) kept);
      }

pub drops_children : (old new : State) → RanInside drop_children_text [] old new → DropsChildren old new
drops_children old new run version (inl is) has = drops unindexed_schema drop_unindexed drop_unindexed_plain refl unindexed_idle refl old new run (has ∙ ap schema_of is)
drops_children old new run version (inr is) has = drops second_schema drop_second drop_second_plain refl second_idle refl old new run (has ∙ ap schema_of is)

-- nothing is beside the four tables of the first version
pub first_has_four : (version : Version) (s : State) → version ≡ First → LeavesFour version s s
first_has_four version s is earlier store = record { schema = store.schema ∙ ap schema_of is; sound = store.sound; kept = (refl, (refl, (refl, (refl, tt)))) }

-- a store of now is of no earlier version
pub now_is_left : (version : Version) (s : State) → version ≡ Third → LeavesFour version s s
now_is_left version s is earlier store = absurd (subst IsEarlier is earlier)

pub fifth_dropped : (version : Version) (old new : State) → HasFifth version → DropsChildren old new → LeavesFour version old new
fifth_dropped version old new fifth drop earlier store = drop version fifth store.schema

-- ---- the view is made, and the number of the version set

module _ (version : Version) (a b c : State) (was : IsStoreBy (schema_of version) a.now) (four : HasFour a.now b.now) (view : HasView b.now c.now) where
  metas_kept : c.now.trees 0 ≡ a.now.trees 0
  metas_kept = view.kept.0 ∙ four.kept.0

  nodes_kept : c.now.trees 1 ≡ a.now.trees 1
  nodes_kept = view.kept.1.0 ∙ four.kept.1.0

  sessions_kept : c.now.trees 4 ≡ a.now.trees 4
  sessions_kept = view.kept.1.1.0 ∙ four.kept.1.1.0

  locks_kept : c.now.trees 5 ≡ a.now.trees 5
  locks_kept = view.kept.1.1.1.0 ∙ four.kept.1.1.1.0

  viewed_store : IsStore c.now
  viewed_store = record {
    schema = view.schema;
    sound = view.sound;
    metas = subst (IsShaped shape.Table) (sym metas_kept) was.metas;
    nodes = subst (IsShaped shape.Table) (sym nodes_kept) was.nodes;
    sessions = subst (IsShaped shape.Table) (sym sessions_kept) was.sessions;
    locks = subst (IsShaped shape.Table) (sym locks_kept) was.locks;
  }

  viewed_says : (rows : Rows) → SaysAs version (tables_as version a.now.trees) rows → SaysWith version (tables_of c.now.trees) rows []
  viewed_says rows h = record {
    meta = ap (λ rs. map (meta_as version) (map meta_shown rs)) metas_kept ∙ h.meta;
    nodes = subst (λ rs. HoldsNodes (map node_shown rs) rows.nodes) (sym nodes_kept) h.nodes;
    sessions = subst (λ rs. HoldsSessions (map session_shown rs) rows.sessions) (sym sessions_kept) h.sessions;
    locks = subst (λ rs. HoldsLocks (map lock_shown rs) rows.locks) (sym locks_kept) h.locks;
    children = holds_none (slice_cmp nat_cmp) nat_list_cmp_total child_in;
  }

pub carries : (version : Version) (epoch : ℕ) (a b c d : State) → LeavesFour version a b → AddsView b c → SetsVersion epoch c d → Carries version epoch a d
carries version epoch a b c d leaves adds set earlier was rows h =
    let four = leaves earlier was in
    let view = adds four.schema in
    let store = viewed_store version a b c was four view in
    record { store = set.store store; said = set.says store version earlier rows (viewed_says version a b c was four view rows h) }

-- ---- the ends of the transaction

pub carried_all : {S : Type 0} (g : Ghosts S) (old : Held S) (version : Version) (epoch : ℕ) (mid last : State) → Carries version epoch (state g (record old { in_transaction = true })) mid → Shows mid last mid.now mid.now false → IsCarried version epoch (state g old) last
carried_all g old version epoch mid last did shown = record {
  carried = λ earlier was rows h. subst (IsStoreOf (record rows { epoch = epoch })) (sym shown.now_is) (did earlier was rows h);
  is_open = shown.is_open;
  committed = shown.committed_is ∙ sym shown.now_is;
}

pub survives_carried : {S : Type 0} (g : Ghosts S) (old : Held S) (version : Version) (epoch : ℕ) (mid last : State) → Survives (state g (record old { in_transaction = true })) mid (λ _. ⊥)
    → (HasCleanDisk mid → Carries version epoch (state g (record old { in_transaction = true })) mid) → Survives mid last (λ db. db ≡ mid.now.trees) → Survives (state g old) last (MayCarry version epoch (state g old))
survives_carried g old version epoch mid last before did after =
    survives_then (state g old) mid last (λ _. ⊥) (λ db. db ≡ mid.now.trees) (MayCarry version epoch (state g old)) (λ _ db none. absurd none)
    (λ clean db is earlier was rows h. subst (λ (t : Trees). Says (tables_of t) (record rows { epoch = epoch })) (sym is) (did (omega (arith, clean, after.clean)) earlier was rows h).said) (survives_begin g old mid (λ _. ⊥) before) after

pub survives_uncarried : {S : Type 0} (g : Ghosts S) (old : Held S) (version : Version) (epoch : ℕ) (mid last : State) → Survives (state g (record old { in_transaction = true })) mid (λ _. ⊥)
    → Survives mid last (λ _. ⊥) → Survives (state g old) last (MayCarry version epoch (state g old))
survives_uncarried g old version epoch mid last before after =
    survives_then (state g old) mid last (λ _. ⊥) (λ _. ⊥) (MayCarry version epoch (state g old)) (λ _ db none. absurd none) (λ _ db none. absurd none) (survives_begin g old mid (λ _. ⊥) before) after
