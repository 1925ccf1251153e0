-- What the statements make of a database that make the tables.
use Rattle.std.proofs.Common.{◌≡◌, ℕ, List, [], ◌∷◌, ◌++◌, false, None, Ok, refl, sym, ap, ap₂, subst, ◌∙◌, arith}
use Rattle.std.specs.Prelude.{codes}
use Rattle.std.proofs.lemmas.Fmt.{decimal_digit}
use Rattle.std.specs.List.{AllByRecursion}
use Rattle.sqlite.specs.Table.{Table}
use Rattle.sqlite.specs.Tree.{Trees}
use Rattle.sqlite.specs.Schema.{Schema}
use Rattle.sqlite.specs.Command.TheVariants.{CreateTable, CreateView}
use Rattle.sqlite.specs.Compile.{table_defined_by}
use Rattle.sqlite.specs.Change.{created, with_view, next_tree}
use Rattle.sqlite.specs.Does.{Tally, Defines, MakesView, lacks_sequence}
use Rattle.sqlite.specs.Given.{IsPlain}
use Rattle.sqlite.specs.Listing.{understood}
use Rattle.sqlite.specs.Effect.{Database, IsDatabase}
use Rattle.sqlite.specs.State.{State, mode_of, Writes, HasCleanDisk}
use Rattle.sqlite.proofs.Callers.{command_of, statement_of, runs_as}
use Rattle.sqlite.proofs.StateLemmas.{survives_then}
use Rattle.sqlite.proofs.InsideLemmas.{keeps_then}
use Rattle.sqlite_catalog.specs.Change.{KeepsRows}
use Rattle.rows_sql.specs.OurSchema.{meta, nodes, sessions, locks, children_text, key_index, first_schema, the_schema}
use Rattle.rows_sql.specs.Ongoing.{RanInside}
use Rattle.rows_sql.specs.Creation.{make_meta_text, make_nodes_text, make_sessions_text, make_locks_text, no_schema, with_meta, with_nodes, with_sessions, Makes, AddsView, StaysInside}
use Rattle.rows_sql.proofs.MeaningOfCreation.{meta_made, meta_made_plain, meta_defined, nodes_made, nodes_made_plain, nodes_defined, sessions_made, sessions_made_plain, sessions_defined, locks_made, locks_made_plain, locks_defined, view_made, view_made_plain, view_defined}
use Rattle.rows_sql.proofs.Deletes.{went, same_value}

-- the tables of before are empty still, and so is one more
empty_more : (old new : Trees) (tables : List Table) (last : Table) → KeepsRows tables old new → AllByRecursion (λ (t : Table). old t.tree ≡ []) tables → new last.tree ≡ [] → AllByRecursion (λ (t : Table). new t.tree ≡ []) (tables ++ last ∷ [])
empty_more old new [] last keeps were is = (is, tt)
empty_more old new (t ∷ tables) last keeps were is = (keeps.0 ∙ were.0, empty_more old new tables last keeps.1 were.1 is)

module _ (sql : List ℕ) (before after : Schema) (table : Table) (made : (command_of (understood before sql) ≡ CreateTable) × (statement_of sql (understood before sql) ≡ sql)) (plain : IsPlain (understood before sql))
    (defined : table_defined_by sql ≡ Ok table) (is : created before table ≡ after) (plainly : lacks_sequence after ≡ false) where
  -- the tables of before keep their rows, and there is one more, without rows
  pub record More (old new : Database) : Type 0 where
    pub schema : new.schema ≡ after
    pub sound : IsDatabase new
    pub kept : KeepsRows before.tables old.trees new.trees
    pub empty : new.trees (next_tree before) ≡ []

  pub creates_more : (old new : State) → RanInside sql [] old new → old.now.schema ≡ before → More old.now new.now
  creates_more old new run has =
      let w = subst (λ t. Writes old new None CreateTable t [] run.count) made.1 (runs_as sql [] old new before has CreateTable made.0 plain run.count run.ran) in
      let all = went w.changed in
      let first = went all.1 in
      let it = first.1 in
      let both : Ok it.table ≡ Ok table = sym it.defined ∙ defined in
      let same : it.table ≡ table = cc in
      let schema : first.0.schema ≡ after = it.is ∙ ap (λ s. created s it.table) has ∙ ap (created before) same ∙ is in
      let lacks : lacks_sequence first.0.schema ≡ false = ap lacks_sequence schema ∙ plainly in
      let now : new.now ≡ first.0 = ap (λ (p : Tally × Database). p.1) (same_value all.2) ∙ same_value (rw lacks at first.2) in
      let none : first.0.trees (next_tree before) ≡ [] = subst (λ s. first.0.trees (next_tree s) ≡ []) has it.empty in
      let others : KeepsRows before.tables old.now.trees first.0.trees = subst (λ (s : Schema). KeepsRows s.tables old.now.trees first.0.trees) has it.others in
      record {
        schema = ap (λ (d : Database). d.schema) now ∙ schema;
        sound = w.sound;
        kept = subst (λ (d : Database). KeepsRows before.tables old.now.trees d.trees) (sym now) others;
        empty = subst (λ (d : Database). d.trees (next_tree before) ≡ []) (sym now) none;
      }

  creates : (old new : State) → RanInside sql [] old new → Makes before after old new
  creates old new run was =
      let m = creates_more old new run was.has in
      let empty : AllByRecursion (λ (t : Table). new.now.trees t.tree ≡ []) (created before table).tables = empty_more old.now.trees new.now.trees before.tables (record table { tree = next_tree before }) m.kept was.empty m.empty in (
        record { has = m.schema; empty = subst (λ (s : Schema). AllByRecursion (λ (t : Table). new.now.trees t.tree ≡ []) s.tables) is empty },
        m.sound,
      )

-- the schema with the nodes, and with the locks, by the numbers of their keys
abbrev nodes_as : List ℕ → List ℕ → Schema
nodes_as a b = record with_nodes { indexes = key_index (codes "sqlite_autoindex_nodes_" ++ a) 2 1 (1 ∷ []) ∷ key_index (codes "sqlite_autoindex_nodes_" ++ b) 3 1 (2 ∷ []) ∷ [] }

abbrev locks_as : List ℕ → Schema
locks_as a = record first_schema { indexes = key_index (codes "sqlite_autoindex_nodes_1") 2 1 (1 ∷ []) ∷ key_index (codes "sqlite_autoindex_nodes_2") 3 1 (2 ∷ []) ∷ key_index (codes "sqlite_autoindex_locks_" ++ a) 6 5 (1 ∷ 2 ∷ 3 ∷ []) ∷ [] }

nodes_created : created with_meta (record nodes { tree = 0 }) ≡ with_nodes
nodes_created = ap₂ nodes_as (decimal_digit 1 (omega arith)) (decimal_digit 2 (omega arith))

locks_created : created with_sessions (record locks { tree = 0 }) ≡ first_schema
locks_created = ap locks_as (decimal_digit 1 (omega arith))

pub makes_meta : (old new : State) → RanInside make_meta_text [] old new → Makes no_schema with_meta old new
makes_meta = creates make_meta_text no_schema with_meta (record meta { tree = 0 }) meta_made meta_made_plain meta_defined refl refl

pub makes_nodes : (old new : State) → RanInside make_nodes_text [] old new → Makes with_meta with_nodes old new
makes_nodes = creates make_nodes_text with_meta with_nodes (record nodes { tree = 0 }) nodes_made nodes_made_plain nodes_defined nodes_created refl

pub makes_sessions : (old new : State) → RanInside make_sessions_text [] old new → Makes with_nodes with_sessions old new
makes_sessions = creates make_sessions_text with_nodes with_sessions (record sessions { tree = 0 }) sessions_made sessions_made_plain sessions_defined refl refl

pub makes_locks : (old new : State) → RanInside make_locks_text [] old new → Makes with_sessions first_schema old new
makes_locks = creates make_locks_text with_sessions first_schema (record locks { tree = 0 }) locks_made locks_made_plain locks_defined locks_created refl

-- ---- the view

abbrev AtView : State → Schema → Tally × Database → Type 0
AtView old schema out = Defines (mode_of old) (MakesView children_text (record { schema = schema; trees = old.now.trees })) (Ok out)

pub adds_view : (old new : State) → RanInside children_text [] old new → AddsView old new
adds_view old new run has =
    let w = subst (λ t. Writes old new None CreateView t [] run.count) view_made.1 (runs_as children_text [] old new first_schema has CreateView view_made.0 view_made_plain run.count run.ran) in
    let placed : AtView old first_schema (w.tally, new.now) = subst (λ s. AtView old s (w.tally, new.now)) has w.changed in
    let all = went placed in
    let it = all.1 in
    let both : Ok it.name ≡ Ok (codes "children") = sym it.defined ∙ view_defined in
    let same : it.name ≡ codes "children" = same_value both in
    let now : new.now ≡ all.0 = ap (λ (p : Tally × Database). p.1) (same_value all.2) in
    record {
      schema = ap (λ (d : Database). d.schema) now ∙ it.is ∙ ap (λ n. with_view first_schema (record { name = n; tree = next_tree first_schema; sql = children_text; foreign = None; binds = false; is_bound = false })) same;
      sound = w.sound;
      kept = subst (λ (d : Database). KeepsRows first_schema.tables old.now.trees d.trees) (sym now) it.rows;
    }

-- tables that keep their rows have none where they had none
empty_still : (old new : Trees) (tables : List Table) → KeepsRows tables old new → AllByRecursion (λ (t : Table). old t.tree ≡ []) tables → AllByRecursion (λ (t : Table). new t.tree ≡ []) tables
empty_still old new [] keeps were = tt
empty_still old new (t ∷ tables) keeps were = (keeps.0 ∙ were.0, empty_still old new tables keeps.1 were.1)

pub makes_view : (old new : State) → RanInside children_text [] old new → Makes first_schema the_schema old new
makes_view old new run was =
    let m = adds_view old new run was.has in
    (record { has = m.schema; empty = empty_still old.now.trees new.now.trees first_schema.tables m.kept was.empty }, m.sound)

-- ---- one step behind another

pub stays_then : (a b c : State) → StaysInside a b → StaysInside b c → StaysInside a c
stays_then a b c first then = record {
  kept = λ clean. keeps_then a b c (first.kept (omega (arith, clean, then.survives.clean))) (then.kept clean);
  survives = survives_then a b c (λ _. ⊥) (λ _. ⊥) (λ _. ⊥) (λ _ db none. none) (λ _ db none. none) first.survives then.survives;
}

pub clean_before : (b c : State) → StaysInside b c → HasCleanDisk c → HasCleanDisk b
clean_before b c then clean = omega (arith, clean, then.survives.clean)
