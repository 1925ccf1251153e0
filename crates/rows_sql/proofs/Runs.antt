-- What a statement makes of the store that updates a table, or puts a row into it, or inserts one.
use Rattle.std.proofs.Common.{◌≡◌, ◌⊎◌, ℕ, true, List, [], map, filter, slice_get, Some, None, Ok, ◌∷◌, refl, sym, subst, ◌∙◌}
use Rattle.std.specs.Prelude.{length}
use Rattle.sqlite_value.specs.Order.{Row}
use Rattle.sqlite.specs.Term.{Term}
use Rattle.sqlite.specs.Program.{overlay}
use Rattle.sqlite.specs.Table.{Table}
use Rattle.sqlite.specs.Command.TheVariants.{Insert, Update, InsertOr}
use Rattle.sqlite.specs.Source.TheVariants.{Values}
use Rattle.sqlite_schema.specs.declared.command.Upsert.{Upsert}
use Rattle.sqlite_schema.specs.declared.command.Conflict.TheVariants.{Abort}
use Rattle.sqlite_schema.specs.declared.program.Program.{Program}
use Rattle.sqlite_rules.specs.Lists.{Has}
use Rattle.sqlite.specs.Listing.{understood}
use Rattle.sqlite.specs.Given.{IsPlain}
use Rattle.sqlite.specs.State.{State, Executes, Writes}
use Rattle.sqlite.proofs.Callers.{command_of, runs_as, statement_of}
use Rattle.rows_sql.specs.OurSchema.{the_schema}
use Rattle.rows_sql.specs.Commands.{over}
use Rattle.rows_sql.specs.Ongoing.{IsStore}
use Rattle.rows_sql.proofs.Trees.{renewed}
use Rattle.rows_sql.proofs.Query.{passes}
use Rattle.rows_sql.proofs.Deletes as deletes
use Rattle.rows_sql.proofs.Inserts as inserts
use Rattle.rows_sql.proofs.Stores.{Rewrote, still_store}
use Rattle.rows_sql.proofs.Updates as updates
use Rattle.rows_sql.proofs.Upserts as upserts

module _ (at : ℕ) (table : Table) (placed : slice_get the_schema.tables at ≡ Some table) (sql : List ℕ) (terms project : List Term) (params : Row) (old new_state : State)
    (plainly : overlay old.now.trees [] table.tree ≡ old.now.trees table.tree) where
  abbrev q : Program
  q = record { lets = []; body = over table.tree terms project }

  pub ran_update : command_of (understood the_schema sql) ≡ Update at q → IsPlain (understood the_schema sql) → (becomes : Row → Row) → IsStore old.now
      → updates.Renews old.step_limit table params params old.now.trees terms project plainly becomes → (count : ℕ) → Executes sql params old new_state (Ok count)
      → ((filter (passes table.tree terms project params) (old.now.trees table.tree) ≡ [])
      ⊎ ((r : Row) × Has (old.now.trees table.tree) r × (passes table.tree terms project params r ≡ true) × (filter (passes table.tree terms project params) (old.now.trees table.tree) ≡ r ∷ [])))
      × Rewrote table.tree (map (renewed (passes table.tree terms project params) becomes) (old.now.trees table.tree)) old.now new_state.now
  ran_update is plain becomes store how count ran =
      let text = statement_of sql (understood the_schema sql) in
      let w : Writes old new_state None (Update at q) text params count = runs_as sql params old new_state the_schema store.schema (Update at q) is plain count ran in
      let wrote = deletes.wrote at table placed text params old new_state store.schema (Update at q) count w (λ _ _ _. refl) in
      let u = updates.updated old.step_limit table params params old.now.trees terms project plainly wrote.written wrote.did in
      let v = subst (updates.Updated old.step_limit table params params old.now.trees terms project plainly) (sym wrote.trees) u in
      let r = updates.renewed_by old.step_limit table params params old.now.trees terms project plainly becomes new_state.now.trees how v in
      (r.found, record { store = still_store table.tree old.now new_state.now store wrote.schema w.sound r.shaped r.others; tree = r.rows; others = r.others })

  -- it changed as many rows as were found
  pub update_counted : command_of (understood the_schema sql) ≡ Update at q → IsPlain (understood the_schema sql) → IsStore old.now → (count : ℕ) → Executes sql params old new_state (Ok count)
      → count ≡ length (filter (passes table.tree terms project params) (old.now.trees table.tree))
  update_counted is plain store count ran =
      let text = statement_of sql (understood the_schema sql) in
      let w : Writes old new_state None (Update at q) text params count = runs_as sql params old new_state the_schema store.schema (Update at q) is plain count ran in
      let wrote = deletes.wrote at table placed text params old new_state store.schema (Update at q) count w (λ _ _ _. refl) in
      wrote.counted ∙ updates.counted old.step_limit table params params old.now.trees terms project plainly wrote.written wrote.did

  module _ (values : List Term) (width : ℕ) (source new : Row) (target : List ℕ) where
    abbrev clauses : List Upsert
    clauses = record { target = Some target; update = Some q } ∷ []

    abbrev pub CanPut : (Row → Row) → Type 0
    CanPut = upserts.CanPut old.step_limit table params old.now.trees values width source new target terms project plainly

    abbrev pub PutIn : (Row → Row) → Type 0
    PutIn becomes = upserts.PutIn old.step_limit table params old.now.trees values width source new target terms project plainly becomes new_state.now.trees

    pub ran_put : command_of (understood the_schema sql) ≡ InsertOr at Abort (Values values width) clauses → IsPlain (understood the_schema sql) → (becomes : Row → Row) → IsStore old.now
        → CanPut becomes → (count : ℕ) → Executes sql params old new_state (Ok count)
        → PutIn becomes × Rewrote table.tree (new_state.now.trees table.tree) old.now new_state.now
    ran_put is plain becomes store how count ran =
        let text = statement_of sql (understood the_schema sql) in
        let command = InsertOr at Abort (Values values width) clauses in
        let w : Writes old new_state None command text params count = runs_as sql params old new_state the_schema store.schema command is plain count ran in
        let wrote = deletes.wrote at table placed text params old new_state store.schema command count w (λ _ _ _. refl) in
        let p = upserts.upserts old.step_limit table params old.now.trees values width source new target terms project plainly becomes how wrote.written wrote.did in
        let r = subst (upserts.PutIn old.step_limit table params old.now.trees values width source new target terms project plainly becomes) (sym wrote.trees) p in
        (r, record { store = still_store table.tree old.now new_state.now store wrote.schema w.sound r.shaped r.others; tree = refl; others = r.others })

module _ (at : ℕ) (table : Table) (placed : slice_get the_schema.tables at ≡ Some table) (sql : List ℕ) (params : Row) (old new_state : State) (values : List Term) (width : ℕ) (source new : Row) where
  abbrev pub Inserted : Type 0
  Inserted = inserts.Inserted old.step_limit table params old.now.trees values width source new new_state.now.trees

  pub ran_insert : command_of (understood the_schema sql) ≡ Insert at (Values values width) → IsPlain (understood the_schema sql) → IsStore old.now
      → inserts.CanInsert old.step_limit table params old.now.trees values width source new → (count : ℕ) → Executes sql params old new_state (Ok count)
      → Inserted × Rewrote table.tree (new_state.now.trees table.tree) old.now new_state.now
  ran_insert is plain store how count ran =
      let text = statement_of sql (understood the_schema sql) in
      let command = Insert at (Values values width) in
      let w : Writes old new_state None command text params count = runs_as sql params old new_state the_schema store.schema command is plain count ran in
      let wrote = deletes.wrote at table placed text params old new_state store.schema command count w (λ _ _ _. refl) in
      let p = inserts.inserts old.step_limit table params old.now.trees values width source new how wrote.written wrote.did in
      let r = subst (inserts.Inserted old.step_limit table params old.now.trees values width source new) (sym wrote.trees) p in
      (r, record { store = still_store table.tree old.now new_state.now store wrote.schema w.sound r.shaped r.others; tree = refl; others = r.others })
