-- What the statement makes of the tables that removes a session.
use Rattle.std.proofs.Common.{◌≡◌, ℕ, ℤ, Bool, true, not, ◌&&◌, List, [], ◌∷◌, filter, None, Some, Ok, refl, sym, ap, ◌∙◌, subst}
use Rattle.std.specs.BTreeMap.{is_at}
use Rattle.std.specs.Ordering.{nat_cmp}
use Rattle.std.proofs.lemmas.Cmp.{nat_cmp_total}
use Rattle.sqlite_value.specs.declared.value.Value.TheVariants.{Int}
use Rattle.sqlite_value.specs.declared.value.ValueRef.{ValueRef}
use Rattle.sqlite_value.specs.declared.keys.Collation.TheVariants.{Binary}
use Rattle.sqlite_value.specs.Order.{Row, column}
use Rattle.sqlite_value.specs.Keys.{joined}
use Rattle.sqlite.specs.Term.{Term, col}
use Rattle.sqlite.specs.Tree.{rowid}
use Rattle.sqlite.specs.Edit.{id_in}
use Rattle.sqlite.specs.Values.{bound}
use Rattle.sqlite.specs.View.{IsShaped}
use Rattle.sqlite_trees.specs.declared.store.Shape.TheVariants as shape
use Rattle.sqlite_trees.proofs.TreeLemmas.{IsShaped-filter}
use Rattle.sqlite.specs.Command.TheVariants.{Delete}
use Rattle.sqlite_schema.specs.declared.program.Program.{Program}
use Rattle.sqlite_schema.specs.declared.schema.Keys.TheVariants.{Enforced}
use Rattle.sqlite_schema.specs.Names.{same_name}
use Rattle.sqlite_schema.specs.Rules.{equal}
use Rattle.sqlite_rules.specs.Action.{works}
use Rattle.sqlite_rules.specs.Lists.{Has}
use Rattle.sqlite_rules.proofs.ListLemmas.{all_has}
use Rattle.sqlite_rules.proofs.TableLemmas.{int_is}
use Rattle.sqlite.specs.Listing.{understood}
use Rattle.sqlite.specs.State.{State, Executes, Writes}
use Rattle.sqlite.proofs.Callers.{runs_as, statement_of}
use Rattle.rows_cell.specs.declared.tables.SessionRow.{SessionRow}
use Rattle.rows_cell.specs.declared.tables.Edit.TheVariants.{RemoveSession}
use Rattle.rows_sql.specs.OurSchema.{the_schema, sessions}
use Rattle.rows_sql.specs.Commands.{over}
use Rattle.rows_sql.specs.Decode.{count_of, count_in, live_of, component_in, session_in}
use Rattle.rows_sql.specs.Ready.{session_shown}
use Rattle.rows_sql.specs.declared.schema.ours.Version.TheVariants.{Third}
use Rattle.rows_sql.specs.WriteTexts.{remove_session_text}
use Rattle.rows_sql.specs.WriteCommands.{is, remove_session_command}
use Rattle.rows_sql.specs.Numbers.{IsNumber}
use Rattle.rows_sql.specs.Ongoing.{IsStore, RanInside, Changed}
use Rattle.rows_sql.proofs.WriteMeaning.{remove_session_is, remove_session_plain}
use Rattle.rows_sql.proofs.Counts.{equal_counts}
use Rattle.rows_sql.proofs.Deletes as deletes
use Rattle.rows_sql.proofs.Entries.{holds_removed}
use Rattle.rows_sql.proofs.PutSession.{client_said}
use Rattle.rows_sql.proofs.Stores.{Rewrote, still_store, sessions_say, held_as_shown, shown_as_held}
use Rattle.rows_sql.proofs.Truths.{alone_and}

abbrev terms : List Term
terms = is (col 1 0) (col 0 0) ∷ []

no_action : (olds : List Row) → works the_schema Enforced 0 4 olds [] ≡ []
unfolding same_name joined
no_action olds = refl

abbrev q : Program
q = record { lets = []; body = over 4 terms (col 1 0 ∷ []) }

module _ (c : ℤ) where
  abbrev params : Row
  params = Int c ∷ []

  -- the row is that of the client
  abbrev is_its : Row → Bool
  is_its r = equal Binary (rowid r) (Int c) && true

  session_removed : (old new : State) (count : ℕ) → IsStore old.now → Executes remove_session_text params old new (Ok count) → Rewrote 4 (filter (λ r. not (is_its r)) (old.now.trees 4)) old.now new.now
  session_removed old new count store ran =
      let text = statement_of remove_session_text (understood the_schema remove_session_text) in
      let w : Writes old new None (Delete 2 q) text params count = runs_as remove_session_text params old new the_schema store.schema remove_session_command remove_session_is remove_session_plain count ran in
      let wrote = deletes.wrote 2 sessions refl text params old new store.schema (Delete 2 q) count w (λ _ _ _. refl) in
      let d = deletes.deleted 2 sessions refl text params old new store.schema terms refl store.sessions wrote in
      let applied = deletes.only_deleted 2 sessions refl text params old new store.schema terms refl no_action d in
      let rows : new.now.trees 4 ≡ filter (λ r. not (is_its r)) (old.now.trees 4) = applied.rows ∙ d.left in
      let shaped : IsShaped shape.Table (new.now.trees 4) = subst (IsShaped shape.Table) (sym rows) (IsShaped-filter shape.Table _ _ store.sessions) in
      record { store = still_store 4 old.now new.now store wrote.schema w.sound shaped applied.tables; tree = rows; others = applied.tables }

  tested : (old : State) → IsStore old.now → (client : ℕ) → count_of c ≡ Some client → (r : Row) → Has (old.now.trees 4) r → (e : ℕ × SessionRow) → session_in (session_shown r) ≡ Some e → is_its r ≡ is_at (nat_cmp client) e.0
  tested old store client counted r there e says =
      let int_at : rowid r ≡ Int (id_in (rowid r)) = int_is (rowid r) (all_has _ (old.now.trees 4) r store.sessions.1 there) in
      alone_and _ ∙ ap (λ v. equal Binary v (Int c)) int_at
      ∙ equal_counts (id_in (rowid r)) c e.0 client (client_said (count_in (column r 0)) (live_of (id_in (column r 3))) (component_in (column r 2)) e says) counted

pub session_gone : (client : ℕ) (c : ValueRef) → IsNumber c client → (old new : State) → RanInside remove_session_text (bound (c ∷ [])) old new → Changed (RemoveSession client ∷ []) old new
session_gone client c nc old new run =
    let r = rw nc.1 at run in
    let done = λ (store : IsStore old.now). session_removed nc.0 old new r.count store r.ran in
    let goes = is_its nc.0 in
    record {
      store = λ store. (done store).store;
      says = λ store rows said. sessions_say old.now new.now _ Third rows [] said (done store) _
          (shown_as_held nat_cmp session_in session_shown (filter (λ x. not (goes x)) (old.now.trees 4)) _
          (holds_removed nat_cmp nat_cmp_total (λ x. session_in (session_shown x)) (old.now.trees 4) rows.sessions (held_as_shown nat_cmp session_in session_shown (old.now.trees 4) rows.sessions said.sessions) client goes
          (tested nc.0 old store client nc.2)));
    }
