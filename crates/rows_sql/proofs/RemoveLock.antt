-- What the statement makes of the tables that removes a lock.
use Rattle.std.proofs.Common.{◌≡◌, ℕ, ℤ, not, List, [], ◌∷◌, filter, None, Ok, refl, sym, ◌∙◌, subst}
use Rattle.sqlite_value.specs.declared.value.Value.TheVariants.{Int}
use Rattle.sqlite_value.specs.declared.value.ValueRef.{ValueRef}
use Rattle.sqlite_value.specs.Order.{Row}
use Rattle.sqlite_value.specs.Keys.{joined}
use Rattle.sqlite.specs.Term.{Term, col}
use Rattle.sqlite.specs.Values.{bound}
use Rattle.sqlite.specs.View.{IsShaped}
use Rattle.sqlite_trees.specs.declared.store.Shape.TheVariants as shape
use Rattle.sqlite_trees.proofs.TreeLemmas.{IsShaped-filter}
use Rattle.sqlite.specs.Command.TheVariants.{Delete}
use Rattle.sqlite_schema.specs.declared.program.Program.{Program}
use Rattle.sqlite_schema.specs.declared.schema.Keys.TheVariants.{Enforced}
use Rattle.sqlite_schema.specs.Names.{same_name}
use Rattle.sqlite_rules.specs.Action.{works}
use Rattle.sqlite.specs.Listing.{understood}
use Rattle.sqlite.specs.State.{State, Executes, Writes}
use Rattle.sqlite.proofs.Callers.{runs_as, statement_of}
use Rattle.rows_cell.specs.declared.keys.LockKey.{LockKey}
use Rattle.rows_cell.specs.declared.tables.Edit.TheVariants.{RemoveLock}
use Rattle.rows_cell.specs.Keys.{lock_order}
use Rattle.rows_sql.specs.OurSchema.{the_schema, locks}
use Rattle.rows_sql.specs.Commands.{over}
use Rattle.rows_sql.specs.Decode.{lock_in}
use Rattle.rows_sql.specs.Ready.{lock_shown}
use Rattle.rows_sql.proofs.ReadLoops.{locks_total}
use Rattle.rows_sql.specs.declared.schema.ours.Version.TheVariants.{Third}
use Rattle.rows_sql.specs.WriteTexts.{remove_lock_text}
use Rattle.rows_sql.specs.WriteCommands.{is, remove_lock_command}
use Rattle.rows_sql.specs.Numbers.{IsNumber}
use Rattle.rows_sql.specs.Ongoing.{IsStore, RanInside, Changed}
use Rattle.rows_sql.proofs.WriteMeaning.{remove_lock_is, remove_lock_plain}
use Rattle.rows_sql.proofs.Deletes as deletes
use Rattle.rows_sql.proofs.Entries.{holds_removed}
use Rattle.rows_sql.proofs.LockKeys.{has_key, key_test}
use Rattle.rows_sql.proofs.Stores.{Rewrote, still_store, lock_rows, locks_say, held_as_shown, shown_as_held}

abbrev terms : List Term
terms = is (col 1 1) (col 0 0) ∷ is (col 1 2) (col 0 1) ∷ is (col 1 3) (col 0 2) ∷ []

no_action : (olds : List Row) → works the_schema Enforced 0 5 olds [] ≡ []
unfolding same_name joined
no_action olds = refl

abbrev q : Program
q = record { lets = []; body = over 5 terms (col 1 0 ∷ []) }

module _ (i c h : ℤ) where
  abbrev params : Row
  params = Int i ∷ Int c ∷ Int h ∷ []

  lock_removed : (old new : State) (count : ℕ) → IsStore old.now → Executes remove_lock_text params old new (Ok count) → Rewrote 5 (filter (λ r. not (has_key i c h r)) (old.now.trees 5)) old.now new.now
  lock_removed old new count store ran =
      let text = statement_of remove_lock_text (understood the_schema remove_lock_text) in
      let w : Writes old new None (Delete 3 q) text params count = runs_as remove_lock_text params old new the_schema store.schema remove_lock_command remove_lock_is remove_lock_plain count ran in
      let wrote = deletes.wrote 3 locks refl text params old new store.schema (Delete 3 q) count w (λ _ _ _. refl) in
      let d = deletes.deleted 3 locks refl text params old new store.schema terms refl store.locks wrote in
      let applied = deletes.only_deleted 3 locks refl text params old new store.schema terms refl no_action d in
      let rows : new.now.trees 5 ≡ filter (λ r. not (has_key i c h r)) (old.now.trees 5) = applied.rows ∙ d.left in
      let shaped : IsShaped shape.Table (new.now.trees 5) = subst (IsShaped shape.Table) (sym rows) (IsShaped-filter shape.Table _ _ store.locks) in
      record { store = still_store 5 old.now new.now store wrote.schema w.sound shaped applied.tables; tree = rows; others = applied.tables }

pub lock_gone : (key : LockKey) (i c h : ValueRef) → IsNumber i key.instance → IsNumber c key.client → IsNumber h key.handle → (old new : State) → RanInside remove_lock_text (bound (i ∷ c ∷ h ∷ [])) old new → Changed (RemoveLock key ∷ []) old new
lock_gone key i c h ni nc nh old new run =
    let r = rw (ni.1, nc.1, nh.1) at run in
    let done = λ (store : IsStore old.now). lock_removed ni.0 nc.0 nh.0 old new r.count store r.ran in
    let goes = has_key ni.0 nc.0 nh.0 in
    record {
      store = λ store. (done store).store;
      says = λ store rows said. locks_say old.now new.now _ Third rows [] said (done store) _
          (shown_as_held lock_order lock_in lock_shown (filter (λ x. not (goes x)) (old.now.trees 5)) _
          (holds_removed lock_order locks_total (λ x. lock_in (lock_shown x)) (old.now.trees 5) rows.locks (held_as_shown lock_order lock_in lock_shown (old.now.trees 5) rows.locks said.locks) key goes
          (λ x there e. key_test key ni.0 nc.0 nh.0 ni.2 nc.2 nh.2 x (lock_rows old.now store x there) e)));
    }
