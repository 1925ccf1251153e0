-- What the statement makes of the tables that puts a lock.
use Rattle.std.proofs.Common.{◌≡◌, ℕ, ℤ, Bool, true, ◌&&◌, List, [], ◌∷◌, Some, Ok, inl, inr, refl, sym, ap, ◌∙◌}
use Rattle.std.specs.BTreeMap.{is_at}
use Rattle.std.proofs.lemmas.Bool.{and_parts}
use Rattle.sqlite_value.specs.declared.value.Value.{Value}
use Rattle.sqlite_value.specs.declared.value.Value.TheVariants.{Null, Int}
use Rattle.sqlite_value.specs.declared.value.ValueRef.{ValueRef}
use Rattle.sqlite_value.specs.declared.keys.Collation.TheVariants.{Binary}
use Rattle.sqlite_value.specs.Order.{Row, column}
use Rattle.sqlite_value.specs.Keys.{joined}
use Rattle.sqlite.specs.Term.{Term, col, lit}
use Rattle.sqlite.specs.Values.{bound}
use Rattle.sqlite.specs.Cast.{cast, cast_row}
use Rattle.sqlite.specs.Kind.TheVariants.{Integer}
use Rattle.sqlite.specs.Edit.{id_in, next_rowid}
use Rattle.sqlite.specs.Rowids.TheVariants.{Chosen}
use Rattle.sqlite.specs.Tree.{rowid}
use Rattle.sqlite_schema.specs.declared.schema.Keys.TheVariants.{Enforced}
use Rattle.sqlite_schema.specs.Names.{same_name}
use Rattle.sqlite_schema.specs.Rules.{equal}
use Rattle.sqlite_rules.specs.Action.{works}
use Rattle.sqlite_rules.specs.Edit.{with_rowid}
use Rattle.sqlite_rules.specs.Lists.{Has}
use Rattle.sqlite_rules.proofs.ListLemmas.{all_has}
use Rattle.sqlite_rules.proofs.TableLemmas.{int_is}
use Rattle.sqlite.specs.State.{State, Executes}
use Rattle.rows_cell.specs.declared.keys.LockKey.{LockKey}
use Rattle.rows_cell.specs.declared.tables.LockRow.{LockRow}
use Rattle.rows_cell.specs.declared.tables.Edit.TheVariants.{PutLock}
use Rattle.rows_cell.specs.Keys.{lock_order}
use Rattle.rows_sql.specs.OurSchema.{the_schema, locks}
use Rattle.rows_sql.specs.Decode.{count_of, lock_state_of, lock_from, lock_in}
use Rattle.rows_sql.specs.Ready.{lock_shown}
use Rattle.rows_sql.proofs.ReadLoops.{locks_total}
use Rattle.rows_sql.specs.declared.schema.ours.Version.TheVariants.{Third}
use Rattle.rows_sql.specs.WriteTexts.{put_lock_text}
use Rattle.rows_sql.specs.WriteCommands.{is}
use Rattle.rows_sql.specs.Numbers.{IsNumber, IsReadAs}
use Rattle.rows_sql.specs.Ongoing.{IsStore, RanInside, Changed}
use Rattle.rows_sql.proofs.WriteMeaning.{put_lock_is, put_lock_plain}
use Rattle.rows_sql.proofs.Casts.{cast_null, cast_int, int_stays}
use Rattle.rows_sql.proofs.Columns.{int_value}
use Rattle.rows_sql.proofs.Clashes.{same_lock, lock_clash, one_lock}
use Rattle.rows_sql.proofs.Entries.{holds_put}
use Rattle.rows_sql.proofs.LockKeys.{has_key, key_test, exact_lock}
use Rattle.rows_sql.proofs.Runs.{CanPut, PutIn, ran_put}
use Rattle.rows_sql.proofs.Stores.{Rewrote, lock_rows, locks_say, held_as_shown, shown_as_held}
use Rattle.rows_sql.proofs.Upserts as upserts

abbrev values : List Term
values = lit Null ∷ col 0 0 ∷ col 0 1 ∷ col 0 2 ∷ col 0 3 ∷ col 0 4 ∷ []

abbrev terms : List Term
terms = is (col 1 0) (col 0 5) ∷ []

abbrev project : List Term
project = col 1 0 ∷ col 1 0 ∷ col 1 1 ∷ col 1 2 ∷ col 1 3 ∷ col 0 10 ∷ col 0 11 ∷ []

no_action : (olds : List Row) (n : Row) → works the_schema Enforced 0 5 olds (n ∷ []) ≡ []
unfolding same_name joined
no_action olds n = refl

nor_none : works the_schema Enforced 0 5 [] [] ≡ []
unfolding same_name joined
nor_none = refl

module _ (i c h m d : ℤ) where
  abbrev params : Row
  params = Int i ∷ Int c ∷ Int h ∷ Int m ∷ Int d ∷ []

  abbrev becomes : Row → Row
  becomes r = column r 0 ∷ column r 1 ∷ column r 2 ∷ column r 3 ∷ Int m ∷ Int d ∷ []

  fits : (id : Value) → cast_row locks (id ∷ params) ≡ cast Integer id ∷ params
  fits id = λ j. cast Integer id ∷ cast_int i j ∷ cast_int c j ∷ cast_int h j ∷ cast_int m j ∷ cast_int d j ∷ []

  -- the row has these values in the columns of the key
  pub keyed_as : (r : Row) → (column r 1 ≡ Int (id_in (column r 1))) → (column r 2 ≡ Int (id_in (column r 2))) → (column r 3 ≡ Int (id_in (column r 3))) → has_key i c h r ≡ true
      → (column r 1 ≡ Int i) × (column r 2 ≡ Int c) × (column r 3 ≡ Int h)
  keyed_as r t1 t2 t3 t =
      let a = and_parts _ _ t in
      let b = and_parts _ _ a.1 in
      (int_value (column r 1) i t1 a.0, int_value (column r 2) c t2 b.0, int_value (column r 3) h t3 (and_parts _ _ b.1).0)

  module _ (old new_state : State) (store : IsStore old.now) where
    abbrev es : List Row
    es = old.now.trees 5

    abbrev new : Row
    new = Int (next_rowid es) ∷ params

    abbrev clash : Row → Bool
    clash = upserts.clash old.step_limit locks params old.now.trees values 6 (Null ∷ params) new (1 ∷ 2 ∷ 3 ∷ []) terms project refl

    keys_of : (r : Row) → Has es r → clash r ≡ true → (column r 1 ≡ Int i) × (column r 2 ≡ Int c) × (column r 3 ≡ Int h)
    keys_of r there t = let typed = lock_rows old.now store r there in keyed_as r typed.instance typed.client typed.handle (sym (lock_clash new r) ∙ t)

    how : CanPut 3 locks refl put_lock_text terms project params old new_state refl values 6 (Null ∷ params) new (1 ∷ 2 ∷ 3 ∷ []) becomes
    how = record {
      shaped = store.locks;
      uncounted = refl;
      sources = λ rows e. e;
      numbered = ap (with_rowid Chosen es) (fits Null ∙ ap (λ v. v ∷ params) cast_null);
      fits = fits (Int (next_rowid es)) ∙ ap (λ v. v ∷ params) (cast_int (next_rowid es));
      keyed = refl;
      one = λ a b ha hb ta tb.
          let k = keys_of b hb tb in
          let agree : same_lock a b ≡ same_lock a new = λ j. equal Binary (column a 1) (k.0 j) && (equal Binary (column a 2) (k.1 j) && (equal Binary (column a 3) (k.2 j) && true)) in
          one_lock old.now store a b ha hb (agree ∙ sym (lock_clash new a) ∙ ta);
      finds = λ r0 r. refl;
      shows_it = λ r0 r there t. refl;
      same_id = λ r. refl;
      stays = λ r there t.
          let typed = lock_rows old.now store r there in
          λ j. int_stays (column r 0) (int_is (rowid r) (all_has _ es r store.locks.1 there)) j ∷ int_stays (column r 1) typed.instance j ∷ int_stays (column r 2) typed.client j ∷ int_stays (column r 3) typed.handle j ∷ cast_int m j ∷ cast_int d j ∷ [];
      alone = no_action;
      idle = nor_none;
    }

    tested : (key : LockKey) → count_of i ≡ Some key.instance → count_of c ≡ Some key.client → count_of h ≡ Some key.handle → (r : Row) → Has es r → (e : LockKey × LockRow) → lock_in (lock_shown r) ≡ Some e → clash r ≡ is_at (lock_order key) e.0
    tested key ni nc nh r there e says = lock_clash new r ∙ key_test key i c h ni nc nh r (lock_rows old.now store r there) e says

    lock_put : (count : ℕ) → Executes put_lock_text params old new_state (Ok count)
        → PutIn 3 locks refl put_lock_text terms project params old new_state refl values 6 (Null ∷ params) new (1 ∷ 2 ∷ 3 ∷ []) becomes × Rewrote 5 (new_state.now.trees 5) old.now new_state.now
    lock_put count ran = ran_put 3 locks refl put_lock_text terms project params old new_state refl values 6 (Null ∷ params) new (1 ∷ 2 ∷ 3 ∷ []) put_lock_is put_lock_plain becomes store how count ran

pub lock_there : (key : LockKey) (row : LockRow) (i c h m d : ValueRef) → IsNumber i key.instance → IsNumber c key.client → IsNumber h key.handle → IsReadAs lock_state_of m row.state → IsNumber d row.delay
    → (old new : State) → RanInside put_lock_text (bound (i ∷ c ∷ h ∷ m ∷ d ∷ [])) old new → Changed (PutLock key row ∷ []) old new
lock_there key row i c h m d ni nc nh nm nd old new run =
    let r = rw (ni.1, nc.1, nh.1, nm.1, nd.1) at run in
    let said_by : lock_from (count_of ni.0) (count_of nc.0) (count_of nh.0) (lock_state_of nm.0) (count_of nd.0) ≡ Some (key, row) = λ j. lock_from (ni.2 j) (nc.2 j) (nh.2 j) (nm.2 j) (nd.2 j) in
    record {
      store = λ store. (lock_put ni.0 nc.0 nh.0 nm.0 nd.0 old new store r.count r.ran).1.store;
      says = λ store rows said.
          let es = old.now.trees 5 in
          let done = lock_put ni.0 nc.0 nh.0 nm.0 nd.0 old new store r.count r.ran in
          let put = done.0 in
          let goes = clash ni.0 nc.0 nh.0 nm.0 nd.0 old new store in
          let says_it : lock_in (lock_shown put.last) ≡ Some (key, row) = elim put.was [
            | inl none ↦ ap (λ (x : Row). lock_in (lock_shown x)) none.1 ∙ said_by
            | inr one ↦
                let k = keys_of ni.0 nc.0 nh.0 nm.0 nd.0 old new store one.0 one.1 one.2 in
                let keyed : lock_in (column one.0 1 ∷ column one.0 2 ∷ column one.0 3 ∷ Int nm.0 ∷ Int nd.0 ∷ []) ≡ lock_in (Int ni.0 ∷ Int nc.0 ∷ Int nh.0 ∷ Int nm.0 ∷ Int nd.0 ∷ []) = λ j. lock_in (k.0 j ∷ k.1 j ∷ k.2 j ∷ Int nm.0 ∷ Int nd.0 ∷ []) in
                ap (λ (x : Row). lock_in (lock_shown x)) one.3 ∙ keyed ∙ said_by
          ] in
          locks_say old.now new.now (new.now.trees 5) Third rows [] said done.1 _
          (shown_as_held lock_order lock_in lock_shown (new.now.trees 5) _
          (holds_put lock_order locks_total (λ x. lock_in (lock_shown x)) es rows.locks (held_as_shown lock_order lock_in lock_shown es rows.locks said.locks) key goes
          (tested ni.0 nc.0 nh.0 nm.0 nd.0 old new store key ni.2 nc.2 nh.2)
          exact_lock put.last row (new.now.trees 5) says_it put.rows));
    }
