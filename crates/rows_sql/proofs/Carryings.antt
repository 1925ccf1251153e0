-- What becomes of a store of an earlier version that is taken over.
use Rattle.std.proofs.Common.{◌≡◌, ◌<◌, ◌+◌, ◌==◌, ℕ, List, [], true, false, inl, inr, refl, sym, ap, ◌∙◌, subst, arith, Result, Ok, Err}
use Rattle.std.specs.Prelude.{IfOk, IfErr, nat_le}
use Rattle.std.proofs.lemmas.Bool.{and_parts}
use Rattle.std.proofs.lemmas.Bool.Decides.{nat_tests}
use Rattle.node_core.specs.Limits.{number_limit}
use Rattle.sqlite_trees.specs.declared.store.Store.{Ghosts}
use Rattle.sqlite.specs.Effect.{Database}
use Rattle.sqlite.specs.State.{HasCleanDisk, Survives}
use Rattle.sqlite.specs.Held.{Held, state}
use Rattle.rows_cell.specs.Sound.{sound}
use Rattle.rows_cell.specs.declared.tables.Rows.{Rows}
use Rattle.rows_cell.specs.Settings.{Settled}
use Rattle.rows_sql.specs.OurSchema.{first_schema}
use Rattle.rows_sql.specs.declared.schema.ours.Version.TheVariants.{First}
use Rattle.rows_sql.specs.Held.{Says, SaysAs}
use Rattle.rows_sql.specs.Ready.{tables_of, tables_as, IsReadyAs, IsStillAs, QuietAs}
use Rattle.rows_sql.specs.declared.schema.ours.Version.{Version}
use Rattle.rows_sql.specs.Versions.{schema_of, IsEarlier, HasFifth}
use Rattle.rows_sql.specs.Ongoing.{IsStoreBy}
use Rattle.rows_sql.specs.Carrying.{IsCarried, MayCarry}
use Rattle.rows_sql.specs.Creation.{IsStoreOf}
use Rattle.rows_cell.specs.Rows.{map_of}
use Rattle.rows_sql.proofs.SaidTables.{one_said}
use Rattle.rows_sql.specs.Adopting.{IsAnew, CanCarry, Takes, IsAtItsEnd, IsTaken, IsLeftAlone, next_epoch, carried, CarryingKeeps}
use Rattle.rows_sql.proofs.InspectLemmas.{one_version}
use Rattle.rows_sql.proofs.Adoptions.{some_tables, not_now, can_carry}
use Rattle.rows_sql.specs.Carryings.{Becomes, Remains}

-- a sound store's epoch that isn't at its end lies below it
pub epoch_low : (cell : List ℕ) (rows : Rows) → sound cell rows ≡ true → (rows.epoch == number_limit) ≡ false → rows.epoch < number_limit
epoch_low cell rows fits apart =
    let a = (and_parts _ _ fits).0 in
    let b = (and_parts _ _ a).0 in
    let c = (and_parts _ _ b).0 in
    let d = (and_parts _ _ c).0 in
    let low : nat_le rows.epoch number_limit ≡ true = (and_parts _ _ d).1 in
    below rows.epoch number_limit low apart
  where
    below : (n m : ℕ) → nat_le n m ≡ true → (n == m) ≡ false → n < m
    below n m low apart = grind (arith, nat_tests)

pub epoch_last : (n m : ℕ) → (n == m) ≡ true → n ≡ m
epoch_last n m h = grind (arith, nat_tests)

-- what the carrying over of rows leaves
module _ {S : Type 0} (g : Ghosts S) (version : Version) (rows : Rows) (epoch : ℕ) (old new : Held S) (survives : Survives (state g old) (state g new) (MayCarry version epoch (state g old))) where
  pub becomes : new.in_transaction ≡ false → (HasCleanDisk (state g new) → IsCarried version epoch (state g old) (state g new)) → Becomes g version rows epoch old new
  becomes ended did = record {
    idle = ended;
    clean = survives.clean;
    is_open = λ clean. (did clean).is_open;
    committed = λ clean. (did clean).committed;
    store = λ clean earlier was said. (did clean).carried earlier was rows said;
  }

  pub remains : Remains g version rows epoch old new
  remains = record {
    clean = survives.clean;
    crash = λ clean earlier was said db may. elim (survives.crash clean db may) [
      | inl b ↦ inl b
      | inr m ↦ inr (m earlier was rows said)
    ];
  }

module _ {S : Type 0} (g : Ghosts S) (settings : Settled) (version : Version) (old mid : Held S) (at : IsAnew (state g old)) (ours : (state g old).now.schema ≡ schema_of version) (q : QuietAs version g old mid) where
  was : HasCleanDisk (state g mid) → HasCleanDisk (state g old)
  was clean = omega (arith, q.clean, clean)

  pub ready : HasCleanDisk (state g mid) → IsReadyAs version (state g old)
  ready clean = record { ours = ours; settled = λ _. at.settled (was clean) }

  pub left_unread : IsLeftAlone g settings old mid
  left_unread = record { clean = q.clean; crash = λ clean db may. inl (q.crash clean (ready clean) db may) }

  module _ (rows : Rows) (said : HasCleanDisk (state g mid) → IsReadyAs version (state g old) → SaysAs version (tables_as version (state g old).now.trees) rows) (fits : sound settings.cell rows ≡ true) (can : CanCarry version rows.epoch)
      (still : HasCleanDisk (state g mid) → IsReadyAs version (state g old) → IsStillAs version (state g old) (state g mid)) (new : Held S) where
    earlier : IsEarlier version
    earlier = can_carry version rows.epoch can

    same : HasCleanDisk (state g mid) → (state g mid).now ≡ (state g old).now
    same clean = (still clean (ready clean)).now_is

    store_mid : HasCleanDisk (state g mid) → IsStoreBy (schema_of version) (state g mid).now
    store_mid clean = subst (IsStoreBy (schema_of version)) (sym (same clean)) (at.stores (was clean) version ours)

    said_mid : HasCleanDisk (state g mid) → SaysAs version (tables_as version (state g mid).now.trees) rows
    said_mid clean = subst (λ (d : Database). SaysAs version (tables_as version d.trees) rows) (sym (same clean)) (said clean (ready clean))

    takes : HasCleanDisk (state g mid) → Takes settings (state g old).now (carried version rows)
    takes clean = inr (inr (version, rows, record { schema = ours; said = said clean (ready clean); sound_rows = fits }, can, refl))

    pub taken_earlier : (next : Rows) → next ≡ carried version rows → Becomes g version rows (next_epoch version rows.epoch) mid new → IsTaken g settings old new next
    taken_earlier next is b =
        let before : HasCleanDisk (state g new) → HasCleanDisk (state g mid) = λ clean. omega (arith, b.clean, clean) in
        let done : HasCleanDisk (state g new) → IsStoreOf (carried version rows) (state g new).now = λ clean. b.store clean earlier (store_mid (before clean)) (said_mid (before clean)) in
        record {
          idle = b.idle;
          clean = omega (arith, q.clean, b.clean);
          is_open = b.is_open;
          store = λ clean. (done clean).store;
          committed = b.committed;
          said = λ clean. subst (Says (tables_of (state g new).now.trees)) (sym is) (done clean).said;
          takes = λ clean. subst (Takes settings (state g old).now) (sym is) (takes (before clean));
        }

    pub left_earlier : Remains g version rows (next_epoch version rows.epoch) mid new → IsLeftAlone g settings old new
    left_earlier r = record {
      clean = omega (arith, q.clean, r.clean);
      crash = λ clean db may.
          let before : HasCleanDisk (state g mid) = omega (arith, r.clean, clean) in
          elim (r.crash clean earlier (store_mid before) (said_mid before) db may) [
            | inl b ↦ inl (q.crash before (ready before) db b)
            | inr m ↦ inr (carried version rows, takes before, m)
          ];
    }

-- its epoch can't go on
pub at_end : {S : Type 0} (g : Ghosts S) (settings : Settled) (old : Held S) → (state g old).now.schema ≡ first_schema
    → (rows : Rows) × SaysAs First (tables_as First (state g old).now.trees) rows × (sound settings.cell rows ≡ true) × (rows.epoch ≡ number_limit) → IsAtItsEnd settings.cell (state g old).now
at_end g settings old first h = (h.0, record { schema = first; said = h.1; sound_rows = h.2 }, h.3)

-- the second version is carried over with its own epoch
pub fifth_carries : (version : Version) (epoch : ℕ) → HasFifth version → CanCarry version epoch × (next_epoch version epoch ≡ epoch)
fifth_carries version epoch (inl is) = (subst (λ v. CanCarry v epoch) (sym is) tt, ap (λ v. next_epoch v epoch) is)
fifth_carries version epoch (inr is) = (subst (λ v. CanCarry v epoch) (sym is) tt, ap (λ v. next_epoch v epoch) is)

module _ {S : Type 0} (g : Ghosts S) (settings : Settled) (version : Version) (fifth : HasFifth version) (old mid : Held S) (at : IsAnew (state g old)) (ours : (state g old).now.schema ≡ schema_of version) (q : QuietAs version g old mid)
    (rows : Rows) (said : HasCleanDisk (state g mid) → IsReadyAs version (state g old) → SaysAs version (tables_as version (state g old).now.trees) rows) (fits : sound settings.cell rows ≡ true)
    (still : HasCleanDisk (state g mid) → IsReadyAs version (state g old) → IsStillAs version (state g old) (state g mid)) (new : Held S) where
  pub taken_second : (next : Rows) → next ≡ record rows { epoch = rows.epoch } → Becomes g version rows rows.epoch mid new → IsTaken g settings old new next
  taken_second next is b =
      let goes = fifth_carries version rows.epoch fifth in
      taken_earlier g settings version old mid at ours q rows said fits goes.0 still new next (is ∙ ap (λ n. record rows { epoch = n }) (sym goes.1)) (subst (λ n. Becomes g version rows n mid new) (sym goes.1) b)

  pub left_second : Remains g version rows rows.epoch mid new → IsLeftAlone g settings old new
  left_second r =
      let goes = fifth_carries version rows.epoch fifth in
      left_earlier g settings version old mid at ours q rows said fits goes.0 still new (subst (λ n. Remains g version rows n mid new) (sym goes.1) r)

pub ok_as : {X E : Type 0} (r : Result X E) (P Q : X → Type 0) → ((x : X) → P x → Q x) → IfOk r P → IfOk r Q
ok_as (Ok x) P Q f h = f x h
ok_as (Err e) P Q f h = tt

pub err_as : {X E : Type 0} (r : Result X E) (P Q : Type 0) → (P → Q) → IfErr r (λ _. P) → IfErr r (λ _. Q)
err_as (Ok x) P Q f h = tt
err_as (Err e) P Q f h = f h

-- ---- what is kept

pub carrying_keeps : CarryingKeeps
carrying_keeps settings db version before after was_earlier said (inl t) = absurd (not_now version was_earlier db.schema t.0 said.schema)
carrying_keeps settings db version before after was_earlier said (inr (inl t)) = absurd (some_tables version db.schema t.0 said.schema)
carrying_keeps settings db version before after was_earlier said (inr (inr (other, rows, own, can, is))) =
    let same : other ≡ version = one_version other version (sym own.schema ∙ said.schema) in
    let told : SaysAs version (tables_as version db.trees) rows = subst (λ v. SaysAs v (tables_as v db.trees) rows) same own.said in
    let one : rows ≡ before = one_said version (tables_as version db.trees) rows before _ _ told said.said in
    let next : after ≡ carried version before = is ∙ ap (λ v. carried v rows) same ∙ ap (carried version) one in
    (ap map_of next, ap (λ (r : Rows). r.sessions) next, ap (λ (r : Rows). r.locks) next, ap (λ (r : Rows). r.epoch) next)
