-- What becomes of a database that is taken over.
use Rattle.std.proofs.Common.{◌≡◌, ◌≢◌, ◌≤◌, Bool, true, false, List, [], ◌∷◌, inl, inr, refl, sym, ap, ◌∙◌, subst, arith, true≢false, Result, Ok, Err, ℕ, ◌++◌, length, append_assoc}
use Rattle.std.specs.Prelude.{IsTrue, IfOk, IfErr}
use Rattle.sqlite_trees.specs.declared.store.Store.{Ghosts}
use Rattle.sqlite_trees.specs.Objects.{catalog_tree, IsListed}
use Rattle.sqlite_trees.specs.View.{IsClean, IsOrdered, IsQuiet, IsRolledBack, doubt}
use Rattle.sqlite.specs.Tree.{Trees}
use Rattle.sqlite.specs.Effect.{Database}
use Rattle.sqlite_schema.specs.declared.schema.Schema.{Schema}
use Rattle.sqlite.specs.State.{State, HasCleanDisk, Survives, Opens, IsLive}
use Rattle.sqlite.specs.Held.{Held, state, IsNew}
use Rattle.sqlite.specs.Steps.{IsFresh}
use Rattle.node_core.specs.declared.nodes.Node.{Node}
use Rattle.rows_cell.specs.declared.tables.StoredNode.{StoredNode}
use Rattle.rows_cell.specs.declared.records.StoreFault.{StoreFault}
use Rattle.rows_cell.specs.declared.tables.Rows.{Rows}
use Rattle.rows_cell.specs.declared.tables.Edit.{Edit}
use Rattle.rows_cell.specs.declared.tables.Edit.TheVariants.{PutNode}
use Rattle.rows_cell.specs.Rows.{StoredNodes}
use Rattle.rows_cell.specs.Opening.{opening}
use Rattle.rows_cell.specs.Settings.{Settled}
use Rattle.rows_sql.specs.OurSchema.{first_schema, unindexed_schema, second_schema, the_schema}
use Rattle.rows_cell.specs.Sound.{sound}
use Rattle.rows_sql.specs.declared.schema.ours.Version.{Version}
use Rattle.rows_sql.specs.declared.schema.ours.Version.TheVariants.{First, Unindexed, Second, Third}
use Rattle.rows_sql.specs.Versions.{schema_of, IsEarlier}
use Rattle.rows_sql.specs.Held.{Says, SaysAs}
use Rattle.rows_sql.specs.Ready.{tables_of, tables_as, IsReady, IsStill, Quiet}
use Rattle.rows_sql.proofs.OneSchema.{one_database}
use Rattle.rows_sql.specs.Ongoing.{IsStore}
use Rattle.rows_sql.specs.Creation.{no_schema, puts_of, IsMade, MayOpen}
use Rattle.rows_sql.specs.Keeping.{Keeps}
use Rattle.rows_sql.specs.Adopting.{IsAnew, CanCarry, Takes, IsTakenAs, IsForeign, IsAtItsEnd, Adopts, IsOther, IsFull, IsTaken, IsLeftAlone, IsReopened, ComesBack}
use Rattle.rows_sql.proofs.Opened.{opened}
use Rattle.rows_sql.proofs.InspectLemmas.{one_version}

-- ---- opened anew

pub anew : {S E : Type 0} (g : Ghosts S) (store : S) (r : Result (Held S) E) → ((s : S) → (g.view s).is_broken ≡ false → IsOrdered (g.view s).shape (g.view s).trees)
    → ((s : S) → (g.view s).is_broken ≡ false → IsListed ((g.view s).trees catalog_tree) (g.view s).shape (g.view s).reals) → (IsClean (g.view store) → IsFresh (g.view store))
    → IfOk r (λ c. HasCleanDisk (state g c) → Opens (state g c) × IsLive (state g c)) → IfOk r (λ c. doubt (g.view store).is_clean ≤ doubt (state g c).is_clean) → IfOk r (λ c. HasCleanDisk (state g c) → (state g c).now.trees ≡ (g.view store).trees)
    → IfOk r IsNew → IfOk r (λ c. IsAnew (state g c))
anew g store (Err e) ordered listed fresh opens cleaner trees new = tt
anew {S = S} g store (Ok c) ordered listed fresh opens cleaner trees new =
    let both = opened {E = S} g store ordered listed fresh (Ok c) opens cleaner trees in
    record {
      idle = new.autocommit;
      is_open = λ clean. (opens clean).0.is_open;
      settled = λ clean. sym (opens clean).0.clean;
      listed = λ clean. let at = opens clean in (at.1 at.0.is_open).0;
      stores = both;
    }

-- ---- what an unbroken store is that was rolled back

is_true : (b : Bool) → (b ≡ false → ⊥) → IsTrue b
is_true true h = refl
is_true false h = absurd (h refl)

module _ {S : Type 0} (g : Ghosts S) (broken_if_shut : (s : S) → (g.view s).is_open ≡ false → IsTrue (g.view s).is_broken) (old mid : S) (undone : IsRolledBack (g.view old) (g.view mid)) (broken : Bool) (tells : IsClean (g.view mid) → broken ≡ (g.view mid).is_broken) (whole : broken ≡ false) where
  unbroken : IsClean (g.view mid) → (g.view mid).is_broken ≡ false
  unbroken clean = sym (tells clean) ∙ whole

  pub open_mid : IsClean (g.view mid) → IsTrue (g.view mid).is_open
  open_mid clean = is_true _ (λ shut. true≢false (sym (broken_if_shut mid shut) ∙ unbroken clean))

  pub trees_mid : IsClean (g.view mid) → (g.view mid).trees ≡ (g.view old).committed
  trees_mid clean = (undone.undone (open_mid clean)).0

  pub committed_mid : IsClean (g.view mid) → (g.view mid).committed ≡ (g.view old).committed
  committed_mid clean = (undone.kept clean).committed (open_mid clean)

  pub fresh : (IsClean (g.view mid) → IsTrue (g.view mid).is_numbered) → IsClean (g.view mid) → IsFresh (g.view mid)
  fresh numbered clean = record {
    sound = unbroken clean;
    numbered = numbered clean;
    clean = trees_mid clean ∙ sym (committed_mid clean);
    unmarked = (undone.kept clean).marks (open_mid clean);
  }

  open_old : IsClean (g.view mid) → IsTrue (g.view old).is_open
  open_old clean = (undone.kept clean).was_open (open_mid clean)

  pub reopened : (settled : (s : S) (db : Trees) → IsTrue (g.view s).is_open → g.recovers s db → db ≡ (g.view s).committed) → (stays : (s : S) → IsTrue (g.view s).is_open → g.recovers s (g.view s).committed) → (conn new : Held S) → conn.store ≡ old → IsLive (state g conn)
      → IsQuiet g.view g.faults g.recovers g.is_shielded old mid → IsAnew (state g new) → doubt (g.view mid).is_clean ≤ doubt (state g new).is_clean → (HasCleanDisk (state g new) → (state g new).now.trees ≡ (g.view mid).trees) → IsReopened g conn new
  reopened settled stays conn new is live quiet at cleaner trees =
      let was : HasCleanDisk (state g new) → IsClean (g.view mid) = λ clean. omega (arith, cleaner, clean) in
      let same : HasCleanDisk (state g new) → (state g new).now.trees ≡ (g.view old).committed = λ clean. trees clean ∙ trees_mid (was clean) in
      let before : doubt (g.view old).is_clean ≤ doubt (state g new).is_clean = omega (arith, quiet.clean, cleaner) in
      let trees_are : HasCleanDisk (state g new) → (state g new).now.trees ≡ (state g conn).committed.trees = λ clean. same clean ∙ ap (λ (s : S). (g.view s).committed) (sym is) in
      let was_open : HasCleanDisk (state g new) → IsTrue (state g conn).is_open = λ clean. subst (λ (s : S). IsTrue (g.view s).is_open) (sym is) (open_old (was clean)) in
      record {
        anew = at;
        clean = subst (λ (s : S). doubt (g.view s).is_clean ≤ doubt (state g new).is_clean) (sym is) before;
        has = λ clean. record { is_open = was_open clean; listed = (live (was_open clean)).1 };
        same = λ clean. one_database (state g new).now (state g conn).committed (trees_are clean) (at.listed clean) (live (was_open clean)).1;
        crash = λ clean db may.
            let one : db ≡ (g.view new.store).committed = settled new.store db (at.is_open clean) may in
            let two : (g.view new.store).committed ≡ (g.view old).committed = ap (λ (d : Database). d.trees) (at.settled clean) ∙ same clean in
            let three : g.recovers mid db = subst (g.recovers mid) (committed_mid (was clean) ∙ sym two ∙ sym one) (stays mid (open_mid (was clean))) in
            subst (λ (s : S). g.recovers s db) (sym is) (quiet.outcomes db three);
      }

-- ---- taken over

-- what holds whether it went well or not
pub left_by_any : {X E : Type 0} (r : Result X E) (P : Type 0) → P → IfErr r (λ _. P)
left_by_any (Ok x) P h = tt
left_by_any (Err e) P h = h

module _ {S : Type 0} (g : Ghosts S) (settings : Settled) (old new : Held S) (at : IsAnew (state g old)) where
  pub left_as_it_is : IsLeftAlone g settings old old
  left_as_it_is = record { clean = omega arith; crash = λ _ db may. inl may }

  module _ (q : Quiet g old new) (ours : (state g old).now.schema ≡ the_schema) where
    was : HasCleanDisk (state g new) → HasCleanDisk (state g old)
    was clean = omega (arith, q.clean, clean)

    pub ready : HasCleanDisk (state g new) → IsReady (state g old)
    ready clean = record { ours = ours; settled = λ _. at.settled (was clean) }

    pub taken_store : (rows : Rows) → (HasCleanDisk (state g new) → IsReady (state g old) → Says (tables_of (state g old).now.trees) rows) → (HasCleanDisk (state g new) → IsReady (state g old) → IsStill (state g old) (state g new)) → IsTaken g settings old new rows
    taken_store rows said still = record {
      idle = q.idle at.idle;
      clean = q.clean;
      is_open = λ clean. (still clean (ready clean)).is_open;
      store = λ clean. subst IsStore (sym (still clean (ready clean)).now_is) (at.stores (was clean) Third ours);
      committed = λ clean. let s = still clean (ready clean) in s.ready.settled s.is_open;
      said = λ clean. subst (λ (d : Database). Says (tables_of d.trees) rows) (sym (still clean (ready clean)).now_is) (said clean (ready clean));
      takes = λ clean. inl (ours, said clean (ready clean));
    }

    pub taken_if_ok : (r : Result Rows StoreFault) → (HasCleanDisk (state g new) → IsReady (state g old) → IfOk r (λ rows. Says (tables_of (state g old).now.trees) rows))
        → (HasCleanDisk (state g new) → IsReady (state g old) → r ≢ Err StoreFault.Refused → IsStill (state g old) (state g new)) → IfOk r (λ rows. IsTaken g settings old new rows)
    taken_if_ok (Ok rows) said still = taken_store rows said (λ clean ready. still clean ready (λ e. cc))
    taken_if_ok (Err e) said still = tt

    pub left_store : IsLeftAlone g settings old new
    left_store = record { clean = q.clean; crash = λ clean db may. inl (q.crash clean (ready clean) db may) }

  module _ (nothing : (state g old).now.schema ≡ no_schema) (survives : Survives (state g old) (state g new) (MayOpen settings (state g old))) where
    pub taken_new : (rows : Rows) → rows ≡ opening settings → (state g new).in_transaction ≡ false → (HasCleanDisk (state g new) → IsMade settings (state g old) (state g new)) → IsTaken g settings old new rows
    taken_new rows is idle made = record {
      idle = idle;
      clean = survives.clean;
      is_open = λ clean. (made clean).is_open;
      store = λ clean. ((made clean).opened nothing).store;
      committed = λ clean. (made clean).committed;
      said = λ clean. subst (Says (tables_of (state g new).now.trees)) (sym is) ((made clean).opened nothing).said;
      takes = λ clean. inr (inl (nothing, is));
    }

    pub left_new : IsLeftAlone g settings old new
    left_new = record {
      clean = survives.clean;
      crash = λ clean db may. elim (survives.crash clean db may) [
        | inl b ↦ inl b
        | inr m ↦ inr (opening settings, inr (inl (nothing, refl)), m nothing)
      ];
    }

-- ---- what isn't taken over

pub foreign_none : (cell : List ℕ) (db : Database) (schema : Schema) → ((version : Version) → schema ≢ schema_of version) → schema ≡ db.schema → db.schema ≢ no_schema → IsForeign cell db
foreign_none cell db schema none same some = inl (λ version e. none version (same ∙ e), some)

pub foreign_store : (cell : List ℕ) (db : Database) → db.schema ≡ the_schema → ((rows : Rows) → ¬ Says (tables_of db.trees) rows) → IsForeign cell db
foreign_store cell db ours none = inr (inl (ours, none))

pub foreign_earlier : (version : Version) → IsEarlier version → (cell : List ℕ) (db : Database) → db.schema ≡ schema_of version → ((rows : Rows) → SaysAs version (tables_as version db.trees) rows → sound cell rows ≡ false) → IsForeign cell db
foreign_earlier version earlier cell db ours none = inr (inr (version, earlier, (ours, none)))

pub foreign_second : (cell : List ℕ) (db : Database) → db.schema ≡ second_schema → ((rows : Rows) → SaysAs Second (tables_as Second db.trees) rows → sound cell rows ≡ false) → IsForeign cell db
foreign_second = foreign_earlier Second tt

pub foreign_unindexed : (cell : List ℕ) (db : Database) → db.schema ≡ unindexed_schema → ((rows : Rows) → SaysAs Unindexed (tables_as Unindexed db.trees) rows → sound cell rows ≡ false) → IsForeign cell db
foreign_unindexed = foreign_earlier Unindexed tt

pub foreign_first : (cell : List ℕ) (db : Database) → db.schema ≡ first_schema → ((rows : Rows) → SaysAs First (tables_as First db.trees) rows → sound cell rows ≡ false) → IsForeign cell db
foreign_first = foreign_earlier First tt

-- a schema with tables is that of one version
pub some_tables : (version : Version) (s : Schema) → s ≡ no_schema → s ≡ schema_of version → ⊥
some_tables First s n t = let e : 0 ≡ 4 = ap (λ (x : Schema). length x.tables) (sym n ∙ t) in omega (arith, e)
some_tables Unindexed s n t = let e : 0 ≡ 5 = ap (λ (x : Schema). length x.tables) (sym n ∙ t) in omega (arith, e)
some_tables Second s n t = let e : 0 ≡ 5 = ap (λ (x : Schema). length x.tables) (sym n ∙ t) in omega (arith, e)
some_tables Third s n t = let e : 0 ≡ 4 = ap (λ (x : Schema). length x.tables) (sym n ∙ t) in omega (arith, e)

-- an earlier version is another than that of now
pub now_is_later : (version : Version) → IsEarlier version → Third ≡ version → ⊥
now_is_later First earlier e = cc
now_is_later Unindexed earlier e = cc
now_is_later Second earlier e = cc
now_is_later Third earlier e = absurd earlier

pub not_now : (version : Version) → IsEarlier version → (s : Schema) → s ≡ the_schema → s ≡ schema_of version → ⊥
not_now version earlier s p q = now_is_later version earlier (one_version Third version (sym p ∙ q))

pub can_carry : (version : Version) (epoch : ℕ) → CanCarry version epoch → IsEarlier version
can_carry First epoch can = tt
can_carry Unindexed epoch can = tt
can_carry Second epoch can = tt
can_carry Third epoch can = absurd can

-- rows are taken of what isn't a cell's
none_of_other : (settings : Settled) (db : Database) (rows : Rows) → Takes settings db rows → IsForeign settings.cell db → ⊥
none_of_other settings db rows (inl t) (inl f) = f.0 Third t.0
none_of_other settings db rows (inl t) (inr (inl f)) = f.1 rows t.1
none_of_other settings db rows (inl t) (inr (inr (version, earlier, unsound))) = not_now version earlier db.schema t.0 unsound.0
none_of_other settings db rows (inr (inl t)) (inl f) = f.1 t.0
none_of_other settings db rows (inr (inl t)) (inr (inl f)) = some_tables Third db.schema t.0 f.0
none_of_other settings db rows (inr (inl t)) (inr (inr (version, earlier, unsound))) = some_tables version db.schema t.0 unsound.0
none_of_other settings db rows (inr (inr (version, before, said, can, is))) (inl f) = f.0 version said.schema
none_of_other settings db rows (inr (inr (version, before, said, can, is))) (inr (inl f)) = not_now version (can_carry version before.epoch can) db.schema f.0 said.schema
none_of_other settings db rows (inr (inr (version, before, said, can, is))) (inr (inr (other, earlier, unsound))) =
    let same : version ≡ other = one_version version other (sym said.schema ∙ unsound.0) in
    true≢false (sym said.sound_rows ∙ unsound.1 before (subst (λ v. SaysAs v (tables_as v db.trees) before) same said.said))

pub not_other : (settings : Settled) (s : State) (rows : Rows) → Adopts settings s rows → ¬ IsOther settings.cell s
not_other settings s rows adopts other = none_of_other settings s.committed rows adopts.takes other.foreign

pub adopts : {S : Type 0} (g : Ghosts S) (settings : Settled) (old mid : Held S) (rows : Rows) → IsReopened g old mid → HasCleanDisk (state g mid) → Takes settings (state g mid).now rows → Adopts settings (state g old) rows
adopts g settings old mid rows opened clean takes = record { has = opened.has clean; takes = subst (λ (db : Database). Takes settings db rows) (opened.same clean) takes }

pub is_other : {S : Type 0} (g : Ghosts S) (cell : List ℕ) (old mid : Held S) → IsReopened g old mid → HasCleanDisk (state g mid) → IsForeign cell (state g mid).now → IsOther cell (state g old)
is_other g cell old mid opened clean foreign = record { has = opened.has clean; foreign = subst (IsForeign cell) (opened.same clean) foreign }

pub is_full : {S : Type 0} (g : Ghosts S) (cell : List ℕ) (old mid : Held S) → IsReopened g old mid → HasCleanDisk (state g mid) → IsAtItsEnd cell (state g mid).now → IsFull cell (state g old)
is_full g cell old mid opened clean full = record { has = opened.has clean; at_end = subst (IsAtItsEnd cell) (opened.same clean) full }

-- ---- the ends

pub keeps_taken : {S : Type 0} (g : Ghosts S) (settings : Settled) (old new : Held S) (rows : Rows) → IsTaken g settings old new rows → ((db : Trees) → IsTrue (state g new).is_open → (state g new).may_leave db → db ≡ (state g new).committed.trees) → Keeps (state g new) false rows (rows ∷ [])
keeps_taken g settings old new rows taken settled = record {
  idle = taken.idle;
  is_open = λ clean o. taken.is_open clean;
  store = λ clean o. (taken.store clean, taken.committed clean, taken.said clean);
  crash = λ clean db may.
      let is : db ≡ (state g new).now.trees = settled db (taken.is_open clean) may ∙ ap (λ (d : Database). d.trees) (taken.committed clean) in
      (rows, inl refl, subst (λ (t : Trees). Says (tables_of t) rows) (sym is) (taken.said clean));
}

pub came_back : {S : Type 0} (g : Ghosts S) (settings : Settled) (old mid new : Held S) (store : S) → IsReopened g old mid → IsLeftAlone g settings mid new → IsQuiet g.view g.faults g.recovers g.is_shielded new.store store → ComesBack g settings old store
came_back g settings old mid new store opened left quiet = record {
  clean = omega (arith, opened.clean, left.clean, quiet.clean);
  crash = λ clean db may.
      let at : HasCleanDisk (state g new) = omega (arith, quiet.clean, clean) in
      let mid_clean : HasCleanDisk (state g mid) = omega (arith, left.clean, at) in
      elim (left.crash at db (quiet.outcomes db may)) [
        | inl b ↦ inl (opened.crash mid_clean db b)
        | inr m ↦ inr (subst (λ (d : Database). IsTakenAs settings d db) (opened.same mid_clean) m)
      ];
}

-- a call that refused and left a store alone
pub left_quiet : {S T E : Type 0} (g : Ghosts S) (store : S) (r : Result T (E × S)) → IfErr r (λ e. IsQuiet g.view g.faults g.recovers g.is_shielded store e.1) → IfErr r (λ e. (doubt (g.view store).is_clean ≤ doubt (g.view e.1).is_clean) × ((db : Trees) → g.recovers e.1 db → g.recovers store db))
left_quiet g store (Ok x) h = tt
left_quiet g store (Err e) h = (h.clean, h.outcomes)

-- ---- the edits of a new store

-- some edits are pushed, and these nodes are left
pub pushed_more : (front new : List Edit) (all left rest : StoredNodes) (name : List ℕ) (stored : StoredNode) (put : List ℕ) (node : Node) → front ++ puts_of left ≡ puts_of all → left ≡ (name, stored) ∷ rest → put ≡ name → node ≡ stored.node → new ≡ front ++ PutNode put node ∷ [] → new ++ puts_of rest ≡ puts_of all
pushed_more front new all left rest name stored put node before steps same shown pushed =
    ap (λ (es : List Edit). es ++ puts_of rest) pushed
    ∙ append_assoc front (PutNode put node ∷ []) (puts_of rest)
    ∙ ap (λ (e : Edit). front ++ e ∷ puts_of rest) (λ i. PutNode (same i) (shown i))
    ∙ ap (λ (es : StoredNodes). front ++ puts_of es) (sym steps)
    ∙ before
