-- Each call keeps what ties the rows to the database.
use Rattle.std.proofs.Common.{◌≡◌, Bool, true, false, not, Option, Some, None, List, [], ◌∷◌, ◌++◌, inl, inr, refl, sym, ap, ◌∙◌, subst, arith, true≢false}
use Rattle.std.specs.Prelude.{IsTrue}
use Rattle.std.specs.List.{fold}
use Rattle.sqlite_trees.specs.declared.store.Store.{Ghosts}
use Rattle.sqlite_rules.specs.Lists.{Has}
use Rattle.sqlite.specs.Tree.{Trees}
use Rattle.sqlite.specs.Effect.{Database}
use Rattle.sqlite.specs.State.{HasCleanDisk, Survives, KeepsCommit}
use Rattle.sqlite.specs.Held.{Held, state}
use Rattle.rows_cell.specs.declared.tables.Rows.{Rows}
use Rattle.rows_cell.specs.declared.tables.Edit.{Edit}
use Rattle.rows_cell.specs.Rows.{changed_rows}
use Rattle.rows_sql.specs.declared.schema.ours.Version.TheVariants.{Third}
use Rattle.rows_sql.specs.Held.{Says}
use Rattle.rows_sql.specs.Ready.{tables_of, IsReady, IsStill, Quiet}
use Rattle.rows_sql.proofs.SaidTables.{one_said}
use Rattle.rows_sql.specs.Ongoing.{IsStore, Committed, MayCommit}
use Rattle.rows_sql.specs.declared.records.StoreHistory.{StoreHistory}
use Rattle.rows_sql.specs.Keeping.{Stood, no_rows, noted, stood, IsLeft, Keeps, GoesOn}

fold_last : {A B : Type 0} (f : B → A → B) (b : B) (xs : List A) (x : A) → fold f b (xs ++ x ∷ []) ≡ f (fold f b xs) x
fold_last f b [] x = refl
fold_last f b (y ∷ xs) x = fold_last f (f b y) xs x

pub stood_last : (items : List (StoreHistory × List Edit)) (n : StoreHistory) (change : List Edit) → stood (items ++ (n, change) ∷ []) ≡ noted n change (stood items)
stood_last items n change = fold_last (λ (s : Stood) (m : StoreHistory × List Edit). noted m.0 m.1 s) (record { rows = no_rows; left = [] }) items (n, change)

pub some_is : {X : Type 0} (a b : X) → Some a ≡ Some b → a ≡ b
some_is a b e = cc

-- no rows were kept that were read before
pub none_kept : (o : Option Rows) (P : Rows → Type 0) → o ≡ None → (rows : Rows) → o ≡ Some rows → P rows
none_kept o P none rows some = absurd (let e = sym none ∙ some in cc)

has_first : {X : Type 0} (xs : List X) (y x : X) → Has xs x → Has (xs ++ y ∷ []) x
has_first [] y x h = absurd h
has_first (z ∷ xs) y x (inl same) = inl same
has_first (z ∷ xs) y x (inr h) = inr (has_first xs y x h)

has_last : {X : Type 0} (xs : List X) (y : X) → Has (xs ++ y ∷ []) y
has_last [] y = inl refl
has_last (z ∷ xs) y = inr (has_last xs y)

on_if_not_shut : (b : Bool) → not b ≡ false → IsTrue b
on_if_not_shut true h = refl
on_if_not_shut false h = absurd (true≢false h)

says_at : (a b : Database) (rows : Rows) → a ≡ b → Says (tables_of b.trees) rows → Says (tables_of a.trees) rows
says_at a b rows same = subst (λ (d : Database). Says (tables_of d.trees) rows) (sym same)

module _ {S : Type 0} (g : Ghosts S) (old new : Held S) (rows : Rows) (left : List Rows) (keeps : Keeps (state g old) false rows left) where
  open_before : HasCleanDisk (state g old) → IsTrue (state g old).is_open
  open_before clean = keeps.is_open clean refl

  before : HasCleanDisk (state g old) → IsReady (state g old)
  before clean = let k = keeps.store clean (open_before clean) in record { ours = k.0.schema; settled = λ _. k.1 }

  -- ---- a read

  -- the rows that were read are those that stand
  pub same_rows : (read : Rows) → Quiet g old new → (HasCleanDisk (state g new) → IsReady (state g old) → Says (tables_of (state g old).now.trees) read) → HasCleanDisk (state g new) → read ≡ rows
  same_rows read q said clean =
      let was : HasCleanDisk (state g old) = omega (arith, q.clean, clean) in
      one_said Third (tables_of (state g old).now.trees) read rows [] [] (said clean (before was)) (keeps.store was (open_before was)).2

  -- of the rows that stand, all that is found of rows which the tables say
  pub found_of : (P : Rows → Type 0) → Quiet g old new → (HasCleanDisk (state g new) → IsReady (state g old) → (r : Rows) → Says (tables_of (state g old).now.trees) r → P r) → HasCleanDisk (state g new) → P rows
  found_of P q found clean =
      let was : HasCleanDisk (state g old) = omega (arith, q.clean, clean) in
      found clean (before was) rows (keeps.store was (open_before was)).2

  crash_read : Quiet g old new → HasCleanDisk (state g new) → (db : Trees) → (state g new).may_leave db → IsLeft left db
  crash_read q clean db may = let was : HasCleanDisk (state g old) = omega (arith, q.clean, clean) in keeps.crash was db (q.crash clean (before was) db may)

  pub keeps_read : (read : Rows) → Quiet g old new → (HasCleanDisk (state g new) → IsReady (state g old) → Says (tables_of (state g old).now.trees) read) → (HasCleanDisk (state g new) → IsReady (state g old) → IsStill (state g old) (state g new)) → Keeps (state g new) false read left
  keeps_read read q said still = record {
    idle = q.idle keeps.idle;
    is_open = λ clean o. let was : HasCleanDisk (state g old) = omega (arith, q.clean, clean) in (still clean (before was)).is_open;
    store = λ clean o.
        let was : HasCleanDisk (state g old) = omega (arith, q.clean, clean) in
        let at = before was in
        let s = still clean at in
        (subst IsStore (sym s.now_is) (keeps.store was (open_before was)).0, s.ready.settled s.is_open, says_at _ _ read s.now_is (said clean at));
    crash = crash_read q;
  }

  -- it was read and is as before, and the rows stay
  pub keeps_still : Quiet g old new → (HasCleanDisk (state g new) → IsReady (state g old) → IsStill (state g old) (state g new)) → Keeps (state g new) false rows left
  keeps_still q still = record {
    idle = q.idle keeps.idle;
    is_open = λ clean o. let was : HasCleanDisk (state g old) = omega (arith, q.clean, clean) in (still clean (before was)).is_open;
    store = λ clean o.
        let was : HasCleanDisk (state g old) = omega (arith, q.clean, clean) in
        let s = still clean (before was) in
        let k = keeps.store was (open_before was) in
        (subst IsStore (sym s.now_is) k.0, s.ready.settled s.is_open, says_at _ _ rows s.now_is k.2);
    crash = crash_read q;
  }

  -- the database refused a read, and was looked at again
  pub keeps_unread : (on : Bool) (end : Held S) → Quiet g old new → GoesOn g on new end → Keeps (state g end) (not on) rows left
  keeps_unread on end q goes = record {
    idle = goes.idle;
    is_open = λ clean o. goes.is_open clean (on_if_not_shut on o);
    store = λ clean o.
        let mid : HasCleanDisk (state g new) = omega (arith, goes.clean, clean) in
        let was : HasCleanDisk (state g old) = omega (arith, q.clean, mid) in
        let then = goes.rests clean o in
        let first = q.rests mid (before was) then.0 in
        let k = keeps.store was first.0 in
        let now : (state g end).now ≡ (state g old).now = then.1 ∙ first.1 in
        (subst IsStore (sym now) k.0, then.2 ∙ first.2 ∙ k.1 ∙ sym now, says_at _ _ rows now k.2);
    crash = λ clean db may. let mid : HasCleanDisk (state g new) = omega (arith, goes.clean, clean) in crash_read q mid db (goes.crash clean db may);
  }

  -- ---- a commit

  -- behind a commit a crash leaves the changed rows alone
  pub keeps_committed : (change : List Edit) → ((state g new).in_transaction ≡ false) → Survives (state g old) (state g new) (MayCommit change (state g old)) → (HasCleanDisk (state g new) → Committed change (state g old) (state g new))
      → ((db : Trees) → IsTrue (state g new).is_open → (state g new).may_leave db → db ≡ (state g new).committed.trees) → Keeps (state g new) false (changed_rows rows change) (changed_rows rows change ∷ [])
  keeps_committed change idle s did settled =
      let was : HasCleanDisk (state g new) → HasCleanDisk (state g old) = λ clean. omega (arith, s.clean, clean) in
      let says : HasCleanDisk (state g new) → Says (tables_of (state g new).now.trees) (changed_rows rows change) = λ clean. let k = keeps.store (was clean) (open_before (was clean)) in (did clean).says k.0 rows k.2 in
      record {
        idle = idle;
        is_open = λ clean o. (did clean).is_open;
        store = λ clean o. let k = keeps.store (was clean) (open_before (was clean)) in ((did clean).store k.0, (did clean).committed, says clean);
        crash = λ clean db may.
            let is : db ≡ (state g new).now.trees = settled db (did clean).is_open may ∙ ap (λ (d : Database). d.trees) (did clean).committed in
            (changed_rows rows change, inl refl, subst (λ (t : Trees). Says (tables_of t) (changed_rows rows change)) (sym is) (says clean));
      }

  -- behind a refusal what it could leave before, or the changed rows
  pub keeps_tried : (change : List Edit) (on : Bool) (end : Held S) → Survives (state g old) (state g new) (MayCommit change (state g old)) → (HasCleanDisk (state g new) → KeepsCommit (state g old) (state g new)) → GoesOn g on new end
      → Keeps (state g end) (not on) rows (left ++ changed_rows rows change ∷ [])
  keeps_tried change on end s kept goes = record {
    idle = goes.idle;
    is_open = λ clean o. goes.is_open clean (on_if_not_shut on o);
    store = λ clean o.
        let mid : HasCleanDisk (state g new) = omega (arith, goes.clean, clean) in
        let was : HasCleanDisk (state g old) = omega (arith, s.clean, mid) in
        let then = goes.rests clean o in
        let k = keeps.store was (open_before was) in
        let committed : (state g new).committed ≡ (state g old).now = (kept mid).committed then.0 ∙ k.1 in
        let now : (state g end).now ≡ (state g old).now = then.1 ∙ sym (goes.settled then.0) ∙ committed in
        (subst IsStore (sym now) k.0, then.2 ∙ committed ∙ sym now, says_at _ _ rows now k.2);
    crash = λ clean db may.
        let mid : HasCleanDisk (state g new) = omega (arith, goes.clean, clean) in
        let was : HasCleanDisk (state g old) = omega (arith, s.clean, mid) in
        let k = keeps.store was (open_before was) in
        elim (s.crash mid db (goes.crash clean db may)) [
          | inl b ↦ let r = keeps.crash was db b in (r.0, has_first left (changed_rows rows change) r.0 r.1, r.2)
          | inr m ↦ (changed_rows rows change, has_last left (changed_rows rows change), m k.0 rows k.2)
        ];
  }
