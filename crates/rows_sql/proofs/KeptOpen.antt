-- A connection that is taken over as it is.
use Rattle.std.proofs.Common.{◌≡◌, ◌≤◌, Bool, true, false, not, inl, inr, refl, sym, ap, ◌∙◌, subst, arith, true≢false, Result, Ok, Err}
use Rattle.std.specs.Prelude.{IsTrue, IfOk, IfErr, is_ok}
use Rattle.sqlite_trees.specs.declared.store.Store.{Ghosts}
use Rattle.sqlite_trees.specs.View.{View, IsClean, IsQuiet, doubt}
use Rattle.sqlite.specs.Tree.{Trees}
use Rattle.sqlite.specs.Effect.{Database, IsDatabase}
use Rattle.sqlite.specs.State.{HasCleanDisk, IsLive, IsUnchanged, Survives}
use Rattle.sqlite.specs.Held.{Held, state}
use Rattle.rows_sql.specs.Orders.{StandsInOrder}
use Rattle.rows_sql.specs.Adopting.{IsAnew, IsReopened}
use Rattle.rows_sql.proofs.Shaped.{is_store_of}

pub unbegun : (told begun : Bool) → told ≡ not begun → told ≡ true → begun ≡ false
unbegun told true is t = absurd (true≢false (sym t ∙ is))
unbegun told false is t = refl

pub told_unchanged : {X E : Type 0} (Q : X → Type 0) (P : Type 0) (r : Result X E) (told : Bool) → told ≡ is_ok r → IsTrue told → IfOk r (λ x. Q x × P) → P
told_unchanged Q P (Ok x) told is went h = h.1
told_unchanged Q P (Err e) told is went h = absurd (true≢false (sym went ∙ is))

-- what may be left of a store that comes back may be left of a clean one
pub back_if_err : {X S : Type 0} (g : Ghosts S) (old : Held S) (r : Result X S)
    → IfErr r (λ store. (doubt (state g old).is_clean ≤ doubt (g.view store).is_clean) × ((db : Trees) → g.recovers store db → (state g old).may_leave db))
    → IfErr r (λ store. (doubt (state g old).is_clean ≤ doubt (g.view store).is_clean) × (IsClean (g.view store) → (db : Trees) → g.recovers store db → (state g old).may_leave db))
back_if_err g old (Ok x) h = tt
back_if_err g old (Err store) h = (h.0, λ _. h.1)

-- the last commit, as a view of its own
abbrev as_committed : View → View
as_committed v = record v { trees = v.committed; shape = v.committed_shape; reals = v.committed_reals }

module _ {S : Type 0} (g : Ghosts S) (old new : Held S) (survives : Survives (state g old) (state g new) (λ _. ⊥)) where
  crashes_as_before : HasCleanDisk (state g new) → (db : Trees) → (state g new).may_leave db → (state g old).may_leave db
  crashes_as_before clean db may = elim (survives.crash clean db may) [ inl b ↦ b | inr none ↦ absurd none ]

  pub given_back : (store : S) → IsQuiet g.view g.faults g.recovers g.is_shielded new.store store
      → (doubt (state g old).is_clean ≤ doubt (g.view store).is_clean) × (IsClean (g.view store) → (db : Trees) → g.recovers store db → (state g old).may_leave db)
  given_back store quiet = (
    omega (arith, survives.clean, quiet.clean),
    λ clean db may. crashes_as_before (omega (arith, quiet.clean, clean)) db (quiet.outcomes db may),
  )

  -- it took a statement, so it is open; and nothing is begun there
  module _ (in_order : (s : S) → IsTrue (g.view s).is_open → StandsInOrder (g.view s)) (idle : new.in_transaction ≡ false) (live : IsLive (state g old))
      (settled : IsTrue (state g old).is_open → (state g old).now ≡ (state g old).committed) (same : HasCleanDisk (state g new) → IsUnchanged (state g old) (state g new)) where
    now_is : HasCleanDisk (state g new) → (state g new).now ≡ (state g new).committed
    now_is clean = let s = (same clean).0 in s.now_is ∙ settled s.was_open ∙ sym s.committed_is

    trees_are : HasCleanDisk (state g new) → (state g new).now.trees ≡ (g.view new.store).committed
    trees_are clean = ap (λ (d : Database). d.trees) (now_is clean)

    listed : HasCleanDisk (state g new) → IsDatabase (state g new).now
    listed clean = let s = (same clean).0 in subst IsDatabase (sym s.now_is) (live s.was_open).0

    stands : HasCleanDisk (state g new) → StandsInOrder (g.view new.store)
    stands clean = in_order new.store (same clean).0.is_open

    kept_anew : IsAnew (state g new)
    kept_anew = record {
      idle = idle;
      is_open = λ clean. (same clean).0.is_open;
      settled = λ clean. sym (now_is clean);
      listed = listed;
      stores = λ clean version ours. is_store_of version (as_committed (g.view new.store)) (state g new).now (trees_are clean) ours (listed clean) (stands clean).listed (stands clean).ordered;
    }

    pub kept : IsReopened g old new
    kept = record {
      anew = kept_anew;
      clean = survives.clean;
      has = λ clean. let s = (same clean).0 in record { is_open = s.was_open; listed = (live s.was_open).1 };
      same = λ clean. let s = (same clean).0 in s.now_is ∙ settled s.was_open;
      crash = crashes_as_before;
    }
