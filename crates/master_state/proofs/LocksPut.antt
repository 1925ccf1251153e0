-- Locks that are put one after the other, and taken back.
use Rattle.std.proofs.Common.{◌≡◌, ℕ, List, [], ◌∷◌, ◌++◌, Option, refl, sym, ap, ◌∙◌}
use Rattle.std.specs.Ordering.{nat_cmp}
use Rattle.collections.specs.Tables.{with_former}
use Rattle.lock_core.specs.State.{LockState}
use Rattle.lock_core.specs.Locks.{LockTable}
use Rattle.master_state.specs.State.{MasterState}
use Rattle.master_state.specs.Updates.{with_formers, without_locks}

abbrev pub Formers : Type 0
Formers = List (ℕ × Option LockState)

last_first : (locks : LockTable) (formers : Formers) (instance : ℕ) (former : Option LockState) → with_formers locks (formers ++ (instance, former) ∷ []) ≡ with_formers (with_former nat_cmp locks instance former) formers
last_first locks [] instance former = refl
last_first locks (first ∷ formers) instance former = ap (λ t. with_former nat_cmp t first.0 first.1) (last_first locks formers instance former)

-- the last of those that were put is taken back
pub one_back : (s new : MasterState) (all left : Formers) (instance : ℕ) (former : Option LockState) → all ≡ left ++ (instance, former) ∷ [] → new ≡ record s { locks = with_former nat_cmp s.locks instance former } → without_locks new left ≡ without_locks s all
one_back s new all left instance former are is =
    ap (λ t. without_locks t left) is ∙ ap (λ locks. record s { locks = locks }) (sym (last_first s.locks left instance former)) ∙ ap (λ formers. without_locks s formers) (sym are)

-- one more is put, and what was there is noted after the others
pub one_put : (first s new : MasterState) (put : LockTable) (formers all : Formers) (instance : ℕ) (former : Option LockState) → without_locks s formers ≡ first → new ≡ record s { locks = put } → with_former nat_cmp new.locks instance former ≡ s.locks → all ≡ formers ++ (instance, former) ∷ [] → without_locks new all ≡ first
one_put first s new put formers all instance former h is back are =
    ap (λ t. without_locks t all) is ∙ ap (λ fs. record s { locks = with_formers put fs }) are ∙ ap (λ locks. record s { locks = locks }) (last_first put formers instance former ∙ ap (λ locks. with_formers locks formers) (ap (λ t. with_former nat_cmp t.locks instance former) (sym is) ∙ back)) ∙ h
