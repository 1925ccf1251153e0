-- What a store does when it is asked, as a sweep sees it.
use Rattle.std.proofs.Common.{◌≡◌, ℕ, Bool, true, false, List, [], ◌∷◌, Result, Ok, Err, refl, sym, ◌∙◌, ap, subst, inl, inr, arith}
use Rattle.std.specs.Prelude.{◌⊎◌, ◌++◌, ◌||◌, ◌≤◌, not}
use Rattle.node_core.specs.declared.refusals.Fault.{Fault}
use Rattle.node_core.specs.declared.refusals.Fault.TheVariants as faults
use Rattle.rows_cell.specs.declared.tables.Rows.{Rows}
use Rattle.rows_cell.specs.declared.tables.Edit.{Edit}
use Rattle.rows_cell.specs.declared.tables.Edit.TheVariants.{NextInstance}
use Rattle.rows_cell.specs.Rows.{changed_rows}
use Rattle.rows_cell.specs.Sound.{sound}
use Rattle.rows_cell.specs.Stores.{Store, Commits, IsCommitted, IsRefused, IsWant, StoreRefuses, MayLeave, MayRefuse}
use Rattle.over_core.specs.Sweep.{IsSwept, IsHeldUp, Sweeps, IsSettled, MayHoldUp, MayLeaveUp, asked_edits}

-- the next instance that the rows have, put again, changes nothing
pub same_rows : (rows : Rows) (next : ℕ) → rows.next_instance ≡ next → changed_rows rows (NextInstance next ∷ []) ≡ rows
same_rows rows next is = ap (λ (n : ℕ). record rows { next_instance = n }) (sym is)

want_refuses : (fault : Fault) (before after : ℕ) → IsWant fault before after → StoreRefuses fault before after
want_refuses fault before after want =
    let P : Fault → Type 0 = λ e. StoreRefuses e before after in
    subst P (sym want.0) want.1

refused : (settled freed : Bool) (next : ℕ) (edits : List Edit) (old new : Store) (fault : Fault) → old.rows.next_instance ≡ next
    → IsRefused fault (asked_edits settled freed next edits) old new → IsHeldUp fault freed edits old new
refused true true next [] old new fault is r = record { cell = r.cell; rows = r.rows; leave = inl r.leave; why = want_refuses fault old.refusals new.refusals r.why; doubted = r.doubted }
refused true false next [] old new fault is r = record { cell = r.cell; rows = r.rows; leave = r.leave; why = r.why; doubted = r.doubted }
refused false true next [] old new fault is r =
    let P : Rows → Type 0 = λ rows. (new.may_leave ≡ old.may_leave) ⊎ (new.may_leave ≡ old.may_leave ++ rows ∷ []) in
    record { cell = r.cell; rows = r.rows; leave = subst P (same_rows old.rows next is) r.leave; why = r.why; doubted = r.doubted }
refused false false next [] old new fault is r = record { cell = r.cell; rows = r.rows; leave = r.leave; why = r.why; doubted = r.doubted }
refused settled true next (edit ∷ edits) old new fault is r = record { cell = r.cell; rows = r.rows; leave = r.leave; why = r.why; doubted = r.doubted }
refused settled false next (edit ∷ edits) old new fault is r = record { cell = r.cell; rows = r.rows; leave = r.leave; why = r.why; doubted = r.doubted }

committed : (settled freed : Bool) (next : ℕ) (edits : List Edit) (old new : Store) → old.rows.next_instance ≡ next → (settled ≡ true → IsSettled old)
    → IsCommitted (asked_edits settled freed next edits) old new → IsSwept freed edits old new
committed true true next [] old new is so c =
    record { cell = c.cell; rows = c.rows; leave = c.leave ∙ so refl ∙ ap (λ (r : Rows). r ∷ []) (sym c.rows); counted = c.counted; doubted = c.doubted }
committed true false next [] old new is so c = record { cell = c.cell; rows = c.rows; leave = c.leave; counted = c.counted; doubted = c.doubted }
committed false true next [] old new is so c = record { cell = c.cell; rows = c.rows ∙ same_rows old.rows next is; leave = c.leave; counted = c.counted; doubted = c.doubted }
committed false false next [] old new is so c = record { cell = c.cell; rows = c.rows; leave = c.leave; counted = c.counted; doubted = c.doubted }
committed settled true next (edit ∷ edits) old new is so c = record { cell = c.cell; rows = c.rows; leave = c.leave; counted = c.counted; doubted = c.doubted }
committed settled false next (edit ∷ edits) old new is so c = record { cell = c.cell; rows = c.rows; leave = c.leave; counted = c.counted; doubted = c.doubted }

pub sweeps : {X : Type 0} → (settled freed : Bool) (next : ℕ) (edits : List Edit) (old new : Store) (result : Result X Fault) → old.rows.next_instance ≡ next → (settled ≡ true → IsSettled old)
    → Commits (asked_edits settled freed next edits) old new result → Sweeps freed edits old new result
sweeps settled freed next edits old new (Ok x) is so c = committed settled freed next edits old new is so c
sweeps settled freed next edits old new (Err fault) is so c = refused settled freed next edits old new fault is c

-- for want of memory the store isn't asked
pub unasked : (freed : Bool) (edits : List Edit) (store : Store) → IsHeldUp faults.NoMemory freed edits store store
unasked true edits store = record { cell = refl; rows = refl; leave = inl refl; why = refl; doubted = omega arith }
unasked false [] store = record { cell = refl; rows = refl; leave = refl; why = (refl, refl); doubted = omega arith }
unasked false (edit ∷ edits) store = record { cell = refl; rows = refl; leave = inl refl; why = refl; doubted = omega arith }

-- what is asked is sound, since it makes the rows that the edits make
pub asked_sound : (settled freed : Bool) (next : ℕ) (edits : List Edit) (store : Store) → store.rows.next_instance ≡ next → sound store.cell (changed_rows store.rows edits) ≡ true
    → sound store.cell (changed_rows store.rows (asked_edits settled freed next edits)) ≡ true
asked_sound true true next [] store is h = h
asked_sound true false next [] store is h = h
asked_sound false true next [] store is h =
    let P : Rows → Type 0 = λ rows. sound store.cell rows ≡ true in
    subst P (sym (same_rows store.rows next is)) h
asked_sound false false next [] store is h = h
asked_sound settled freed next (edit ∷ edits) store is h = h

-- a commit of something leaves its rows alone, and one of nothing what was left before
pub settled_by : (edits : List Edit) (old new : Store) → IsCommitted edits old new → IsSettled old → IsSettled new
settled_by [] old new c so = c.leave ∙ so ∙ ap (λ (r : Rows). r ∷ []) (sym c.rows)
settled_by (edit ∷ edits) old new c so = c.leave
