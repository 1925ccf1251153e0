-- A master whose changes are held back stands beside what its rows would be.
use Rattle.std.proofs.Common.{◌≡◌, true, ℕ, List, ◌++◌, Result, Ok, Err, refl, sym, ap, subst, ◌∙◌}
use Rattle.std.specs.Prelude.{IfOk, OnOk, OnErr}
use Rattle.node_core.specs.declared.refusals.Fault.{Fault}
use Rattle.rows_cell.specs.declared.tables.Rows.{Rows}
use Rattle.rows_cell.specs.declared.tables.Edit.{Edit}
use Rattle.rows_cell.specs.Rows.{changed_rows}
use Rattle.rows_cell.specs.Stores.{Store, IsCommitted}
use Rattle.master_parts.specs.declared.pending.Orphan.{Orphan}
use Rattle.master_state.specs.State.{MasterState}
use Rattle.over_core.specs.Kept.{IsKept}
use Rattle.over_core.specs.declared.actions.Action.{Action}
use Rattle.over_core.specs.declared.actions.Action.TheVariants.{Tidy}
use Rattle.over_core.specs.declared.swept.Swept.{Swept}
use Rattle.over_core.specs.Plans.{first_action}
use Rattle.over_core.specs.Sweep.{action_edits, sweep_edits, sweep_frees, sweep_step, IsSettled, IsSwept}
use Rattle.over_core.proofs.KeptBySweeps.{swept_kept}
use Rattle.rows_cell.specs.Sound.{sound}
use Rattle.hosting.specs.Held.{store_behind}
use Rattle.hosting.specs.Pieces.{HeldPieces, AreSound, AreTaken, all_held, all_pieces, held_with}
use Rattle.hosting.proofs.PieceLaws.{held_all, held_sound, held_taken}
use Rattle.hosting.proofs.HeldBack.{settled_back, swept_back}

pub held_kept : (store : Store) (held new : List Edit) (s after : MasterState) (now : ℕ) (result : Result Swept Fault) → IsKept store.cell (changed_rows store.rows held) s
    → IsSettled (store_behind store held) → IfOk result (λ told. sweep_step s now ≡ Ok (after, told)) → OnOk result (new ≡ held ++ sweep_edits s now) → OnErr result ((after ≡ s) × (new ≡ held))
    → IsKept store.cell (changed_rows store.rows new) after
held_kept store held new s after now (Ok told) k so ok is err =
    let P : List Edit → Type 0 = λ u. IsKept store.cell (changed_rows store.rows u) after in
    subst P (sym is) (swept_kept (store_behind store held) (store_behind store (held ++ sweep_edits s now)) s after now (Ok told) k ok (swept_back (sweep_frees s now) store held (sweep_edits s now) so) tt tt)
held_kept store held new s after now (Err e) k so ok is err =
    let P : List Edit → Type 0 = λ u. IsKept store.cell (changed_rows store.rows u) after in
    let Q : MasterState → Type 0 = λ m. IsKept store.cell (changed_rows store.rows held) m in
    subst P (sym err.1) (subst Q (sym err.0) k)

-- a crash leaves the rows alone, before and after
pub held_settled : (store : Store) (held new : List Edit) (s after : MasterState) (now : ℕ) (result : Result Swept Fault) → IsSettled (store_behind store held)
    → OnOk result (new ≡ held ++ sweep_edits s now) → OnErr result ((after ≡ s) × (new ≡ held)) → IsSettled (store_behind store new)
held_settled store held new s after now (Ok told) so is err =
    let P : List Edit → Type 0 = λ u. IsSettled (store_behind store u) in
    subst P (sym is) (settled_back store held (sweep_edits s now) so)
held_settled store held new s after now (Err e) so is err =
    let P : List Edit → Type 0 = λ u. IsSettled (store_behind store u) in
    subst P (sym err.1) so

pub held_swept : (store : Store) (held new : List Edit) (s : MasterState) (now : ℕ) (result : Result Swept Fault) → IsSettled (store_behind store held) → OnOk result (new ≡ held ++ sweep_edits s now)
    → OnOk result (IsSwept (sweep_frees s now) (sweep_edits s now) (store_behind store held) (store_behind store new))
held_swept store held new s now (Ok told) so is =
    let P : List Edit → Type 0 = λ u. IsSwept (sweep_frees s now) (sweep_edits s now) (store_behind store held) (store_behind store u) in
    subst P (sym is) (swept_back (sweep_frees s now) store held (sweep_edits s now) so)
held_swept store held new s now (Err e) so is = tt

-- ---- the pieces

pub held_as : {X E : Type 0} (held new : HeldPieces) (edits : List Edit) (result : Result X E) → OnOk result (new ≡ held_with held edits) → OnOk result (all_held new ≡ all_held held ++ edits)
held_as held new edits (Ok x) is = ap all_held is ∙ held_all held edits
held_as held new edits (Err e) is = tt

pub left_as : {X E : Type 0} (held new : HeldPieces) (s after : MasterState) (result : Result X E) → OnErr result ((after ≡ s) × (new ≡ held)) → OnErr result ((after ≡ s) × (all_held new ≡ all_held held))
left_as held new s after (Ok x) is = tt
left_as held new s after (Err e) is = (is.0, ap all_held is.1)

pub pieces_sound : {X E : Type 0} (cell : List ℕ) (rows : Rows) (held new : HeldPieces) (edits : List Edit) (s after : MasterState) (result : Result X E) → AreSound cell rows (all_pieces held)
    → OnOk result (new ≡ held_with held edits) → OnErr result ((after ≡ s) × (new ≡ held)) → IsKept cell (changed_rows rows (all_held new)) after → AreSound cell rows (all_pieces new)
pieces_sound cell rows held new edits s after (Ok x) so is err k =
    let P : HeldPieces → Type 0 = λ h. AreSound cell rows (all_pieces h) in
    let Q : List Edit → Type 0 = λ u. sound cell (changed_rows rows u) ≡ true in
    subst P (sym is) (held_sound cell rows held edits so (subst Q (ap all_held is ∙ held_all held edits) k.sound_rows))
pieces_sound cell rows held new edits s after (Err e) so is err k =
    let P : HeldPieces → Type 0 = λ h. AreSound cell rows (all_pieces h) in
    subst P (sym err.1) so

pub pieces_taken : {X E : Type 0} (held new : HeldPieces) (s after : MasterState) (now : ℕ) (result : Result X E) → AreTaken held.limits (all_pieces held)
    → OnOk result (new ≡ held_with held (sweep_edits s now)) → OnErr result ((after ≡ s) × (new ≡ held)) → AreTaken new.limits (all_pieces new)
pieces_taken held new s after now (Ok x) t is err =
    let P : HeldPieces → Type 0 = λ h. AreTaken h.limits (all_pieces h) in
    subst P (sym is) (held_taken held (sweep_edits s now) t (s, now, refl))
pieces_taken held new s after now (Err e) t is err =
    let P : HeldPieces → Type 0 = λ h. AreTaken h.limits (all_pieces h) in
    subst P (sym err.1) t

pub committed_kept : (old new : Store) (edits : List Edit) (s : MasterState) → IsCommitted edits old new → IsKept old.cell (changed_rows old.rows edits) s → IsKept new.cell new.rows s
committed_kept old new edits s c k =
    let P : List ℕ → Type 0 = λ u. IsKept u new.rows s in
    let Q : Rows → Type 0 = λ r. IsKept old.cell r s in
    subst P (sym c.cell) (subst Q (sym c.rows) k)

-- what is queued holds nothing back
pub tidied_nothing : (s : MasterState) (idle : Orphan) (held new : HeldPieces) → Tidy idle ≡ first_action s → new ≡ held → new ≡ held_with held (action_edits s (first_action s))
tidied_nothing s idle held new first same =
    let P : Action → Type 0 = λ a. new ≡ held_with held (action_edits s a) in
    subst P first same
