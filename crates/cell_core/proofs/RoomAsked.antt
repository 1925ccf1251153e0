-- What a lock that is asked for becomes, by the parts that its method has.
use Rattle.std.proofs.Common.{◌≡◌, ℕ, Option, Ok, sym, ap, ◌∙◌}
use Rattle.node_core.specs.declared.kinds.LockMode.{LockMode}
use Rattle.node_core.specs.declared.refusals.Fault.{Fault}
use Rattle.tags_cell.specs.declared.handles.Handle.{Handle}
use Rattle.lock_core.specs.declared.claims.Claim.{Claim}
use Rattle.lock_core.specs.declared.turns.Acquired.{Acquired}
use Rattle.lock_core.specs.State.{LockState}
use Rattle.lock_core.specs.Turns.{tried, acquired}
use Rattle.lock_core.specs.Locks.{LockTable, lock_at}
use Rattle.master_parts.specs.Claims.{claim_of}
use Rattle.master_state.specs.NameSpace.{NameSpace}
use Rattle.cell_core.specs.Effect.{lock_fault, acquire_by, acquire_at, try_by, try_at}

pub acquire_is : (space : NameSpace) (handle : Handle) (mode : LockMode) (claim : Claim) (client instance : ℕ) (room : Option Fault) (locks : LockTable) (given : Acquired)
    → claim ≡ claim_of handle mode → client ≡ handle.client → room ≡ lock_fault space client → locks ≡ space.locks → instance ≡ handle.instance → acquired (lock_at locks instance) claim ≡ Ok given
    → acquire_by handle claim room (Ok given) ≡ acquire_at space handle mode
acquire_is space handle mode claim client instance room locks given claims own limited all there h =
    let asks : Claim = claim_of handle mode in
    let same : acquired (lock_at space.locks handle.instance) asks ≡ Ok given =
    sym (ap (λ l. acquired (lock_at l handle.instance) asks) all) ∙ (sym (ap (λ i. acquired (lock_at locks i) asks) there) ∙ (sym (ap (λ c. acquired (lock_at locks instance) c) claims) ∙ h)) in
    ap (λ c. acquire_by handle c room (Ok given)) claims
    ∙ (ap (λ r. acquire_by handle asks r (Ok given)) (limited ∙ ap (lock_fault space) own) ∙ ap (λ a. acquire_by handle asks (lock_fault space handle.client) a) (sym same))

pub try_is : (space : NameSpace) (handle : Handle) (mode : LockMode) (claim : Claim) (client instance clock now : ℕ) (room : Option Fault) (locks : LockTable) (given : LockState)
    → claim ≡ claim_of handle mode → client ≡ handle.client → room ≡ lock_fault space client → locks ≡ space.locks → instance ≡ handle.instance → clock ≡ now → tried (lock_at locks instance) claim clock ≡ Ok given
    → try_by handle claim room (Ok given) ≡ try_at space now handle mode
try_is space handle mode claim client instance clock now room locks given claims own limited all there moment h =
    let asks : Claim = claim_of handle mode in
    let same : tried (lock_at space.locks handle.instance) asks now ≡ Ok given =
    sym (ap (λ n. tried (lock_at space.locks handle.instance) asks n) moment)
    ∙ (sym (ap (λ l. tried (lock_at l handle.instance) asks clock) all) ∙ (sym (ap (λ i. tried (lock_at locks i) asks clock) there) ∙ (sym (ap (λ c. tried (lock_at locks instance) c clock) claims) ∙ h))) in
    ap (λ c. try_by handle c room (Ok given)) claims
    ∙ (ap (λ r. try_by handle asks r (Ok given)) (limited ∙ ap (lock_fault space) own) ∙ ap (λ a. try_by handle asks (lock_fault space handle.client) a) (sym same))
