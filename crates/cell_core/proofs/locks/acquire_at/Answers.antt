use Rattle.std.proofs.Common.{◌≡◌, IfOk, subst}
use Rattle.master_state.specs.NameSpace.{name_space}
use Rattle.cell_core.specs.declared.effects.Effect.{Effect}
use Rattle.cell_core.proofs.RoomAsked.{acquire_is}
use Rattle.cell_core.proofs.locks.acquire_at.Goals as goal

pub returns-in-Ok : goal.returns-in-Ok
returns-in-Ok c =
    let P : Effect → Type 0 = λ all. IfOk c.acquire_by.result (λ done. done ≡ all) in
    subst P
    (acquire_is (name_space c.args.master.now) c.args.handle.now c.args.mode c.claim_of-claim.result c.get.result c.get-2.result c.in_ok-room.room c.locks.result.now c.in-Ok.asked c.claim_of-claim.ensures c.get.ensures.value c.in_ok-room.ensures c.locks.ensures c.get-2.ensures.value c.in-Ok.ensures)
    c.acquire_by.ensures
