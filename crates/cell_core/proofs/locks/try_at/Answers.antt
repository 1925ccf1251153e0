use Rattle.std.proofs.Common.{◌≡◌, IfOk, subst}
use Rattle.master_state.specs.NameSpace.{name_space}
use Rattle.cell_core.specs.declared.effects.Effect.{Effect}
use Rattle.cell_core.proofs.RoomAsked.{try_is}
use Rattle.cell_core.proofs.locks.try_at.Goals as goal

pub returns-in-Ok : goal.returns-in-Ok
returns-in-Ok c =
    let P : Effect → Type 0 = λ all. IfOk c.try_by.result (λ done. done ≡ all) in
    subst P
    (try_is (name_space c.args.master.now) c.args.handle.now c.args.mode c.claim_of-claim.result c.get.result c.get-2.result c.clock.result c.args.master.now.clock c.in_ok-room.room c.locks.result.now c.in-Ok.lock c.claim_of-claim.ensures c.get.ensures.value c.in_ok-room.ensures c.locks.ensures c.get-2.ensures.value c.clock.ensures.value c.in-Ok.ensures)
    c.try_by.ensures
