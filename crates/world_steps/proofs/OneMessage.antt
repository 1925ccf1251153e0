-- A master that takes a message sends one at most.
use Rattle.std.proofs.Common.{◌≡◌, ℕ, ◌≤◌, length, Ok, Option, Some, None, rules, ap}
use Rattle.tags_cell.specs.declared.messages.outs.Reply.{Reply}
use Rattle.tags_cell.specs.declared.messages.requests.Request.{Request}
use Rattle.master_parts.specs.declared.pending.Taken.{Taken}
use Rattle.master_state.specs.State.{MasterState}
use Rattle.cell_core.specs.Step.{take_step}
use Rattle.master_state.specs.Lookups.{repeated_reply, noted}
use Rattle.cell_core.specs.Cases.{TakeCase, taken_by}
use Rattle.cell_core.specs.Cases.TakeCase.{LeftBefore, Repeated}
use Rattle.cell_core.proofs.TakeCases.{taken_case}

repeated_few : (reply : Option Reply) → length (repeated_reply reply).outs ≤ 1
repeated_few None = search rules
repeated_few (Some reply) = search rules

taken_few : (s : MasterState) (request : Request) (c : TakeCase s request) → length (taken_by s request c).1.outs ≤ 1
taken_few s request (LeftBefore message kept request_is same_epoch ended is same) = repeated_few kept.reply
taken_few s request (Repeated message kept heard is same) = repeated_few kept.reply
taken_few s request _ = search rules

pub take_few : (s : MasterState) (now : ℕ) (request : Request) (new : MasterState) (taken : Taken) → take_step s now request ≡ Ok (new, taken) → length taken.outs ≤ 1
take_few s now request new taken h =
    let t = taken_case s new now request taken h in
    let is : taken ≡ (taken_by (noted s now) request t.0).1 = ap (λ p. p.1) t.1 in
    rw is (taken_few (noted s now) request t.0)
