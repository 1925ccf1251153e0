use Rattle.std.proofs.Common.{rules, ◌≡◌, ℕ, ◌≤◌, ◌<◌, ◌+◌, length, ◌∙◌, Result, Ok, Err, arith}
use Rattle.std.specs.Vec.{vec_len, vec_capacity}
use Rattle.node_core.specs.declared.refusals.Fault.{Fault}
use Rattle.client_core.specs.State.{ClientState}
use Rattle.client_core.specs.Gives.{give_step}
use Rattle.client_core.specs.declared.parts.steps.Given.{Given}
use Rattle.world_steps.specs.declared.members.WorldClient.{WorldClient}
use Rattle.world_steps.specs.Members.{Clients, Answers}
use Rattle.world_steps.proofs.MemberAnswers.{give_few}
use Rattle.world_steps.proofs.parts.WorldParts.give.Goals as goal

fits_room : (start lines most : ℕ) → start + 1 < most → lines ≤ 1 → start + lines < most
fits_room start lines most h k = omega (arith, h, k)

-- an answer is what the client's step gives
given_by : (old new : Clients) (number : ℕ) (member : WorldClient) (r : Result Given Fault) (given : Given) (step : ClientState × Result Given Fault) → r ≡ Ok given → Answers old new number member r step → step.1 ≡ Ok given
given_by old new number member (Ok x) given step is a = a.0 ∙ is
given_by old new number member (Err fault) given step is a = absurd (cc)

pub refused_behind-requires-clause-room : goal.refused_behind-requires-clause-room
refused_behind-requires-clause-room g c =
    let answers = c.in-Some-Ok.ensures.some in
    fits_room (vec_len c.in_ok-room.room) (length c.in-Some-Ok.field-0-0.lines) (vec_capacity c.in_ok-room.room) c.in_ok-room.ensures.room
    (give_few answers.0.client answers.0.clock c.in-Some.out.now c.in-Some-Ok.field-0-0 c.in-Some-refused.fault
    (given_by c.self.inside.clients c.give.new.self c.client.result answers.0 c.in-Some-Ok.field-0 c.in-Some-Ok.field-0-0 (give_step answers.0.client answers.0.clock c.in-Some.out.now) (search rules) answers.2) (search rules))
