-- A message that a step delivers was sent.
use Rattle.std.proofs.Common.{◌≡◌, ℕ, ◌-◌, ◌<◌, List, length, true, false, cond, Result, Ok, Err, Option, Some, None, refl, sym, ◌∙◌}
use Rattle.std.specs.Prelude.{◌==◌}
use Rattle.std.specs.Option.{option_map_or}
use Rattle.std.specs.List.{slice_get}
use Rattle.std.proofs.lemmas.Option.{slice_get_within}
use Rattle.node_core.specs.declared.refusals.Fault.TheVariants as faults
use Rattle.node_core.specs.declared.lines.Line.{Line}
use Rattle.master_state.specs.State.{MasterState}
use Rattle.cell_core.specs.Step.{take_step}
use Rattle.world_steps.specs.declared.steps.Step.TheVariants as steps
use Rattle.world_steps.specs.declared.mail.Message.{Message}
use Rattle.world_steps.specs.Messages.{message_at, as_request, as_out}
use Rattle.world_steps.specs.World.{WorldState, took, given_to, world_take, world_step}
use Rattle.world_cell.proofs.WorldCases.{step_takes, step_gives}

message_within : {X : Type 0} (part : Message → Option X) (sent : List Message) (number : ℕ) (x : X) → option_map_or part (message_at sent number) None ≡ Some x → number - 1 < length sent
message_within {X} part sent number x h =
    (elim (number == 0) as (λ b. option_map_or part (cond b None (slice_get sent (number - 1))) None ≡ Some x → number - 1 < length sent) [
      | true ↦ (λ k. cc)
      | false ↦ (λ k.
          (elim (slice_get sent (number - 1)) as (λ o. slice_get sent (number - 1) ≡ o → option_map_or part o None ≡ Some x → number - 1 < length sent) [
            | None ↦ (λ is e. cc)
            | Some message ↦ (λ is e. slice_get_within sent (number - 1) message is)
          ]) refl k)
    ]) h

found_within : {X Y E : Type 0} (part : Message → Option X) (sent : List Message) (number : ℕ) (then : X → Result Y E) (fault : E) (y : Y) → option_map_or then (option_map_or part (message_at sent number) None) (Err fault) ≡ Ok y → number - 1 < length sent
found_within {X} {Y} {E} part sent number then fault y h =
    (elim (option_map_or part (message_at sent number) None) as (λ o. option_map_or part (message_at sent number) None ≡ o → option_map_or then o (Err fault) ≡ Ok y → number - 1 < length sent) [
      | None ↦ (λ is e. cc)
      | Some x ↦ (λ is e. message_within part sent number x is)
    ]) refl h

take_within : (w new : WorldState) (number : ℕ) (m : Option MasterState) (printed : List Line) → world_take w number m ≡ Ok (new, printed) → number - 1 < length w.messages
take_within w new number None printed h = cc
take_within w new number (Some master) printed h =
    found_within as_request w.messages number (λ request. took w (take_step master w.clock request)) faults.NoSuchMessage (new, printed) h

pub take_sent : (w new : WorldState) (number : ℕ) (printed : List Line) → world_step w (steps.Take number) ≡ Ok (new, printed) → number - 1 < length w.messages
take_sent w new number printed h = take_within w new number w.master printed (sym (step_takes w number) ∙ h)

pub give_sent : (w new : WorldState) (number : ℕ) (printed : List Line) → world_step w (steps.Give number) ≡ Ok (new, printed) → number - 1 < length w.messages
give_sent w new number printed h = found_within as_out w.messages number (λ out. given_to w out) faults.NoSuchMessage (new, printed) (sym (step_gives w number) ∙ h)
