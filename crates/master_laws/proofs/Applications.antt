-- What a sweep does in which a call has its turn.
use Rattle.std.proofs.Common.{◌≡◌, ℕ, List, false, cond, Option, sym, ap, ◌∙◌}
use Rattle.std.specs.Option.{option_map_or}
use Rattle.tags_cell.specs.declared.messages.calls.Call.{Call}
use Rattle.master_parts.specs.declared.pending.WaitingRequest.{WaitingRequest}
use Rattle.master_parts.specs.declared.pending.Task.{Task}
use Rattle.master_state.specs.NameSpace.{name_space, caller}
use Rattle.master_state.specs.State.{MasterState}
use Rattle.cell_core.specs.declared.effects.Effect.{Effect}
use Rattle.over_core.specs.declared.plans.Plan.{Plan}
use Rattle.over_core.specs.declared.swept.Swept.{Swept}
use Rattle.cell_core.specs.Effect.{effect}
use Rattle.over_core.specs.Plans.{tellings_of, plan_live, plan_leave}
use Rattle.over_core.specs.Plans.{first_action, no_plan, plan_asked, plan_work, plan_task, plan_of, leaving}
use Rattle.over_core.specs.Sweep.{swept_by_plan, telling, swept}
use Rattle.master_laws.specs.Steps.{IsBeingApplied}
use Rattle.tags_cell.specs.Messages.{is_leave}

-- what is planned for a call with this effect
abbrev pub plan_for : MasterState → ℕ → WaitingRequest → Call → Effect → Plan
plan_for s number asked call effected = leaving number (plan_asked s asked.client asked.number call effected)

-- a plan is done, and clients are told of it
abbrev pub done_as : MasterState → Plan → MasterState × Swept
done_as s plan = telling (tellings_of s plan) (swept_by_plan s plan false)

module _ (s : MasterState) (number : ℕ) (asked : WaitingRequest) (call : Call) (sequencer : Option (List ℕ)) (turn : IsBeingApplied s number asked call sequencer) (stays : is_leave call ≡ false) where
  pub planned : plan_of s (first_action s) ≡ plan_for s number asked call (effect (name_space s) (caller s asked.client) s.clock asked.number call sequencer)
  planned =
      let client : ℕ = asked.client in
      ap (plan_of s) turn.is_first
      ∙ ap (λ o. option_map_or (λ (task : Task). leaving number (plan_task s task)) o no_plan) turn.waits
      ∙ ap (λ work. leaving number (plan_work s client asked.number work)) turn.work
      ∙ ap (λ b. leaving number (cond b (plan_live s client asked.number call sequencer) no_plan)) turn.live
      ∙ ap (λ b. leaving number (cond b (plan_leave s client asked.number) (plan_asked s client asked.number call (effect (name_space s) (caller s client) s.clock asked.number call sequencer)))) stays

  pub done_so : swept s (first_action s) ≡ done_as s (plan_for s number asked call (effect (name_space s) (caller s asked.client) s.clock asked.number call sequencer))
  done_so = ap (swept s) turn.is_first ∙ ap (done_as s) (ap (plan_of s) (sym turn.is_first) ∙ planned)
