use Rattle.std.proofs.Common.{◌≡◌, sym, ap, ◌∙◌}
use Rattle.master_state.specs.State.{MasterState}
use Rattle.over_core.proofs.Later.{busy_now, never_busy}
use Rattle.over_core.proofs.deadlines.next_deadline.Goals as goal

pub returns-then-not-branch-clause-deadline : goal.returns-then-not-branch-clause-deadline
returns-then-not-branch-clause-deadline c =
    let clock : c.clock-now.result ≡ c.args.cell.now.clock = c.clock-now.ensures.value ∙ ap (λ (m : MasterState). m.clock) c.master.ensures in
    busy_now c.args.cell.now c.clock-now.result clock c.clock-now.ensures.moment (sym c.in_ok-is_quiet_at.ensures.quiet ∙ c.if-not-branch.true)

pub returns-in-None-clause-deadline : goal.returns-in-None-clause-deadline
returns-in-None-clause-deadline c =
    never_busy c.args.cell.now _ c.in_ok-busy_from.field-0 (c.later_quiet.ensures.same ∙ c.is_quiet_at.ensures.same) c.in-None.is c.in_ok-busy_from.ensures.busy
