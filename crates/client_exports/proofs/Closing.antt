-- A client that has asked for the end of its session serves nothing after each step.
use Rattle.std.proofs.Common.{ℕ, Result, Ok, Err, sym, subst}
use Rattle.node_core.specs.declared.refusals.Fault.{Fault}
use Rattle.tags_cell.specs.declared.messages.outs.Out.{Out}
use Rattle.client_core.specs.declared.parts.asks.Ask.{Ask}
use Rattle.client_core.specs.declared.parts.asks.AskOutcome.{AskOutcome}
use Rattle.client_core.specs.declared.parts.steps.Beaten.{Beaten}
use Rattle.client_core.specs.declared.parts.steps.Given.{Given}
use Rattle.client_core.specs.State.{ClientState, IsOff, Does}
use Rattle.client_core.specs.Asks.{ask_step}
use Rattle.client_core.specs.Beats.{beat_step}
use Rattle.client_core.specs.Gives.{give_step}
use Rattle.client_core.proofs.AskCases.{ask_case, beat_case}
use Rattle.client_core.proofs.GiveCases.{give_case}
use Rattle.client_core.proofs.Leaving.{asked_off, beaten_off, given_off}
use Rattle.client_exports.proofs.Staying.{by_fault}

-- the step was made, or nothing changed
off_behind : {X : Type 0} (old new : ClientState) (result : Result X Fault) (step : ClientState × Result X Fault) → IsOff old → IsOff step.0 → Does old new result step → IsOff new
off_behind old new (Ok x) step before after does = subst (λ r. IsOff r.0) does after
off_behind old new (Err fault) step before after does = by_fault fault (IsOff new) (λ other. subst (λ r. IsOff r.0) (does.0 other) after) (λ want. subst IsOff (sym (does.1 want)) before)

pub ask_off : (old new : ClientState) (now : ℕ) (ask : Ask) (result : Result AskOutcome Fault) → IsOff old → Does old new result (ask_step old now ask) → IsOff new
ask_off old new now ask result before does =
    let c = ask_case old now ask in
    off_behind old new result (ask_step old now ask) before (subst (λ r. IsOff r.0) (sym c.1) (asked_off old now ask c.0 before)) does

pub beat_off : (old new : ClientState) (now : ℕ) (result : Result Beaten Fault) → IsOff old → Does old new result (beat_step old now) → IsOff new
beat_off old new now result before does =
    let c = beat_case old now in
    off_behind old new result (beat_step old now) before (subst (λ r. IsOff r.0) (sym c.1) (beaten_off old now c.0 before)) does

pub give_off : (old new : ClientState) (now : ℕ) (out : Out) (result : Result Given Fault) → IsOff old → Does old new result (give_step old now out) → IsOff new
give_off old new now out result before does =
    let c = give_case old now out in
    off_behind old new result (give_step old now out) before (subst (λ r. IsOff r.0) (sym c.1) (given_off old now out c.0 before)) does
