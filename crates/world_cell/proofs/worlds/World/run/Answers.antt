use Rattle.std.proofs.Common.{arith, inr}
use Rattle.world_cell.proofs.RowsByRuns.{run_tells}
use Rattle.world_cell.proofs.OnceByRuns.{run_once}
use Rattle.world_cell.proofs.CallsByRuns.{run_calls, run_own}
use Rattle.world_cell.proofs.PartsOfRuns.{run_more, run_part, began_consistent, whole_sure}
use Rattle.world_cell.proofs.SessionsByRuns.{run_lives}
use Rattle.world_cell.proofs.RightsByRuns.{run_records}
use Rattle.world_cell.proofs.SliceLeases.{leases_keep_sessions, joint_everywhere}
use Rattle.world_cell.proofs.ServedLines.{run_serves}
use Rattle.world_cell.proofs.ClocksByRuns.{run_consistent, run_fair}
use Rattle.world_cell.proofs.FitsByRuns.{run_fits}
use Rattle.world_cell.proofs.SureRuns.{run_sure}
use Rattle.world_cell.proofs.LocksByRuns.{run_legal, run_generations}
use Rattle.world_cell.proofs.ToldByRuns.{run_shows}
use Rattle.world_cell.proofs.LimitsByRuns.{run_stays}
use Rattle.world_cell.proofs.HeldByRuns.{run_held}
use Rattle.world_cell.proofs.HoldersByRuns.{run_holders}
use Rattle.world_cell.proofs.HoldsByName.{run_rises}
use Rattle.world_cell.proofs.TurnsByRuns.{run_turns}
use Rattle.world_cell.proofs.worlds.World.run.Goals as goal

pub returns-in_err-here-clause-part : goal.returns-in_err-here-clause-part
returns-in_err-here-clause-part g c =
    let told = c.in_err-here.ensures.err in
    run_part c.from_residual.result c.args.self.now c.loop-step.self c.line_step.new.self c.args.steps.now c.loop-step.step-index c.step-item.result c.loop-step.lines told.0 (omega arith) c.step-item.is c.loop-step.invariant (inr told.1)

pub returns-in_err-append-clause-part : goal.returns-in_err-append-clause-part
returns-in_err-append-clause-part g c =
    run_part c.from_residual-in_err-append.result c.args.self.now c.loop-step.self c.line_step.new.self c.args.steps.now c.loop-step.step-index c.step-item.result c.loop-step.lines c.in_ok-here.here (omega arith) c.step-item.is c.loop-step.invariant c.in_ok-here.ensures.ok

pub loop-step-preserved : goal.loop-step-preserved
loop-step-preserved g c =
    rw c.in_ok-append.ensures.ok (run_more c.args.self.now c.loop-step.self c.line_step.new.self c.args.steps.now c.loop-step.step-index c.step-item.result c.loop-step.lines c.in_ok-here.here (omega arith) c.step-item.is c.loop-step.invariant c.in_ok-here.ensures.ok)

pub returns-clause-map : goal.returns-clause-map
returns-clause-map g c = λ none.
    let run = whole_sure c.args.self.now c.loop-step.self c.args.steps.now c.loop-step.step-index c.loop-step.lines (omega arith) c.consistent.ensures c.loop-step.invariant none in
    (run_tells c.args.self.now c.args.steps.now c.loop-step.lines c.loop-step.self run.0 run.1).is_map

pub returns-clause-fits : goal.returns-clause-fits
returns-clause-fits g c = λ none.
    let run = whole_sure c.args.self.now c.loop-step.self c.args.steps.now c.loop-step.step-index c.loop-step.lines (omega arith) c.consistent.ensures c.loop-step.invariant none in
    run_fits c.args.self.now c.args.steps.now c.loop-step.lines c.loop-step.self run.1 run.0

pub returns-clause-epoch : goal.returns-clause-epoch
returns-clause-epoch g c = λ none.
    let run = whole_sure c.args.self.now c.loop-step.self c.args.steps.now c.loop-step.step-index c.loop-step.lines (omega arith) c.consistent.ensures c.loop-step.invariant none in
    (run_tells c.args.self.now c.args.steps.now c.loop-step.lines c.loop-step.self run.0 run.1).is_epoch

pub returns-clause-once : goal.returns-clause-once
returns-clause-once g c = λ none.
    let run = whole_sure c.args.self.now c.loop-step.self c.args.steps.now c.loop-step.step-index c.loop-step.lines (omega arith) c.consistent.ensures c.loop-step.invariant none in
    λ client some. run_once client c.args.self.now c.args.steps.now c.loop-step.lines c.loop-step.self run.1 run.0 some

pub returns-clause-calls : goal.returns-clause-calls
returns-clause-calls g c = λ none.
    let run = whole_sure c.args.self.now c.loop-step.self c.args.steps.now c.loop-step.step-index c.loop-step.lines (omega arith) c.consistent.ensures c.loop-step.invariant none in
    λ before rest client number change names is some. run_calls c.args.self.now c.args.steps.now c.loop-step.lines c.loop-step.self run.1 run.0 before rest client number change names is some

pub returns-clause-own : goal.returns-clause-own
returns-clause-own g c = λ none.
    let run = whole_sure c.args.self.now c.loop-step.self c.args.steps.now c.loop-step.step-index c.loop-step.lines (omega arith) c.consistent.ensures c.loop-step.invariant none in
    λ before rest number change names is. run_own c.args.self.now c.args.steps.now c.loop-step.lines c.loop-step.self run.1 run.0 before rest number change names is

pub returns-clause-sessions : goal.returns-clause-sessions
returns-clause-sessions g c = λ none.
    let run = whole_sure c.args.self.now c.loop-step.self c.args.steps.now c.loop-step.step-index c.loop-step.lines (omega arith) c.consistent.ensures c.loop-step.invariant none in
    λ client. run_lives client c.args.self.now c.args.steps.now c.loop-step.lines c.loop-step.self run.0 run.1

pub returns-clause-rights : goal.returns-clause-rights
returns-clause-rights g c = λ none.
    let run = whole_sure c.args.self.now c.loop-step.self c.args.steps.now c.loop-step.step-index c.loop-step.lines (omega arith) c.consistent.ensures c.loop-step.invariant none in
    run_records c.args.self.now c.args.steps.now c.loop-step.lines c.loop-step.self run.0 run.1

pub returns-clause-served : goal.returns-clause-served
returns-clause-served g c = λ none.
    let run = whole_sure c.args.self.now c.loop-step.self c.args.steps.now c.loop-step.step-index c.loop-step.lines (omega arith) c.consistent.ensures c.loop-step.invariant none in
    run_serves c.args.self.now c.args.steps.now c.loop-step.lines c.loop-step.self run.0 run.1

pub returns-clause-leases : goal.returns-clause-leases
returns-clause-leases g c = λ none.
    let run = whole_sure c.args.self.now c.loop-step.self c.args.steps.now c.loop-step.step-index c.loop-step.lines (omega arith) c.consistent.ensures c.loop-step.invariant none in
    leases_keep_sessions c.loop-step.self.world (run_consistent c.args.self.now c.args.steps.now c.loop-step.lines c.loop-step.self run.0 run.1)

pub returns-clause-joint : goal.returns-clause-joint
returns-clause-joint g c = λ none.
    let run = whole_sure c.args.self.now c.loop-step.self c.args.steps.now c.loop-step.step-index c.loop-step.lines (omega arith) c.consistent.ensures c.loop-step.invariant none in
    joint_everywhere c.loop-step.self.world (run_consistent c.args.self.now c.args.steps.now c.loop-step.lines c.loop-step.self run.0 run.1)

pub returns-in_err-here-clause-leases : goal.returns-in_err-here-clause-leases
returns-in_err-here-clause-leases g c = λ none. leases_keep_sessions c.line_step.new.self.world (c.line_step.ensures.consistent none)

pub returns-in_err-here-clause-joint : goal.returns-in_err-here-clause-joint
returns-in_err-here-clause-joint g c = λ none. joint_everywhere c.line_step.new.self.world (c.line_step.ensures.consistent none)

pub returns-in_err-append-clause-leases : goal.returns-in_err-append-clause-leases
returns-in_err-append-clause-leases g c = λ none. leases_keep_sessions c.line_step.new.self.world (c.line_step.ensures.consistent none)

pub returns-in_err-append-clause-joint : goal.returns-in_err-append-clause-joint
returns-in_err-append-clause-joint g c = λ none. joint_everywhere c.line_step.new.self.world (c.line_step.ensures.consistent none)

pub returns-clause-clocks : goal.returns-clause-clocks
returns-clause-clocks g c = λ none.
    let run = whole_sure c.args.self.now c.loop-step.self c.args.steps.now c.loop-step.step-index c.loop-step.lines (omega arith) c.consistent.ensures c.loop-step.invariant none in
    run_fair c.args.self.now c.args.steps.now c.loop-step.self run.0

pub returns-in_err-here-clause-clocks : goal.returns-in_err-here-clause-clocks
returns-in_err-here-clause-clocks g c = λ none.
    let run = run_more c.args.self.now c.loop-step.self c.line_step.new.self c.args.steps.now c.loop-step.step-index c.step-item.result c.loop-step.lines _ (omega arith) c.step-item.is c.loop-step.invariant (inr c.in_err-here.ensures.err.1) in
    run_fair c.args.self.now c.args.steps.now c.line_step.new.self (began_consistent c.args.self.now c.line_step.new.self _ _ c.consistent.ensures run none)

pub returns-in_err-append-clause-clocks : goal.returns-in_err-append-clause-clocks
returns-in_err-append-clause-clocks g c = λ none.
    let run = run_more c.args.self.now c.loop-step.self c.line_step.new.self c.args.steps.now c.loop-step.step-index c.step-item.result c.loop-step.lines _ (omega arith) c.step-item.is c.loop-step.invariant c.in_ok-here.ensures.ok in
    run_fair c.args.self.now c.args.steps.now c.line_step.new.self (began_consistent c.args.self.now c.line_step.new.self _ _ c.consistent.ensures run none)

pub returns-clause-locks : goal.returns-clause-locks
returns-clause-locks g c = λ none.
    let run = whole_sure c.args.self.now c.loop-step.self c.args.steps.now c.loop-step.step-index c.loop-step.lines (omega arith) c.consistent.ensures c.loop-step.invariant none in
    run_legal c.args.self.now c.args.steps.now c.loop-step.lines c.loop-step.self run.0 run.1

pub returns-in_err-here-clause-locks : goal.returns-in_err-here-clause-locks
returns-in_err-here-clause-locks g c = λ none.
    let run = run_more c.args.self.now c.loop-step.self c.line_step.new.self c.args.steps.now c.loop-step.step-index c.step-item.result c.loop-step.lines _ (omega arith) c.step-item.is c.loop-step.invariant (inr c.in_err-here.ensures.err.1) in
    run_legal c.args.self.now _ _ c.line_step.new.self (began_consistent c.args.self.now c.line_step.new.self _ _ c.consistent.ensures run none) (run_sure c.args.self.now _ _ c.line_step.new.self run none)

pub returns-in_err-append-clause-locks : goal.returns-in_err-append-clause-locks
returns-in_err-append-clause-locks g c = λ none.
    let run = run_more c.args.self.now c.loop-step.self c.line_step.new.self c.args.steps.now c.loop-step.step-index c.step-item.result c.loop-step.lines _ (omega arith) c.step-item.is c.loop-step.invariant c.in_ok-here.ensures.ok in
    run_legal c.args.self.now _ _ c.line_step.new.self (began_consistent c.args.self.now c.line_step.new.self _ _ c.consistent.ensures run none) (run_sure c.args.self.now _ _ c.line_step.new.self run none)

pub returns-clause-generations : goal.returns-clause-generations
returns-clause-generations g c = λ none.
    let run = whole_sure c.args.self.now c.loop-step.self c.args.steps.now c.loop-step.step-index c.loop-step.lines (omega arith) c.consistent.ensures c.loop-step.invariant none in
    run_generations c.args.self.now c.args.steps.now c.loop-step.self run.0

pub returns-in_err-here-clause-generations : goal.returns-in_err-here-clause-generations
returns-in_err-here-clause-generations g c = λ none.
    let run = run_more c.args.self.now c.loop-step.self c.line_step.new.self c.args.steps.now c.loop-step.step-index c.step-item.result c.loop-step.lines _ (omega arith) c.step-item.is c.loop-step.invariant (inr c.in_err-here.ensures.err.1) in
    run_generations c.args.self.now c.args.steps.now c.line_step.new.self (began_consistent c.args.self.now c.line_step.new.self _ _ c.consistent.ensures run none)

pub returns-in_err-append-clause-generations : goal.returns-in_err-append-clause-generations
returns-in_err-append-clause-generations g c = λ none.
    let run = run_more c.args.self.now c.loop-step.self c.line_step.new.self c.args.steps.now c.loop-step.step-index c.step-item.result c.loop-step.lines _ (omega arith) c.step-item.is c.loop-step.invariant c.in_ok-here.ensures.ok in
    run_generations c.args.self.now c.args.steps.now c.line_step.new.self (began_consistent c.args.self.now c.line_step.new.self _ _ c.consistent.ensures run none)

pub returns-clause-told : goal.returns-clause-told
returns-clause-told g c = λ none.
    let run = whole_sure c.args.self.now c.loop-step.self c.args.steps.now c.loop-step.step-index c.loop-step.lines (omega arith) c.consistent.ensures c.loop-step.invariant none in
    run_shows c.args.self.now c.args.steps.now c.loop-step.self run.0

pub returns-in_err-here-clause-told : goal.returns-in_err-here-clause-told
returns-in_err-here-clause-told g c = λ none.
    let run = run_more c.args.self.now c.loop-step.self c.line_step.new.self c.args.steps.now c.loop-step.step-index c.step-item.result c.loop-step.lines _ (omega arith) c.step-item.is c.loop-step.invariant (inr c.in_err-here.ensures.err.1) in
    run_shows c.args.self.now c.args.steps.now c.line_step.new.self (began_consistent c.args.self.now c.line_step.new.self _ _ c.consistent.ensures run none)

pub returns-in_err-append-clause-told : goal.returns-in_err-append-clause-told
returns-in_err-append-clause-told g c = λ none.
    let run = run_more c.args.self.now c.loop-step.self c.line_step.new.self c.args.steps.now c.loop-step.step-index c.step-item.result c.loop-step.lines _ (omega arith) c.step-item.is c.loop-step.invariant c.in_ok-here.ensures.ok in
    run_shows c.args.self.now c.args.steps.now c.line_step.new.self (began_consistent c.args.self.now c.line_step.new.self _ _ c.consistent.ensures run none)

pub returns-clause-limits : goal.returns-clause-limits
returns-clause-limits g c = λ none.
    let run = whole_sure c.args.self.now c.loop-step.self c.args.steps.now c.loop-step.step-index c.loop-step.lines (omega arith) c.consistent.ensures c.loop-step.invariant none in
    run_stays c.args.self.now c.args.steps.now c.loop-step.lines c.loop-step.self run.0 run.1

pub returns-in_err-here-clause-limits : goal.returns-in_err-here-clause-limits
returns-in_err-here-clause-limits g c = λ none.
    let run = run_more c.args.self.now c.loop-step.self c.line_step.new.self c.args.steps.now c.loop-step.step-index c.step-item.result c.loop-step.lines _ (omega arith) c.step-item.is c.loop-step.invariant (inr c.in_err-here.ensures.err.1) in
    run_stays c.args.self.now _ _ c.line_step.new.self (began_consistent c.args.self.now c.line_step.new.self _ _ c.consistent.ensures run none) (run_sure c.args.self.now _ _ c.line_step.new.self run none)

pub returns-in_err-append-clause-limits : goal.returns-in_err-append-clause-limits
returns-in_err-append-clause-limits g c = λ none.
    let run = run_more c.args.self.now c.loop-step.self c.line_step.new.self c.args.steps.now c.loop-step.step-index c.step-item.result c.loop-step.lines _ (omega arith) c.step-item.is c.loop-step.invariant c.in_ok-here.ensures.ok in
    run_stays c.args.self.now _ _ c.line_step.new.self (began_consistent c.args.self.now c.line_step.new.self _ _ c.consistent.ensures run none) (run_sure c.args.self.now _ _ c.line_step.new.self run none)

pub returns-clause-fencing : goal.returns-clause-fencing
returns-clause-fencing g c = λ none.
    let run = whole_sure c.args.self.now c.loop-step.self c.args.steps.now c.loop-step.step-index c.loop-step.lines (omega arith) c.consistent.ensures c.loop-step.invariant none in
    run_rises c.args.self.now c.args.steps.now c.loop-step.self run.0

pub returns-in_err-here-clause-fencing : goal.returns-in_err-here-clause-fencing
returns-in_err-here-clause-fencing g c = λ none.
    let run = run_more c.args.self.now c.loop-step.self c.line_step.new.self c.args.steps.now c.loop-step.step-index c.step-item.result c.loop-step.lines _ (omega arith) c.step-item.is c.loop-step.invariant (inr c.in_err-here.ensures.err.1) in
    run_rises c.args.self.now c.args.steps.now c.line_step.new.self (began_consistent c.args.self.now c.line_step.new.self _ _ c.consistent.ensures run none)

pub returns-in_err-append-clause-fencing : goal.returns-in_err-append-clause-fencing
returns-in_err-append-clause-fencing g c = λ none.
    let run = run_more c.args.self.now c.loop-step.self c.line_step.new.self c.args.steps.now c.loop-step.step-index c.step-item.result c.loop-step.lines _ (omega arith) c.step-item.is c.loop-step.invariant c.in_ok-here.ensures.ok in
    run_rises c.args.self.now c.args.steps.now c.line_step.new.self (began_consistent c.args.self.now c.line_step.new.self _ _ c.consistent.ensures run none)

pub returns-clause-turns : goal.returns-clause-turns
returns-clause-turns g c = λ none.
    let run = whole_sure c.args.self.now c.loop-step.self c.args.steps.now c.loop-step.step-index c.loop-step.lines (omega arith) c.consistent.ensures c.loop-step.invariant none in
    run_turns c.args.self.now c.args.steps.now c.loop-step.self run.0

pub returns-in_err-here-clause-turns : goal.returns-in_err-here-clause-turns
returns-in_err-here-clause-turns g c = λ none.
    let run = run_more c.args.self.now c.loop-step.self c.line_step.new.self c.args.steps.now c.loop-step.step-index c.step-item.result c.loop-step.lines _ (omega arith) c.step-item.is c.loop-step.invariant (inr c.in_err-here.ensures.err.1) in
    run_turns c.args.self.now c.args.steps.now c.line_step.new.self (began_consistent c.args.self.now c.line_step.new.self _ _ c.consistent.ensures run none)

pub returns-in_err-append-clause-turns : goal.returns-in_err-append-clause-turns
returns-in_err-append-clause-turns g c = λ none.
    let run = run_more c.args.self.now c.loop-step.self c.line_step.new.self c.args.steps.now c.loop-step.step-index c.step-item.result c.loop-step.lines _ (omega arith) c.step-item.is c.loop-step.invariant c.in_ok-here.ensures.ok in
    run_turns c.args.self.now c.args.steps.now c.line_step.new.self (began_consistent c.args.self.now c.line_step.new.self _ _ c.consistent.ensures run none)

pub returns-clause-held : goal.returns-clause-held
returns-clause-held g c = λ none.
    let run = whole_sure c.args.self.now c.loop-step.self c.args.steps.now c.loop-step.step-index c.loop-step.lines (omega arith) c.consistent.ensures c.loop-step.invariant none in
    run_held c.args.self.now c.args.steps.now c.loop-step.lines c.loop-step.self run.0 run.1

pub returns-clause-holders : goal.returns-clause-holders
returns-clause-holders g c = λ none.
    let run = whole_sure c.args.self.now c.loop-step.self c.args.steps.now c.loop-step.step-index c.loop-step.lines (omega arith) c.consistent.ensures c.loop-step.invariant none in
    run_holders c.args.self.now c.args.steps.now c.loop-step.self run.0

pub returns-in_err-here-clause-holders : goal.returns-in_err-here-clause-holders
returns-in_err-here-clause-holders g c = λ none.
    let run = run_more c.args.self.now c.loop-step.self c.line_step.new.self c.args.steps.now c.loop-step.step-index c.step-item.result c.loop-step.lines _ (omega arith) c.step-item.is c.loop-step.invariant (inr c.in_err-here.ensures.err.1) in
    run_holders c.args.self.now c.args.steps.now c.line_step.new.self (began_consistent c.args.self.now c.line_step.new.self _ _ c.consistent.ensures run none)

pub returns-in_err-append-clause-holders : goal.returns-in_err-append-clause-holders
returns-in_err-append-clause-holders g c = λ none.
    let run = run_more c.args.self.now c.loop-step.self c.line_step.new.self c.args.steps.now c.loop-step.step-index c.step-item.result c.loop-step.lines _ (omega arith) c.step-item.is c.loop-step.invariant c.in_ok-here.ensures.ok in
    run_holders c.args.self.now c.args.steps.now c.line_step.new.self (began_consistent c.args.self.now c.line_step.new.self _ _ c.consistent.ensures run none)
