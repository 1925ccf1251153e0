-- Where nothing is in doubt at the end of a run, each of its steps is by the world of before.
use Rattle.std.proofs.Common.{List, [], ◌∷◌, ◌≤◌, ◌≡◌, sym, subst, arith}
use Rattle.node_core.specs.declared.lines.Line.{Line}
use Rattle.world_steps.specs.declared.steps.Step.{Step}
use Rattle.world_steps.specs.World.{WorldView, IsUndoubted}
use Rattle.world_cell.specs.Runs.{AnyRun, Run}
use Rattle.world_steps.proofs.AsRead.{step_doubts, step_sure}

pub run_doubts : (old : WorldView) (steps : List Step) (printed : List Line) (new : WorldView) → AnyRun old steps printed new → old.doubt ≤ new.doubt
run_doubts old [] printed new run = subst (λ (w : WorldView). old.doubt ≤ w.doubt) (sym run.1) (omega arith)
run_doubts old (step ∷ steps) printed new run =
    let a = step_doubts old step run.0 run.1 run.3 in
    let b = run_doubts run.0 steps run.2 new run.4 in
    omega arith

pub run_sure : (old : WorldView) (steps : List Step) (printed : List Line) (new : WorldView) → AnyRun old steps printed new → IsUndoubted new → Run old steps printed new
run_sure old [] printed new run none = run
run_sure old (step ∷ steps) printed new run none =
    let b = run_doubts run.0 steps run.2 new run.4 in
    let sure : run.0.doubt ≡ 0 = omega arith in
    (run.0, run.1, run.2, step_sure old step run.0 run.1 run.3 sure, run_sure run.0 steps run.2 new run.4 none, run.5)
