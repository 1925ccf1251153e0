-- What holds of every run that begins with a consistent world.
use Rattle.std.proofs.Common.{List}
use Rattle.node_core.specs.declared.lines.Line.{Line}
use Rattle.world_steps.specs.declared.steps.Step.{Step}
use Rattle.world_steps.specs.World.{WorldView, IsUndoubted}
use Rattle.world_cell.specs.Consistent.{IsConsistent}
use Rattle.world_cell.specs.Runs.{Run}
use Rattle.world_cell.specs.RunLaws.{HoldsOfRun, HoldsOfRuns}
use Rattle.world_cell.proofs.RowsByRuns.{run_tells}
use Rattle.world_cell.proofs.OnceByRuns.{run_once}
use Rattle.world_cell.proofs.CallsByRuns.{run_calls, run_own}
use Rattle.world_cell.proofs.PartsOfRuns.{began_consistent}
use Rattle.world_cell.proofs.SessionsByRuns.{run_lives}
use Rattle.world_cell.proofs.RightsByRuns.{run_records}
use Rattle.world_cell.proofs.SliceLeases.{leases_keep_sessions, joint_everywhere}
use Rattle.world_cell.proofs.ServedLines.{run_serves}
use Rattle.world_cell.proofs.ClocksByRuns.{run_consistent, run_fair}
use Rattle.world_cell.proofs.FitsByRuns.{run_fits}
use Rattle.world_cell.proofs.SureRuns.{run_sure}
use Rattle.world_cell.proofs.LocksByRuns.{run_legal, run_generations}
use Rattle.world_cell.proofs.ToldByRuns.{run_shows}
use Rattle.world_cell.proofs.LimitsByRuns.{run_stays}
use Rattle.world_cell.proofs.HeldByRuns.{run_held}
use Rattle.world_cell.proofs.HoldersByRuns.{run_holders}
use Rattle.world_cell.proofs.HoldsByName.{run_rises}
use Rattle.world_cell.proofs.TurnsByRuns.{run_turns}

pub run_holds : (old : WorldView) (steps : List Step) (printed : List Line) (new : WorldView) → IsConsistent old.world → Run old steps printed new → HoldsOfRun old steps printed new
run_holds old steps printed new h run =
    let tells = run_tells old steps printed new h run in
    let last = run_consistent old steps printed new h run in
    record {
      map = tells.is_map;
      fits = run_fits old steps printed new run h;
      epoch = tells.is_epoch;
      turns = run_turns old steps new h;
      once = λ client some. run_once client old steps printed new run h some;
      calls = λ before rest client number change names is some. run_calls old steps printed new run h before rest client number change names is some;
      own = λ before rest number change names is. run_own old steps printed new run h before rest number change names is;
      sessions = λ client. run_lives client old steps printed new h run;
      rights = run_records old steps printed new h run;
      served = run_serves old steps printed new h run;
      leases = leases_keep_sessions new.world last;
      joint = joint_everywhere new.world last;
      clocks = run_fair old steps new h;
      locks = run_legal old steps printed new h run;
      generations = run_generations old steps new h;
      fencing = run_rises old steps new h;
      held = run_held old steps printed new h run;
      holders = run_holders old steps new h;
      told = run_shows old steps new h;
      limits = run_stays old steps printed new h run;
    }

pub runs_hold : (old : WorldView) → (IsUndoubted old → IsConsistent old.world) → HoldsOfRuns old
runs_hold old fits steps printed new run none =
    run_holds old steps printed new (began_consistent old new steps printed fits run none) (run_sure old steps printed new run none)
