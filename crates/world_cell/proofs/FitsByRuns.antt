-- Why each change that the lines of a run show fits the map just before it.
use Rattle.std.proofs.Common.{◌≡◌, ℕ, zero, suc, List, [], ◌∷◌, ◌++◌, Option, Some, None, cond, refl, sym, ap, ◌∙◌, subst, arith}
use Rattle.std.specs.Prelude.{is_none}
use Rattle.std.specs.Option.{option_and_then}
use Rattle.node_core.specs.declared.faults.NodeFault.{NodeFault}
use Rattle.node_core.specs.declared.lines.Line.{Line}
use Rattle.node_core.specs.declared.lines.Line.TheVariants as lines
use Rattle.node_core.specs.declared.views.Mod.{Mod}
use Rattle.node_core.specs.Nodes.{Nodes, misfit, changed, after}
use Rattle.rows_cell.specs.Rows.{map_of}
use Rattle.over_core.specs.Kept.{IsKept}
use Rattle.master_state.specs.State.{MasterState}
use Rattle.world_steps.specs.declared.steps.Step.{Step}
use Rattle.world_steps.specs.World.{WorldState, WorldView, Agrees}
use Rattle.world_cell.specs.Consistent.{IsConsistent}
use Rattle.world_cell.specs.Runs.{Run, map_by, map_at, after_line, after_lines, IsApplied}
use Rattle.world_cell.proofs.RowsByRuns.{run_tells}
use Rattle.world_cell.proofs.ClocksByRuns.{run_consistent}
use Rattle.world_cell.proofs.CallsByRuns.{run_calls, run_own}
use Rattle.world_cell.proofs.EffectsFit.{call_fits, idle_fits}

-- ---- one change

agreed : (w : WorldState) (m : Option MasterState) (s : MasterState) → m ≡ Some s → Agrees w m → IsKept w.cell w.rows s
agreed w m s e h = rw e at h

module _ (old : WorldView) (steps : List Step) (printed : List Line) (new : WorldView) (run : Run old steps printed new) (h : IsConsistent old.world) where
  abbrev opening : Nodes
  opening = map_of old.world.rows

  module _ (before rest : List Line) (client number : ℕ) (change : Mod) (names : List (List ℕ)) where
    -- the master that sweeps knows its rows
    kept : (made : IsApplied old steps before client number change names rest new) → IsKept made.here.world.cell made.here.world.rows made.master
    kept made = agreed made.here.world made.here.world.master made.master made.is_up (run_consistent old made.front before made.here h made.first).master

    -- it has the map that the lines before make
    fits_there : (made : IsApplied old steps before client number change names rest new) → misfit made.master.nodes change ≡ None → misfit (map_at opening before) change ≡ None
    fits_there made fits = subst (λ (nodes : Nodes). misfit nodes change ≡ None) made.nodes fits

  -- of no client, or of one
  line_fits : (before rest : List Line) (client number : ℕ) (change : Mod) (names : List (List ℕ)) → printed ≡ before ++ lines.Applied client number change names ∷ rest → misfit (map_at opening before) change ≡ None
  line_fits before rest zero number change names e =
      let t = run_own old steps printed new run h before rest number change names e in
      fits_there before rest 0 number change names t.made (subst (λ (m : Mod). misfit t.made.master.nodes m ≡ None) (sym t.goes) (idle_fits t.made.master t.name t.view t.found t.idle))
  line_fits before rest (suc n) number change names e =
      let t = run_calls old steps printed new run h before rest (suc n) number change names e (omega arith) in
      fits_there before rest (suc n) number change names t.made
      (call_fits t.made.here.world.cell t.made.here.world.rows t.made.master (kept before rest (suc n) number change names t.made) (suc n) number t.call t.sequencer change t.is_effect)

-- ---- all of them

-- each change that a line shows fits the map that the lines before it make
abbrev ChangesFit : Nodes → List Line → Type 0
ChangesFit nodes printed = (before rest : List Line) (client number : ℕ) (change : Mod) (names : List (List ℕ)) → printed ≡ before ++ lines.Applied client number change names ∷ rest → misfit (map_at nodes before) change ≡ None

change_after : (nodes : Nodes) (change : Mod) → misfit nodes change ≡ None → after nodes change ≡ Some (changed nodes change)
change_after nodes change fits = ap (λ (o : Option NodeFault). cond (is_none o) (Some (changed nodes change)) None) fits

line_after : (nodes : Nodes) (line : Line) → ((client number : ℕ) (change : Mod) (names : List (List ℕ)) → line ≡ lines.Applied client number change names → misfit nodes change ≡ None) → after_line nodes line ≡ Some (map_by nodes line)
line_after nodes (lines.Applied client number change names) fits = change_after nodes change (fits client number change names refl)
line_after nodes _ fits = refl

all_after : (nodes : Nodes) (printed : List Line) → ChangesFit nodes printed → after_lines nodes printed ≡ Some (map_at nodes printed)
all_after nodes [] fit = refl
all_after nodes (line ∷ rest) fit =
    ap (λ (o : Option Nodes). option_and_then (λ (next : Nodes). after_lines next rest) o) (line_after nodes line (λ client number change names is. fit [] rest client number change names (ap (λ (l : Line). l ∷ rest) is)))
    ∙ all_after (map_by nodes line) rest (λ before more client number change names is. fit (line ∷ before) more client number change names (ap (λ (l : List Line). line ∷ l) is))

-- the lines lead from map to map, and each change among them fits where it stands
pub run_fits : (old : WorldView) (steps : List Step) (printed : List Line) (new : WorldView) → Run old steps printed new → IsConsistent old.world → after_lines (map_of old.world.rows) printed ≡ Some (map_of new.world.rows)
run_fits old steps printed new run h =
    all_after (map_of old.world.rows) printed (line_fits old steps printed new run h) ∙ ap (λ (nodes : Nodes). Some nodes) (sym (run_tells old steps printed new h run).is_map)
