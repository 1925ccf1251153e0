-- After each step a consistent world serves its clients: to each client, and of each name, it is what some schedule leads to; what clients hold and are replied is as it should be.
use Rattle.std.proofs.Common.{ℕ, List, sym, ap, ◌∙◌, subst}
use Rattle.coherence.specs.Slice.{Reached}
use Rattle.node_core.specs.declared.lines.Line.{Line}
use Rattle.world_steps.specs.declared.steps.Step.{Step}
use Rattle.world_steps.specs.World.{WorldState}
use Rattle.world_cell.specs.Slices.{slice}
use Rattle.world_cell.specs.Consistent.{IsConsistent}
use Rattle.world_cell.specs.Left.{behind_cut}
use Rattle.world_cell.proofs.SliceSteps.{reached_behind_ticks, reached_behind_up, reached_behind_join, reached_behind_ask, reached_behind_beat, reached_behind_give, reached_behind_take, reached_behind_sweep, reached_behind_down}
use Rattle.world_cell.proofs.WorldCases.{WorldCase}
use Rattle.world_cell.proofs.WorldCases.WorldCase.{ComesUp, Joins, Asks, Beats, Gives, Ticks, Takes, Sweeps, GoesDown, CutsSweep, CutsUp, LosesUp}
use Rattle.world_cell.proofs.ConsistentSteps.{rows_only, LeadsOn}
use Rattle.world_cell.proofs.SliceCuts.{reached_stays_at_cut_sweep, reached_stays_at_cut_up}
use Rattle.world_cell.proofs.RepliesSent.{replies_answer}
use Rattle.world_cell.proofs.HoldsOn.{holds_on}
use Rattle.world_cell.proofs.TellsOn.{tells_on}

reaches_on : (old : WorldState) (step : Step) (new : WorldState) (printed : List Line) → IsConsistent old → WorldCase old step new printed → (client : ℕ) (name : List ℕ) → Reached (slice client name new)
reaches_on old step new printed h (ComesUp u) client name = subst (λ z. Reached (slice client name z)) (sym u.is) (reached_behind_up old h client name u.now u.none)
reaches_on old step new printed h (Joins j) client name = subst (λ z. Reached (slice client name z)) (sym j.is) (reached_behind_join old h client name j.number j.principal j.free)
reaches_on old step new printed h (Asks a) client name = reached_behind_ask old h client name new a.number a.member printed a.ask a.case a.found a.is
reaches_on old step new printed h (Beats b) client name = reached_behind_beat old h client name new b.number b.member printed b.case b.found b.is
reaches_on old step new printed h (Gives g) client name = reached_behind_give old h client name new g.member g.at g.out printed g.case g.was_sent g.found g.is
reaches_on old step new printed h (Ticks t) client name = subst (λ z. Reached (slice client name z)) (sym t.is) (reached_behind_ticks old h client name t.ticks t.fair)
reaches_on old step new printed h (Takes t) client name = subst (λ z. Reached (slice client name z)) (sym t.is) (reached_behind_take old h client name t.master t.at t.request t.case t.is_up t.was_sent t.unspent)
reaches_on old step new printed h (Sweeps t) client name = subst (λ z. Reached (slice client name z)) (sym t.is) (reached_behind_sweep old h client name t.master t.case t.action t.is_up)
reaches_on old step new printed h (GoesDown d) client name = subst (λ z. Reached (slice client name z)) (sym d.is) (reached_behind_down old h client name d.master d.is_up)
reaches_on old step new printed h (CutsSweep k) client name =
    let t = k.sweeps in
    subst (λ z. Reached (slice client name z)) (sym (k.is ∙ ap (λ (mid : WorldState). behind_cut old mid.rows) t.is)) (reached_stays_at_cut_sweep client name old t.master t.case t.action (reached_behind_sweep old h client name t.master t.case t.action t.is_up))
reaches_on old step new printed h (CutsUp k) client name =
    let u = k.comes in
    subst (λ z. Reached (slice client name z)) (sym (k.is ∙ rows_only old k.mid.rows u.none ∙ ap (λ (mid : WorldState). behind_cut old mid.rows) u.is)) (reached_stays_at_cut_up client name old u.now (reached_behind_up old h client name u.now u.none))
reaches_on old step new printed h (LosesUp k) client name = subst (λ z. Reached (slice client name z)) (sym k.is) (h.reached client name)

pub leads_on : LeadsOn
leads_on old step new printed h case = record {
  holds = holds_on old step new printed h case;
  answers = replies_answer old step new printed h case;
  reached = reaches_on old step new printed h case;
  tells = tells_on old step new printed h.master h.tells case;
}
