-- The master of a world is one that came up.
use Rattle.std.proofs.Common.{◌≡◌, ◌⊎◌, ℕ, ◌≤◌, List, [], ◌∷◌, ◌++◌, true, map, Option, Some, None, refl, sym, ap, ◌∙◌, subst, inl, inr}
use Rattle.std.specs.Prelude.{Result, Ok, Err}
use Rattle.std.specs.Option.{option_map_or}
use Rattle.lease_core.specs.Lease.{longest_lease}
use Rattle.node_core.specs.declared.lines.Line.{Line}
use Rattle.node_core.specs.declared.refusals.Fault.{Fault}
use Rattle.node_core.specs.declared.refusals.Fault.TheVariants as faults
use Rattle.rows_cell.specs.declared.settings.MasterTerms.{MasterTerms}
use Rattle.rows_cell.specs.Rows.{changed_rows}
use Rattle.tags_cell.specs.Messages.{request_client}
use Rattle.tags_cell.specs.Numbers.{is_client_number}
use Rattle.tags_cell.specs.declared.messages.requests.Request.{Request}
use Rattle.master_parts.specs.declared.pending.Taken.{Taken}
use Rattle.master_state.specs.State.{MasterState, master_of}
use Rattle.cell_core.specs.Step.{take_step}
use Rattle.over_core.specs.declared.swept.Swept.{Swept}
use Rattle.over_core.specs.Sweep.{sweep_step, sweep_edits, beats_step}
use Rattle.over_core.specs.Up.{up_edits}
use Rattle.world_steps.specs.declared.mail.Message.TheVariants.{ToClient}
use Rattle.world_steps.specs.declared.steps.Step.{Step}
use Rattle.world_steps.specs.declared.steps.Step.TheVariants as steps
use Rattle.world_steps.specs.Messages.{request_at}
use Rattle.world_steps.specs.World.{WorldState, WorldView, opened, world_step, world_take, took, world_sweep, swept, without_quiet, world_beats, answered}
use Rattle.world_steps.specs.Made.{AreInOrder, IsTyped, Does as DoesStep}
use Rattle.world_cell.specs.Runs.{Run}
use Rattle.world_cell.specs.Consistent.{IsConsistent}
use Rattle.world_cell.proofs.ConsistentSteps.{new_holds}
use Rattle.world_cell.proofs.StepsHold.{does_holds}
use Rattle.world_cell.proofs.OwnSteps.{asks_own, beats_own, gives_own}
use Rattle.world_cell.proofs.WorldCases.{ok_pair, step_takes, step_sweeps, step_beats, WorldCase, world_case}
use Rattle.world_cell.proofs.WorldCases.WorldCase.{ComesUp, Joins, Asks, Beats, Gives, Ticks, Takes, Sweeps, GoesDown, CutsSweep, CutsUp, LosesUp}
use Rattle.master_laws.specs.Closed.MasterStep.{Takes as TakesOne, Sweeps as SweepsOnce, Beats as AnswersOne}
use Rattle.history_laws.specs.ComeUp.{Since, up_at, and_then, IsUpSince, takes_told, step_since, does_since, run_since, WorldsHaveComeUp}
use Rattle.history_laws.proofs.ComeUp.{begins_so, has_taken, has_swept, has_answered, IfUp, that_one, none_up}

-- ---- a world

module _ (terms : MasterTerms) (range : terms.lease ≤ longest_lease) (w new : WorldState) (printed : List Line) (since : Since) where
  abbrev Ups : Since → Option MasterState → Type 0
  Ups now_since m = IfUp terms.lease now_since m

  -- it takes a message
  took_so : (master : MasterState) (request : Request) (r : Result (MasterState × Taken) Fault) → IsUpSince terms.lease since master → is_client_number (request_client request) ≡ true → take_step master w.clock request ≡ r → took w r ≡ Ok (new, printed) → Ups (and_then since (TakesOne w.clock request ∷ [])) new.master
  took_so master request (Err fault) h numbered is made = cc
  took_so master request (Ok p) h numbered is made =
      let q = ok_pair (record w { master = Some p.0; messages = w.messages ++ map ToClient p.1.outs }, p.1.lines) new printed made in
      subst (λ (v : WorldState). Ups (and_then since (TakesOne w.clock request ∷ [])) v.master) q.0 (has_taken terms.lease since master p.0 w.clock request p.1 h numbered is)

  found_so : (at : ℕ) (master : MasterState) (o : Option Request) → IsUpSince terms.lease since master → IsTyped w (steps.Take at) → request_at w.messages at ≡ o → option_map_or (λ request. took w (take_step master w.clock request)) o (Err faults.NoSuchMessage) ≡ Ok (new, printed) → Ups (and_then since (option_map_or (λ request. TakesOne w.clock request ∷ []) o [])) new.master
  found_so at master None h typed sent made = cc
  found_so at master (Some request) h typed sent made = took_so master request (take_step master w.clock request) h (typed request sent) refl made

  take_so : (at : ℕ) (m : Option MasterState) → Ups since m → IsTyped w (steps.Take at) → world_take w at m ≡ Ok (new, printed) → Ups (and_then since (takes_told w.messages w.clock at)) new.master
  take_so at None h typed made = cc
  take_so at (Some master) h typed made = found_so at master (request_at w.messages at) h typed refl made

  -- it sweeps
  swept_so : (master : MasterState) (r : Result (MasterState × Swept) Fault) → IsUpSince terms.lease since master → sweep_step master w.clock ≡ r → without_quiet (swept w master r) ≡ Ok (new, printed) → Ups (and_then since (SweepsOnce w.clock ∷ [])) new.master
  swept_so master (Err fault) h is made = cc
  swept_so master (Ok p) h is made =
      let v : WorldState = record w { rows = changed_rows w.rows (sweep_edits master w.clock); master = Some p.0; messages = w.messages ++ map ToClient p.1.outs } in
      let q = ok_pair (v, p.1.lines) new printed made in
      subst (λ (x : WorldState). Ups (and_then since (SweepsOnce w.clock ∷ [])) x.master) q.0 (has_swept terms.lease since master p.0 w.clock p.1 h is)

  sweep_so : (m : Option MasterState) → Ups since m → without_quiet (world_sweep w m) ≡ Ok (new, printed) → Ups (and_then since (SweepsOnce w.clock ∷ [])) new.master
  sweep_so None h made = cc
  sweep_so (Some master) h made = swept_so master (sweep_step master w.clock) h refl made

  -- it answers a Beat
  answered_so : (master : MasterState) (r : Result (MasterState × Swept) Fault) → IsUpSince terms.lease since master → beats_step master w.clock ≡ r → answered w r ≡ Ok (new, printed) → Ups (and_then since (AnswersOne w.clock ∷ [])) new.master
  answered_so master (Err fault) h is made = cc
  answered_so master (Ok p) h is made =
      let q = ok_pair (record w { master = Some p.0; messages = w.messages ++ map ToClient p.1.outs }, p.1.lines) new printed made in
      subst (λ (v : WorldState). Ups (and_then since (AnswersOne w.clock ∷ [])) v.master) q.0 (has_answered terms.lease since master p.0 w.clock p.1 h is)

  beats_so : (m : Option MasterState) → Ups since m → world_beats w m ≡ Ok (new, printed) → Ups (and_then since (AnswersOne w.clock ∷ [])) new.master
  beats_so None h made = cc
  beats_so (Some master) h made = answered_so master (beats_step master w.clock) h refl made

  -- any other step of which the master knows nothing
  stays_so : (step : Step) → Ups since w.master → step_since since w step ≡ since → new.master ≡ w.master → Ups (step_since since w step) new.master
  stays_so step h silent same = subst (λ (x : Since). Ups x new.master) (sym silent) (subst (Ups since) (sym same) h)

  sweeps_so : (step : Step) → Ups since w.master → world_step w step ≡ Ok (new, printed) → (step ≡ steps.Sweep) ⊎ (step ≡ steps.Beats) → Ups (step_since since w step) new.master
  sweeps_so step h made (inl is) =
      subst (λ (s : Step). Ups (step_since since w s) new.master) (sym is) (sweep_so w.master h (sym (step_sweeps w) ∙ subst (λ (s : Step). world_step w s ≡ Ok (new, printed)) is made))
  sweeps_so step h made (inr is) =
      subst (λ (s : Step). Ups (step_since since w s) new.master) (sym is) (beats_so w.master h (sym (step_beats w) ∙ subst (λ (s : Step). world_step w s ≡ Ok (new, printed)) is made))

  made_so : (step : Step) → w.terms ≡ terms → Ups since w.master → IsTyped w step → world_step w step ≡ Ok (new, printed) → WorldCase w step new printed → Ups (step_since since w step) new.master
  made_so step same h typed made (ComesUp u) =
      let order : AreInOrder w.rows = subst (λ (s : Step). IsTyped w s) u.is_step typed in
      let begun : IsUpSince w.terms.lease (up_at u.now) (master_of (changed_rows w.rows (up_edits w.rows)) w.terms u.now) = begins_so w.cell w.rows w.terms u.now (subst (λ (t : MasterTerms). t.lease ≤ longest_lease) (sym same) range) order u.are_sound u.more in
      let mine : Ups (up_at u.now) (Some (master_of (changed_rows w.rows (up_edits w.rows)) w.terms u.now)) = subst (λ (t : MasterTerms). IsUpSince t.lease (up_at u.now) (master_of (changed_rows w.rows (up_edits w.rows)) w.terms u.now)) same begun in
      subst (λ (s : Step). Ups (step_since since w s) new.master) (sym u.is_step) (subst (λ (v : WorldState). Ups (up_at u.now) v.master) (sym u.is) mine)
  made_so step same h typed made (Joins j) = stays_so step h (ap (step_since since w) j.is_step) (ap (λ (v : WorldState). v.master) j.is)
  made_so step same h typed made (Asks a) = stays_so step h (ap (step_since since w) a.is_step) (ap (λ (v : WorldState). v.master) (asks_own w step new printed a).is)
  made_so step same h typed made (Beats b) = stays_so step h (ap (step_since since w) b.is_step) (ap (λ (v : WorldState). v.master) (beats_own w step new printed b).is)
  made_so step same h typed made (Gives g) = stays_so step h (ap (step_since since w) g.is_step) (ap (λ (v : WorldState). v.master) (gives_own w step new printed g).is)
  made_so step same h typed made (Ticks t) = stays_so step h (ap (step_since since w) t.is_step) (ap (λ (v : WorldState). v.master) t.is)
  made_so step same h typed made (Takes t) =
      let is : world_take w t.at w.master ≡ Ok (new, printed) = sym (step_takes w t.at) ∙ subst (λ (s : Step). world_step w s ≡ Ok (new, printed)) t.is_step made in
      subst (λ (s : Step). Ups (step_since since w s) new.master) (sym t.is_step) (take_so t.at w.master h (subst (λ (s : Step). IsTyped w s) t.is_step typed) is)
  made_so step same h typed made (Sweeps t) = sweeps_so step h made t.is_step
  made_so step same h typed made (GoesDown d) = none_up terms.lease (step_since since w step) new.master (ap (λ (v : WorldState). v.master) d.is)
  made_so step same h typed made (CutsSweep k) = none_up terms.lease (step_since since w step) new.master (ap (λ (v : WorldState). v.master) k.is)
  made_so step same h typed made (CutsUp k) = none_up terms.lease (step_since since w step) new.master (ap (λ (v : WorldState). v.master) k.is ∙ k.comes.none)
  made_so step same h typed made (LosesUp k) = none_up terms.lease (step_since since w step) new.master (ap (λ (v : WorldState). v.master) k.is ∙ k.none)

  case_terms : (step : Step) → w.terms ≡ terms → WorldCase w step new printed → new.terms ≡ terms
  case_terms step same (ComesUp u) = ap (λ (v : WorldState). v.terms) u.is ∙ same
  case_terms step same (Joins j) = ap (λ (v : WorldState). v.terms) j.is ∙ same
  case_terms step same (Asks a) = ap (λ (v : WorldState). v.terms) (asks_own w step new printed a).is ∙ same
  case_terms step same (Beats b) = ap (λ (v : WorldState). v.terms) (beats_own w step new printed b).is ∙ same
  case_terms step same (Gives g) = ap (λ (v : WorldState). v.terms) (gives_own w step new printed g).is ∙ same
  case_terms step same (Ticks t) = ap (λ (v : WorldState). v.terms) t.is ∙ same
  case_terms step same (Takes t) = ap (λ (v : WorldState). v.terms) t.is ∙ same
  case_terms step same (Sweeps t) = ap (λ (v : WorldState). v.terms) t.is ∙ same
  case_terms step same (GoesDown d) = ap (λ (v : WorldState). v.terms) d.is ∙ same
  case_terms step same (CutsSweep k) = ap (λ (v : WorldState). v.terms) k.is ∙ same
  case_terms step same (CutsUp k) = ap (λ (v : WorldState). v.terms) k.is ∙ same
  case_terms step same (LosesUp k) = ap (λ (v : WorldState). v.terms) k.is ∙ same

-- ---- a run

module _ (terms : MasterTerms) (range : terms.lease ≤ longest_lease) where
  abbrev Stands : Since → WorldState → Type 0
  Stands since w = IfUp terms.lease since w.master × (w.terms ≡ terms)

  does_up : (old : WorldView) (step : Step) (new : WorldView) (printed : List Line) (since : Since) → IsConsistent old.world → Stands since old.world → (does : DoesStep old step new printed) → Stands (does_since since old step new printed does) new.world
  does_up old step new printed since fits stands (inl made) =
      let case = world_case old.world step new.world printed fits.master made.is_step in (
        made_so terms range old.world new.world printed since step stands.1 stands.0 made.typed made.is_step case,
        case_terms terms range old.world new.world printed since step stands.1 case,
      )
  does_up old step new printed since fits stands (inr refused) = subst (Stands since) (sym refused.left.same) stands

  run_up : (old : WorldView) (made : List Step) (printed : List Line) (new : WorldView) (since : Since) → IsConsistent old.world → Stands since old.world → (run : Run old made printed new) → IfUp terms.lease (run_since since old made printed new run) new.world.master
  run_up old [] printed new since fits stands run = subst (λ (v : WorldView). IfUp terms.lease since v.world.master) (sym run.1) stands.0
  run_up old (step ∷ made) printed new since fits stands run =
      run_up run.0 made run.2 new (does_since since old step run.0 run.1 run.3) (does_holds old step run.0 run.1 fits run.3) (does_up old step run.0 run.1 since fits stands run.3) run.4

pub worlds_have : WorldsHaveComeUp
worlds_have store terms made printed new s range run up =
    that_one terms.lease (run_since (up_at 0) (opened store terms) made printed new run) new.world.master s up
    (run_up terms range (opened store terms) made printed new (up_at 0) (new_holds store.cell store.rows terms range) (tt, refl) run)
