-- A step leads from a consistent world to a consistent one: by the table and the types of what it works on alone, whoever does it.
use Rattle.std.proofs.Common.{◌≡◌, ℕ, List, [], ◌++◌, true, false, Result, Ok, Err, Option, Some, None, refl, sym, ap, ◌∙◌, inl, inr, arith, subst, map}
use Rattle.std.proofs.lemmas.Bool.Decides.{nat_tests}
use Rattle.std.specs.Prelude.{◌⊎◌, ◌-◌, ◌^◌, nat_lt}
use Rattle.std.specs.Option.{option_map_or}
use Rattle.node_core.specs.declared.refusals.Fault.{Fault}
use Rattle.node_core.specs.declared.refusals.Fault.TheVariants as faults
use Rattle.node_core.specs.declared.lines.Line.{Line}
use Rattle.rows_cell.specs.declared.tables.Rows.{Rows}
use Rattle.rows_cell.specs.Rows.{changed_rows}
use Rattle.rows_cell.specs.Stores.{Store}
use Rattle.rows_cell.proofs.SoundChanges.{epoch_sound}
use Rattle.tags_cell.specs.Numbers.{is_client_number}
use Rattle.tags_cell.specs.declared.messages.requests.Request.{Request}
use Rattle.tags_cell.specs.Messages.{request_client}
use Rattle.master_parts.specs.declared.pending.Taken.{Taken}
use Rattle.master_state.specs.State.{MasterState}
use Rattle.cell_core.specs.Step.{take_step}
use Rattle.cell_core.specs.Effect.{is_last}
use Rattle.over_core.specs.declared.swept.Swept.{Swept}
use Rattle.over_core.specs.Kept.{IsKept}
use Rattle.over_core.specs.Sweep.{sweep_step, sweep_edits, sweep_frees, left_after, beats_step}
use Rattle.over_core.specs.Up.{up_edits}
use Rattle.over_core.proofs.KeptByUps.{up_kept}
use Rattle.over_core.proofs.KeptByTakes.{taken_kept}
use Rattle.over_core.proofs.KeptBySweeps.{swept_kept, beats_kept}
use Rattle.world_steps.specs.declared.steps.Step.{Step}
use Rattle.world_steps.specs.declared.steps.Step.TheVariants as steps
use Rattle.world_steps.specs.declared.mail.Message.TheVariants.{ToClient}
use Rattle.world_steps.specs.Messages.{request_at}
use Rattle.world_steps.specs.World.{WorldState, WorldView, world_step, world_take, world_sweep, world_beats, took, swept, answered, without_quiet, Agrees}
use Rattle.world_steps.specs.Made.{AreInOrder, IsTyped, Does}
use Rattle.world_cell.specs.Consistent.{IsConsistent}
use Rattle.world_cell.proofs.WorldCases.{ok_pair, step_takes, step_sweeps, step_beats, IsUp, WorldCase, world_case}
use Rattle.world_cell.proofs.WorldCases.WorldCase.{ComesUp, Joins, Asks, Beats, Gives, Ticks, Takes, Sweeps, GoesDown, CutsSweep, CutsUp, LosesUp}
use Rattle.world_cell.proofs.OwnSteps.{IsOwn, asks_own, beats_own, gives_own}
use Rattle.world_cell.proofs.ConsistentSteps.{step_keeps}
use Rattle.world_cell.proofs.Reaches.{leads_on}

-- ---- a master that stays as it is, over the same rows

agrees_over : (old new : WorldState) (m : Option MasterState) → new.cell ≡ old.cell → new.rows ≡ old.rows → Agrees old m → Agrees new m
agrees_over old new None cell rows h = tt
agrees_over old new (Some s) cell rows h = subst (λ c. IsKept c new.rows s) (sym cell) (subst (λ r. IsKept old.cell r s) (sym rows) h)

agrees_like : (old new : WorldState) → new.cell ≡ old.cell → new.rows ≡ old.rows → new.master ≡ old.master → Agrees old old.master → Agrees new new.master
agrees_like old new cell rows same h = subst (λ m. Agrees new m) (sym same) (agrees_over old new old.master cell rows h)

none_agrees : (w : WorldState) → w.master ≡ None → Agrees w w.master
none_agrees w none = subst (λ m. Agrees w m) (sym none) tt

own_agrees : (old new : WorldState) (printed : List Line) → IsOwn old new printed → Agrees old old.master → Agrees new new.master
own_agrees old new printed o h =
    agrees_like old new (ap (λ (w : WorldState). w.cell) o.is) (ap (λ (w : WorldState). w.rows) o.is) (ap (λ (w : WorldState). w.master) o.is) h

-- ---- a master comes up

not_last : (epoch : ℕ) → is_last epoch ≡ false → nat_lt epoch (2 ^ 63 - 1) ≡ true
not_last epoch more = grind (arith, nat_tests)

up_agrees : (old : WorldState) (now : ℕ) (new : WorldState) (printed : List Line) → AreInOrder old.rows → IsUp old (steps.Up now) new printed → Agrees new new.master
up_agrees old now new printed order u =
    let rows : Rows = changed_rows old.rows (up_edits old.rows) in
    subst (λ (w : WorldState). Agrees w w.master) (sym u.is)
    (up_kept old.cell rows old.terms u.now (epoch_sound old.cell old.rows u.are_sound (not_last old.rows.epoch u.more)) order.sessions order.locks order.names)

-- ---- a master takes a message

module _ (w new : WorldState) (printed : List Line) where
  took_agrees : (master : MasterState) (request : Request) (r : Result (MasterState × Taken) Fault) → IsKept w.cell w.rows master → is_client_number (request_client request) ≡ true → take_step master w.clock request ≡ r → took w r ≡ Ok (new, printed) → Agrees new new.master
  took_agrees master request (Err fault) kept fits is h = cc
  took_agrees master request (Ok p) kept fits is h =
      let q = ok_pair (record w { master = Some p.0; messages = w.messages ++ map ToClient p.1.outs }, p.1.lines) new printed h in
      let result : Result Taken Fault = Ok p.1 in
      subst (λ (v : WorldState). Agrees v v.master) q.0 (taken_kept w.cell w.rows master p.0 w.clock request result kept fits is tt)

  found_agrees : (at : ℕ) (master : MasterState) (o : Option Request) → IsKept w.cell w.rows master → IsTyped w (steps.Take at) → request_at w.messages at ≡ o → option_map_or (λ request. took w (take_step master w.clock request)) o (Err faults.NoSuchMessage) ≡ Ok (new, printed) → Agrees new new.master
  found_agrees at master None kept typed sent h = cc
  found_agrees at master (Some request) kept typed sent h = took_agrees master request (take_step master w.clock request) kept (typed request sent) refl h

  take_agrees : (at : ℕ) (m : Option MasterState) → Agrees w m → IsTyped w (steps.Take at) → world_take w at m ≡ Ok (new, printed) → Agrees new new.master
  take_agrees at None agrees typed h = cc
  take_agrees at (Some master) agrees typed h = found_agrees at master (request_at w.messages at) agrees typed refl h

  -- ---- a master sweeps

  swept_agrees : (master : MasterState) (r : Result (MasterState × Swept) Fault) → IsKept w.cell w.rows master → sweep_step master w.clock ≡ r → without_quiet (swept w master r) ≡ Ok (new, printed) → Agrees new new.master
  swept_agrees master (Err fault) kept is h = cc
  swept_agrees master (Ok p) kept is h =
      let edits = sweep_edits master w.clock in
      let rows : Rows = changed_rows w.rows edits in
      let before : Store = record { cell = w.cell; rows = w.rows; may_leave = []; refusals = 0; doubt = 0 } in
      let after : Store = record { cell = w.cell; rows = rows; may_leave = left_after (sweep_frees master w.clock) edits [] rows; refusals = 0; doubt = 0 } in
      let result : Result Swept Fault = Ok p.1 in
      let q = ok_pair (record w { rows = rows; master = Some p.0; messages = w.messages ++ map ToClient p.1.outs }, p.1.lines) new printed h in
      subst (λ (v : WorldState). Agrees v v.master) q.0
      (swept_kept before after master p.0 w.clock result kept is (record { cell = refl; rows = refl; leave = refl; counted = refl; doubted = omega arith }) tt tt)

  sweep_agrees : (m : Option MasterState) → Agrees w m → without_quiet (world_sweep w m) ≡ Ok (new, printed) → Agrees new new.master
  sweep_agrees None agrees h = cc
  sweep_agrees (Some master) agrees h = swept_agrees master (sweep_step master w.clock) agrees refl h

  -- ---- it answers a Beat

  answered_agrees : (master : MasterState) (r : Result (MasterState × Swept) Fault) → IsKept w.cell w.rows master → beats_step master w.clock ≡ r → answered w r ≡ Ok (new, printed) → Agrees new new.master
  answered_agrees master (Err fault) kept is h = cc
  answered_agrees master (Ok p) kept is h =
      let q = ok_pair (record w { master = Some p.0; messages = w.messages ++ map ToClient p.1.outs }, p.1.lines) new printed h in
      subst (λ (v : WorldState). Agrees v v.master) q.0 (beats_kept w.cell w.rows master p.0 w.clock (Ok p.1) kept is tt)

  beats_agrees : (m : Option MasterState) → Agrees w m → world_beats w m ≡ Ok (new, printed) → Agrees new new.master
  beats_agrees None agrees h = cc
  beats_agrees (Some master) agrees h = answered_agrees master (beats_step master w.clock) agrees refl h

sweeps_agree : (old : WorldState) (step : Step) (new : WorldState) (printed : List Line) → Agrees old old.master → world_step old step ≡ Ok (new, printed) → (step ≡ steps.Sweep) ⊎ (step ≡ steps.Beats) → Agrees new new.master
sweeps_agree old step new printed h made (inl is) = sweep_agrees old new printed old.master h (sym (step_sweeps old) ∙ subst (λ s. world_step old s ≡ Ok (new, printed)) is made)
sweeps_agree old step new printed h made (inr is) = beats_agrees old new printed old.master h (sym (step_beats old) ∙ subst (λ s. world_step old s ≡ Ok (new, printed)) is made)

-- ---- a step

case_agrees : (old : WorldState) (step : Step) (new : WorldState) (printed : List Line) → Agrees old old.master → IsTyped old step → world_step old step ≡ Ok (new, printed) → WorldCase old step new printed → Agrees new new.master
case_agrees old step new printed h typed made (ComesUp u) =
    let now = subst (λ s. IsTyped old s) u.is_step typed in
    up_agrees old u.now new printed now (subst (λ s. IsUp old s new printed) u.is_step u)
case_agrees old step new printed h typed made (Joins j) =
    agrees_like old new (ap (λ (w : WorldState). w.cell) j.is) (ap (λ (w : WorldState). w.rows) j.is) (ap (λ (w : WorldState). w.master) j.is) h
case_agrees old step new printed h typed made (Asks a) = own_agrees old new printed (asks_own old step new printed a) h
case_agrees old step new printed h typed made (Beats b) = own_agrees old new printed (beats_own old step new printed b) h
case_agrees old step new printed h typed made (Gives g) = own_agrees old new printed (gives_own old step new printed g) h
case_agrees old step new printed h typed made (Ticks t) =
    agrees_like old new (ap (λ (w : WorldState). w.cell) t.is) (ap (λ (w : WorldState). w.rows) t.is) (ap (λ (w : WorldState). w.master) t.is) h
case_agrees old step new printed h typed made (Takes t) =
    take_agrees old new printed t.at old.master h (subst (λ s. IsTyped old s) t.is_step typed) (sym (step_takes old t.at) ∙ subst (λ s. world_step old s ≡ Ok (new, printed)) t.is_step made)
case_agrees old step new printed h typed made (Sweeps t) = sweeps_agree old step new printed h made t.is_step
case_agrees old step new printed h typed made (GoesDown d) = none_agrees new (ap (λ (w : WorldState). w.master) d.is)
case_agrees old step new printed h typed made (CutsSweep k) = none_agrees new (ap (λ (w : WorldState). w.master) k.is)
case_agrees old step new printed h typed made (CutsUp k) = none_agrees new (ap (λ (w : WorldState). w.master) k.is ∙ k.comes.none)
case_agrees old step new printed h typed made (LosesUp k) = subst (λ (w : WorldState). Agrees w w.master) (sym k.is) h

pub does_holds : (old : WorldView) (step : Step) (new : WorldView) (printed : List Line) → IsConsistent old.world → Does old step new printed → IsConsistent new.world
does_holds old step new printed h (inl m) =
    let agrees = case_agrees old.world step new.world printed h.master m.typed m.is_step (world_case old.world step new.world printed h.master m.is_step) in
    step_keeps leads_on old.world step new.world printed h agrees m.is_step
does_holds old step new printed h (inr r) = subst IsConsistent (sym r.left.same) h
