-- A master that knows a later moment does at an earlier one what it does at that.
use Rattle.std.proofs.Common.{◌≡◌, ◌⊎◌, ℕ, ◌≤◌, List, [], Bool, true, false, cond, refl, sym, ap, ◌∙◌, arith, inl, inr}
use Rattle.std.specs.Prelude.{Result, Ok, Err, ◌<◌, ◌||◌, max, nat_le}
use Rattle.std.proofs.lemmas.Bool.Decides.{nat_tests}
use Rattle.lease_core.specs.Lease.{IsMoment, moment_limit}
use Rattle.node_core.specs.declared.refusals.Fault.{Fault}
use Rattle.node_core.specs.declared.refusals.Fault.TheVariants as faults
use Rattle.rows_cell.specs.declared.tables.Edit.{Edit}
use Rattle.tags_cell.specs.declared.messages.requests.Request.{Request}
use Rattle.session_core.specs.Sessions.{has_spent_events}
use Rattle.master_parts.specs.declared.pending.Taken.{Taken}
use Rattle.master_state.specs.State.{MasterState}
use Rattle.master_state.specs.Lookups.{noted, is_spent}
use Rattle.cell_core.specs.Step.{take_step, take_at, is_past_end}
use Rattle.over_core.specs.declared.swept.Swept.{Swept}
use Rattle.over_core.specs.Plans.{first_action}
use Rattle.over_core.specs.Sweep.{swept, action_edits, is_over, sweep_edits, sweep_step}
use Rattle.history_laws.specs.Hosted.{ShowsMoment}

not_past : (limit now : ℕ) → now < limit → nat_le limit now ≡ false
not_past limit now h = grind (arith, nat_tests)

before : (now clock limit : ℕ) → now ≤ clock → clock < limit → now < limit
before now clock limit h k = omega (arith, h, k)

same_later : (clock now : ℕ) → now ≤ clock → max clock clock ≡ max clock now
same_later clock now h = omega (arith, h)

module _ (s : MasterState) (now : ℕ) (h : now ≤ s.clock) (moment : IsMoment s.clock) where
  abbrev known : ℕ
  known = s.clock

  early : is_past_end known ≡ is_past_end now
  early = not_past moment_limit known moment ∙ sym (not_past moment_limit now (before now known moment_limit h moment))

  same : noted s known ≡ noted s now
  same = ap (λ (t : ℕ). record s { clock = t }) (same_later known now h)

  take_known : (message : Request) → take_step s known message ≡ take_step s now message
  unfolding take_step
  take_known message =
      ap (λ (b : Bool). let r : Result (MasterState × Taken) Fault = cond (b || is_spent s) (Err faults.Exhausted) (Ok (take_at (noted s known) message)) in r) early
      ∙ ap (λ (t : MasterState). let r : Result (MasterState × Taken) Fault = cond (is_past_end now || is_spent s) (Err faults.Exhausted) (Ok (take_at t message)) in r) same

  sweep_known : sweep_step s known ≡ sweep_step s now
  unfolding sweep_step
  sweep_known =
      ap (λ (b : Bool). let r : Result (MasterState × Swept) Fault = cond (b || has_spent_events s.sessions) (Err faults.Exhausted) (Ok (swept (noted s known) (first_action (noted s known)))) in r) early
      ∙ ap (λ (t : MasterState). let r : Result (MasterState × Swept) Fault = cond (is_over s now) (Err faults.Exhausted) (Ok (swept t (first_action t))) in r) same

  edits_known : sweep_edits s known ≡ sweep_edits s now
  edits_known =
      ap (λ (b : Bool). cond (b || has_spent_events s.sessions) [] (action_edits (noted s known) (first_action (noted s known)))) early
      ∙ ap (λ (t : MasterState). cond (is_over s now) [] (action_edits t (first_action t))) same

pub takes_then : (s : MasterState) (shown now : ℕ) (message : Request) → ShowsMoment shown s now → take_step s shown message ≡ take_step s now message
takes_then s shown now message (inl is) = ap (λ (t : ℕ). take_step s t message) is
takes_then s shown now message (inr h) = ap (λ (t : ℕ). take_step s t message) h.1 ∙ take_known s now h.0 h.2 message

pub sweeps_then : (s : MasterState) (shown now : ℕ) → ShowsMoment shown s now → sweep_step s shown ≡ sweep_step s now
sweeps_then s shown now (inl is) = ap (sweep_step s) is
sweeps_then s shown now (inr h) = ap (sweep_step s) h.1 ∙ sweep_known s now h.0 h.2

pub edits_then : (s : MasterState) (shown now : ℕ) → ShowsMoment shown s now → sweep_edits s shown ≡ sweep_edits s now
edits_then s shown now (inl is) = ap (λ (t : ℕ). sweep_edits s t) is
edits_then s shown now (inr h) = ap (λ (t : ℕ). sweep_edits s t) h.1 ∙ edits_known s now h.0 h.2
