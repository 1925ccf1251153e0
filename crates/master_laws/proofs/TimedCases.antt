-- A Beat is answered only before its session's timeout, and not that of a client that is given up.
use Rattle.std.proofs.Common.{◌≡◌, ℕ, ◌<◌, ◌≤◌, List, Bool, true, false, cond, Option, Some, None, Result, Ok, Err, refl, sym, ap, subst, ◌∙◌, inl, inr, arith}
use Rattle.std.specs.Prelude.{◌&&◌, ◌||◌, not, nat_le}
use Rattle.std.specs.Option.{option_map, option_map_or, option_and_then}
use Rattle.std.proofs.lemmas.Bool.{and_parts, not-true}
use Rattle.std.proofs.lemmas.Bool.Decides.{nat_tests}
use Rattle.node_core.specs.declared.refusals.Fault.{Fault}
use Rattle.node_core.specs.declared.refusals.Fault.TheVariants as faults
use Rattle.tags_cell.specs.Numbers.{is_client_number}
use Rattle.tags_cell.specs.declared.messages.outs.Reply.{Reply}
use Rattle.gate_core.specs.Gate.{IsOrderly}
use Rattle.session_core.specs.declared.records.Offer.{Offer}
use Rattle.session_core.specs.declared.records.Parked.{Parked}
use Rattle.session_core.specs.declared.records.Session.{Session}
use Rattle.session_core.specs.Session.{is_client_expired, is_client_due, is_client_answerable, is_answerable, is_expired, is_due, is_given_up, owes, nears_end, offer_to}
use Rattle.session_core.specs.Sessions.{session_of, all_heard, lowest, passes, offer_of}
use Rattle.session_core.proofs.Lowest.{lowest_is}
use Rattle.master_parts.specs.declared.notices.SessionEvent.{SessionEvent}
use Rattle.master_state.specs.State.{MasterState}
use Rattle.master_state.specs.Lookups.{noted}
use Rattle.master_state.specs.Notices.{with_tellings}
use Rattle.over_core.specs.declared.actions.Action.{Action}
use Rattle.over_core.specs.declared.actions.Action.TheVariants as actions
use Rattle.over_core.specs.declared.swept.Swept.{Swept}
use Rattle.over_core.specs.Plans.{first_action, plan_of, apply_or_later}
use Rattle.over_core.specs.Sweep.{is_quiet, acted, swept, swept_by_plan, beats_action, beats_answered, beats_step, is_over, sweep_step}
use Rattle.over_core.specs.SweepCase.{IsDueToEnd, IsDue, SweepCase, swept_by}
use Rattle.over_core.specs.SweepCase.SweepCase.{Quiet, Recovers, Expires, Departed, AnswersBeat, TurnedAway, StartedAgain, Started, Reopens, Tidies, Spared, Tidied, OfEnded, Ended, Applied, Deleted, Locked, Awaited, Left}
use Rattle.over_core.proofs.SweepCases.{HasSessionsInOrder, sweep_case, expiry_of, answer_of, action_tellings, first_tellings, does_first, not_tidied}
use Rattle.master_laws.proofs.QuietParts.{none_expired}

-- where a Beat is answered its session's timeout hasn't come, and its client isn't given up
pub record IsInTime (s : MasterState) (session : Session Reply) (beat : Parked) : Type 0 where
  pub early : s.clock < session.timeout
  pub patient : is_given_up s.sessions.lease beat session ≡ false

abbrev pub IsTimed : (s : MasterState) → SweepCase s → Type 0
IsTimed s (AnswersBeat client session beat due) = IsInTime s session beat
IsTimed s _ = Unit {0}

-- ---- who passes

some_passes : (test : Session Reply → Bool) (o : Option (Session Reply)) → option_map_or test o false ≡ true → (session : Session Reply) × (o ≡ Some session) × (test session ≡ true)
some_passes test None h = absurd (cc)
some_passes test (Some session) h = (session, refl, h)

passed : (s : MasterState) (test : ℕ → Session Reply → Bool) (client : ℕ) → HasSessionsInOrder s → lowest s.sessions test ≡ Some client → passes s.sessions test client ≡ true
passed s test client order is = (lowest_is s.sessions s.sessions test (Some client) refl order (sym is)).0

-- the session that is found passes
the_session : (s : MasterState) (test : ℕ → Session Reply → Bool) (client : ℕ) (session : Session Reply) → HasSessionsInOrder s → lowest s.sessions test ≡ Some client → session_of s.sessions client ≡ Some session → test client session ≡ true
the_session s test client session order is found = sym (ap (λ (o : Option (Session Reply)). option_map_or (test client) o false) found) ∙ passed s test client order is

-- a Beat that is due isn't of a client that is given up
spared_beat : (lease now : ℕ) (session : Session Reply) (beat : Parked) (o : Option Parked) → o ≡ Some beat → option_map_or (λ beat. session.live && (not (is_given_up lease beat session) && (owes session || nears_end lease now session))) o false ≡ true → is_given_up lease beat session ≡ false
spared_beat lease now session beat None is h = absurd (cc)
spared_beat lease now session beat (Some there) is h =
    let same : there ≡ beat = cc in
    let t = and_parts session.live (not (is_given_up lease there session) && (owes session || nears_end lease now session)) h in
    let u = and_parts (not (is_given_up lease there session)) (owes session || nears_end lease now session) t.1 in
    let P : Parked → Type 0 = λ b. is_given_up lease b session ≡ false in
    subst P same (not-true (is_given_up lease there session) u.0)

due_parts : (lease now client : ℕ) (session : Session Reply) → is_client_answerable lease now client session ≡ true → (is_due lease now session ≡ true) × (is_expired now session ≡ false)
due_parts lease now client session h =
    let t = and_parts (is_client_number client) (is_answerable lease now session) h in
    let u = and_parts (is_due lease now session) (not (is_expired now session)) t.1 in
    (u.0, not-true (is_expired now session) u.1)

patient_by : (s : MasterState) (client : ℕ) (session : Session Reply) (beat : Parked) → HasSessionsInOrder s → IsDue s client session beat → is_given_up s.sessions.lease beat session ≡ false
patient_by s client session beat order due = elim due.lowest_due [
  | inl is ↦
      let h = the_session s (is_client_due s.sessions.lease s.clock) client session order is due.found in
      spared_beat s.sessions.lease s.clock session beat session.parked due.is_parked (and_parts (is_client_number client) (is_due s.sessions.lease s.clock session) h).1
  | inr is ↦
      let h = the_session s (is_client_answerable s.sessions.lease s.clock) client session order is due.found in
      spared_beat s.sessions.lease s.clock session beat session.parked due.is_parked (due_parts s.sessions.lease s.clock client session h).0
]

unexpired : (live : Bool) (timeout clock : ℕ) → (live && nat_le timeout clock) ≡ false → live ≡ true → clock < timeout
unexpired true timeout clock h is = grind (arith, nat_tests)
unexpired false timeout clock h is = absurd (cc)

-- ---- a sweep

over_at : (a b : ℕ) → nat_le a b ≡ true → a ≤ b
over_at a b h = grind (arith, nat_tests)

abbrev pub IsTimedStep : (s : MasterState) → MasterState → Type 0
IsTimedStep s new = (c : SweepCase s) × IsTimed s c × (new ≡ (swept_by s c).0)

timed_of : (s : MasterState) → HasSessionsInOrder s → lowest s.sessions (is_client_expired s.clock) ≡ None → (c : SweepCase s) → IsTimed s c
timed_of s order none (AnswersBeat client session beat due) = record { early = none_expired s client session order none due.found due.live; patient = patient_by s client session beat order due }
timed_of s order none (Quiet q) = tt
timed_of s order none (Recovers recovering heard) = tt
timed_of s order none (Expires client session due) = tt
timed_of s order none (TurnedAway front back asked principal received turn work may) = tt
timed_of s order none (StartedAgain front back asked principal received session turn work found live) = tt
timed_of s order none (Started front back asked principal received turn work nothing) = tt
timed_of s order none (Reopens instance due) = tt
timed_of s order none (Tidies idle due) = tt
timed_of s order none (Spared front back idle turn held) = tt
timed_of s order none (Tidied front back idle turn still) = tt
timed_of s order none (OfEnded front back asked call sequencer turn work gone) = tt
timed_of s order none (Departed front back asked call sequencer session turn work leave found live) = tt
timed_of s order none (Ended front back asked call sequencer _ answer turn work stays live made) = tt
timed_of s order none (Applied front back asked call sequencer _ change answer turn work stays live made) = tt
timed_of s order none (Deleted front back asked call sequencer change instance waiters answer turn work stays live made) = tt
timed_of s order none (Locked front back asked call sequencer put claim answer turn work stays live made) = tt
timed_of s order none (Awaited front back asked call sequencer put turn work stays live made) = tt
timed_of s order none (Left front back asked call sequencer _ leave answer turn work stays live made) = tt

expires : (s : MasterState) (client : ℕ) → HasSessionsInOrder s → lowest s.sessions (is_client_expired s.clock) ≡ Some client → IsTimedStep s (acted s (actions.Expire client)).0
expires s client order is =
    let t = some_passes (is_client_expired s.clock client) (session_of s.sessions client) (passed s (is_client_expired s.clock) client order is) in
    let u = and_parts t.0.live (nat_le t.0.timeout s.clock) t.2 in
    let due : IsDueToEnd s client t.0 = record { lowest_expired = is; found = t.1; live = u.0; over = over_at t.0.timeout s.clock u.1 } in
    (Expires client t.0 due, tt, ap (λ (o : Option (Session Reply)). (swept_by_plan s (expiry_of s client o) false).0) t.1)

timed_by : (s : MasterState) → HasSessionsInOrder s → IsOrderly s.gate → (o : Option ℕ) → lowest s.sessions (is_client_expired s.clock) ≡ o → (s.recovering && all_heard s.sessions) ≡ false → IsTimedStep s (acted s (option_map_or actions.Expire o (apply_or_later s))).0
timed_by s order orderly None none going =
    let c = sweep_case s order orderly in
    let is : first_action s ≡ apply_or_later s = rw (going, none) refl in
    (c.0, timed_of s order none c.0, ap (λ (a : Action). (acted s a).0) (sym is) ∙ ap (λ (p : MasterState × Swept). p.0) c.1)
timed_by s order orderly (Some client) is going = expires s client order is

timed_case : (s : MasterState) → HasSessionsInOrder s → IsOrderly s.gate → IsTimedStep s (acted s (first_action s)).0
timed_case s order orderly =
    (elim (s.recovering && all_heard s.sessions) as (λ b. (s.recovering && all_heard s.sessions) ≡ b → IsTimedStep s (acted s (cond b actions.Recover (option_map_or actions.Expire (lowest s.sessions (is_client_expired s.clock)) (apply_or_later s)))).0) [
      | true ↦ (λ h. let t = and_parts s.recovering (all_heard s.sessions) h in (Recovers t.0 t.1, tt, refl))
      | false ↦ (λ h. timed_by s order orderly (lowest s.sessions (is_client_expired s.clock)) refl h)
    ]) refl

-- what is left of a step, after which clients are told
abbrev pub IsTimedAndTold : (s : MasterState) → List SessionEvent → MasterState → Type 0
IsTimedAndTold s tellings new = (c : SweepCase s) × IsTimed s c × (new ≡ with_tellings (swept_by s c).0 tellings)

then_told : (s new after : MasterState) (tellings : List SessionEvent) → IsTimedStep s after → new ≡ with_tellings after tellings → IsTimedAndTold s tellings new
then_told s new after tellings t is = (t.0, t.1, is ∙ ap (λ (m : MasterState). with_tellings m tellings) t.2)

pub timed_sweep : (s : MasterState) (now : ℕ) (done : MasterState × Swept) → HasSessionsInOrder s → IsOrderly s.gate → sweep_step s now ≡ Ok done → IsTimedAndTold (noted s now) (first_tellings (noted s now)) done.0
timed_sweep s now done order orderly h =
    let there = noted s now in
    let is : done.0 ≡ (swept there (first_action there)).0 = ap (λ (p : MasterState × Swept). p.0) (sym (does_first s now done h)) in
    then_told there done.0 (acted there (first_action there)).0 (first_tellings there) (timed_case there order orderly) is

-- ---- a Beat that is answered while the store refuses

parked_of : (lease now client : ℕ) (session : Session Reply) (o : Option Parked) → session.parked ≡ o → is_due lease now session ≡ true → (beat : Parked) × (session.parked ≡ Some beat) × (session.live ≡ true)
parked_of lease now client session None is h =
    let due : option_map_or (λ (beat : Parked). session.live && (not (is_given_up lease beat session) && (owes session || nears_end lease now session))) session.parked false ≡ true = h in
    absurd (cc)
parked_of lease now client session (Some beat) is h =
    let due : (session.live && (not (is_given_up lease beat session) && (owes session || nears_end lease now session))) ≡ true = rw is at h in
    (beat, is, (and_parts session.live (not (is_given_up lease beat session) && (owes session || nears_end lease now session)) due).0)

answers : (s : MasterState) (client : ℕ) → HasSessionsInOrder s → lowest s.sessions (is_client_answerable s.sessions.lease s.clock) ≡ Some client → IsTimedStep s (acted s (actions.Answer client)).0
answers s client order is =
    let t = some_passes (is_client_answerable s.sessions.lease s.clock client) (session_of s.sessions client) (passed s (is_client_answerable s.sessions.lease s.clock) client order is) in
    let d = due_parts s.sessions.lease s.clock client t.0 t.2 in
    let u = parked_of s.sessions.lease s.clock client t.0 t.0.parked refl d.0 in
    let due : IsDue s client t.0 u.0 = record { lowest_due = inr is; found = t.1; live = u.2; is_parked = u.1 } in
    let offered : offer_of s.sessions client s.clock ≡ Some (offer_to s.sessions.lease s.clock u.0) =
    ap (λ (o : Option (Session Reply)). option_and_then (λ session. option_map (offer_to s.sessions.lease s.clock) session.parked) o) t.1
    ∙ ap (λ (o : Option Parked). option_map (offer_to s.sessions.lease s.clock) o) u.1 in (
      AnswersBeat client t.0 u.0 due,
      record { early = unexpired t.0.live t.0.timeout s.clock d.1 u.2; patient = patient_by s client t.0 u.0 order due },
      ap (λ (o : Option Offer). (swept_by_plan s (answer_of s client o) false).0) offered,
    )

beats_by : (s : MasterState) → HasSessionsInOrder s → (o : Option ℕ) → lowest s.sessions (is_client_answerable s.sessions.lease s.clock) ≡ o → IsTimedStep s (acted s (option_map_or actions.Answer o actions.Quiet)).0
beats_by s order None none = (Quiet (inr (rw none refl)), tt, refl)
beats_by s order (Some client) is = answers s client order is

pub timed_beats : (s : MasterState) (now : ℕ) (done : MasterState × Swept) → HasSessionsInOrder s → beats_step s now ≡ Ok done → IsTimedAndTold (noted s now) (action_tellings (noted s now) (beats_action (noted s now))) done.0
unfolding beats_step
timed_beats s now done order h =
    let there = noted s now in
    let o = lowest there.sessions (is_client_answerable there.sessions.lease there.clock) in
    (elim (is_over s now) as (λ b. cond {A = Result (MasterState × Swept) Fault} b (Err faults.Exhausted) (Ok (beats_answered there)) ≡ Ok done → IsTimedAndTold there (action_tellings there (beats_action there)) done.0) [
      | true ↦ (λ e. absurd (cc))
      | false ↦ (λ e.
          let is : beats_answered there ≡ done = cc in
          let same : (swept_by_plan there (plan_of there (beats_action there)) (is_quiet (beats_action there))).0 ≡ (acted there (beats_action there)).0 = ap (λ (p : MasterState × Swept). p.0) (not_tidied there o) in
          then_told there done.0 (acted there (beats_action there)).0 (action_tellings there (beats_action there)) (beats_by there order o refl)
          (ap (λ (p : MasterState × Swept). p.0) (sym is) ∙ ap (λ (m : MasterState). with_tellings m (action_tellings there (beats_action there))) same))
    ]) h
