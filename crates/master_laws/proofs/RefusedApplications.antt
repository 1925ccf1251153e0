-- A call that is refused when its turn comes changes nothing but that its reply is kept.
use Rattle.std.proofs.Common.{◌≡◌, ◌≢◌, ℕ, List, [], Bool, true, false, cond, Option, Some, None, refl, sym, ap, subst, ◌∙◌, arith}
use Rattle.std.specs.Prelude.{◌==◌, fold, is_some}
use Rattle.std.specs.Map.{set_value}
use Rattle.std.specs.BTreeMap.{is_at}
use Rattle.std.specs.Ordering.{nat_cmp}
use Rattle.gate_core.specs.Gate.{without}
use Rattle.std.specs.Option.{option_map, option_map_or, option_and_then}
use Rattle.std.proofs.lemmas.Bool.Decides.{nat_tests}
use Rattle.node_core.specs.declared.refusals.Fault.{Fault}
use Rattle.rows_cell.specs.declared.tables.Edit.{Edit}
use Rattle.tags_cell.specs.declared.messages.calls.Call.{Call}
use Rattle.tags_cell.specs.declared.messages.outs.CallResult.TheVariants as results
use Rattle.tags_cell.specs.declared.messages.outs.Reply.{Reply}
use Rattle.session_core.specs.declared.records.LastCall.{LastCall}
use Rattle.session_core.specs.declared.records.Session.{Session}
use Rattle.session_core.specs.Session.{keeping}
use Rattle.session_core.specs.Sessions.{SessionTable, with_session}
use Rattle.session_core.specs.Sessions as of_sessions
use Rattle.session_core.proofs.OneClient.{own_session, other_session, kept_session}
use Rattle.master_parts.specs.declared.notices.SessionEvent.{SessionEvent}
use Rattle.master_parts.specs.declared.pending.WaitingRequest.{WaitingRequest}
use Rattle.master_state.specs.Updates.{edits_of}
use Rattle.master_state.specs.NameSpace.{name_space, caller}
use Rattle.master_state.specs.Notices.{with_telling}
use Rattle.master_state.specs.State.{MasterState}
use Rattle.master_state.specs.Lookups.{reply_of, noted}
use Rattle.master_parts.specs.Answered.{answered_by}
use Rattle.over_core.specs.declared.plans.Plan.{Plan}
use Rattle.cell_core.specs.Effect.{refused, effect}
use Rattle.over_core.specs.Plans.{tellings_of}
use Rattle.over_core.specs.Plans.{first_action}
use Rattle.over_core.specs.Sweep.{swept, action_edits, is_over}
use Rattle.over_core.proofs.ToldSessions.{reads_told, lease_told}
use Rattle.master_laws.specs.Steps.{IsBeingApplied}
use Rattle.master_laws.specs.Refused.{life_of, RefusedApplicationChangesNothing}
use Rattle.over_core.proofs.SweepCases.{does_first}
use Rattle.master_laws.proofs.Applications.{plan_for, done_as, planned, done_so}
use Rattle.master_laws.proofs.TameEffects.{tame}
use Rattle.tags_cell.specs.Messages.{is_leave}

-- ---- sessions

there : (table : SessionTable Reply) (client : ℕ) → of_sessions.is_live table client ≡ true → is_some (of_sessions.session_of table client) ≡ true
there table client live =
    (elim (of_sessions.session_of table client) as (λ o. option_map_or (λ (session : Session Reply). session.live) o false ≡ true → is_some o ≡ true) [
      | None ↦ (λ h. absurd cc)
      | Some session ↦ (λ h. refl)
    ]) live

same_client : (a b : ℕ) → (a == b) ≡ true → a ≡ b
same_client a b h = grind (arith, nat_tests)

other_client : (a b : ℕ) → (a == b) ≡ false → a ≢ b
other_client a b h = grind (arith, nat_tests)

same_life : (kept : LastCall Reply) (o : Option (Session Reply)) → option_map life_of (option_map (keeping kept) o) ≡ option_map life_of o
same_life kept None = refl
same_life kept (Some session) = refl

module _ (table : SessionTable Reply) (client : ℕ) (kept : LastCall Reply) (tellings : List SessionEvent) where
  abbrev after : SessionTable Reply
  after = fold with_telling (with_session table client (keeping kept)) tellings

  is_kept : of_sessions.is_live table client ≡ true → of_sessions.kept_of after client ≡ Some kept
  is_kept live =
      reads_told (option_and_then (λ (session : Session Reply). session.kept)) (λ event before. refl) tellings (with_session table client (keeping kept)) client
      ∙ kept_session table client kept (there table client live)

  others_kept : (q : ℕ) → q ≢ client → of_sessions.kept_of after q ≡ of_sessions.kept_of table q
  others_kept q other =
      reads_told (option_and_then (λ (session : Session Reply). session.kept)) (λ event before. refl) tellings (with_session table client (keeping kept)) q
      ∙ ap (option_and_then (λ (session : Session Reply). session.kept)) (other_session table client (keeping kept) q other)

  recorded_lives : (q : ℕ) → option_map life_of (of_sessions.session_of (with_session table client (keeping kept)) q) ≡ option_map life_of (of_sessions.session_of table q)
  recorded_lives q =
      (elim (q == client) as (λ b. (q == client) ≡ b → option_map life_of (of_sessions.session_of (with_session table client (keeping kept)) q) ≡ option_map life_of (of_sessions.session_of table q)) [
        | true ↦ (λ h.
            let P : ℕ → Type 0 = λ n. option_map life_of (of_sessions.session_of (with_session table client (keeping kept)) n) ≡ option_map life_of (of_sessions.session_of table n) in
            let own : P client = ap (option_map life_of) (own_session table client (keeping kept)) ∙ same_life kept (of_sessions.session_of table client) in
            subst P (sym (same_client q client h)) own)
        | false ↦ (λ h. ap (option_map life_of) (other_session table client (keeping kept) q (other_client q client h)))
      ]) refl

  lives : (q : ℕ) → option_map life_of (of_sessions.session_of after q) ≡ option_map life_of (of_sessions.session_of table q)
  lives q = reads_told (option_map life_of) (λ event before. refl) tellings (with_session table client (keeping kept)) q ∙ recorded_lives q

-- the lease is none of a client's
recorded_lease : (table : SessionTable Reply) (client : ℕ) (kept : LastCall Reply) → (with_session table client (keeping kept)).lease ≡ table.lease
recorded_lease table client kept =
    elim (of_sessions.session_of table client) as (λ o. (option_map_or (λ (session : Session Reply). record table { sessions = set_value (is_at (nat_cmp client)) table.sessions (keeping kept session) }) o table).lease ≡ table.lease) [
      | None ↦ refl
      | Some session ↦ refl
    ]

same_lease : (table : SessionTable Reply) (client : ℕ) (kept : LastCall Reply) (tellings : List SessionEvent) → (fold with_telling (with_session table client (keeping kept)) tellings).lease ≡ table.lease
same_lease table client kept tellings = lease_told tellings (with_session table client (keeping kept)) ∙ recorded_lease table client kept

-- ---- the plan

module _ (s : MasterState) (number : ℕ) (asked : WaitingRequest) (call : Call) (sequencer : Option (List ℕ)) (fault : Fault) (turn : IsBeingApplied s number asked call sequencer) (stays : is_leave call ≡ false) (refusal : (effect (name_space s) (caller s asked.client) s.clock asked.number call sequencer).answer ≡ Some (results.Refused fault)) where
  alone : plan_for s number asked call (effect (name_space s) (caller s asked.client) s.clock asked.number call sequencer) ≡ plan_for s number asked call (refused fault)
  alone = ap (plan_for s number asked call) ((tame s asked.client asked.number call sequencer).refuses fault refusal)

  refused_so : swept s (first_action s) ≡ done_as s (plan_for s number asked call (refused fault))
  refused_so = done_so s number asked call sequencer turn stays ∙ ap (done_as s) alone

  edits_so : action_edits s (first_action s) ≡ []
  edits_so = ap (λ (plan : Plan). edits_of s plan.update) (planned s number asked call sequencer turn stays ∙ alone)

either_edits : (b : Bool) (edits : List Edit) → edits ≡ [] → cond b [] edits ≡ []
either_edits true edits h = refl
either_edits false edits h = h

pub refused_application_changes_nothing : RefusedApplicationChangesNothing
refused_application_changes_nothing s new now number told asked call sequencer fault h turn working refusal =
    let now_there : MasterState = noted s now in
    let is = sym (does_first s now (new, told) h) ∙ refused_so now_there number asked call sequencer fault turn working refusal in
    let master = ap (λ p. p.0) is in
    let out = ap (λ p. p.1) is in
    let reply : Reply = reply_of s asked.client asked.number (results.Refused fault) in
    let tellings : List SessionEvent = tellings_of now_there (plan_for now_there number asked call (refused fault)) in
    record {
      commits_nothing = either_edits (is_over s now) (action_edits now_there (first_action now_there)) (edits_so now_there number asked call sequencer fault turn working refusal);
      prints_nothing = ap (λ t. t.lines) out;
      is_sent = ap (λ t. t.outs) out;
      stays = master ∙ ap (λ t. record now_there { sessions = t; gate = record s.gate { waiting = without number s.gate.waiting } }) (sym (ap (λ m. m.sessions) master));
      is_kept = ap (λ m. of_sessions.kept_of m.sessions asked.client) master ∙ is_kept s.sessions asked.client (answered_by reply) tellings turn.live;
      others_kept = λ q other. ap (λ m. of_sessions.kept_of m.sessions q) master ∙ others_kept s.sessions asked.client (answered_by reply) tellings q other;
      lives = λ q. ap (λ m. option_map life_of (of_sessions.session_of m.sessions q)) master ∙ lives s.sessions asked.client (answered_by reply) tellings q;
      lease = ap (λ m. m.sessions.lease) master ∙ same_lease s.sessions asked.client (answered_by reply) tellings;
    }
