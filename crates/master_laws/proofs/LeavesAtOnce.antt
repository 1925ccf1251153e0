-- A Leave waits beside a call that waits for a lock, and at its turn its client's session ends, with all that it held or awaited.
use Rattle.std.proofs.Common.{◌≡◌, ℕ, ◌<◌, List, [], ◌∷◌, ◌++◌, Bool, true, false, cond, Option, Some, None, Result, Ok, Err, refl, sym, ap, subst, ◌∙◌, arith}
use Rattle.std.specs.Prelude.{◌==◌, ◌&&◌, ◌||◌, not, nat_lt, nat_le, max, fold, is_none, Contains}
use Rattle.std.specs.Option.{option_map, option_map_or}
use Rattle.std.specs.List.{list_all, list_any}
use Rattle.std.proofs.lemmas.Bool.{and_parts, eqb-true}
use Rattle.std.proofs.lemmas.Bool.Decides.{nat_tests}
use Rattle.std.proofs.lemmas.List.Elements.{Contains-push, Contains-append_left}
use Rattle.node_core.specs.Limits.{lock_delay_limit}
use Rattle.node_core.specs.declared.refusals.Fault.{Fault}
use Rattle.node_core.specs.declared.refusals.Fault.TheVariants as faults
use Rattle.rows_cell.specs.Sound.{is_number}
use Rattle.tags_cell.specs.Messages.{is_leave}
use Rattle.tags_cell.specs.Numbers.{is_client_number}
use Rattle.tags_cell.specs.declared.messages.calls.Call.TheVariants as calls
use Rattle.tags_cell.specs.declared.messages.outs.CallResult.TheVariants as results
use Rattle.tags_cell.specs.declared.messages.outs.Out.{Out}
use Rattle.tags_cell.specs.declared.messages.outs.Out.TheVariants as outs
use Rattle.tags_cell.specs.declared.messages.outs.Reply.{Reply}
use Rattle.tags_cell.specs.declared.messages.requests.CallMessage.{CallMessage}
use Rattle.tags_cell.specs.declared.messages.requests.Request.{Request}
use Rattle.tags_cell.specs.declared.messages.requests.Request.TheVariants as requests
use Rattle.session_core.specs.declared.records.LastCall.{LastCall}
use Rattle.session_core.specs.declared.records.Session.{Session}
use Rattle.session_core.specs.Session.{keeping, kept_answer}
use Rattle.session_core.specs.Session as of_session
use Rattle.session_core.specs.Sessions.{SessionTable, session_of, with_session}
use Rattle.session_core.specs.Sessions as of_sessions
use Rattle.session_core.proofs.OneClient.{own_session}
use Rattle.lock_core.specs.declared.claims.Claim.{Claim}
use Rattle.lock_core.specs.declared.claims.Owner.{Owner}
use Rattle.lock_core.specs.declared.claims.Hold.{Hold}
use Rattle.lock_core.specs.declared.partings.Parting.TheVariants as partings
use Rattle.lock_core.specs.declared.turns.Lapse.{Lapse}
use Rattle.lock_core.specs.Turns.{concerns, any_holds, any_waits, is_of_client}
use Rattle.lock_core.specs.Locks.{lock_at}
use Rattle.master_parts.specs.declared.notices.SessionEvent.{SessionEvent}
use Rattle.master_parts.specs.declared.pending.Taken.{Taken}
use Rattle.master_parts.specs.declared.pending.Task.{Task}
use Rattle.master_parts.specs.declared.pending.WaitingRequest.{WaitingRequest}
use Rattle.master_state.specs.CallsWaiting.{has_call}
use Rattle.master_state.specs.Lapses.{lapses_of, lapses_replies}
use Rattle.master_state.specs.Lookups.{kept_of, is_live, is_full, is_spent, noted, nothing, refusal, reply_of}
use Rattle.master_state.specs.Replies.{kept_puts, sent}
use Rattle.master_state.specs.State.{MasterState}
use Rattle.master_state.specs.Updates.{with_kept_put}
use Rattle.master_state.specs.declared.updates.KeptPut.{KeptPut}
use Rattle.cell_core.specs.Cases.{IsHeard, IsBeside}
use Rattle.cell_core.specs.Step.{is_older, leaves_beside, kept_step, ended_step, call_step, take_at, take_step, is_past_end, waits, with_call}
use Rattle.over_core.specs.declared.plans.Plan.{Plan}
use Rattle.over_core.specs.declared.swept.Swept.{Swept}
use Rattle.over_core.specs.Kept.{claim_fits, waiter_fits}
use Rattle.over_core.specs.Plans.{tellings_of, first_action, no_plan, parting_plan, plan_live, plan_work, plan_task, plan_of, leaving}
use Rattle.over_core.specs.Sweep.{swept}
use Rattle.over_core.proofs.SessionReads.{lives_in, reads_step}
use Rattle.over_core.proofs.SweepCases.{does_first}
use Rattle.over_core.proofs.ToldSessions.{reads_told}
use Rattle.master_laws.specs.Steps.{IsBeingApplied}
use Rattle.master_laws.specs.Leaves.{LeaveWaitsBeside, LeaveEndsSession}
use Rattle.master_laws.proofs.Applications.{done_as}
use Rattle.master_laws.proofs.Settled.{Stands, stands_behind}

-- ---- it waits

itself : (n : ℕ) → (n == n) ≡ true
itself n = grind (arith, nat_tests)

less : (n m : ℕ) → n < m → nat_lt n m ≡ true
less n m h = grind (arith, nat_tests)

both : (a b : Bool) → a ≡ true → b ≡ true → (a && b) ≡ true
both a b h k = rw (h, k) refl

neither : (a b : Bool) → a ≡ false → b ≡ true → (a || not b) ≡ false
neither a b h k = rw (h, k) refl

quiet : (a b : Bool) → a ≡ false → b ≡ false → (not a && not b) ≡ true
quiet a b h k = rw (h, k) refl

-- the third of three tests decides
chosen : {A : Type 0} (a b c : Bool) (x y z w : A) → a ≡ true → b ≡ true → c ≡ false → cond a (cond b (cond c x y) z) w ≡ y
chosen a b c x y z w h k l = rw (h, k, l) refl

is_older_one : (number : ℕ) (o : Option (LastCall Reply)) (kept : LastCall Reply) → o ≡ Some kept → kept.reply ≡ None → kept.number < number → is_older number o ≡ true
is_older_one number o kept found none more = ap (is_older number) found ∙ both (is_none kept.reply) (nat_lt kept.number number) (ap is_none none) (less kept.number number more)

waits_beside : (s : MasterState) (message : CallMessage) → IsHeard s (requests.Call message) message → IsBeside s message → call_step s message ≡ (with_call s message None, nothing)
waits_beside s message heard beside =
    let older : is_older message.number (kept_of s message.client) ≡ true = is_older_one message.number (kept_of s message.client) beside.kept beside.found beside.none beside.more in
    let own = both (is_leave message.call) (is_older message.number (kept_of s message.client)) beside.leave older in
    let up = quiet s.recovering (has_call message.client s.gate.waiting) beside.serving beside.alone in
    let leaves : leaves_beside s message ≡ true = both (is_leave message.call && is_older message.number (kept_of s message.client)) (not s.recovering && not (has_call message.client s.gate.waiting)) own up in
    chosen (message.epoch == s.epoch) (is_live s message.client) (is_full s || not (leaves_beside s message))
    (kept_step s message (kept_answer (kept_of s message.client) message.number)) (waits s message None) (ended_step s message (kept_answer (kept_of s message.client) message.number)) (s, refusal s message.client message.number (faults.OldEpoch s.epoch))
    (ap (λ n. n == s.epoch) heard.epoch ∙ itself s.epoch) heard.live (neither (is_full s) (leaves_beside s message) beside.room leaves)

-- a message that is taken at a moment
taken_so : (s : MasterState) (now : ℕ) (request : Request) (p : MasterState × Taken) → take_step s now request ≡ Ok p → p ≡ take_at (noted s now) request
unfolding take_step
taken_so s now request p h =
    (elim (is_past_end now || is_spent s) as (λ b. cond {A = Result (MasterState × Taken) Fault} b (Err faults.Exhausted) (Ok (take_at (noted s now) request)) ≡ Ok p → p ≡ take_at (noted s now) request) [
      | true ↦ (λ e. cc)
      | false ↦ (λ e. cc)
    ]) h

pub leave_waits_beside : LeaveWaitsBeside
leave_waits_beside s new now message taken h heard beside =
    let is = taken_so s now (requests.Call message) (new, taken) h ∙ waits_beside (noted s now) message heard beside in
    (ap (λ (p : MasterState × Taken). p.0) is, ap (λ (p : MasterState × Taken). p.1) is)

-- ---- it ends the session

found_live : (o : Option (Session Reply)) → lives_in o ≡ true → (session : Session Reply) × (o ≡ Some session)
found_live None h = absurd cc
found_live (Some session) h = (session, refl)

dead_then : (o : Option (Session Reply)) → lives_in (option_map of_session.ended o) ≡ false
dead_then None = refl
dead_then (Some session) = refl

-- to keep replies ends and begins no session
kept_lives : (puts : List KeptPut) (table : SessionTable Reply) (q : ℕ) → lives_in (session_of (fold with_kept_put table puts) q) ≡ lives_in (session_of table q)
kept_lives [] table q = refl
kept_lives (put ∷ puts) table q = kept_lives puts (with_kept_put table put) q ∙ reads_step lives_in table put.client (keeping put.kept) (λ before. refl) q

has_first : (x : Out) (rest : List Out) → Contains (x ∷ rest) x
has_first x rest = Contains-append_left (x ∷ []) rest x (Contains-push [] x)

-- who has no live session has no claim that fits
apart : (sessions : SessionTable Reply) (client q : ℕ) → of_sessions.is_live sessions client ≡ false → of_sessions.is_live sessions q ≡ true → (q == client) ≡ false
apart sessions client q dead lives = (elim (q == client) as (λ b. (q == client) ≡ b → b ≡ false) [
  | true ↦ (λ e.
      let same : q ≡ client = eqb-true q client e in
      let both : true ≡ false = sym lives ∙ ap (of_sessions.is_live sessions) same ∙ dead in
      absurd cc)
  | false ↦ (λ e. refl)
]) refl

lives_of : (sessions : SessionTable Reply) (owner : Owner) (hold : Hold) → claim_fits sessions owner hold ≡ true → of_sessions.is_live sessions owner.client ≡ true
lives_of sessions owner hold h = first (of_sessions.is_live sessions owner.client) (is_number owner.handle) (nat_le hold.delay lock_delay_limit) h
  where
    first : (a b c : Bool) → (a && b && c) ≡ true → a ≡ true
    first true b c e = refl
    first false b c e = cc

none_of : (a b : Bool) → a ≡ false → b ≡ false → (a || b) ≡ false
none_of a b h k = rw (h, k) refl

none_holds : (sessions : SessionTable Reply) (client : ℕ) → of_sessions.is_live sessions client ≡ false → (holders : List (Owner × Hold)) → list_all (λ (e : Owner × Hold). claim_fits sessions e.0 e.1) holders ≡ true → list_any (λ (e : Owner × Hold). is_of_client client e.0) holders ≡ false
none_holds sessions client dead [] h = refl
none_holds sessions client dead (e ∷ es) h =
    let t = and_parts (claim_fits sessions e.0 e.1) (list_all (λ (f : Owner × Hold). claim_fits sessions f.0 f.1) es) h in
    none_of (is_of_client client e.0) (list_any (λ (f : Owner × Hold). is_of_client client f.0) es) (apart sessions client e.0.client dead (lives_of sessions e.0 e.1 t.0)) (none_holds sessions client dead es t.1)

none_waits : (sessions : SessionTable Reply) (client : ℕ) → of_sessions.is_live sessions client ≡ false → (claims : List Claim) → list_all (waiter_fits sessions) claims ≡ true → list_any (λ (c : Claim). is_of_client client c.owner) claims ≡ false
none_waits sessions client dead [] h = refl
none_waits sessions client dead (c ∷ cs) h =
    let t = and_parts (waiter_fits sessions c) (list_all (waiter_fits sessions) cs) h in
    let fits = and_parts (is_client_number c.owner.client) (claim_fits sessions c.owner c.hold) t.0 in
    none_of (is_of_client client c.owner) (list_any (λ (d : Claim). is_of_client client d.owner) cs) (apart sessions client c.owner.client dead (lives_of sessions c.owner c.hold fits.1)) (none_waits sessions client dead cs t.1)

module _ (s : MasterState) (number : ℕ) (asked : WaitingRequest) (sequencer : Option (List ℕ)) (turn : IsBeingApplied s number asked calls.Leave sequencer) where
  abbrev own : Reply
  own = reply_of s asked.client asked.number results.Done

  abbrev lapses : List Lapse
  lapses = lapses_of partings.Leave s asked.client

  -- what is planned for the Leave
  abbrev plan_with : Session Reply → Plan
  plan_with session = leaving number (parting_plan partings.Leave s asked.client session.principal lapses (own ∷ []))

  planned : (session : Session Reply) → session_of s.sessions asked.client ≡ Some session → plan_of s (first_action s) ≡ plan_with session
  planned session found =
      ap (plan_of s) turn.is_first
      ∙ ap (λ o. option_map_or (λ (task : Task). leaving number (plan_task s task)) o no_plan) turn.waits
      ∙ ap (λ work. leaving number (plan_work s asked.client asked.number work)) turn.work
      ∙ ap (λ b. leaving number (cond b (plan_live s asked.client asked.number calls.Leave sequencer) no_plan)) turn.live
      ∙ ap (λ o. leaving number (option_map_or (λ (before : Session Reply). parting_plan partings.Leave s asked.client before.principal lapses (own ∷ [])) o no_plan)) found

  left_so : (session : Session Reply) → session_of s.sessions asked.client ≡ Some session → swept s (first_action s) ≡ done_as s (plan_with session)
  left_so session found = ap (swept s) turn.is_first ∙ ap (done_as s) (ap (plan_of s) (sym turn.is_first) ∙ planned session found)

  -- its session is over then
  over_then : (session : Session Reply) → is_live (done_as s (plan_with session)).0 asked.client ≡ false
  over_then session =
      let table : SessionTable Reply = with_session s.sessions asked.client of_session.ended in
      let puts : List KeptPut = kept_puts ((own ∷ []) ++ lapses_replies s lapses) in
      let tellings : List SessionEvent = tellings_of s (plan_with session) in
      reads_told lives_in (λ event before. refl) tellings (fold with_kept_put table puts) asked.client
      ∙ kept_lives puts table asked.client
      ∙ ap lives_in (own_session s.sessions asked.client of_session.ended)
      ∙ dead_then (session_of s.sessions asked.client)

  answered_then : (session : Session Reply) → Contains (done_as s (plan_with session)).1.outs (outs.Reply own)
  answered_then session = has_first (outs.Reply own) (sent (lapses_replies s lapses))

pub leave_ends_session : LeaveEndsSession
leave_ends_session cell rows s new now number told asked sequencer k h turn =
    let there : MasterState = noted s now in
    let found = found_live (session_of there.sessions asked.client) turn.live in
    let is : (new, told) ≡ done_as there (plan_with there number asked sequencer turn found.0) = sym (does_first s now (new, told) h) ∙ left_so there number asked sequencer turn found.0 found.1 in
    let over : is_live new asked.client ≡ false = ap (λ (p : MasterState × Swept). is_live p.0 asked.client) is ∙ over_then there number asked sequencer turn found.0 in
    let before : Stands (max s.clock now) now s = record { cell = cell; rows = rows; kept = k; moment = refl } in
    let after = stands_behind (max s.clock now) now s new told before h in
    let free : (instance : ℕ) → concerns asked.client (lock_at new.locks instance) ≡ false = λ instance.
    let lock = after.kept.locks.each instance in
    none_of (any_holds (is_of_client asked.client) (lock_at new.locks instance)) (any_waits (is_of_client asked.client) (lock_at new.locks instance))
    (none_holds new.sessions asked.client over (lock_at new.locks instance).holders lock.holders) (none_waits new.sessions asked.client over (lock_at new.locks instance).waiters lock.waiters) in
    (record { over = over; free = free }, subst (λ (p : MasterState × Swept). Contains p.1.outs (outs.Reply (reply_of s asked.client asked.number results.Done))) (sym is) (answered_then there number asked sequencer turn found.0))
