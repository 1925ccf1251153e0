-- What holds of replies and of events, of those that a master keeps and of those that were sent, holds of them after each step.
use Rattle.std.proofs.Common.{◌≡◌, ℕ, ◌+◌, List, [], ◌∷◌, ◌++◌, Bool, true, false, cond, Option, Some, None, refl, sym, ap, subst, ◌∙◌, inl, inr, map, zero, suc, drop}
use Rattle.std.specs.Prelude.{◌-◌, ◌&&◌, not, fold}
use Rattle.std.specs.Option.{option_map, option_map_or}
use Rattle.std.specs.List.{AllByRecursion, slice_get}
use Rattle.std.specs.Map.{lookup, keys_of}
use Rattle.std.specs.List.Sorted.{IsStrictlySortedBy}
use Rattle.std.specs.BTreeMap.{is_at}
use Rattle.std.specs.Ordering.{nat_cmp}
use Rattle.std.specs.Cmp.{nat_cmp_total}
use Rattle.node_core.specs.declared.refusals.Fault.TheVariants as faults
use Rattle.node_core.specs.declared.events.Event.{Event}
use Rattle.node_core.specs.declared.events.Event.TheVariants as events
use Rattle.rows_cell.specs.declared.tables.SessionRow as stored
use Rattle.rows_cell.proofs.EntriesInOrder.{sorted_put}
use Rattle.tags_cell.specs.Numbers.{is_client_number}
use Rattle.tags_cell.specs.declared.messages.beats.NumberedEvent.{NumberedEvent}
use Rattle.tags_cell.specs.declared.messages.calls.Call.{Call}
use Rattle.tags_cell.specs.declared.messages.requests.Request.{Request}
use Rattle.tags_cell.specs.declared.messages.outs.CallResult.{CallResult}
use Rattle.tags_cell.specs.declared.messages.outs.CallResult.TheVariants as results
use Rattle.tags_cell.specs.declared.messages.outs.Out.{Out}
use Rattle.tags_cell.specs.declared.messages.outs.Out.TheVariants as outs
use Rattle.tags_cell.specs.declared.messages.outs.Reply.{Reply}
use Rattle.event_core.specs.Queue.{EventQueue, is_full, numbered_from, unacked, queued, pushed, has_lost, with_lost, behind, acknowledged_to}
use Rattle.lock_core.specs.declared.claims.Claim.{Claim}
use Rattle.lock_core.specs.declared.turns.Lapse.{Lapse}
use Rattle.lock_core.specs.declared.turns.Turn.{Turn}
use Rattle.lock_core.specs.Turns.{reopened}
use Rattle.lock_core.specs.Locks.{lock_at}
use Rattle.rights_core.specs.Rights.{clients_to_ask}
use Rattle.session_core.specs.declared.records.LastCall.{LastCall}
use Rattle.session_core.specs.declared.records.Parked.{Parked}
use Rattle.session_core.specs.declared.records.Session.{Session}
use Rattle.session_core.specs.Session as of_session
use Rattle.session_core.specs.Session.{events_of, first_events, session_until, beaten, prolonged, answered, keeping, unparked}
use Rattle.session_core.specs.Sessions.{SessionTable, with_session, with_new, issued_by, unacked_events, session_of as session_in}
use Rattle.master_parts.specs.declared.handles.HandleNote.{HandleNote}
use Rattle.master_parts.specs.declared.notices.SessionEvent.{SessionEvent}
use Rattle.master_parts.specs.declared.pending.Task.TheVariants as tasks
use Rattle.master_state.specs.NameSpace.{name_space, caller}
use Rattle.master_state.specs.Notices.{with_telling}
use Rattle.master_state.specs.State.{MasterState}
use Rattle.master_parts.specs.StoredSessions.{taken_over}
use Rattle.master_state.specs.Lookups.{kept_of, reply_of, stamped_reply, repeated_reply}
use Rattle.master_parts.specs.Answered.{answered_by}
use Rattle.master_state.specs.Updates.{with_note, with_kept_put, without_ended}
use Rattle.node_core.specs.Nodes.{with_parent}
use Rattle.cell_core.specs.Step.{queued as queued_in, with_call, asking, asking_for, names_of}
use Rattle.cell_core.specs.Cases.{TakeCase, taken_by}
use Rattle.cell_core.specs.Cases.TakeCase.{StartQueued, BeatParked, LeftBefore, Repeated, LeavesBeside, Recovering, Answered, Granted, Waits}
use Rattle.cell_core.specs.declared.effects.Effect.{Effect}
use Rattle.cell_core.specs.Effect.{effect}
use Rattle.master_state.specs.CallsWaiting.{has_call}
use Rattle.master_state.specs.Replies.{kept_puts, sent, replies_to, reply_to, turn_replies}
use Rattle.master_state.specs.Lapses.{lapses_replies, lapses_of}
use Rattle.over_core.proofs.Retired.{by_retiring}
use Rattle.over_core.specs.SweepCase.{SweepCase, swept_by, gone_replies}
use Rattle.over_core.specs.SweepCase.SweepCase.{Quiet, Recovers, Expires, Reopens, Tidies, Spared, Tidied, AnswersBeat, StartedAgain, Started, OfEnded, Ended, Applied, Deleted, Locked, Awaited, Left, Departed}
use Rattle.world_cell.proofs.OneSession.{kept_in, each_session, each_with_new, each_gone, each_issued}
use Rattle.world_cell.proofs.EffectContents.{IsShown, IsShownIf, answer_shown, effect_faithful}
use Rattle.lock_core.specs.declared.partings.Parting.TheVariants as partings

module _ (R : Reply → Type 0) (E : Event → Type 0) where
  -- ---- what it says of each part

  abbrev pub IfReply : Option Reply → Type 0
  IfReply None = Unit {0}
  IfReply (Some reply) = R reply

  abbrev pub IfKept : Option (LastCall Reply) → Type 0
  IfKept None = Unit {0}
  IfKept (Some kept) = IfReply kept.reply

  abbrev pub IfQueue : Option EventQueue → Type 0
  IfQueue None = Unit {0}
  IfQueue (Some queue) = AllByRecursion E queue.waiting

  abbrev pub OfSession : Option (Session Reply) → Type 0
  OfSession None = Unit {0}
  OfSession (Some session) = IfKept session.kept × IfQueue session.events

  -- of each session of a table
  abbrev pub OfSessions : SessionTable Reply → Type 0
  OfSessions table = (client : ℕ) → OfSession (session_in table client)

  abbrev pub OfOut : Out → Type 0
  OfOut (outs.Reply reply) = R reply
  OfOut (outs.Alive alive) = AllByRecursion (λ (next : NumberedEvent). E next.event) alive.events
  OfOut _ = Unit {0}

  abbrev pub OfOuts : List Out → Type 0
  OfOuts [] = Unit {0}
  OfOuts (out ∷ rest) = OfOut out × OfOuts rest

  -- ---- lists

  both_hold : {X : Type 0} (P : X → Type 0) (xs ys : List X) → AllByRecursion P xs → AllByRecursion P ys → AllByRecursion P (xs ++ ys)
  both_hold P [] ys h k = k
  both_hold P (x ∷ xs) ys h k = (h.0, both_hold P xs ys h.1 k)

  dropped_hold : {X : Type 0} (P : X → Type 0) (n : ℕ) (xs : List X) → AllByRecursion P xs → AllByRecursion P (drop n xs)
  dropped_hold P zero xs h = h
  dropped_hold P (suc n) [] h = tt
  dropped_hold P (suc n) (x ∷ xs) h = dropped_hold P n xs h.1

  numbered_hold : (n : ℕ) (xs : List Event) → AllByRecursion E xs → AllByRecursion (λ (next : NumberedEvent). E next.event) (numbered_from n xs)
  numbered_hold n [] h = tt
  numbered_hold n (x ∷ xs) h = (h.0, numbered_hold (n + 1) xs h.1)

  pub sent_hold : (replies : List Reply) → AllByRecursion R replies → OfOuts (sent replies)
  sent_hold [] h = tt
  sent_hold (reply ∷ replies) h = (h.0, sent_hold replies h.1)

  pub out_holds : (out : List Out) (j : ℕ) (r : Out) → OfOuts out → slice_get out j ≡ Some r → OfOut r
  out_holds [] j r h k = cc
  out_holds (out ∷ rest) zero r h k = let e : out ≡ r = cc in subst OfOut e h.0
  out_holds (out ∷ rest) (suc j) r h k = out_holds rest j r h.1 k

  -- ---- one session

  pushed_holds : (event : Event) (queue : EventQueue) → E event → AllByRecursion E queue.waiting → AllByRecursion E (pushed event queue).waiting
  pushed_holds event queue e h =
      elim (is_full queue) as (λ b. AllByRecursion E (cond b (record queue { missed = true }) (queued event queue)).waiting) [ true ↦ h | false ↦ both_hold E queue.waiting (event ∷ []) h (e, tt) ]

  told_holds : (event : Event) (o : Option EventQueue) → E event → IfQueue o → IfQueue (option_map (pushed event) o)
  told_holds event None e h = tt
  told_holds event (Some queue) e h = pushed_holds event queue e h

  lost_holds : (queue : EventQueue) → E events.Lost → AllByRecursion E queue.waiting → AllByRecursion E (with_lost queue).waiting
  lost_holds queue lost h =
      elim (has_lost queue) as (λ b. AllByRecursion E (cond b (record (queued events.Lost queue) { missed = false }) queue).waiting) [ true ↦ both_hold E queue.waiting (events.Lost ∷ []) h (lost, tt) | false ↦ h ]

  acked_holds : (number : ℕ) (o : Option EventQueue) → E events.Lost → IfQueue o → IfQueue (option_map (acknowledged_to number) o)
  acked_holds number None lost h = tt
  acked_holds number (Some queue) lost h = lost_holds (behind number queue) lost (dropped_hold E (number - queue.acknowledged) queue.waiting h)

  answered_holds : (lease now : ℕ) (session : Session Reply) → OfSession (Some session) → OfSession (Some (answered lease now session))
  answered_holds lease now session h =
      elim session.parked as (λ o. OfSession (Some (option_map_or (λ (beat : Parked). prolonged (now + lease) (unparked now session)) o session))) [ None ↦ h | Some beat ↦ h ]

  -- ---- all sessions

  module _ (table : SessionTable Reply) (h : OfSessions table) where
    of_one : (client : ℕ) (session : Session Reply) → session_in table client ≡ Some session → OfSession (Some session)
    of_one client session is = subst OfSession is (h client)

    pub keeping_holds : (client : ℕ) (kept : LastCall Reply) → IfReply kept.reply → OfSessions (with_session table client (keeping kept))
    keeping_holds client kept r = each_session (λ q o. OfSession o) table client h (keeping kept) (λ session is. (r, (of_one client session is).1))

    issued_holds : (asked : List (ℕ × ℕ)) → OfSessions (issued_by asked table)
    issued_holds asked = each_issued (λ q o. OfSession o) (λ q number session k. k) asked table h

    stepped_holds : (client : ℕ) (step : Session Reply → Session Reply) → ((session : Session Reply) → OfSession (Some session) → OfSession (Some (step session))) → OfSessions (with_session table client step)
    stepped_holds client step keeps = each_session (λ q o. OfSession o) table client h step (λ session is. keeps session (of_one client session is))

    begun_holds : (client : ℕ) (principal : List ℕ) (moment : ℕ) → OfSessions (with_new table client (session_until principal true moment))
    begun_holds client principal moment = each_with_new (λ q o. OfSession o) table client h (session_until principal true moment) (tt, tt)

    kept_holds : (client : ℕ) (kept : LastCall Reply) → kept_in (session_in table client) ≡ Some kept → IfReply kept.reply
    kept_holds client kept is = found (session_in table client) (h client) is
      where
        found : (o : Option (Session Reply)) → OfSession o → kept_in o ≡ Some kept → IfReply kept.reply
        found None k is = cc
        found (Some session) k is = subst IfKept is k.0

    unacked_hold : (client : ℕ) → AllByRecursion (λ (next : NumberedEvent). E next.event) (unacked_events table client)
    unacked_hold client = of (session_in table client) (h client)
      where
        in_queue : (o : Option EventQueue) (session : Session Reply) → session.events ≡ o → IfQueue o → AllByRecursion (λ (next : NumberedEvent). E next.event) (unacked (events_of session))
        in_queue None session is k = rw is tt
        in_queue (Some queue) session is k = rw is (numbered_hold (queue.acknowledged + 1) queue.waiting k)

        of : (o : Option (Session Reply)) → OfSession o → AllByRecursion (λ (next : NumberedEvent). E next.event) (option_map_or (λ session. unacked (events_of session)) o [])
        of None k = tt
        of (Some session) k = in_queue session.events session refl k.1

  -- the reply to each that is told
  replies_hold : (table : SessionTable Reply) (replies : List Reply) → OfSessions table → OfOuts (sent replies) → OfSessions (fold with_kept_put table (kept_puts replies))
  replies_hold table [] h k = h
  replies_hold table (reply ∷ replies) h k = replies_hold (with_session table reply.client (keeping (answered_by reply))) replies (keeping_holds table h reply.client (answered_by reply) k.0) k.1

  -- what clients are told of a step
  pub tellings_hold : (table : SessionTable Reply) (tellings : List SessionEvent) → OfSessions table → AllByRecursion (λ (telling : SessionEvent). E telling.event) tellings → OfSessions (fold with_telling table tellings)
  tellings_hold table [] h k = h
  tellings_hold table (telling ∷ tellings) h k =
      tellings_hold (with_telling table telling) tellings (stepped_holds table h telling.client (of_session.told telling.event) (λ session g. (g.0, told_holds telling.event session.events k.0 g.1))) k.1

  -- sessions as a new master finds them
  first_hold : (live : Bool) → E events.FailOver → IfQueue (first_events live)
  first_hold true up = (up, tt)
  first_hold false up = tt

  pub taken_over_hold : (now : ℕ) (es : List (ℕ × stored.SessionRow)) (client : ℕ) → E events.FailOver → OfSession (lookup (is_at (nat_cmp client)) (map (taken_over now) es))
  taken_over_hold now [] client up = tt
  taken_over_hold now (e ∷ es) client up =
      elim (is_at (nat_cmp client) e.0) as (λ b. OfSession (cond b (Some (taken_over now e).1) (lookup (is_at (nat_cmp client)) (map (taken_over now) es)))) [
        | true ↦ (tt, first_hold e.1.live up)
        | false ↦ taken_over_hold now es client up
      ]

  -- ---- a master's notes and questions

  note_holds : (s : MasterState) (note : Option HandleNote) → OfSessions s.sessions → OfSessions (with_note s note).sessions
  note_holds s None h = h
  note_holds s (Some note) h = h

  asking_holds : (s : MasterState) (names : List (List ℕ)) → OfSessions s.sessions → OfSessions (asking_for s names).sessions
  asking_holds s [] h = h
  asking_holds s (name ∷ names) h = asking_holds (asking s name) names (issued_holds s.sessions h (clients_to_ask name s.rights))

  -- ---- a message is taken

  pub taken_hold : (s : MasterState) (request : Request) (c : TakeCase s request) → E events.Lost → OfSessions s.sessions → OfOuts (taken_by s request c).1.outs → OfSessions (taken_by s request c).0.sessions
  taken_hold s request (StartQueued start is may serving room) lost h k = h
  taken_hold s request (BeatParked beat is epoch taken) lost h k =
      stepped_holds s.sessions h beat.client (beaten beat s.clock) (λ session g. (g.0, acked_holds beat.events session.events lost g.1))
  taken_hold s request (Recovering message new recovering) lost h k =
      keeping_holds s.sessions h message.client (answered_by (reply_of s message.client message.number (results.Refused faults.Recovering))) k.0
  taken_hold s request (Answered message note answer new serving answered) lost h k =
      keeping_holds (with_note s note).sessions (note_holds s note h) message.client (answered_by (reply_of (with_note s note) message.client message.number answer)) k.0
  taken_hold s request (Granted message note answer name new serving may) lost h k =
      keeping_holds (with_note s note).sessions (note_holds s note h) message.client (answered_by (stamped_reply (with_note s note) message.client message.number answer)) k.0
  taken_hold s request (LeavesBeside message heard beside) lost h k = keeping_holds s.sessions h message.client (record { number = message.number; reply = None }) tt
  taken_hold s request (Waits message note touched new serving admitted) lost h k =
      asking_holds (with_call (with_note s note) message touched) (names_of touched)
      (keeping_holds (with_note s note).sessions (note_holds s note h) message.client (record { number = message.number; reply = None }) tt)
  taken_hold s request _ lost h k = h

  -- what shows a node of the map holds
  abbrev pub Shows : MasterState → Type 0
  Shows s = (reply : Reply) → IsShown s.nodes reply.result → R reply

  repeated_hold : (o : Option Reply) → IfReply o → OfOuts (repeated_reply o).outs
  repeated_hold None h = tt
  repeated_hold (Some reply) h = (h, tt)

  pub taken_outs_hold : (s : MasterState) (request : Request) (c : TakeCase s request) → Shows s → OfSessions s.sessions → OfOuts (taken_by s request c).1.outs
  taken_outs_hold s request (StartQueued start is may serving room) shows h = tt
  taken_outs_hold s request (BeatParked beat is epoch taken) shows h = tt
  taken_outs_hold s request (LeftBefore message kept request_is same_epoch ended is same) shows h = repeated_hold kept.reply (kept_holds s.sessions h message.client kept is)
  taken_outs_hold s request (Repeated message kept heard is same) shows h = repeated_hold kept.reply (kept_holds s.sessions h message.client kept is)
  taken_outs_hold s request (Recovering message new recovering) shows h = (shows (reply_of s message.client message.number (results.Refused faults.Recovering)) tt, tt)
  taken_outs_hold s request (Answered message note answer new serving answered) shows h =
      let shown : IsShown s.nodes answer = elim answered.is_answer [
        | inl t ↦ answer_shown s message.client message.number message.call message.sequencer answer t.0
        | inr t ↦ subst (IsShown s.nodes) (sym t.2) tt
      ] in
      (shows (reply_of (with_note s note) message.client message.number answer) shown, tt)
  taken_outs_hold s request (Granted message note answer name new serving may) shows h =
      (shows (stamped_reply (with_note s note) message.client message.number answer) (answer_shown s message.client message.number message.call message.sequencer answer may.is_answer), tt)
  taken_outs_hold s request (LeavesBeside message heard beside) shows h = tt
  taken_outs_hold s request (Waits message _ touched new serving admitted) shows h = tt
  taken_outs_hold s request _ shows h = (tt, tt)

  -- ---- a sweep

  module _ (s : MasterState) (shows : Shows s) where
    to_hold : (answer : CallResult) (client : ℕ) (b : Bool) (o : Option (LastCall Reply)) → IsShown s.nodes answer → AllByRecursion R (cond b (option_map_or (λ kept. reply_of s client kept.number answer ∷ []) o []) [])
    to_hold answer client true None shown = tt
    to_hold answer client true (Some kept) shown = (shows (reply_of s client kept.number answer) shown, tt)
    to_hold answer client false o shown = tt

    late_hold : (answer : CallResult) (claims : List Claim) → IsShown s.nodes answer → AllByRecursion R (replies_to s answer claims)
    late_hold answer [] shown = tt
    late_hold answer (claim ∷ claims) shown =
        both_hold R (reply_to s answer claim.owner.client) (replies_to s answer claims)
        (to_hold answer claim.owner.client (is_client_number claim.owner.client && not (has_call claim.owner.client s.gate.waiting)) (kept_of s claim.owner.client) shown) (late_hold answer claims shown)

    turn_hold : (turn : Turn) → AllByRecursion R (turn_replies s turn)
    turn_hold turn =
        both_hold R (replies_to s results.Done turn.granted) (replies_to s (results.Refused faults.Exhausted) turn.exhausted) (late_hold results.Done turn.granted tt) (late_hold (results.Refused faults.Exhausted) turn.exhausted tt)

    lapses_hold : (ended : List Lapse) → AllByRecursion R (lapses_replies s ended)
    lapses_hold [] = tt
    lapses_hold (lapse ∷ rest) = both_hold R (turn_replies s lapse.turn) (lapses_replies s rest) (turn_hold lapse.turn) (lapses_hold rest)

    own_holds : (client number : ℕ) (call : Call) (sequencer : Option (List ℕ)) (made : Effect) (answer : CallResult) → effect (name_space s) (caller s client) s.clock number call sequencer ≡ made → made.answer ≡ Some answer → R (reply_of s client number answer)
    own_holds client number call sequencer made answer is answered =
        shows (reply_of s client number answer) (subst (IsShownIf s.nodes) (ap (λ (e : Effect). e.answer) is ∙ answered) (effect_faithful s client number call sequencer).1)

  pub swept_outs_hold : (s : MasterState) (c : SweepCase s) → Shows s → OfSessions s.sessions → OfOuts (swept_by s c).1.outs
  swept_outs_hold s (Quiet none) shows h = tt
  swept_outs_hold s (Recovers recovering heard) shows h = tt
  swept_outs_hold s (Expires client session due) shows h = sent_hold (lapses_replies s (lapses_of partings.Expiry s client)) (lapses_hold s shows (lapses_of partings.Expiry s client))
  swept_outs_hold s (Departed front back asked call sequencer session turn work leave found live) shows h =
      (shows (reply_of s asked.client asked.number results.Done) tt, sent_hold (lapses_replies s (lapses_of partings.Leave s asked.client)) (lapses_hold s shows (lapses_of partings.Leave s asked.client)))
  swept_outs_hold s (Reopens instance due) shows h = sent_hold (turn_replies s (reopened (lock_at s.locks instance))) (turn_hold s shows (reopened (lock_at s.locks instance)))
  swept_outs_hold s (Tidies idle due) shows h = tt
  swept_outs_hold s (Spared front back idle turn held) shows h = tt
  swept_outs_hold s (Tidied front back idle turn still) shows h = sent_hold (gone_replies s idle) (late_hold s shows (results.Refused faults.StaleInstance) (lock_at s.locks idle.instance).waiters tt)
  swept_outs_hold s (AnswersBeat client session beat due) shows h = (unacked_hold s.sessions h client, tt)
  swept_outs_hold s (OfEnded front back asked call sequencer turn work gone) shows h = tt
  swept_outs_hold s (Ended front back asked call sequencer _ answer turn work stays live made) shows h =
      (own_holds s shows asked.client asked.number call sequencer _ answer made refl, tt)
  swept_outs_hold s (Applied front back asked call sequencer _ change answer turn work stays live made) shows h =
      (own_holds s shows asked.client asked.number call sequencer _ answer made refl, tt)
  swept_outs_hold s (Deleted front back asked call sequencer change instance waiters answer turn work stays live made) shows h = (
    own_holds s shows asked.client asked.number call sequencer _ answer made refl,
    sent_hold (replies_to s (results.Refused faults.StaleInstance) waiters) (late_hold s shows (results.Refused faults.StaleInstance) waiters tt),
  )
  swept_outs_hold s (Locked front back asked call sequencer put claim answer turn work stays live made) shows h =
      (own_holds s shows asked.client asked.number call sequencer _ answer made refl, tt)
  swept_outs_hold s (Awaited front back asked call sequencer put turn work stays live made) shows h = tt
  swept_outs_hold s (Left front back asked call sequencer _ leave answer turn work stays live made) shows h = (
    own_holds s shows asked.client asked.number call sequencer _ answer made refl,
    sent_hold (turn_replies s leave.turn) (turn_hold s shows leave.turn),
  )
  swept_outs_hold s _ shows h = (tt, tt)

  pub swept_hold : (s : MasterState) → IsStrictlySortedBy nat_cmp (keys_of s.sessions.sessions) → (c : SweepCase s) → OfSessions s.sessions → OfOuts (swept_by s c).1.outs → OfSessions (swept_by s c).0.sessions
  swept_hold s order (Expires client session due) h k =
      replies_hold (with_session s.sessions client of_session.ended) (lapses_replies s (lapses_of partings.Expiry s client)) (stepped_holds s.sessions h client of_session.ended (λ session g. (g.0, tt))) k
  swept_hold s order (Departed front back asked call sequencer session turn work leave found live) h k =
      let over = with_session s.sessions asked.client of_session.ended in
      let reply = reply_of s asked.client asked.number results.Done in
      replies_hold (with_session over asked.client (keeping (answered_by reply))) (lapses_replies s (lapses_of partings.Leave s asked.client))
      (keeping_holds over (stepped_holds s.sessions h asked.client of_session.ended (λ session g. (g.0, tt))) asked.client (answered_by reply) k.0) k.1
  swept_hold s order (Reopens instance due) h k = replies_hold s.sessions (turn_replies s (reopened (lock_at s.locks instance))) h k
  swept_hold s order (Tidies idle due) h k = asking_holds (queued_in s (with_parent idle.name) (tasks.Tidies idle)) (with_parent idle.name) h
  swept_hold s order (Tidied front back idle turn still) h k = replies_hold s.sessions (gone_replies s idle) h k
  swept_hold s order (AnswersBeat client session beat due) h k = stepped_holds s.sessions h client (answered s.sessions.lease s.clock) (answered_holds s.sessions.lease s.clock)
  swept_hold s order (StartedAgain front back asked principal received session turn work found live) h k =
      stepped_holds s.sessions h asked.client (prolonged (s.clock + s.sessions.lease)) (λ session g. g)
  swept_hold s order (Started front back asked principal received turn work none) h k =
      let new : Session Reply = session_until principal true (s.clock + s.sessions.lease) in
      let begun = begun_holds s.sessions h asked.client principal (s.clock + s.sessions.lease) in
      by_retiring s (λ gone. OfSessions (without_ended (with_new s.sessions asked.client new) gone)) begun
      (λ client gone. each_gone (λ q o. OfSession o) (with_new s.sessions asked.client new) client (sorted_put nat_cmp nat_cmp_total s.sessions.sessions asked.client new order) begun tt)
  swept_hold s order (Ended front back asked call sequencer None answer turn work stays live made) h k =
      keeping_holds s.sessions h asked.client (answered_by (reply_of s asked.client asked.number answer)) k.0
  swept_hold s order (Ended front back asked call sequencer (Some note) answer turn work stays live made) h k =
      keeping_holds s.sessions h asked.client (answered_by (reply_of s asked.client asked.number answer)) k.0
  swept_hold s order (Applied front back asked call sequencer None change answer turn work stays live made) h k =
      keeping_holds s.sessions h asked.client (answered_by (reply_of s asked.client asked.number answer)) k.0
  swept_hold s order (Applied front back asked call sequencer (Some note) change answer turn work stays live made) h k =
      keeping_holds s.sessions h asked.client (answered_by (reply_of s asked.client asked.number answer)) k.0
  swept_hold s order (Deleted front back asked call sequencer change instance waiters answer turn work stays live made) h k =
      replies_hold (with_session s.sessions asked.client (keeping (answered_by (reply_of s asked.client asked.number answer)))) (replies_to s (results.Refused faults.StaleInstance) waiters)
      (keeping_holds s.sessions h asked.client (answered_by (reply_of s asked.client asked.number answer)) k.0) k.1
  swept_hold s order (Locked front back asked call sequencer put claim answer turn work stays live made) h k =
      keeping_holds s.sessions h asked.client (answered_by (reply_of s asked.client asked.number answer)) k.0
  swept_hold s order (Left front back asked call sequencer None leave answer turn work stays live made) h k =
      replies_hold (with_session s.sessions asked.client (keeping (answered_by (reply_of s asked.client asked.number answer)))) (turn_replies s leave.turn)
      (keeping_holds s.sessions h asked.client (answered_by (reply_of s asked.client asked.number answer)) k.0) k.1
  swept_hold s order (Left front back asked call sequencer (Some note) leave answer turn work stays live made) h k =
      replies_hold (with_session s.sessions asked.client (keeping (answered_by (reply_of s asked.client asked.number answer)))) (turn_replies s leave.turn)
      (keeping_holds s.sessions h asked.client (answered_by (reply_of s asked.client asked.number answer)) k.0) k.1
  swept_hold s order _ h k = h
