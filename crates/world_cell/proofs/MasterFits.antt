-- What waits and what is kept fits the messages, whatever the master takes or sweeps.
use Rattle.std.proofs.Common.{◌≡◌, ◌≢◌, ℕ, ◌+◌, List, [], ◌∷◌, ◌++◌, Bool, true, false, cond, Option, Some, None, refl, sym, ap, ◌∙◌, inl, inr, arith, subst, map}
use Rattle.std.specs.Prelude.{◌⊎◌, ◌==◌, ◌&&◌, ◌||◌}
use Rattle.std.specs.Option.{option_map_or}
use Rattle.std.specs.List.{AllByRecursion}
use Rattle.std.specs.List.Sorted.{IsStrictlySortedBy}
use Rattle.std.specs.Map.{keys_of}
use Rattle.std.specs.Ordering.{nat_cmp}
use Rattle.std.specs.Cmp.{nat_cmp_total}
use Rattle.std.proofs.lemmas.Bool.Decides.{nat_tests}
use Rattle.std.proofs.lemmas.List.{append-nil}
use Rattle.tags_cell.specs.declared.messages.calls.Call.{Call}
use Rattle.tags_cell.specs.declared.messages.requests.Request.{Request}
use Rattle.tags_cell.specs.declared.messages.requests.Request.TheVariants as requests
use Rattle.tags_cell.specs.declared.messages.requests.CallMessage.{CallMessage}
use Rattle.tags_cell.specs.declared.messages.outs.CallResult.{CallResult}
use Rattle.tags_cell.specs.declared.messages.outs.CallResult.TheVariants as results
use Rattle.tags_cell.specs.declared.messages.beats.Beat.{Beat}
use Rattle.node_core.specs.declared.refusals.Fault.TheVariants as faults
use Rattle.tags_cell.specs.declared.messages.outs.Out.TheVariants as outs
use Rattle.tags_cell.specs.declared.messages.outs.Reply.{Reply}
use Rattle.rights_core.specs.declared.cache_rights.CacheRight.{CacheRight}
use Rattle.rights_core.specs.Rights.{granted, clients_to_ask, asked_back}
use Rattle.rights_core.specs.Rights as of_rights
use Rattle.rights_core.specs.declared.endings.Ending.TheVariants as endings
use Rattle.gate_core.specs.declared.pending.Waiting.{Waiting}
use Rattle.gate_core.specs.Gate.{GateState}
use Rattle.lock_core.specs.Turns.{reopened}
use Rattle.lock_core.specs.Locks.{lock_at}
use Rattle.session_core.specs.declared.records.LastCall.{LastCall}
use Rattle.session_core.specs.declared.records.Session.{Session}
use Rattle.session_core.specs.Session.{keeping, beaten, prolonged, answered, session_until, issued_through}
use Rattle.session_core.specs.Session as of_session
use Rattle.session_core.specs.Sessions.{with_session, with_new, issued_by}
use Rattle.master_state.specs.declared.updates.Change.{Change}
use Rattle.master_state.specs.declared.updates.LockPut.{LockPut}
use Rattle.master_parts.specs.declared.handles.HandleKey.{HandleKey}
use Rattle.master_parts.specs.declared.handles.HandleState.{HandleState}
use Rattle.master_parts.specs.declared.handles.HandleNote.{HandleNote}
use Rattle.master_parts.specs.OpenHandles.{without_client}
use Rattle.master_parts.specs.declared.pending.WaitingRequest.{WaitingRequest}
use Rattle.master_parts.specs.declared.pending.Orphan.{Orphan}
use Rattle.master_parts.specs.declared.pending.Task.{Task}
use Rattle.master_parts.specs.declared.pending.Task.TheVariants as tasks
use Rattle.master_parts.specs.declared.pending.Work.{Work}
use Rattle.master_parts.specs.declared.pending.Work.TheVariants as works
use Rattle.master_parts.specs.declared.notices.SessionEvent.{SessionEvent}
use Rattle.master_state.specs.Notices.{with_telling, with_tellings}
use Rattle.master_state.specs.State.{MasterState}
use Rattle.master_state.specs.Lookups.{session_of, kept_of, is_live, reply_of, stamped_reply, acknowledgement}
use Rattle.master_parts.specs.Answered.{answered_by}
use Rattle.node_core.specs.Nodes.{with_parent}
use Rattle.cell_core.specs.declared.asking.TouchedNames.{TouchedNames}
use Rattle.cell_core.specs.Step.{recorded, queued, names_of, task_of, with_call, with_right, asking_for, parked, replied, granting, waits, asking}
use Rattle.master_state.specs.Departed.{with_departed}
use Rattle.master_state.specs.Updates.{with_note, with_locks, without_lock, retired}
use Rattle.cell_core.specs.Ephemerals.{tidied}
use Rattle.cell_core.specs.Cases.{IsBehind, TakeCase, taken_by}
use Rattle.cell_core.specs.Names.{name_asked}
use Rattle.cell_core.proofs.Told.{told_is_shown}
use Rattle.cell_core.specs.Cases.TakeCase.{StartQueued, BeatParked, LeavesBeside, Recovering, Answered, Granted, Waits}
use Rattle.cell_core.specs.declared.effects.Leave.{Leave}
use Rattle.master_state.specs.CallsWaiting.{is_by, is_call, has_call}
use Rattle.master_state.specs.Replies.{replies_to, turn_replies, puts_of}
use Rattle.cell_core.specs.Outcomes.{left_put}
use Rattle.master_state.specs.Lapses.{lapses_of, lapses_puts, lapses_replies}
use Rattle.rows_cell.proofs.EntriesInOrder.{sorted_put}
use Rattle.over_core.proofs.Retired.{by_retiring}
use Rattle.over_core.specs.SweepCase.{IsNextApplied, SweepCase, swept_by, rest, ended, mapped, told, parted, gone_change, gone_replies}
use Rattle.over_core.specs.SweepCase.SweepCase.{Quiet, Recovers, Expires, Reopens, Tidies, Spared, Tidied, AnswersBeat, TurnedAway, StartedAgain, Started as StartedFirst, OfEnded, Ended, Applied, Deleted, Locked, Awaited, Left, Departed}
use Rattle.world_steps.specs.declared.mail.Message.{Message}
use Rattle.world_steps.specs.declared.mail.Message.TheVariants.{ToClient}
use Rattle.world_steps.specs.Messages.{call_of}
use Rattle.world_cell.specs.Consistent.{put_waiting, put_task, waiting, IsWaiting, IsLastInTurn, IsInTurn, IsOfMessage, IsTaskOfMessage, AreOfMessages, WasSent, IsReplyTo, OpensAs, IsAnswer, FitsMessages}
use Rattle.world_cell.proofs.MessagesGrow.{call_stays}
use Rattle.world_cell.proofs.LateReplies.{IsLate, AreLate, replies_late, application_late, lapses_late}
use Rattle.world_cell.proofs.OpensNamed.{answer_opens}
use Rattle.world_cell.proofs.AnswersSent.{answer_stays, plain_answer, told_answer, answered_opens, applied_opens}
use Rattle.world_cell.proofs.OneSession.{at_each, same, kept_in, each_apart, each_session, each_with_new, each_gone, each_issued, answered_so}
use Rattle.world_cell.proofs.MembersFound.{some_same}
use Rattle.lock_core.specs.declared.partings.Parting.{Parting}
use Rattle.lock_core.specs.declared.partings.Parting.TheVariants as partings
use Rattle.master_state.specs.Partings.{ending_by}

-- a change that waits
abbrev pub waits_as : ℕ → List (List ℕ) → Task → Waiting Task
waits_as number touched asked = record { number = number; change = record { touched = touched; body = asked } }

-- ---- what is kept of a call

-- it was sent, and a reply is to it
record IsKeptAs (sent : List Message) (epoch : ℕ) (secret : List ℕ) (client : ℕ) (kept : LastCall Reply) : Type 0 where
  was : WasSent sent epoch client kept.number
  replied : (reply : Reply) → kept.reply ≡ Some reply → IsReplyTo client kept.number reply
  answers : (reply : Reply) → kept.reply ≡ Some reply → IsAnswer sent secret reply

abbrev IsKeptSent : List Message → ℕ → List ℕ → ℕ → Option (Session Reply) → Type 0
IsKeptSent sent epoch secret client o = (kept : LastCall Reply) → kept_in o ≡ Some kept → IsKeptAs sent epoch secret client kept

all_kept : (sent : List Message) (s : MasterState) → FitsMessages sent s → (client : ℕ) → IsKeptSent sent s.epoch s.secret client (session_of s client)
all_kept sent s h client kept is = record { was = h.kept client kept is; replied = λ reply of. h.replies client kept reply is of; answers = λ reply of. h.answers client kept reply is of }

fits_by : (sent : List Message) (s : MasterState) → AreOfMessages sent s.epoch s.gate.waiting → ((client : ℕ) → IsKeptSent sent s.epoch s.secret client (session_of s client)) → ((client : ℕ) → IsInTurn (session_of s client) (waiting client s.gate.waiting)) → FitsMessages sent s
fits_by sent s queue kept turns = record {
  queue = queue;
  kept = λ client now is. (kept client now is).was;
  replies = λ client now reply is. (kept client now is).replied reply;
  answers = λ client now reply is. (kept client now is).answers reply;
  turns = turns;
}

-- a call that waits, and one that has its reply
waits_kept : (sent : List Message) (epoch : ℕ) (secret : List ℕ) (client number : ℕ) → WasSent sent epoch client number → IsKeptAs sent epoch secret client (record { number = number; reply = None })
waits_kept sent epoch secret client number was = record { was = was; replied = λ reply of. cc; answers = λ reply of. cc }

replied_kept : (sent : List Message) (epoch : ℕ) (secret : List ℕ) (client number : ℕ) (reply : Reply) → WasSent sent epoch client number → IsReplyTo client number reply → IsAnswer sent secret reply → IsKeptAs sent epoch secret client (record { number = number; reply = Some reply })
replied_kept sent epoch secret client number reply was to answers = record {
  was = was;
  replied = λ r of. subst (λ x. IsReplyTo client number x) (some_same reply r of) to;
  answers = λ r of. subst (λ x. IsAnswer sent secret x) (some_same reply r of) answers;
}

-- ---- more messages

later_kept : (xs ys : List Message) (epoch : ℕ) (secret : List ℕ) (client : ℕ) (kept : LastCall Reply) → IsKeptAs xs epoch secret client kept → IsKeptAs (xs ++ ys) epoch secret client kept
later_kept xs ys epoch secret client kept h =
    let w = h.was in
    record {
      was = record { call = w.call; found = call_stays xs ys client kept.number w.call w.found; same = w.same };
      replied = h.replied;
      answers = λ reply of. answer_stays xs ys secret reply (h.answers reply of);
    }

work_stays : (xs ys : List Message) (epoch client number : ℕ) (work : Work) → IsOfMessage xs epoch client number work → IsOfMessage (xs ++ ys) epoch client number work
work_stays xs ys epoch client number (works.Starts principal received) h = tt
work_stays xs ys epoch client number (works.Calls call sequencer) h =
    call_stays xs ys client number (record { client = client; epoch = epoch; number = number; call = call; sequencer = sequencer }) h

task_stays : (xs ys : List Message) (epoch : ℕ) (task : Task) → IsTaskOfMessage xs epoch task → IsTaskOfMessage (xs ++ ys) epoch task
task_stays xs ys epoch (tasks.Asked asked) h = work_stays xs ys epoch asked.client asked.number asked.work h
task_stays xs ys epoch (tasks.Tidies idle) h = tt

queue_stays : (xs ys : List Message) (epoch : ℕ) (queue : List (Waiting Task)) → AreOfMessages xs epoch queue → AreOfMessages (xs ++ ys) epoch queue
queue_stays xs ys epoch [] h = tt
queue_stays xs ys epoch (w ∷ ws) h = (task_stays xs ys epoch w.change.body h.0, queue_stays xs ys epoch ws h.1)

pub fits_stays : (xs ys : List Message) (s : MasterState) → FitsMessages xs s → FitsMessages (xs ++ ys) s
fits_stays xs ys s h =
    fits_by (xs ++ ys) s (queue_stays xs ys s.epoch s.gate.waiting h.queue)
    (λ client kept is. later_kept xs ys s.epoch s.secret client kept (all_kept xs s h client kept is)) h.turns

-- other rights
right_fits : (sent : List Message) (s : MasterState) (rights : List CacheRight) → FitsMessages sent s → FitsMessages sent (record s { rights = rights })
right_fits sent s rights h = record { queue = h.queue; kept = h.kept; replies = h.replies; answers = h.answers; turns = h.turns }

-- nor what is known of handles
known_fits : (sent : List Message) (s : MasterState) (handles : List (HandleKey × HandleState)) → FitsMessages sent s → FitsMessages sent (record s { handles = handles })
known_fits sent s handles h = record { queue = h.queue; kept = h.kept; replies = h.replies; answers = h.answers; turns = h.turns }

-- nor who has departed
departed_fits : (sent : List Message) (s : MasterState) (departed : List ℕ) → FitsMessages sent s → FitsMessages sent (record s { departed = departed })
departed_fits sent s departed h = record { queue = h.queue; kept = h.kept; replies = h.replies; answers = h.answers; turns = h.turns }

-- ---- the queue

put_push : (client whose number : ℕ) (work : Work) (xs ys : List ℕ) → put_waiting client whose number work (xs ++ ys) ≡ put_waiting client whose number work xs ++ ys
put_push client whose number (works.Starts principal received) xs ys = refl
put_push client whose number (works.Calls call sequencer) xs ys =
    elim (whose == client) as (λ b. cond b (number ∷ (xs ++ ys)) (xs ++ ys) ≡ cond b (number ∷ xs) xs ++ ys) [ true ↦ refl | false ↦ refl ]

task_push : (client : ℕ) (task : Task) (xs ys : List ℕ) → put_task client task (xs ++ ys) ≡ put_task client task xs ++ ys
task_push client (tasks.Asked asked) xs ys = put_push client asked.client asked.number asked.work xs ys
task_push client (tasks.Tidies idle) xs ys = refl

pub waiting_append : (client : ℕ) (xs ys : List (Waiting Task)) → waiting client (xs ++ ys) ≡ waiting client xs ++ waiting client ys
waiting_append client [] ys = refl
waiting_append client (x ∷ xs) ys =
    ap (put_task client x.change.body) (waiting_append client xs ys) ∙ task_push client x.change.body (waiting client xs) (waiting client ys)

itself : (n : ℕ) → (n == n) ≡ true
itself n = grind (arith, nat_tests)

differs : (n m : ℕ) → m ≢ n → (n == m) ≡ false
differs n m h = grind (arith, nat_tests)

-- a call of the client stands before the others, and one of another client doesn't count
pub waits_own : (client number : ℕ) (call : Call) (sequencer : Option (List ℕ)) (xs : List ℕ) → put_waiting client client number (works.Calls call sequencer) xs ≡ number ∷ xs
waits_own client number call sequencer xs = rw (itself client) refl

pub waits_other : (q client number : ℕ) (work : Work) (xs : List ℕ) → q ≢ client → put_waiting q client number work xs ≡ xs
waits_other q client number (works.Starts principal received) xs h = refl
waits_other q client number (works.Calls call sequencer) xs h = rw (differs client q h) refl

queue_push : (sent : List Message) (epoch : ℕ) (ws : List (Waiting Task)) (w : Waiting Task) → AreOfMessages sent epoch ws → IsTaskOfMessage sent epoch w.change.body → AreOfMessages sent epoch (ws ++ w ∷ [])
queue_push sent epoch [] w h k = (k, tt)
queue_push sent epoch (x ∷ xs) w h k = (h.0, queue_push sent epoch xs w h.1 k)

-- ---- a session's call

-- after a call that has its reply nothing waits
none_kept : (o : Option (LastCall Reply)) (number : ℕ) (numbers : List ℕ) → IsLastInTurn o numbers → IsBehind o number → numbers ≡ []
none_kept None number numbers h k = h
none_kept (Some kept) number numbers h k = subst (λ o. IsWaiting kept.number o numbers) k.1 h

pub none_waits : (o : Option (Session Reply)) (number : ℕ) (numbers : List ℕ) → IsInTurn o numbers → IsBehind (kept_in o) number → numbers ≡ []
none_waits None number numbers h k = h
none_waits (Some session) number numbers h k = none_kept session.kept number numbers h k

-- ---- a step of a session

-- what is kept of it decides
same_turn : (session new : Session Reply) (numbers : List ℕ) → new.kept ≡ session.kept → IsInTurn (Some session) numbers → IsInTurn (Some new) numbers
same_turn session new numbers kept h = subst (λ o. IsLastInTurn o numbers) (sym kept) h

module _ (sent : List Message) (s : MasterState) (h : FitsMessages sent s) where
  -- a step that keeps what is kept of calls
  stepped_fits : (client : ℕ) (step : Session Reply → Session Reply) → ((session : Session Reply) → (step session).kept ≡ session.kept) → FitsMessages sent (record s { sessions = with_session s.sessions client step })
  stepped_fits client step kept =
      fits_by sent (record s { sessions = with_session s.sessions client step }) h.queue
      (each_session (λ q o. IsKeptSent sent s.epoch s.secret q o) s.sessions client (all_kept sent s h) step (λ session is was e. all_kept sent s h client was (ap kept_in is ∙ sym (kept session) ∙ e)))
      (each_session (λ q o. IsInTurn o (waiting q s.gate.waiting)) s.sessions client h.turns step
      (λ session is. same_turn session (step session) (waiting client s.gate.waiting) (kept session) (subst (λ o. IsInTurn o (waiting client s.gate.waiting)) is (h.turns client))))

  prolonged_fits : (client moment : ℕ) → FitsMessages sent (record s { sessions = with_session s.sessions client (prolonged moment) })
  prolonged_fits client moment = stepped_fits client (prolonged moment) (λ session. refl)

  answered_fits : (client lease now : ℕ) → FitsMessages sent (record s { sessions = with_session s.sessions client (answered lease now) })
  answered_fits client lease now = stepped_fits client (answered lease now) (λ session. (answered_so lease now session).kept)

  issued_fits : (asked : List (ℕ × ℕ)) → FitsMessages sent (record s { sessions = issued_by asked s.sessions })
  issued_fits asked =
      fits_by sent (record s { sessions = issued_by asked s.sessions }) h.queue
      (each_issued (λ q o. IsKeptSent sent s.epoch s.secret q o) (λ q number session k. k) asked s.sessions (all_kept sent s h))
      (each_issued (λ q o. IsInTurn o (waiting q s.gate.waiting)) (λ q number session k. same_turn session (issued_through number session) (waiting q s.gate.waiting) refl k) asked s.sessions h.turns)

  expired_fits : (client : ℕ) → FitsMessages sent (record s { sessions = with_session s.sessions client of_session.ended })
  expired_fits client = stepped_fits client of_session.ended (λ session. refl)

  begun_fits : (client : ℕ) (principal : List ℕ) (moment : ℕ) → session_of s client ≡ None → FitsMessages sent (record s { sessions = with_new s.sessions client (session_until principal true moment) })
  begun_fits client principal moment none =
      fits_by sent (record s { sessions = with_new s.sessions client (session_until principal true moment) }) h.queue
      (each_with_new (λ q o. IsKeptSent sent s.epoch s.secret q o) s.sessions client (all_kept sent s h) (session_until principal true moment) (λ was e. cc))
      (each_with_new (λ q o. IsInTurn o (waiting q s.gate.waiting)) s.sessions client h.turns (session_until principal true moment)
      (subst (λ o. IsInTurn o (waiting client s.gate.waiting)) none (h.turns client)))

  -- a call of the client is recorded
  is_recorded : (client : ℕ) (kept : LastCall Reply) → IsKeptAs sent s.epoch s.secret client kept → (q : ℕ) → IsKeptSent sent s.epoch s.secret q (session_of (recorded s client kept) q)
  is_recorded client kept as_it =
      each_session (λ q o. IsKeptSent sent s.epoch s.secret q o) s.sessions client (all_kept sent s h) (keeping kept)
      (λ session is now e. subst (λ k. IsKeptAs sent s.epoch s.secret client k) (some_same kept now e) as_it)

  -- with its reply, where none of the client's waits for its turn
  answered_by_fits : (client : ℕ) (reply : Reply) → IsKeptAs sent s.epoch s.secret client (answered_by reply) → waiting client s.gate.waiting ≡ [] → FitsMessages sent (recorded s client (answered_by reply))
  answered_by_fits client reply as_it none =
      fits_by sent (recorded s client (answered_by reply)) h.queue (is_recorded client (answered_by reply) as_it)
      (each_session (λ q o. IsInTurn o (waiting q s.gate.waiting)) s.sessions client h.turns (keeping (answered_by reply)) (λ session is. none))

  -- what becomes of locks
  locks_fit : (puts : List LockPut) → FitsMessages sent (with_locks s puts)
  locks_fit puts = record {
    queue = h.queue;
    kept = h.kept;
    replies = h.replies;
    answers = h.answers;
    turns = h.turns;
  }

  without_fits : (gone : Option ℕ) → FitsMessages sent (without_lock s gone)
  without_fits None = h
  without_fits (Some instance) = record {
    queue = h.queue;
    kept = h.kept;
    replies = h.replies;
    answers = h.answers;
    turns = h.turns;
  }

-- what clients are told of keeps what is kept of calls
pub tellings_fit : (sent : List Message) (s : MasterState) (tellings : List SessionEvent) → FitsMessages sent s → FitsMessages sent (with_tellings s tellings)
tellings_fit sent s [] h = h
tellings_fit sent s (telling ∷ tellings) h =
    tellings_fit sent (record s { sessions = with_telling s.sessions telling }) tellings (stepped_fits sent s h telling.client (of_session.told telling.event) (λ session. refl))

-- ---- those that waited for a lock

-- the reply is to the call that is kept, and none of its client's waits for its turn
record IsKeptLate (sent : List Message) (s : MasterState) (reply : Reply) : Type 0 where
  as_it : IsKeptAs sent s.epoch s.secret reply.client (answered_by reply)
  none : waiting reply.client s.gate.waiting ≡ []

still_late : (sent : List Message) (s : MasterState) (client : ℕ) (kept : LastCall Reply) (replies : List Reply) → AllByRecursion (IsKeptLate sent s) replies → AllByRecursion (IsKeptLate sent (recorded s client kept)) replies
still_late sent s client kept [] h = tt
still_late sent s client kept (reply ∷ replies) h = (record { as_it = h.0.as_it; none = h.0.none }, still_late sent s client kept replies h.1)

told_fits : (sent : List Message) (s : MasterState) (replies : List Reply) → FitsMessages sent s → AllByRecursion (IsKeptLate sent s) replies → FitsMessages sent (told s replies)
told_fits sent s [] h k = h
told_fits sent s (reply ∷ replies) h k =
    told_fits sent (recorded s reply.client (answered_by reply)) replies (answered_by_fits sent s h reply.client reply k.0.as_it k.0.none) (still_late sent s reply.client (answered_by reply) replies k.1)

-- by what was kept before, with the queue as it is now
kept_late : (sent : List Message) (s : MasterState) (reply : Reply) → FitsMessages sent s → IsLate s reply → IsKeptAs sent s.epoch s.secret reply.client (answered_by reply)
kept_late sent s reply h late =
    let was : WasSent sent s.epoch reply.client reply.number = subst (λ n. WasSent sent s.epoch reply.client n) (sym late.same) (h.kept reply.client late.kept late.is_kept) in
    replied_kept sent s.epoch s.secret reply.client reply.number reply was (record { to = refl; answered = refl })
    (plain_answer sent s.secret reply was.call was.found late.unstamped (late.opens was.call.call))

-- of a client of which no call waits for its turn no number waits
not_put : (q whose number : ℕ) (work : Work) (xs : List ℕ) → (is_call work && whose == q) ≡ false → put_waiting q whose number work xs ≡ xs
not_put q whose number (works.Starts principal received) xs h = refl
not_put q whose number (works.Calls call sequencer) xs h = let apart : (whose == q) ≡ false = h in rw apart refl

not_tasked : (q : ℕ) (task : Task) (xs : List ℕ) → is_by is_call q task ≡ false → put_task q task xs ≡ xs
not_tasked q (tasks.Asked asked) xs h = not_put q asked.client asked.number asked.work xs h
not_tasked q (tasks.Tidies idle) xs h = refl

neither : (a b : Bool) → (a || b) ≡ false → (a ≡ false) × (b ≡ false)
neither true b h = cc
neither false b h = (refl, h)

pub none_called : (q : ℕ) (ws : List (Waiting Task)) → has_call q ws ≡ false → waiting q ws ≡ []
none_called q [] h = refl
none_called q (w ∷ ws) h =
    let t = neither (is_by is_call q w.change.body) (has_call q ws) h in
    not_tasked q w.change.body (waiting q ws) t.0 ∙ none_called q ws t.1

-- one of which none waits goes
gone_fits : (sent : List Message) (s : MasterState) → FitsMessages sent s → (client : ℕ) → IsStrictlySortedBy nat_cmp (keys_of s.sessions.sessions) → has_call client s.gate.waiting ≡ false → FitsMessages sent (retired s (Some client))
gone_fits sent s h client order quiet =
    fits_by sent (retired s (Some client)) h.queue
    (each_gone (λ q o. IsKeptSent sent s.epoch s.secret q o) s.sessions client order (all_kept sent s h) (λ was e. cc))
    (each_gone (λ q o. IsInTurn o (waiting q s.gate.waiting)) s.sessions client order h.turns (none_called client s.gate.waiting quiet))

all_late : (sent : List Message) (s t : MasterState) (replies : List Reply) → FitsMessages sent s → t.epoch ≡ s.epoch → t.secret ≡ s.secret → ((q : ℕ) → waiting q s.gate.waiting ≡ [] → waiting q t.gate.waiting ≡ []) → AreLate s replies → AllByRecursion (IsKeptLate sent t) replies
all_late sent s t [] h epoch secret fewer late = tt
all_late sent s t (reply ∷ replies) h epoch secret fewer late =
    let kept = kept_late sent s reply h late.0 in (
      record {
        as_it = subst (λ e. IsKeptAs sent e t.secret reply.client (answered_by reply)) (sym epoch) (subst (λ x. IsKeptAs sent s.epoch x reply.client (answered_by reply)) (sym secret) kept);
        none = fewer reply.client (none_called reply.client s.gate.waiting late.0.quiet);
      },
      all_late sent s t replies h epoch secret fewer late.1,
    )

-- a live session is there, and lives
no_session : (s : MasterState) (client : ℕ) → is_live s client ≡ true → session_of s client ≡ None → ⊥
no_session s client live none =
    let e : false ≡ true = subst (λ (o : Option (Session Reply)). option_map_or (λ (x : Session Reply). x.live) o false ≡ true) none live in cc

live_session : (s : MasterState) (client : ℕ) (session : Session Reply) → is_live s client ≡ true → session_of s client ≡ Some session → session.live ≡ true
live_session s client session live is =
    subst (λ (o : Option (Session Reply)). option_map_or (λ (x : Session Reply). x.live) o false ≡ true) is live

-- ---- a message is taken

pub fits_note : (sent : List Message) (s : MasterState) (note : Option HandleNote) → FitsMessages sent s → FitsMessages sent (with_note s note)
fits_note sent s None h = h
fits_note sent s (Some note) h = record { queue = h.queue; kept = h.kept; replies = h.replies; answers = h.answers; turns = h.turns }

-- who is asked for a name keeps its calls
asking_fits : (sent : List Message) (s : MasterState) (names : List (List ℕ)) → FitsMessages sent s → FitsMessages sent (asking_for s names)
asking_fits sent s [] h = h
asking_fits sent s (name ∷ names) h =
    let asked = clients_to_ask name s.rights in
    asking_fits sent (asking s name) names (right_fits sent (record s { sessions = issued_by asked s.sessions }) (asked_back name s.rights) (issued_fits sent s h asked))

pub behind_note : (s : MasterState) (note : Option HandleNote) (client number : ℕ) → IsBehind (kept_of s client) number → IsBehind (kept_of (with_note s note) client) number
behind_note s None client number h = h
behind_note s (Some note) client number h = h

pub live_note : (s : MasterState) (note : Option HandleNote) (client : ℕ) → is_live s client ≡ true → is_live (with_note s note) client ≡ true
live_note s None client h = h
live_note s (Some note) client h = h

pub epoch_note : (s : MasterState) (note : Option HandleNote) → (with_note s note).epoch ≡ s.epoch
epoch_note s None = refl
epoch_note s (Some note) = refl

gate_note : (s : MasterState) (note : Option HandleNote) → (with_note s note).gate ≡ s.gate
gate_note s None = refl
gate_note s (Some note) = refl

pub secret_note : (s : MasterState) (note : Option HandleNote) → (with_note s note).secret ≡ s.secret
secret_note s None = refl
secret_note s (Some note) = refl

module _ (sent : List Message) (s : MasterState) (client number : ℕ) (h : FitsMessages sent s) (live : is_live s client ≡ true) (behind : IsBehind (kept_of s client) number) where
  free : waiting client s.gate.waiting ≡ []
  free = none_waits (session_of s client) number (waiting client s.gate.waiting) (h.turns client) behind

  kept_fits : (reply : Reply) → IsReplyTo client number reply → IsAnswer sent s.secret reply → WasSent sent s.epoch client number → FitsMessages sent (recorded s client (record { number = number; reply = Some reply }))
  kept_fits reply to answers was =
      let kept : LastCall Reply = record { number = number; reply = Some reply } in
      fits_by sent (recorded s client kept) h.queue (is_recorded sent s h client kept (replied_kept sent s.epoch s.secret client number reply was to answers))
      (each_session (λ q o. IsInTurn o (waiting q s.gate.waiting)) s.sessions client h.turns (keeping kept) (λ session is. free))

  -- by what may not be kept in a cache
  replied_fits : (result : CallResult) (was : WasSent sent s.epoch client number) → OpensAs was.call.call result → FitsMessages sent (replied s client number result).0
  replied_fits result was opens =
      let reply = reply_of s client number result in
      kept_fits reply (record { to = refl; answered = refl }) (plain_answer sent s.secret reply was.call was.found refl opens) was

-- a call that comes to wait for its turn, of a client of which none waits for it
module _ (sent : List Message) (s : MasterState) (message : CallMessage) (h : FitsMessages sent s) (live : is_live s message.client ≡ true) (uncalled : waiting message.client s.gate.waiting ≡ []) (found : call_of sent message.client message.number ≡ Some (record message { epoch = s.epoch })) where
  called_fits : (touched : Option TouchedNames) → FitsMessages sent (with_call s message touched)
  called_fits touched =
      let client = message.client in
      let number = message.number in
      let w : Waiting Task = waits_as (s.gate.pushed + 1) (names_of touched) (tasks.Asked (task_of message)) in
      let was : WasSent sent s.epoch client number = record { call = record message { epoch = s.epoch }; found = found; same = refl } in
      let own : waiting client (s.gate.waiting ++ w ∷ []) ≡ number ∷ [] =
      waiting_append client s.gate.waiting (w ∷ []) ∙ ap (λ xs. xs ++ waiting client (w ∷ [])) uncalled ∙ waits_own client number message.call message.sequencer [] in
      let same = λ (q : ℕ) (apart : q ≢ client).
      waiting_append q s.gate.waiting (w ∷ []) ∙ ap (λ xs. waiting q s.gate.waiting ++ xs) (waits_other q client number (works.Calls message.call message.sequencer) [] apart) ∙ append-nil (waiting q s.gate.waiting) in
      fits_by sent (with_call s message touched) (queue_push sent s.epoch s.gate.waiting w h.queue found)
      (is_recorded sent s h client (record { number = number; reply = None }) (waits_kept sent s.epoch s.secret client number was))
      (each_apart (λ q o. IsInTurn o (waiting q (s.gate.waiting ++ w ∷ []))) s.sessions client (keeping (record { number = number; reply = None }))
      (λ q apart. subst (λ xs. IsInTurn (session_of s q) xs) (sym (same q apart)) (h.turns q))
      (λ none. absurd (no_session s client live none))
      (λ session is. inl own))

  waits_fits : (touched : Option TouchedNames) → FitsMessages sent (waits s message touched).0
  waits_fits touched = asking_fits sent (with_call s message touched) (names_of touched) (called_fits touched)

-- the reply is sent, with its grant
granting_fits : (sent : List Message) (s : MasterState) (client number : ℕ) (result : CallResult) (name : List ℕ) → FitsMessages sent s → is_live s client ≡ true → IsBehind (kept_of s client) number → (was : WasSent sent s.epoch client number) → name_asked s.secret was.call.call ≡ Some name → OpensAs was.call.call result → FitsMessages (sent ++ map ToClient (granting s client number result name).1.outs) (granting s client number result name).0
granting_fits sent s client number result name h live behind was asks opens =
    let reply = stamped_reply s client number result in
    let more : List Message = ToClient (outs.Reply reply) ∷ [] in
    kept_fits (sent ++ more) (with_right s client name) client number (right_fits (sent ++ more) s (granted client name s.rights) (fits_stays sent more s h)) live behind
    reply (record { to = refl; answered = refl }) (told_answer sent s.secret reply was.call name was.found asks opens)
    (record { call = was.call; found = call_stays sent more client number was.call was.found; same = was.same })

start_fits : (sent : List Message) (s : MasterState) (client number : ℕ) (principal : List ℕ) (received : ℕ) → FitsMessages sent s → FitsMessages sent (queued s [] (tasks.Asked (record { client = client; number = number; work = works.Starts principal received })))
start_fits sent s client number principal received h =
    let w : Waiting Task = waits_as (s.gate.pushed + 1) [] (tasks.Asked (record { client = client; number = number; work = works.Starts principal received })) in
    record {
      queue = queue_push sent s.epoch s.gate.waiting w h.queue tt;
      kept = h.kept;
      replies = h.replies;
      answers = h.answers;
      turns = λ q. subst (λ xs. IsInTurn (session_of s q) xs) (sym (waiting_append q s.gate.waiting (w ∷ []) ∙ append-nil (waiting q s.gate.waiting))) (h.turns q);
    }

-- the deletion of a node that nobody holds open
tidies_fits : (sent : List Message) (s : MasterState) (idle : Orphan) → FitsMessages sent s → FitsMessages sent (tidied s idle)
tidies_fits sent s idle h =
    let w : Waiting Task = waits_as (s.gate.pushed + 1) (with_parent idle.name) (tasks.Tidies idle) in
    let same = λ (q : ℕ). waiting_append q s.gate.waiting (w ∷ []) ∙ append-nil (waiting q s.gate.waiting) in
    asking_fits sent (queued s (with_parent idle.name) (tasks.Tidies idle)) (with_parent idle.name) (record {
      queue = queue_push sent s.epoch s.gate.waiting w h.queue tt;
      kept = h.kept;
      replies = h.replies;
      answers = h.answers;
      turns = λ q. subst (λ xs. IsInTurn (session_of s q) xs) (sym (same q)) (h.turns q);
    })

-- it acknowledges, and is parked
beat_fits : (sent : List Message) (s : MasterState) (beat : Beat) → FitsMessages sent s → FitsMessages sent (parked s beat)
beat_fits sent s beat h =
    right_fits sent (record s { sessions = with_session s.sessions beat.client (beaten beat s.clock) }) (of_rights.ended beat.client (acknowledgement beat) s.rights)
    (stepped_fits sent s h beat.client (beaten beat s.clock) (λ session. refl))

uncalled_note : (s : MasterState) (note : Option HandleNote) (client : ℕ) → waiting client s.gate.waiting ≡ [] → waiting client (with_note s note).gate.waiting ≡ []
uncalled_note s None client h = h
uncalled_note s (Some note) client h = h

-- the request was sent, if it is a call
abbrev pub WasAsked : List Message → Request → Type 0
WasAsked sent request = (call : CallMessage) → request ≡ requests.Call call → call_of sent call.client call.number ≡ Some call

-- what the master sends is after all messages
pub take_fits : (sent : List Message) (s : MasterState) (request : Request) (c : TakeCase s request) → FitsMessages sent s → WasAsked sent request → FitsMessages (sent ++ map ToClient (taken_by s request c).1.outs) (taken_by s request c).0
take_fits sent s request (StartQueued start is may serving room) h asked =
    fits_stays sent [] (queued s [] (tasks.Asked (record { client = start.client; number = start.number; work = works.Starts start.principal s.clock }))) (start_fits sent s start.client start.number start.principal s.clock h)
take_fits sent s request (BeatParked beat is epoch taken) h asked = fits_stays sent [] (parked s beat) (beat_fits sent s beat h)
take_fits sent s request (LeavesBeside message heard beside) h asked =
    fits_stays sent [] (waits s message None).0
    (waits_fits sent s message h heard.live (none_called message.client s.gate.waiting beside.alone) (rw (← heard.epoch) (asked message heard.is_call)) None)
take_fits sent s request (Recovering message new recovering) h asked =
    let step = replied s message.client message.number (results.Refused faults.Recovering) in
    fits_stays sent (map ToClient step.1.outs) step.0
    (replied_fits sent s message.client message.number h new.heard.live new.behind (results.Refused faults.Recovering)
    (record { call = message; found = asked message new.heard.is_call; same = new.heard.epoch }) tt)
take_fits sent s request (Answered message note answer new serving answered) h asked =
    let t = with_note s note in
    let epoch : message.epoch ≡ t.epoch = new.heard.epoch ∙ sym (epoch_note s note) in
    let step = replied t message.client message.number answer in
    fits_stays sent (map ToClient step.1.outs) step.0
    (replied_fits sent t message.client message.number (fits_note sent s note h) (live_note s note message.client new.heard.live) (behind_note s note message.client message.number new.behind) answer
    (record { call = message; found = asked message new.heard.is_call; same = epoch }) (answered_opens s message note answer answered))
take_fits sent s request (Granted message note answer name new serving may) h asked =
    let t = with_note s note in
    let epoch : message.epoch ≡ t.epoch = new.heard.epoch ∙ sym (epoch_note s note) in
    granting_fits sent t message.client message.number answer name (fits_note sent s note h) (live_note s note message.client new.heard.live) (behind_note s note message.client message.number new.behind)
    (record { call = message; found = asked message new.heard.is_call; same = epoch })
    (ap (λ secret. name_asked secret message.call) (secret_note s note) ∙ (told_is_shown s message.client message.number message.call message.sequencer name answer may.is_told may.is_answer).0)
    (answer_opens s message.client message.number message.call message.sequencer answer may.is_answer)
take_fits sent s request (Waits message note touched new serving admitted) h asked =
    let t = with_note s note in
    let epoch : message.epoch ≡ t.epoch = new.heard.epoch ∙ sym (epoch_note s note) in
    fits_stays sent [] (waits t message touched).0
    (waits_fits sent t message (fits_note sent s note h) (live_note s note message.client new.heard.live) (uncalled_note s note message.client (none_waits (session_of s message.client) message.number (waiting message.client s.gate.waiting) (h.turns message.client) new.behind))
    (rw (← epoch) (asked message new.heard.is_call)) touched)
take_fits sent s request c h asked = fits_stays sent (map ToClient (taken_by s request c).1.outs) s h

-- ---- a sweep

-- the call whose turn it is has no reply yet, and none waits beside it
pub record IsItsTurn (o : Option (LastCall Reply)) (number : ℕ) (before behind : List ℕ) : Type 0 where
  pub front : before ≡ []
  pub back : behind ≡ []
  pub kept : LastCall Reply
  pub is_kept : o ≡ Some kept
  pub no_reply : kept.reply ≡ None
  pub same : kept.number ≡ number

none_but : (xs ys : List ℕ) (n : ℕ) → xs ++ n ∷ ys ≡ [] → ⊥
none_but [] ys n h = cc
none_but (x ∷ xs) ys n h = cc

one_but : (xs ys : List ℕ) (n m : ℕ) → xs ++ n ∷ ys ≡ m ∷ [] → (xs ≡ []) × (ys ≡ []) × (m ≡ n)
one_but [] ys n m h = (refl, cc, cc)
one_but (x ∷ xs) ys n m h = let t : xs ++ n ∷ ys ≡ [] = cc in absurd (none_but xs ys n t)

-- a call that waits is the one without a reply
waiting_one : (number : ℕ) (o : Option Reply) (n : ℕ) (xs ys : List ℕ) → IsWaiting number o (xs ++ n ∷ ys) → (o ≡ None) × (xs ++ n ∷ ys ≡ number ∷ [])
waiting_one number None n xs ys (inl h) = (refl, h)
waiting_one number None n xs ys (inr h) = absurd (none_but xs ys n h)
waiting_one number (Some reply) n xs ys h = absurd (none_but xs ys n h)

kept_turn : (o : Option (LastCall Reply)) (number : ℕ) (xs ys : List ℕ) → IsLastInTurn o (xs ++ number ∷ ys) → IsItsTurn o number xs ys
kept_turn None number xs ys h = absurd (none_but xs ys number h)
kept_turn (Some kept) number xs ys h =
    let w = waiting_one kept.number kept.reply number xs ys h in
    let t = one_but xs ys number kept.number w.1 in
    record { front = t.0; back = t.1; kept = kept; is_kept = refl; no_reply = w.0; same = t.2 }

its_turn : (o : Option (Session Reply)) (number : ℕ) (xs ys : List ℕ) → IsInTurn o (xs ++ number ∷ ys) → IsItsTurn (kept_in o) number xs ys
its_turn None number xs ys h = absurd (none_but xs ys number h)
its_turn (Some session) number xs ys h = kept_turn session.kept number xs ys h

-- it may leave without a reply
left_waiting : (number : ℕ) (o : Option Reply) → IsWaiting number o []
left_waiting number None = inr refl
left_waiting number (Some reply) = refl

left_turn : (o : Option (Session Reply)) → IsInTurn o []
left_turn None = refl
left_turn (Some session) = elim session.kept as (λ o. IsLastInTurn o []) [ None ↦ refl | Some kept ↦ left_waiting kept.number kept.reply ]

none_of_both : (xs ys : List ℕ) → xs ++ ys ≡ [] → (xs ≡ []) × (ys ≡ [])
none_of_both [] ys h = (refl, h)
none_of_both (x ∷ xs) ys h = cc

none_put : (q whose number : ℕ) (work : Work) (xs : List ℕ) → put_waiting q whose number work xs ≡ [] → xs ≡ []
none_put q whose number (works.Starts principal received) xs h = h
none_put q whose number (works.Calls call sequencer) xs h = (elim (whose == q) as (λ b. cond b (number ∷ xs) xs ≡ [] → xs ≡ []) [ true ↦ (λ e. cc) | false ↦ (λ e. e) ]) h

none_tasked : (q : ℕ) (task : Task) (xs : List ℕ) → put_task q task xs ≡ [] → xs ≡ []
none_tasked q (tasks.Asked asked) xs h = none_put q asked.client asked.number asked.work xs h
none_tasked q (tasks.Tidies idle) xs h = h

-- the one that has its turn, and the others
queue_at : (sent : List Message) (epoch : ℕ) (front : List (Waiting Task)) (w : Waiting Task) (back : List (Waiting Task)) → AreOfMessages sent epoch (front ++ w ∷ back) → IsTaskOfMessage sent epoch w.change.body × AreOfMessages sent epoch (front ++ back)
queue_at sent epoch [] w back h = (h.0, h.1)
queue_at sent epoch (x ∷ front) w back h = let t = queue_at sent epoch front w back h.1 in (t.0, (h.0, t.1))

-- the map changes
mapped_fits : (sent : List Message) (s : MasterState) (change : Change) → FitsMessages sent s → FitsMessages sent (mapped s change)
mapped_fits sent s change h = record { queue = h.queue; kept = h.kept; replies = h.replies; answers = h.answers; turns = h.turns }

-- a change leaves the gate
module _ (sent : List Message) (s : MasterState) (front : List (Waiting Task)) (task : Task) (back : List (Waiting Task)) (turn : IsNextApplied s front task back) (h : FitsMessages sent s) where
  at_application : IsTaskOfMessage sent s.epoch task × AreOfMessages sent s.epoch (front ++ back)
  at_application = queue_at sent s.epoch front (waits_as turn.number turn.touched task) back (subst (λ ws. AreOfMessages sent s.epoch ws) turn.waited h.queue)

  waited_before : (q : ℕ) → waiting q s.gate.waiting ≡ waiting q front ++ put_task q task (waiting q back)
  waited_before q = ap (waiting q) turn.waited ∙ waiting_append q front (waits_as turn.number turn.touched task ∷ back)

  in_turn : (q : ℕ) → IsInTurn (session_of s q) (waiting q front ++ put_task q task (waiting q back))
  in_turn q = subst (λ xs. IsInTurn (session_of s q) xs) (waited_before q) (h.turns q)

  -- what is not the client's waits as before
  others : (q : ℕ) → put_task q task (waiting q back) ≡ waiting q back → IsInTurn (session_of s q) (waiting q (front ++ back))
  others q same = subst (λ xs. IsInTurn (session_of s q) xs) (ap (λ ys. waiting q front ++ ys) same ∙ sym (waiting_append q front back)) (in_turn q)

  -- of whom nothing waited, nothing waits
  fewer : (q : ℕ) → waiting q s.gate.waiting ≡ [] → waiting q (front ++ back) ≡ []
  fewer q none =
      let t = none_of_both (waiting q front) (put_task q task (waiting q back)) (sym (waited_before q) ∙ none) in
      waiting_append q front back ∙ ap (λ xs. xs ++ waiting q back) t.0 ∙ none_tasked q task (waiting q back) t.1

  -- one that is no client's call
  uncalled_left : ((q : ℕ) → put_task q task (waiting q back) ≡ waiting q back) → FitsMessages sent (rest s front back)
  uncalled_left uncalled = record {
    queue = at_application.1;
    kept = h.kept;
    replies = h.replies;
    answers = h.answers;
    turns = λ q. others q (uncalled q);
  }

-- what the cell does by itself
tidied_left : (sent : List Message) (s : MasterState) (front : List (Waiting Task)) (idle : Orphan) (back : List (Waiting Task)) → IsNextApplied s front (tasks.Tidies idle) back → FitsMessages sent s → FitsMessages sent (rest s front back)
tidied_left sent s front idle back turn h = uncalled_left sent s front (tasks.Tidies idle) back turn h (λ q. refl)

-- what a client asked for
module _ (sent : List Message) (s : MasterState) (front : List (Waiting Task)) (asked : WaitingRequest) (back : List (Waiting Task)) (turn : IsNextApplied s front (tasks.Asked asked) back) (h : FitsMessages sent s) where
  -- the call was sent
  pub application_sent : (call : Call) (sequencer : Option (List ℕ)) → asked.work ≡ works.Calls call sequencer → call_of sent asked.client asked.number ≡ Some (record { client = asked.client; epoch = s.epoch; number = asked.number; call = call; sequencer = sequencer })
  application_sent call sequencer work = subst (λ x. IsOfMessage sent s.epoch asked.client asked.number x) work (at_application sent s front (tasks.Asked asked) back turn h).0

  start_left : (principal : List ℕ) (received : ℕ) → asked.work ≡ works.Starts principal received → FitsMessages sent (rest s front back)
  start_left principal received work = uncalled_left sent s front (tasks.Asked asked) back turn h (λ q. ap (λ x. put_waiting q asked.client asked.number x (waiting q back)) work)

  module _ (call : Call) (sequencer : Option (List ℕ)) (work : asked.work ≡ works.Calls call sequencer) where
    pub call_application : IsItsTurn (kept_of s asked.client) asked.number (waiting asked.client front) (waiting asked.client back)
    call_application =
        its_turn (session_of s asked.client) asked.number (waiting asked.client front) (waiting asked.client back)
        (subst (λ xs. IsInTurn (session_of s asked.client) (waiting asked.client front ++ xs)) (ap (λ x. put_waiting asked.client asked.client asked.number x (waiting asked.client back)) work ∙ waits_own asked.client asked.number call sequencer (waiting asked.client back)) (in_turn sent s front (tasks.Asked asked) back turn h asked.client))

    -- no call of the client waits then
    none_left : waiting asked.client (front ++ back) ≡ []
    none_left = waiting_append asked.client front back ∙ ap (λ xs. xs ++ waiting asked.client back) call_application.front ∙ call_application.back

    -- it leaves without a reply
    call_left : FitsMessages sent (rest s front back)
    call_left = record {
      queue = (at_application sent s front (tasks.Asked asked) back turn h).1;
      kept = h.kept;
      replies = h.replies;
      answers = h.answers;
      turns = at_each (λ q. IsInTurn (session_of s q) (waiting q (front ++ back))) asked.client
          (subst (λ xs. IsInTurn (session_of s asked.client) xs) (sym none_left) (left_turn (session_of s asked.client)))
          (λ q apart. others sent s front (tasks.Asked asked) back turn h q (waits_other q asked.client asked.number asked.work (waiting q back) apart));
    }

    -- or with one
    module _ (answer : CallResult) (opens : OpensAs call answer) where
      abbrev pub reply : Reply
      reply = reply_of s asked.client asked.number answer

      its_reply : IsKeptAs sent s.epoch s.secret asked.client (answered_by reply)
      its_reply =
          let was : WasSent sent s.epoch asked.client asked.number = record { call = record { client = asked.client; epoch = s.epoch; number = asked.number; call = call; sequencer = sequencer }; found = application_sent call sequencer work; same = refl } in
          replied_kept sent s.epoch s.secret asked.client asked.number reply was (record { to = refl; answered = refl }) (plain_answer sent s.secret reply was.call was.found refl opens)

      replied_left : (puts : List LockPut) → FitsMessages sent (recorded (with_locks (rest s front back) puts) asked.client (answered_by reply))
      replied_left puts =
          answered_by_fits sent (with_locks (rest s front back) puts) (locks_fit sent (rest s front back) call_left puts) asked.client reply its_reply none_left

      -- after the end of its session
      parted_left : (parting : Parting) → FitsMessages sent (recorded (with_locks (parted parting (rest s front back) asked.client) (lapses_puts s (lapses_of parting s asked.client))) asked.client (answered_by reply))
      parted_left parting =
          let r : MasterState = rest s front back in
          let t : MasterState = parted parting r asked.client in
          let puts = lapses_puts s (lapses_of parting s asked.client) in
          let over =
          departed_fits sent (record r { handles = without_client s.handles asked.client; sessions = with_session r.sessions asked.client of_session.ended; rights = of_rights.ended asked.client (ending_by parting) s.rights }) (with_departed s.departed asked.client)
          (known_fits sent (record r { sessions = with_session r.sessions asked.client of_session.ended; rights = of_rights.ended asked.client (ending_by parting) s.rights }) (without_client s.handles asked.client)
          (right_fits sent (record r { sessions = with_session r.sessions asked.client of_session.ended }) (of_rights.ended asked.client (ending_by parting) s.rights) (expired_fits sent r call_left asked.client))) in
          answered_by_fits sent (with_locks t puts) (locks_fit sent t over puts) asked.client reply its_reply none_left

pub sweep_fits : (sent : List Message) (s : MasterState) → IsStrictlySortedBy nat_cmp (keys_of s.sessions.sessions) → (c : SweepCase s) → FitsMessages sent s → FitsMessages sent (swept_by s c).0
sweep_fits sent s order (Quiet none) h = h
sweep_fits sent s order (Recovers recovering heard) h = record { queue = h.queue; kept = h.kept; replies = h.replies; answers = h.answers; turns = h.turns }
sweep_fits sent s order (Expires client session due) h =
    let t = parted partings.Expiry s client in
    let puts = lapses_puts s (lapses_of partings.Expiry s client) in
    let replies = lapses_replies s (lapses_of partings.Expiry s client) in
    let ended =
    departed_fits sent (record s { handles = without_client s.handles client; sessions = with_session s.sessions client of_session.ended; rights = of_rights.ended client endings.Expiry s.rights }) (with_departed s.departed client)
    (known_fits sent (record s { sessions = with_session s.sessions client of_session.ended; rights = of_rights.ended client endings.Expiry s.rights }) (without_client s.handles client)
    (right_fits sent (record s { sessions = with_session s.sessions client of_session.ended }) (of_rights.ended client endings.Expiry s.rights) (expired_fits sent s h client))) in
    told_fits sent (with_locks t puts) replies (locks_fit sent t ended puts)
    (all_late sent s (with_locks t puts) replies h refl refl (λ q none. none) (lapses_late s (lapses_of partings.Expiry s client)))
sweep_fits sent s order (Reopens instance due) h =
    let lock = lock_at s.locks instance in
    let turn = reopened lock in
    let puts = puts_of s instance turn.lock in
    told_fits sent (with_locks s puts) (turn_replies s turn)
    (locks_fit sent s h puts)
    (all_late sent s (with_locks s puts) (turn_replies s turn) h refl refl (λ q none. none) (application_late s turn))
sweep_fits sent s order (Tidies idle due) h = tidies_fits sent s idle h
sweep_fits sent s order (Spared front back idle turn held) h = tidied_left sent s front idle back turn h
sweep_fits sent s order (Tidied front back idle turn still) h =
    let t : MasterState = mapped (rest s front back) (gone_change s idle) in
    let replies = gone_replies s idle in
    without_fits sent (told t replies)
    (told_fits sent t replies (mapped_fits sent (rest s front back) (gone_change s idle) (tidied_left sent s front idle back turn h))
    (all_late sent s t replies h refl refl (fewer sent s front (tasks.Tidies idle) back turn h)
    (replies_late s (results.Refused faults.StaleInstance) (lock_at s.locks idle.instance).waiters (λ x. tt))))
    (Some idle.instance)
sweep_fits sent s order (AnswersBeat client session beat due) h = answered_fits sent s h client s.sessions.lease s.clock
sweep_fits sent s order (TurnedAway front back asked principal received turn work may) h = start_left sent s front asked back turn h principal received work
sweep_fits sent s order (StartedAgain front back asked principal received session turn work found live) h =
    let t : MasterState = record s { sessions = with_session s.sessions asked.client (prolonged (s.clock + s.sessions.lease)) } in
    start_left sent t front asked back (record { number = turn.number; touched = turn.touched; waited = turn.waited; free = turn.free }) (prolonged_fits sent s h asked.client (s.clock + s.sessions.lease)) principal received work
sweep_fits sent s order (StartedFirst front back asked principal received turn work none) h =
    let new : Session Reply = session_until principal true (s.clock + s.sessions.lease) in
    let t : MasterState = record s { sessions = with_new s.sessions asked.client new } in
    let f : FitsMessages sent t = begun_fits sent s h asked.client principal (s.clock + s.sessions.lease) none.0 in
    by_retiring s (λ o. FitsMessages sent (rest (retired t o) front back))
    (start_left sent t front asked back (record { number = turn.number; touched = turn.touched; waited = turn.waited; free = turn.free }) f principal received work)
    (λ client gone. start_left sent (retired t (Some client)) front asked back (record { number = turn.number; touched = turn.touched; waited = turn.waited; free = turn.free })
    (gone_fits sent t f client (sorted_put nat_cmp nat_cmp_total s.sessions.sessions asked.client new order) gone.quiet) principal received work)
sweep_fits sent s order (OfEnded front back asked call sequencer turn work gone) h = call_left sent s front asked back turn h call sequencer work
sweep_fits sent s order (Departed front back asked call sequencer session turn work leave found live) h =
    let puts = lapses_puts s (lapses_of partings.Leave s asked.client) in
    let replies = lapses_replies s (lapses_of partings.Leave s asked.client) in
    let t : MasterState = recorded (with_locks (parted partings.Leave (rest s front back) asked.client) puts) asked.client (answered_by (reply_of s asked.client asked.number results.Done)) in
    told_fits sent t replies
    (parted_left sent s front asked back turn h call sequencer work results.Done tt partings.Leave)
    (all_late sent s t replies h refl refl (fewer sent s front (tasks.Asked asked) back turn h) (lapses_late s (lapses_of partings.Leave s asked.client)))
sweep_fits sent s order (Ended front back asked call sequencer note answer turn work stays live made) h =
    fits_note sent (recorded (rest s front back) asked.client (answered_by (reply_of s asked.client asked.number answer))) note
    (replied_left sent s front asked back turn h call sequencer work answer (applied_opens s asked.client asked.number call sequencer _ answer made refl) [])
sweep_fits sent s order (Applied front back asked call sequencer note change answer turn work stays live made) h =
    let f = replied_left sent s front asked back turn h call sequencer work answer (applied_opens s asked.client asked.number call sequencer _ answer made refl) [] in
    fits_note sent (recorded (mapped (rest s front back) change) asked.client (answered_by (reply_of s asked.client asked.number answer))) note (mapped_fits sent _ change f)
sweep_fits sent s order (Deleted front back asked call sequencer change instance waiters answer turn work stays live made) h =
    let f = replied_left sent s front asked back turn h call sequencer work answer (applied_opens s asked.client asked.number call sequencer _ answer made refl) [] in
    let t : MasterState = ended (mapped (rest s front back) change) asked None answer in
    let replies = replies_to s (results.Refused faults.StaleInstance) waiters in
    without_fits sent (told t replies)
    (told_fits sent t replies (mapped_fits sent _ change f)
    (all_late sent s t replies h refl refl (fewer sent s front (tasks.Asked asked) back turn h)
    (replies_late s (results.Refused faults.StaleInstance) waiters (λ x. tt))))
    (Some instance)
sweep_fits sent s order (Locked front back asked call sequencer put claim answer turn work stays live made) h =
    replied_left sent s front asked back turn h call sequencer work answer (applied_opens s asked.client asked.number call sequencer _ answer made refl) (put ∷ [])
sweep_fits sent s order (Awaited front back asked call sequencer put turn work stays live made) h =
    locks_fit sent (rest s front back) (call_left sent s front asked back turn h call sequencer work) (put ∷ [])
sweep_fits sent s order (Left front back asked call sequencer note leave answer turn work stays live made) h =
    let t : MasterState = recorded (with_locks (rest s front back) (left_put leave ∷ [])) asked.client (answered_by (reply_of s asked.client asked.number answer)) in
    told_fits sent (with_note t note) (turn_replies s leave.turn)
    (fits_note sent t note (replied_left sent s front asked back turn h call sequencer work answer (applied_opens s asked.client asked.number call sequencer _ answer made refl) (left_put leave ∷ [])))
    (all_late sent s (with_note t note) (turn_replies s leave.turn) h (epoch_note t note) (secret_note t note)
    (λ q none. ap (λ (g : GateState Task). waiting q g.waiting) (gate_note t note) ∙ fewer sent s front (tasks.Asked asked) back turn h q none)
    (application_late s leave.turn))
