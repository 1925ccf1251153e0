-- What the steps make of the handle numbers, of a reply that comes again, and of what is refused: each by the cases of the step.
use Rattle.std.proofs.Common.{◌≡◌, ◌≢◌, ◌⊎◌, inl, inr, ℕ, ◌+◌, ◌<◌, ◌≤◌, Bool, true, false, cond, List, [], ◌∷◌, ◌++◌, Option, Some, None, Result, Ok, Err, refl, sym, ap, ◌∙◌, arith}
use Rattle.std.specs.Prelude.{◌==◌, ◌&&◌}
use Rattle.std.specs.Option.{option_to_list}
use Rattle.std.proofs.lemmas.Bool.Decides.{nat_tests}
use Rattle.lease_core.specs.Lease.{moment_limit}
use Rattle.cache_core.specs.Standings.{turn_line}
use Rattle.cache_core.specs.declared.standings.SessionTrust.{SessionTrust}
use Rattle.cache_core.specs.declared.standings.SessionTrust.TheVariants as standings
use Rattle.node_core.specs.declared.refusals.Fault.{Fault}
use Rattle.node_core.specs.declared.refusals.Fault.TheVariants as faults
use Rattle.node_core.specs.declared.answers.Answer.{Answer}
use Rattle.node_core.specs.declared.answers.Answer.TheVariants as answers
use Rattle.node_core.specs.declared.lines.Line.{Line}
use Rattle.node_core.specs.declared.lines.Line.TheVariants as lines
use Rattle.node_core.specs.declared.views.View.{View}
use Rattle.tags_cell.specs.declared.messages.beats.NumberedEvent.{NumberedEvent}
use Rattle.tags_cell.specs.declared.messages.outs.Out.{Out}
use Rattle.tags_cell.specs.declared.messages.outs.Out.TheVariants as outs
use Rattle.tags_cell.specs.declared.messages.outs.Reply.{Reply}
use Rattle.tags_cell.specs.declared.messages.outs.CallResult.{CallResult}
use Rattle.tags_cell.specs.declared.messages.outs.CallResult.TheVariants as results
use Rattle.tags_cell.specs.Messages.{request_number, out_client}
use Rattle.client_core.specs.declared.parts.asks.Ask.{Ask}
use Rattle.client_core.specs.declared.parts.asks.AskOutcome.{AskOutcome}
use Rattle.client_core.specs.declared.parts.asks.NodeCall.{NodeCall}
use Rattle.client_core.specs.declared.parts.asks.Outcome.{Outcome}
use Rattle.client_core.specs.declared.parts.asks.Outcome.TheVariants as outcomes
use Rattle.client_core.specs.declared.parts.handles.ClientHandle.{ClientHandle}
use Rattle.client_core.specs.declared.parts.sessions.ClientStanding.{ClientStanding}
use Rattle.client_core.specs.declared.parts.sessions.ClientStanding.TheVariants as sessions
use Rattle.client_core.specs.declared.parts.steps.Given.{Given}
use Rattle.client_core.specs.declared.parts.targets.Target.{Target}
use Rattle.client_core.specs.declared.parts.targets.Outstanding.{Outstanding}
use Rattle.client_core.specs.State.{ClientState, standing_then, session_then, note, note_live, note_lines_in, note_lines}
use Rattle.client_core.specs.Opens.{cached_answer, Lesson}
use Rattle.client_core.specs.Events.{event_lines}
use Rattle.client_core.specs.Lessons.{may_install, taught}
use Rattle.client_core.specs.Targets.{unknown_lines}
use Rattle.client_core.specs.Gives.{is_live, passed_over, target_for, awaited, answer_of, ended_plainly}
use Rattle.client_core.specs.Laws.{HandleNumbersRise, SharedNumbersRise, HandleNumbersStay, RepeatedReplyIsDropped, RefusedCallChangesNothing}
use Rattle.client_core.specs.Cases.{noted_moment, IsSafe, IsAwaited, AskCase, asked_in, BeatCase, beaten_in, GiveCase, given_in}
use Rattle.client_core.specs.Cases.AskCase.{AskedTooLate, Unsafe, Refused, ReadServed, AbsenceServed, Shared, OutOfHandles, Released, OutOfCalls, Sent, Poisoned}
use Rattle.client_core.specs.Cases.BeatCase.{BeatTooLate, OutOfBeats, Starts, Beats, Quiet}
use Rattle.client_core.specs.Cases.GiveCase.{GivenTooLate, OfAnother, Started, StartedUnfit, StartedDropped, LeaseTaken, LeaseStays, AliveUnfit, AliveDropped, OutOfNumbers, Replied, Installed, Departed, ReplyDropped, NotAwaited, Learns, Lost, TurnedAway, RefusalDropped}
use Rattle.client_core.proofs.Noting.{Relies, relied_note, relied_lines, live_before, note_number, note_clock, note_epoch, note_outstanding, note_opened, note_session}
use Rattle.client_core.proofs.Printed.{events_hold, unknown_holds}
use Rattle.client_core.proofs.AskCases.{ask_case, beat_case}
use Rattle.client_core.proofs.Cached.{cached_is}
use Rattle.client_core.proofs.GiveCases.{taught_if, give_case}

-- a state and an answer, each by itself
first : {A B : Type 0} (p q : A × B) → p ≡ q → p.0 ≡ q.0
first p q h = ap (λ x. x.0) h

second : {A B : Type 0} (p q : A × B) → p ≡ q → p.1 ≡ q.1
second p q h = ap (λ x. x.1) h

-- ---- the last line

-- the last of these, or this one where there is none
abbrev last_line : Line → List Line → Line
last_line line [] = line
last_line line (next ∷ others) = last_line next others

last_is : (line end : Line) (before : List Line) → last_line line (before ++ end ∷ []) ≡ end
last_is line end [] = refl
last_is line end (next ∷ before) = last_is next end before

abbrev lines_of : Result Given Fault → List Line
lines_of (Ok given) = given.lines
lines_of (Err fault) = []

-- the last line that is printed
abbrev Ends : List Line → Line → Type 0
Ends printed line = last_line lines.Recovered printed ≡ line

-- whether the line tells that a call gave a handle
abbrev gives_handle : Line → Bool
gives_handle (lines.Done client call (answers.Opened handle)) = true
gives_handle line = false

-- none of them does
abbrev AreSilent : List Line → Type 0
AreSilent [] = Unit {0}
AreSilent (line ∷ others) = (gives_handle line ≡ false) × AreSilent others

both_silent : (before behind : List Line) → AreSilent before → AreSilent behind → AreSilent (before ++ behind)
both_silent [] behind h k = k
both_silent (line ∷ before) behind h k = (h.0, both_silent before behind h.1 k)

last_silent : (line : Line) (printed : List Line) → gives_handle line ≡ false → AreSilent printed → gives_handle (last_line line printed) ≡ false
last_silent line [] h k = h
last_silent line (next ∷ others) h k = last_silent next others k.0 k.1

turn_silent : (number : ℕ) (former standing : SessionTrust) → AreSilent (option_to_list (turn_line number former standing))
turn_silent number standings.Safe standings.Safe = tt
turn_silent number standings.Safe (standings.Jeopardy since) = (refl, tt)
turn_silent number standings.Safe standings.Lost = (refl, tt)
turn_silent number (standings.Jeopardy since) standings.Safe = (refl, tt)
turn_silent number (standings.Jeopardy since) (standings.Jeopardy later) = tt
turn_silent number (standings.Jeopardy since) standings.Lost = (refl, tt)
turn_silent number standings.Lost standing = tt

note_silent : (s : ClientState) (session : ClientStanding) (moment : ℕ) → AreSilent (note_lines_in session s moment)
note_silent s sessions.Unstarted moment = tt
note_silent s sessions.Live moment = turn_silent s.number s.standing (standing_then s moment)
note_silent s sessions.Lost moment = tt
note_silent s sessions.TurnedAway moment = tt

safe_silent : (b : Bool) (number : ℕ) → AreSilent (cond b (lines.Safe number ∷ []) [])
safe_silent true number = (refl, tt)
safe_silent false number = tt

event_silent : (number processed : ℕ) (events : List NumberedEvent) → AreSilent (event_lines number processed events)
event_silent number processed events = events_hold AreSilent number processed events tt (λ event others h. (refl, h))

unknown_silent : (number : ℕ) (o : Option Outstanding) → AreSilent (unknown_lines number o)
unknown_silent number o = unknown_holds AreSilent number o tt (λ call. (refl, tt))

-- nor does the noting of the time
silent : (s : ClientState) (moment client call handle : ℕ) (more : List Line) (X : Type 0) → AreSilent more → Ends (note_lines s moment ++ more) (lines.Done client call (answers.Opened handle)) → X
silent s moment client call handle more X h told =
    let none : gives_handle (last_line lines.Recovered (note_lines s moment ++ more)) ≡ false = last_silent lines.Recovered (note_lines s moment ++ more) refl (both_silent (note_lines s moment) more (note_silent s s.session moment) h) in
    let two : true ≡ false = ap gives_handle (sym told) ∙ none in
    cc

-- a line that is printed after it is the last one
ends_in : (s : ClientState) (moment : ℕ) (line end : Line) → Ends (note_lines s moment ++ line ∷ []) end → line ≡ end
ends_in s moment line end h = sym (last_is lines.Recovered line (note_lines s moment)) ∙ h

-- ---- handle numbers

-- what a reply makes of them
reply_rises : (s t new : ClientState) (target : Target) (result : CallResult) (client number call handle : ℕ) → t.opened ≡ s.opened → ended_plainly t target result ≡ new → lines.Done s.number number (answer_of s result) ≡ lines.Done client call (answers.Opened handle) → (s.opened < handle) × (new.opened ≡ handle)
reply_rises s t new target (results.Opened kept) client number call handle same h told =
    let n : s.opened + 1 ≡ handle = cc in
    let o : t.opened + 1 ≡ new.opened = ap (λ (x : ClientState). x.opened) h in
    (omega (arith, n), omega (arith, n, o, same))
reply_rises s t new target results.Closed client number call handle same h told = cc
reply_rises s t new target (results.Viewed view) client number call handle same h told = cc
reply_rises s t new target (results.Stated stat) client number call handle same h told = cc
reply_rises s t new target (results.Listed view) client number call handle same h told = cc
reply_rises s t new target (results.Sequencer bytes) client number call handle same h told = cc
reply_rises s t new target results.Done client number call handle same h told = cc
reply_rises s t new target (results.Refused fault) client number call handle same h told = cc

-- what teaches something gives no handle
gives_none : (s : ClientState) (target : Target) (result : CallResult) (t : Lesson) (client number call handle : ℕ) (X : Type 0) → taught s target result ≡ Some t → lines.Done s.number number (answer_of s result) ≡ lines.Done client call (answers.Opened handle) → X
gives_none s target (results.Opened kept) t client number call handle X h told = cc
gives_none s target results.Closed t client number call handle X h told = cc
gives_none s target (results.Viewed view) t client number call handle X h told = cc
gives_none s target (results.Stated stat) t client number call handle X h told = cc
gives_none s target (results.Listed view) t client number call handle X h told = cc
gives_none s target (results.Sequencer bytes) t client number call handle X h told = cc
gives_none s target results.Done t client number call handle X h told = cc
gives_none s target (results.Refused fault) t client number call handle X h told = cc

rises_in : (s new : ClientState) (now client call handle : ℕ) (out : Out) (c : GiveCase s now out) → (given_in s now out c).0 ≡ new → Ends (lines_of (given_in s now out c).1) (lines.Done client call (answers.Opened handle)) → (s.opened < handle) × (new.opened ≡ handle)
rises_in s new now client call handle out (GivenTooLate late) h told = cc
rises_in s new now client call handle out (OfAnother early other) h told = silent s (noted_moment s now) client call handle [] _ tt told
rises_in s new now client call handle out (Started message heard is standing fits) h told = silent s (noted_moment s now) client call handle [] _ tt told
rises_in s new now client call handle out (StartedUnfit message heard is standing long) h told = silent s (noted_moment s now) client call handle [] _ tt told
rises_in s new now client call handle out (StartedDropped message heard is old) h told = silent s (noted_moment s now) client call handle [] _ tt told
rises_in s new now client call handle out (LeaseTaken message heard is fit taken) h told =
    silent s (noted_moment s now) client call handle _ _ (both_silent (event_lines s.number s.heard message.events) _ (event_silent s.number s.heard message.events) (safe_silent _ s.number)) told
rises_in s new now client call handle out (LeaseStays message heard is fit worse) h told = silent s (noted_moment s now) client call handle _ _ (event_silent s.number s.heard message.events) told
rises_in s new now client call handle out (AliveUnfit message heard is alive unfit) h told = silent s (noted_moment s now) client call handle [] _ tt told
rises_in s new now client call handle out (AliveDropped message heard is strange) h told = silent s (noted_moment s now) client call handle [] _ tt told
rises_in s new now client call handle out (OutOfNumbers message waiting heard is for last) h told = cc
rises_in s new now client call handle out (Replied message waiting heard is for room kept plain) h told =
    reply_rises s (note_live s (noted_moment s now)) new waiting.target message.result client message.number call handle refl h
    (ends_in s (noted_moment s now) (lines.Done s.number message.number (answer_of s message.result)) (lines.Done client call (answers.Opened handle)) told)
rises_in s new now client call handle out (Installed message waiting t stamp heard is for learned) h told =
    gives_none s waiting.target message.result t client message.number call handle _ (taught_if (may_install s (noted_moment s now) message.stamp) (taught s waiting.target message.result) t learned.teaches).1
    (ends_in s (noted_moment s now) (lines.Done s.number message.number (answer_of s message.result)) (lines.Done client call (answers.Opened handle)) told)
rises_in s new now client call handle out (Departed message waiting heard is for leaving done) h told =
    silent s (noted_moment s now) client call handle (lines.Done s.number message.number answers.Okay ∷ []) _ (refl, tt) told
rises_in s new now client call handle out (ReplyDropped message waiting heard is for dropped) h told = silent s (noted_moment s now) client call handle [] _ tt told
rises_in s new now client call handle out (NotAwaited message heard is none) h told = silent s (noted_moment s now) client call handle [] _ tt told
rises_in s new now client call handle out (Learns message present heard is later) h told = silent s (noted_moment s now) client call handle _ _ (unknown_silent s.number s.outstanding) told
rises_in s new now client call handle out (Lost message heard is loss) h told = silent s (noted_moment s now) client call handle (lines.Lost s.number ∷ []) _ (refl, tt) told
rises_in s new now client call handle out (TurnedAway message heard is fault unstarted) h told = silent s (noted_moment s now) client call handle (lines.Lost s.number ∷ []) _ (refl, tt) told
rises_in s new now client call handle out (RefusalDropped message heard is earlier stays) h told = silent s (noted_moment s now) client call handle [] _ tt told

pub handle_numbers_rise : HandleNumbersRise
handle_numbers_rise s new now client call handle out before h =
    let given = give_case s now out in
    let e = sym given.1 ∙ h in
    rises_in s new now client call handle out given.0 (ap (λ p. p.0) e) (ap (λ p. last_line lines.Recovered (lines_of p.1)) e ∙ last_is lines.Recovered (lines.Done client call (answers.Opened handle)) before)

-- what came of it
abbrev outcome_of : Result AskOutcome Fault → Option Outcome
outcome_of (Ok asked) = Some asked.outcome
outcome_of (Err fault) = None

abbrev Comes : Result AskOutcome Fault → Outcome → Type 0
Comes asked outcome = outcome_of asked ≡ Some outcome

-- no handle is given
abbrev GivesNone : ℕ → Type 0 → Answer → Type 0
GivesNone handle X given = Some (outcomes.Served given) ≡ Some (outcomes.Served (answers.Opened handle)) → X

view_gives_none : (handle : ℕ) (X : Type 0) (view : View) → GivesNone handle X (answers.Viewed view)
view_gives_none handle X view h = cc

names_give_none : (handle : ℕ) (X : Type 0) (names : List (List ℕ)) → GivesNone handle X (answers.Names names)
names_give_none handle X names h = cc

stale_gives_none : (handle : ℕ) (X : Type 0) → GivesNone handle X (answers.Refused faults.StaleInstance)
stale_gives_none handle X h = cc

-- a call that the cache answers gives no handle
not_opened : (mine : ClientHandle) (call : NodeCall) (entry : Option View) (given : Answer) (handle : ℕ) (X : Type 0) → cached_answer mine call entry ≡ Some given → GivesNone handle X given
not_opened mine call entry given handle X e =
    cached_is (GivesNone handle X) (view_gives_none handle X) (names_give_none handle X) (stale_gives_none handle X) mine call entry given e

shares_in : (s new : ClientState) (now handle : ℕ) (ask : Ask) (c : AskCase s now ask) → (asked_in s now ask c).0 ≡ new → Comes (asked_in s now ask c).1 (outcomes.Served (answers.Opened handle)) → (s.opened < handle) × (new.opened ≡ handle)
shares_in s new now handle ask (AskedTooLate late) h told = cc
shares_in s new now handle ask (Unsafe fault early is) h told = cc
shares_in s new now handle ask (Refused fault safe is) h told = cc
shares_in s new now handle ask (ReadServed number mine call entry given safe is readable) h told = not_opened mine call entry given handle _ readable.answers told
shares_in s new now handle ask (AbsenceServed opening safe stays is plain cached) h told = cc
shares_in s new now handle ask (Shared opening view mine safe is shared room) h told =
    let n : s.opened + 1 ≡ handle = cc in
    let o : s.opened + 1 ≡ new.opened = ap (λ (x : ClientState). x.opened) h in
    (omega (arith, n), omega (arith, n, o))
shares_in s new now handle ask (OutOfHandles opening view mine safe is shared last) h told = cc
shares_in s new now handle ask (Released number mine safe is found shared) h told = cc
shares_in s new now handle ask (OutOfCalls call sequencer target sendable last) h told = cc
shares_in s new now handle ask (Sent call sequencer target sendable room) h told = cc
shares_in s new now handle ask (Poisoned number mine safe is usable) h told = cc

pub shared_numbers_rise : SharedNumbersRise
shared_numbers_rise s new now handle ask printed h =
    let asked = ask_case s now ask in
    let e = sym asked.1 ∙ h in
    shares_in s new now handle ask asked.0 (ap (λ p. p.0) e) (ap (λ p. outcome_of p.1) e)

ask_stays : (s : ClientState) (now : ℕ) (ask : Ask) (c : AskCase s now ask) → s.opened ≤ (asked_in s now ask c).0.opened
ask_stays s now ask (AskedTooLate late) = omega arith
ask_stays s now ask (Unsafe fault early is) = let e = note_opened s s.session (noted_moment s now) in omega (arith, e)
ask_stays s now ask (Refused fault safe is) = omega arith
ask_stays s now ask (ReadServed number mine call entry given safe is readable) = omega arith
ask_stays s now ask (AbsenceServed opening safe stays is plain cached) = omega arith
ask_stays s now ask (Shared opening view mine safe is shared room) = omega arith
ask_stays s now ask (OutOfHandles opening view mine safe is shared last) = omega arith
ask_stays s now ask (Released number mine safe is found shared) = omega arith
ask_stays s now ask (OutOfCalls call sequencer target sendable last) = omega arith
ask_stays s now ask (Sent call sequencer target sendable room) = omega arith
ask_stays s now ask (Poisoned number mine safe is usable) = omega arith

beat_stays : (s : ClientState) (now : ℕ) (c : BeatCase s now) → (beaten_in s now c).0.opened ≡ s.opened
beat_stays s now (BeatTooLate late) = refl
beat_stays s now (OutOfBeats early last) = refl
beat_stays s now (Starts early unstarted room) = refl
beat_stays s now (Beats early live then room) = refl
beat_stays s now (Quiet early started live) = note_opened s s.session (noted_moment s now)

ended_stays : (s : ClientState) (target : Target) (result : CallResult) → s.opened ≤ (ended_plainly s target result).opened
ended_stays s target (results.Opened kept) = omega arith
ended_stays s target results.Closed = omega arith
ended_stays s target (results.Viewed view) = omega arith
ended_stays s target (results.Stated stat) = omega arith
ended_stays s target (results.Listed view) = omega arith
ended_stays s target (results.Sequencer bytes) = omega arith
ended_stays s target results.Done = omega arith
ended_stays s target (results.Refused fault) = omega arith

note_stays : (s : ClientState) (moment : ℕ) → s.opened ≤ (note s moment).opened
note_stays s moment = let e = note_opened s s.session moment in omega (arith, e)

give_stays : (s : ClientState) (now : ℕ) (out : Out) (c : GiveCase s now out) → s.opened ≤ (given_in s now out c).0.opened
give_stays s now out (GivenTooLate late) = omega arith
give_stays s now out (OfAnother early other) = note_stays s (noted_moment s now)
give_stays s now out (Started message heard is standing fits) = omega arith
give_stays s now out (StartedUnfit message heard is standing long) = note_stays s (noted_moment s now)
give_stays s now out (StartedDropped message heard is old) = note_stays s (noted_moment s now)
give_stays s now out (LeaseTaken message heard is fit taken) = omega arith
give_stays s now out (LeaseStays message heard is fit worse) = omega arith
give_stays s now out (AliveUnfit message heard is alive unfit) = note_stays s (noted_moment s now)
give_stays s now out (AliveDropped message heard is strange) = note_stays s (noted_moment s now)
give_stays s now out (OutOfNumbers message waiting heard is for last) = omega arith
give_stays s now out (Replied message waiting heard is for room kept plain) = ended_stays (note_live s (noted_moment s now)) waiting.target message.result
give_stays s now out (Installed message waiting t stamp heard is for learned) = omega arith
give_stays s now out (Departed message waiting heard is for leaving done) = omega arith
give_stays s now out (ReplyDropped message waiting heard is for dropped) = omega arith
give_stays s now out (NotAwaited message heard is none) = note_stays s (noted_moment s now)
give_stays s now out (Learns message present heard is later) = omega arith
give_stays s now out (Lost message heard is loss) = omega arith
give_stays s now out (TurnedAway message heard is fault unstarted) = omega arith
give_stays s now out (RefusalDropped message heard is earlier stays) = note_stays s (noted_moment s now)

pub handle_numbers_stay : HandleNumbersStay
handle_numbers_stay s now ask out =
    let asked = ask_case s now ask in
    let beaten = beat_case s now in
    let given = give_case s now out in
    (rw asked.1 (ask_stays s now ask asked.0), rw beaten.1 (beat_stays s now beaten.0), rw given.1 (give_stays s now out given.0))

-- ---- a reply that comes again

ended_none : (s : ClientState) (target : Target) (result : CallResult) → (ended_plainly s target result).outstanding ≡ None
ended_none s target (results.Opened kept) = refl
ended_none s target results.Closed = refl
ended_none s target (results.Viewed view) = refl
ended_none s target (results.Stated stat) = refl
ended_none s target (results.Listed view) = refl
ended_none s target (results.Sequencer bytes) = refl
ended_none s target results.Done = refl
ended_none s target (results.Refused fault) = refl

no_target : (b : Bool) (number : ℕ) (o : Option Outstanding) → o ≡ None → cond b (target_for number o) None ≡ None
no_target true number o h = ap (target_for number) h
no_target false number o h = refl

-- it isn't for the client, or the client never awaits it from here on
abbrev IsStale : ClientState → Reply → Type 0
IsStale s reply = (out_client (outs.Reply reply) ≢ s.number) ⊎ ((moment : ℕ) → awaited s moment reply ≡ None)

-- a client with no outstanding call awaits nothing
none_awaited : (s : ClientState) (message : Reply) → s.outstanding ≡ None → IsStale s message
none_awaited s message h = inr (λ moment. no_target (is_live (session_then s moment) && message.epoch == s.epoch) message.number s.outstanding h)

lives : (session : ClientStanding) → is_live session ≡ true → session ≡ sessions.Live
lives sessions.Unstarted h = cc
lives sessions.Live h = refl
lives sessions.Lost h = cc
lives sessions.TurnedAway h = cc

still_none : (a b c d : Bool) (o p : Option Target) → cond (a && b) o None ≡ None → (c ≡ true → a ≡ true) → b ≡ d → o ≡ p → cond (c && d) p None ≡ None
still_none true true true true o p h k e f = sym f ∙ h
still_none false b true d o p h k e f = let x = k refl in cc
still_none a b false d o p h k e f = refl
still_none true false true true o p h k e f = cc
still_none true b true false o p h k e f = refl

-- what a client doesn't await at a moment it doesn't await once it noted that moment
never_awaited : (s : ClientState) (moment : ℕ) (message : Reply) → awaited s moment message ≡ None → (later : ℕ) → awaited (note s moment) later message ≡ None
never_awaited s moment message none later =
    still_none (is_live (session_then s moment)) (message.epoch == s.epoch) (is_live (session_then (note s moment) later)) (message.epoch == (note s moment).epoch) (target_for message.number s.outstanding) (target_for message.number (note s moment).outstanding) none
    (λ live. ap is_live (sym (note_session s moment) ∙ live_before (note s moment) (note s moment).session later (lives (session_then (note s moment) later) live)))
    (ap (λ x. message.epoch == x) (sym (note_epoch s s.session moment))) (ap (target_for message.number) (sym (note_outstanding s s.session moment)))

stale_in : (s new : ClientState) (now : ℕ) (reply : Reply) (given : Given) (c : GiveCase s now (outs.Reply reply)) → (given_in s now (outs.Reply reply) c).0 ≡ new → (given_in s now (outs.Reply reply) c).1 ≡ Ok given → IsStale new reply
stale_in s new now reply given (GivenTooLate late) h told = cc
stale_in s new now reply given (OfAnother early other) h told = rw (← h) (inl (λ e. other (e ∙ note_number s s.session (noted_moment s now))))
stale_in s new now reply given (Started message heard is standing fits) h told = cc
stale_in s new now reply given (StartedUnfit message heard is standing long) h told = cc
stale_in s new now reply given (StartedDropped message heard is old) h told = cc
stale_in s new now reply given (LeaseTaken message heard is fit taken) h told = cc
stale_in s new now reply given (LeaseStays message heard is fit worse) h told = cc
stale_in s new now reply given (AliveUnfit message heard is alive unfit) h told = cc
stale_in s new now reply given (AliveDropped message heard is strange) h told = cc
stale_in s new now reply given (OutOfNumbers message waiting heard is for last) h told = cc
stale_in s new now reply given (Replied message waiting heard is for room kept plain) h told =
    none_awaited new reply (sym (ap (λ (t : ClientState). t.outstanding) h) ∙ ended_none (note_live s (noted_moment s now)) waiting.target message.result)
stale_in s new now reply given (Installed message waiting t stamp heard is for learned) h told = none_awaited new reply (sym (ap (λ (t : ClientState). t.outstanding) h))
stale_in s new now reply given (Departed message waiting heard is for leaving done) h told = none_awaited new reply (sym (ap (λ (t : ClientState). t.outstanding) h))
stale_in s new now reply given (ReplyDropped message waiting heard is for dropped) h told = none_awaited new reply (sym (ap (λ (t : ClientState). t.outstanding) h))
stale_in s new now reply given (NotAwaited message heard is none) h told =
    let it : message ≡ reply = cc in
    rw (← h) (inr (never_awaited s (noted_moment s now) reply (ap (awaited s (noted_moment s now)) (sym it) ∙ none)))
stale_in s new now reply given (Learns message present heard is later) h told = cc
stale_in s new now reply given (Lost message heard is loss) h told = cc
stale_in s new now reply given (TurnedAway message heard is fault unstarted) h told = cc
stale_in s new now reply given (RefusalDropped message heard is earlier stays) h told = cc

-- what a client awaits it has a call for
is_target : (session_live same number : Bool) (target : Target) → session_live ≡ true → same ≡ true → number ≡ true → cond (session_live && same) (cond number (Some target) None) None ≡ Some target
is_target true true true target a b c = refl
is_target false same number target a b c = cc
is_target true false number target a b c = cc
is_target true true false target a b c = cc

equal : (n m : ℕ) → n ≡ m → (n == m) ≡ true
equal n m h = grind (arith, nat_tests)

has_target : (s : ClientState) (now : ℕ) (message : Reply) (call : Outstanding) → IsAwaited s now message call → awaited s (noted_moment s now) message ≡ Some call.target
has_target s now message call for =
    let live : is_live (session_then s (noted_moment s now)) ≡ true = ap is_live for.live.then in
    let known : target_for message.number s.outstanding ≡ cond (message.number == request_number call.request) (Some call.target) None = ap (target_for message.number) for.outstanding in
    ap (λ o. cond (is_live (session_then s (noted_moment s now)) && message.epoch == s.epoch) o None) known
    ∙ is_target (is_live (session_then s (noted_moment s now))) (message.epoch == s.epoch) (message.number == request_number call.request) call.target live (equal message.epoch s.epoch for.epoch) (equal message.number (request_number call.request) for.number)

not_both : (s : ClientState) (now : ℕ) (reply message : Reply) (call : Outstanding) → IsStale s reply → outs.Reply reply ≡ outs.Reply message → out_client (outs.Reply reply) ≡ s.number → IsAwaited s now message call → (X : Type 0) → X
not_both s now reply message call (inl other) is own for X = absurd (other own)
not_both s now reply message call (inr none) is own for X =
    let it : reply ≡ message = cc in
    let e : awaited s (noted_moment s now) message ≡ Some call.target = has_target s now message call for in
    let n : awaited s (noted_moment s now) message ≡ None = ap (awaited s (noted_moment s now)) (sym it) ∙ none (noted_moment s now) in
    let two : Some call.target ≡ None = sym e ∙ n in
    cc

dropped_in : (s : ClientState) (now : ℕ) (reply : Reply) (c : GiveCase s now (outs.Reply reply)) → IsStale s reply → now < moment_limit → given_in s now (outs.Reply reply) c ≡ passed_over s (noted_moment s now)
dropped_in s now reply (GivenTooLate late) stale moment = absurd (omega arith)
dropped_in s now reply (OfAnother early other) stale moment = refl
dropped_in s now reply (Started message heard is standing fits) stale moment = cc
dropped_in s now reply (StartedUnfit message heard is standing long) stale moment = cc
dropped_in s now reply (StartedDropped message heard is old) stale moment = refl
dropped_in s now reply (LeaseTaken message heard is fit taken) stale moment = cc
dropped_in s now reply (LeaseStays message heard is fit worse) stale moment = cc
dropped_in s now reply (AliveUnfit message heard is alive unfit) stale moment = cc
dropped_in s now reply (AliveDropped message heard is strange) stale moment = refl
dropped_in s now reply (OutOfNumbers message waiting heard is for last) stale moment = not_both s now reply message waiting stale is heard.own for _
dropped_in s now reply (Replied message waiting heard is for room kept plain) stale moment = not_both s now reply message waiting stale is heard.own for _
dropped_in s now reply (Installed message waiting t stamp heard is for learned) stale moment = not_both s now reply message waiting stale is heard.own for _
dropped_in s now reply (Departed message waiting heard is for leaving done) stale moment = not_both s now reply message waiting stale is heard.own for _
dropped_in s now reply (ReplyDropped message waiting heard is for dropped) stale moment = not_both s now reply message waiting stale is heard.own for _
dropped_in s now reply (NotAwaited message heard is none) stale moment = refl
dropped_in s now reply (Learns message present heard is later) stale moment = cc
dropped_in s now reply (Lost message heard is loss) stale moment = cc
dropped_in s now reply (TurnedAway message heard is fault unstarted) stale moment = cc
dropped_in s now reply (RefusalDropped message heard is earlier stays) stale moment = refl

pub repeated_reply_is_dropped : RepeatedReplyIsDropped
repeated_reply_is_dropped s new now later reply given h k =
    let once = give_case s now (outs.Reply reply) in
    let again = give_case new later (outs.Reply reply) in
    let e = sym once.1 ∙ h in
    again.1 ∙ dropped_in new later reply again.0 (stale_in s new now reply given once.0 (first (given_in s now (outs.Reply reply) once.0) (new, Ok given) e) (second (given_in s now (outs.Reply reply) once.0) (new, Ok given) e)) k

-- ---- what the client refuses by itself

abbrev printed_of : Result AskOutcome Fault → List Line
printed_of (Ok asked) = asked.lines
printed_of (Err fault) = []

relies : (s : ClientState) (now : ℕ) → IsSafe s now → Relies s (noted_moment s now)
relies s now safe = record { live = safe.live; safe = safe.safe; leased = safe.leased }

refused_in : (s new : ClientState) (now : ℕ) (ask : Ask) (printed : List Line) (fault : Fault) (c : AskCase s now ask) → (asked_in s now ask c).0 ≡ new → printed_of (asked_in s now ask c).1 ≡ printed → Comes (asked_in s now ask c).1 (outcomes.Refused fault) → (new ≡ note s new.clock) × (printed ≡ note_lines s new.clock)
refused_in s new now ask printed fault (AskedTooLate late) h told comes = cc
refused_in s new now ask printed fault (Unsafe why early is) h told comes =
    let c : noted_moment s now ≡ new.clock = sym (note_clock s s.session (noted_moment s now)) ∙ ap (λ (x : ClientState). x.clock) h in
    (sym h ∙ ap (note s) c, sym told ∙ ap (note_lines s) c)
refused_in s new now ask printed fault (Refused why safe is) h told comes =
    let r = relies s now safe in
    let c : noted_moment s now ≡ new.clock = ap (λ (x : ClientState). x.clock) h in
    (sym h ∙ (sym (relied_note s (noted_moment s now) r) ∙ ap (note s) c), sym told ∙ (sym (relied_lines s (noted_moment s now) r) ∙ ap (note_lines s) c))
refused_in s new now ask printed fault (ReadServed number mine call entry given safe is readable) h told comes = cc
refused_in s new now ask printed fault (AbsenceServed opening safe stays is plain cached) h told comes = cc
refused_in s new now ask printed fault (Shared opening view mine safe is shared room) h told comes = cc
refused_in s new now ask printed fault (OutOfHandles opening view mine safe is shared last) h told comes = cc
refused_in s new now ask printed fault (Released number mine safe is found shared) h told comes = cc
refused_in s new now ask printed fault (OutOfCalls call sequencer target sendable last) h told comes = cc
refused_in s new now ask printed fault (Sent call sequencer target sendable room) h told comes = cc
refused_in s new now ask printed fault (Poisoned number mine safe is usable) h told comes = cc

pub refused_call_changes_nothing : RefusedCallChangesNothing
refused_call_changes_nothing s new now ask printed fault h =
    let asked = ask_case s now ask in
    let e = sym asked.1 ∙ h in
    refused_in s new now ask printed fault asked.0 (ap (λ p. p.0) e) (ap (λ p. printed_of p.1) e) (ap (λ p. outcome_of p.1) e)
