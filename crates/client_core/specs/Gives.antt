-- A client is given a message of a master.
use Rattle.std.specs.Prelude.{ℕ, ◌+◌, ◌==◌, ◌&&◌, nat_lt, nat_le, max, Bool, true, false, List, [], ◌∷◌, ◌++◌, Option, Some, None, Result, Ok, Err, if◌then◌else◌}
use Rattle.std.specs.Map.{remove_entry}
use Rattle.std.specs.BTreeMap.{is_at}
use Rattle.std.specs.Ordering.{nat_cmp}
use Rattle.lease_core.specs.Lease.{LeaseTerms, moment_limit, is_unexpired}
use Rattle.cache_core.specs.Caches.{installed, takes_lease}
use Rattle.cache_core.specs.Standings.{reprieved}
use Rattle.cache_core.specs.declared.standings.SessionTrust.{SessionTrust}
use Rattle.cache_core.specs.declared.standings.SessionTrust.TheVariants as standings
use Rattle.node_core.specs.Limits.{number_end}
use Rattle.node_core.specs.declared.refusals.Fault.{Fault}
use Rattle.node_core.specs.declared.refusals.Fault.TheVariants as faults
use Rattle.node_core.specs.declared.answers.Answer.{Answer}
use Rattle.node_core.specs.declared.answers.Answer.TheVariants as answers
use Rattle.node_core.specs.declared.lines.Line.{Line}
use Rattle.node_core.specs.declared.lines.Line.TheVariants as lines
use Rattle.tags_cell.specs.declared.messages.outs.Out.{Out}
use Rattle.tags_cell.specs.declared.messages.outs.Out.TheVariants as outs
use Rattle.tags_cell.specs.declared.messages.outs.Started.{Started}
use Rattle.tags_cell.specs.declared.messages.beats.Alive.{Alive}
use Rattle.tags_cell.specs.declared.messages.outs.Reply.{Reply}
use Rattle.tags_cell.specs.declared.messages.outs.Refused.{Refused}
use Rattle.tags_cell.specs.declared.messages.outs.CallResult.{CallResult}
use Rattle.tags_cell.specs.declared.messages.outs.CallResult.TheVariants as results
use Rattle.tags_cell.specs.declared.messages.outs.NewHandle.{NewHandle}
use Rattle.tags_cell.specs.declared.messages.calls.Open.{Open}
use Rattle.tags_cell.specs.Messages.{request_number, out_client}
use Rattle.client_core.specs.declared.parts.sessions.ClientStanding.{ClientStanding}
use Rattle.client_core.specs.declared.parts.sessions.ClientStanding.TheVariants as sessions
use Rattle.client_core.specs.declared.parts.handles.ClientHandle.{ClientHandle}
use Rattle.client_core.specs.declared.parts.steps.Given.{Given}
use Rattle.client_core.specs.declared.parts.targets.Target.{Target}
use Rattle.client_core.specs.declared.parts.targets.Target.TheVariants as targets
use Rattle.client_core.specs.declared.parts.targets.Outstanding.{Outstanding}
use Rattle.client_core.specs.Sessions.{session_after}
use Rattle.client_core.specs.Invalidations.{is_in_order, last_number, all_flushed}
use Rattle.client_core.specs.Events.{are_events_in_order, last_event, event_lines}
use Rattle.client_core.specs.Targets.{opening_of, sequencer_of, unknown_lines}
use Rattle.client_core.specs.Moments.{moment}
use Rattle.client_core.specs.State.{ClientState, session_then, note, note_lines}
use Rattle.client_core.specs.Handles.{handle_of, has_number, put_under, handles_behind, kept_behind}
use Rattle.client_core.specs.Opens.{Lesson}
use Rattle.client_core.specs.Leased.{under, shut, shut_if}
use Rattle.client_core.specs.Lessons.{lesson}

abbrev pub is_unstarted : ClientStanding → Bool
is_unstarted sessions.Unstarted = true
is_unstarted sessions.Live = false
is_unstarted sessions.Lost = false
is_unstarted sessions.TurnedAway = false

abbrev pub is_live : ClientStanding → Bool
is_live sessions.Unstarted = false
is_live sessions.Live = true
is_live sessions.Lost = false
is_live sessions.TurnedAway = false

-- ---- what is printed

-- first what the noting of the time prints
abbrev pub told : ClientState → ℕ → List Line → Option Fault → Given
told s moment lines refused = record { lines = note_lines s moment ++ lines; refused = refused }

-- the time is noted, and nothing else
abbrev pub passed_over : ClientState → ℕ → ClientState × Result Given Fault
passed_over s moment = (note s moment, Ok (told s moment [] None))

-- nor where the message is one that no master sends
abbrev pub rejected : ClientState → ℕ → ClientState × Result Given Fault
rejected s moment = (note s moment, Ok (told s moment [] (Some faults.ProtocolFault)))

-- ---- leases

-- a span is a number of milliseconds
abbrev pub is_span : ℕ → Bool
is_span span = nat_lt span moment_limit

-- the lease counts from the sending of the newest Start or Beat, which is the one that is answered
abbrev pub offered : ClientState → ℕ → LeaseTerms
offered s span = record { sent = s.sent; span = span }

-- ---- Started

abbrev pub begun : ClientState → ℕ → Started → ClientState
begun s moment message =
    record s { clock = moment; session = sessions.Live; epoch = message.epoch; cache = under s.cache (offered s message.span) moment }

-- only a client without a session takes it, and only for its newest Start
abbrev pub started_step : ClientState → ℕ → Started → ClientState × Result Given Fault
started_step s moment message =
    if is_unstarted s.session && message.number == s.beats
    then (if is_span message.span then (begun s moment message, Ok (told s moment [] None)) else rejected s moment)
    else passed_over s moment

-- ---- Alive: its invalidations and its events

-- what is invalidated goes out of the cache; an older message takes nothing back
abbrev pub with_processed : ClientState → Alive → ClientState
with_processed s message = record s {
  processed = max s.processed (last_number 0 message.invalidations);
  heard = max s.heard (last_event 0 message.events);
  cache = record s.cache { entries = all_flushed s.processed s.cache.entries message.invalidations };
}

-- ---- Alive: its lease

-- only an offer for the newest Beat counts, and only a better one than the lease that there is
abbrev pub takes_offer : ClientState → Alive → Bool
takes_offer s message = message.number == s.beats && takes_lease s.cache.lease (offered s message.span)

-- a lease that runs ends a jeopardy
abbrev pub standing_under : SessionTrust → LeaseTerms → ℕ → SessionTrust
standing_under standing lease moment = if is_unexpired lease.sent lease.span moment then reprieved standing else standing

-- the cache of a client that ends its session stays empty and turned off
abbrev pub bettered : ClientState → ℕ → LeaseTerms → ClientState
bettered s moment lease = record s { cache = shut_if s.leaving (under s.cache lease moment); standing = standing_under s.standing lease moment }

abbrev pub with_lease : ClientState → ℕ → Alive → ClientState
with_lease s moment message = if takes_offer s message then bettered s moment (offered s message.span) else s

abbrev pub is_jeopardy : SessionTrust → Bool
is_jeopardy standings.Safe = false
is_jeopardy (standings.Jeopardy since) = true
is_jeopardy standings.Lost = false

abbrev pub safe_lines : ClientState → ℕ → Alive → List Line
safe_lines s moment message =
    if takes_offer s message && (is_unexpired s.sent message.span moment && is_jeopardy s.standing) then lines.Safe s.number ∷ [] else []

abbrev pub kept_alive : ClientState → ℕ → Alive → ClientState × Result Given Fault
kept_alive s moment message =
    (with_lease (with_processed (note s moment) message) moment message, Ok (told s moment (event_lines s.number s.heard message.events ++ safe_lines (with_processed (note s moment) message) moment message) None))

-- the numbers of its invalidations and of its events rise by one
abbrev pub is_numbered : ClientState → Alive → Bool
is_numbered s message = is_in_order s.processed message.invalidations && are_events_in_order s.heard message.events

-- one of another epoch is dropped; one whose span or whose numbers no master sends is refused
abbrev pub alive_step : ClientState → ℕ → Alive → ClientState × Result Given Fault
alive_step s moment message =
    if is_live (session_then s moment) && message.epoch == s.epoch
    then (if is_span message.span && is_numbered s message then kept_alive s moment message else rejected s moment)
    else passed_over s moment

-- ---- a session that is over

-- a client without a session holds nothing
abbrev pub lost : ClientState → ClientStanding → ClientState
lost s session = record s { session = session; cache = shut s.cache; standing = standings.Lost }

-- the client has ended it, and is told so
abbrev pub departed : ClientState → ClientState
departed s = record (lost s sessions.Lost) { outstanding = None }

-- ---- Reply

abbrev pub target_for : ℕ → Option Outstanding → Option Target
target_for number None = None
target_for number (Some call) = if number == request_number call.request then Some call.target else None

-- what it is for, where it is of the client's epoch and for the outstanding call
abbrev pub awaited : ClientState → ℕ → Reply → Option Target
awaited s moment message = if is_live (session_then s moment) && message.epoch == s.epoch then target_for message.number s.outstanding else None

-- how the call ended, as it is told; a new handle has the next of the client's numbers
abbrev pub answer_of : ClientState → CallResult → Answer
answer_of s (results.Opened handle) = answers.Opened (s.opened + 1)
answer_of s results.Closed = answers.Closed
answer_of s (results.Viewed view) = answers.Viewed view
answer_of s (results.Stated stat) = answers.Stated stat
answer_of s (results.Listed view) = answers.Names view.children
answer_of s (results.Sequencer bytes) = answers.Sequencer bytes
answer_of s results.Done = answers.Okay
answer_of s (results.Refused fault) = answers.Refused fault

-- the handles after a Close that was done
abbrev pub closed : List (ℕ × ClientHandle) → Target → List (ℕ × ClientHandle)
closed handles (targets.Closing number) = remove_entry (is_at (nat_cmp number)) handles
closed handles _ = handles

-- the handles after a SetSequencer that was done
abbrev pub sequenced : List (ℕ × ClientHandle) → Target → Option (List ℕ) → List (ℕ × ClientHandle)
sequenced handles (targets.Sequencing number) sequencer = put_under handles number sequencer (handle_of handles number)
sequenced handles _ sequencer = handles

-- an Open has ended, and gave a handle
abbrev pub with_opened : ClientState → NewHandle → Option Open → ClientState
with_opened s handle opening = record s {
  outstanding = None;
  handles = handles_behind s.handles (s.opened + 1) handle opening;
  kept = kept_behind s.kept handle opening;
  opened = s.opened + 1;
}

-- the call has ended; a new handle is kept, a closed one is not, and a sequencer that the master took is its handle's
abbrev pub ended_plainly : ClientState → Target → CallResult → ClientState
ended_plainly s target (results.Opened handle) = with_opened s handle (opening_of s.outstanding)
ended_plainly s target results.Closed = record s { outstanding = None; handles = closed s.handles target }
ended_plainly s target results.Done = record s { outstanding = None; handles = sequenced s.handles target (sequencer_of s.outstanding) }
ended_plainly s target _ = record s { outstanding = None }

-- the call has ended, and what its reply teaches is held
abbrev pub with_lesson : ClientState → ℕ → Lesson → ClientState
with_lesson s moment taught =
    record s { clock = moment; cache = record s.cache { entries = installed s.cache.entries taught.0 taught.1 }; outstanding = None }

-- where the reply teaches something the lease runs, so that of all that the noting of the time changes only the clock does
abbrev pub ended : ClientState → ℕ → Target → CallResult → Option Lesson → ClientState
ended s moment target result None = ended_plainly (note s moment) target result
ended s moment target result (Some taught) = with_lesson s moment taught

-- after the last handle number nothing changes
abbrev pub finish_step : ClientState → ℕ → Reply → Target → ClientState × Result Given Fault
finish_step s moment message target =
    if has_number s.opened message.result
    then (ended s moment target message.result (lesson s moment message target), Ok (told s moment (lines.Done s.number message.number (answer_of s message.result) ∷ []) None))
    else (s, Err faults.Exhausted)

-- the reply to the call that ends the session: the session is over, or the call was refused
abbrev pub leave_step : ClientState → ℕ → Reply → CallResult → ClientState × Result Given Fault
leave_step s moment message results.Done = (departed (note s moment), Ok (told s moment (lines.Done s.number message.number answers.Okay ∷ []) None))
leave_step s moment message result = finish_step s moment message targets.Leaving

-- a reply that is dropped ends its call too, and prints nothing
abbrev pub reply_for : ClientState → ℕ → Reply → Option Target → ClientState × Result Given Fault
reply_for s moment message None = passed_over s moment
reply_for s moment message (Some targets.Dropped) = (record (note s moment) { outstanding = None }, Ok (told s moment [] None))
reply_for s moment message (Some targets.Leaving) = leave_step s moment message message.result
reply_for s moment message (Some target) = finish_step s moment message target

abbrev pub reply_step : ClientState → ℕ → Reply → ClientState × Result Given Fault
reply_step s moment message = reply_for s moment message (awaited s moment message)

-- ---- Refused

abbrev pub lose_step : ClientState → ℕ → Option ClientStanding → ClientState × Result Given Fault
lose_step s moment None = passed_over s moment
lose_step s moment (Some session) = (lost (note s moment) session, Ok (told s moment (lines.Lost s.number ∷ []) None))

-- the master's epoch, where a refusal of no earlier epoch than the client's tells a client in its session of a later one
abbrev pub later_epoch : ClientState → ℕ → ℕ → Fault → Option ℕ
later_epoch s moment epoch (faults.OldEpoch present) =
    if is_live (session_then s moment) && (nat_le s.epoch epoch && nat_lt s.epoch present) then Some present else None
later_epoch s moment epoch _ = None

-- it takes the epoch, with an empty cache and both its counts at 0
abbrev pub learned : ClientState → ℕ → ClientState
learned s epoch = record s { epoch = epoch; processed = 0; heard = 0; cache = record s.cache { entries = [] }; outstanding = None }

-- else the session may be lost
abbrev pub learn_step : ClientState → ℕ → Option ClientStanding → Option ℕ → ClientState × Result Given Fault
learn_step s moment after None = lose_step s moment after
learn_step s moment after (Some present) = (learned (note s moment) present, Ok (told s moment (unknown_lines s.number s.outstanding) None))

abbrev pub refused_step : ClientState → ℕ → Refused → ClientState × Result Given Fault
refused_step s moment message = learn_step s moment (session_after (session_then s moment) s.epoch message.epoch message.fault) (later_epoch s moment message.epoch message.fault)

-- ---- every message

abbrev pub taken : ClientState → ℕ → Out → ClientState × Result Given Fault
taken s moment (outs.Started message) = started_step s moment message
taken s moment (outs.Alive message) = alive_step s moment message
taken s moment (outs.Reply message) = reply_step s moment message
taken s moment (outs.Refused message) = refused_step s moment message

-- a message for another client changes nothing
abbrev pub taken_own : ClientState → ℕ → Out → ClientState × Result Given Fault
taken_own s moment out = if out_client out == s.number then taken s moment out else passed_over s moment

abbrev pub give_at : ClientState → Out → Result ℕ Fault → ClientState × Result Given Fault
give_at s out (Ok moment) = taken_own s moment out
give_at s out (Err fault) = (s, Err fault)

-- first the time is noted
unfoldable pub give_step : ClientState → ℕ → Out → ClientState × Result Given Fault
give_step s now out = give_at s out (moment s.clock now)
