-- By which arm of its table a master sweeps. Each law of it is a match on these.
use Rattle.std.specs.Prelude.{◌≡◌, ◌⊎◌, ℕ, ◌+◌, ◌≤◌, true, false, List, [], ◌∷◌, ◌++◌, Option, Some, None}
use Rattle.node_core.specs.declared.lines.Line.{Line}
use Rattle.node_core.specs.declared.views.Mod.TheVariants.{Gone}
use Rattle.node_core.specs.Nodes.{changed}
use Rattle.rows_cell.specs.declared.tables.Edit.{Edit}
use Rattle.rows_cell.specs.declared.tables.Edit.TheVariants.{NextInstance, PutSession}
use Rattle.rows_cell.specs.LockRows.{locks_edits}
use Rattle.tags_cell.specs.declared.messages.calls.Call.{Call}
use Rattle.tags_cell.specs.declared.messages.outs.Out.{Out}
use Rattle.tags_cell.specs.declared.messages.outs.CallResult.{CallResult}
use Rattle.tags_cell.specs.declared.messages.outs.Reply.{Reply}
use Rattle.gate_core.specs.declared.pending.Waiting.{Waiting}
use Rattle.gate_core.specs.Gate.{is_free}
use Rattle.master_state.specs.declared.updates.Change.{Change}
use Rattle.master_parts.specs.declared.handles.HandleNote.{HandleNote}
use Rattle.master_parts.specs.OpenHandles.{without_client}
use Rattle.master_parts.specs.declared.pending.WaitingRequest.{WaitingRequest}
use Rattle.master_parts.specs.declared.pending.Orphan.{Orphan}
use Rattle.master_parts.specs.declared.pending.Task.{Task}
use Rattle.lock_core.specs.declared.claims.Claim.{Claim}
use Rattle.lock_core.specs.declared.partings.Parting.{Parting}
use Rattle.lock_core.specs.Turns.{reopened}
use Rattle.lock_core.specs.Locks.{lock_at, due}
use Rattle.master_state.specs.declared.updates.LockPut.{LockPut}
use Rattle.cell_core.specs.declared.effects.Leave.{Leave}
use Rattle.master_state.specs.NameSpace.{name_space, caller}
use Rattle.master_state.specs.State.{MasterState}
use Rattle.cell_core.specs.Ephemerals.{next_idle, tidied, is_still_idle}
use Rattle.session_core.specs.declared.records.Parked.{Parked}
use Rattle.session_core.specs.declared.records.Session.{Session}
use Rattle.session_core.specs.Session.{session_until, prolonged, answered, is_client_expired, is_client_due, is_client_answerable, offer_to}
use Rattle.session_core.specs.Sessions.{with_session, with_new, all_heard, lowest}
use Rattle.master_state.specs.Departed.{with_departed}
use Rattle.master_state.specs.Lookups.{session_of, may_start, IsUnused, retiring, is_live, turned_away, reply_of}
use Rattle.master_parts.specs.Answered.{answered_by}
use Rattle.cell_core.specs.Step.{recorded}
use Rattle.master_state.specs.Updates.{with_note, retired, retire_edits, edit_of, with_kept, with_locks, without_lock, lock_changes}
use Rattle.cell_core.specs.Effect.{effect}
use Rattle.over_core.specs.declared.swept.Swept.{Swept}
use Rattle.over_core.specs.Sweep.{beats_action}
use Rattle.over_core.specs.Plans.{first_action, started_out, alive_out}
use Rattle.master_state.specs.Partings.{ending_by}
use Rattle.tags_cell.specs.Messages.{is_leave}
use Rattle.master_state.specs.Lapses.{parting_lines, lapses_of, lapses_puts, lapses_replies}
use Rattle.master_state.specs.Replies.{kept_puts, sent, turn_replies, locked_line, locked_lines, puts_of, replies_to}
use Rattle.cell_core.specs.Outcomes.{put_listing, leave_lines, left_put}
use Rattle.node_core.specs.declared.refusals.Fault.TheVariants as faults
use Rattle.node_core.specs.declared.lines.Line.TheVariants as lines
use Rattle.tags_cell.specs.declared.messages.outs.Out.TheVariants as outs
use Rattle.rights_core.specs.Rights as of_rights
use Rattle.master_parts.specs.declared.pending.Task.TheVariants as tasks
use Rattle.master_parts.specs.declared.pending.Work.TheVariants as works
use Rattle.tags_cell.specs.declared.messages.outs.CallResult.TheVariants as results
use Rattle.cell_core.specs.declared.effects.Locking.TheVariants as lockings
use Rattle.session_core.specs.Session as of_session
use Rattle.over_core.specs.declared.actions.Action.TheVariants as actions
use Rattle.lock_core.specs.declared.partings.Parting.TheVariants as partings

-- a change has its turn: it waited between these, and no right holds it up
pub record IsNextApplied (s : MasterState) (front : List (Waiting Task)) (task : Task) (back : List (Waiting Task)) : Type 0 where
  pub number : ℕ
  pub touched : List (List ℕ)
  pub waited : s.gate.waiting ≡ front ++ record { number = number; change = record { touched = touched; body = task } } ∷ back
  pub free : is_free s.rights (record { number = number; change = record { touched = touched; body = task } }) ≡ true

-- a session is the one that is to expire now
pub record IsDueToEnd (s : MasterState) (client : ℕ) (session : Session Reply) : Type 0 where
  pub lowest_expired : lowest s.sessions (is_client_expired s.clock) ≡ Some client
  pub found : session_of s client ≡ Some session
  pub live : session.live ≡ true
  pub over : session.timeout ≤ s.clock

-- a Beat is the one that is to be answered now, by a sweep or while the store refuses
pub record IsDue (s : MasterState) (client : ℕ) (session : Session Reply) (beat : Parked) : Type 0 where
  pub lowest_due : (lowest s.sessions (is_client_due s.sessions.lease s.clock) ≡ Some client) ⊎ (lowest s.sessions (is_client_answerable s.sessions.lease s.clock) ≡ Some client)
  pub found : session_of s client ≡ Some session
  pub live : session.live ≡ true
  pub is_parked : session.parked ≡ Some beat

-- a lock is the one that is to be open again now
pub record IsToReopen (s : MasterState) (instance : ℕ) : Type 0 where
  pub lowest_due : due s.locks s.clock ≡ Some instance

-- an ephemeral node is the one whose deletion is to be queued now
pub record IsToGo (s : MasterState) (idle : Orphan) : Type 0 where
  pub first_idle : next_idle s ≡ Some idle

pub data SweepCase (s : MasterState) : Type 0 where
  Quiet : (first_action s ≡ actions.Quiet) ⊎ (beats_action s ≡ actions.Quiet) → SweepCase s
  Recovers : s.recovering ≡ true → all_heard s.sessions ≡ true → SweepCase s
  -- A SESSION
  Expires : (client : ℕ) (session : Session Reply) → IsDueToEnd s client session → SweepCase s
  AnswersBeat : (client : ℕ) (session : Session Reply) (beat : Parked) → IsDue s client session beat → SweepCase s
  -- A START'S TURN
  TurnedAway : (front back : List (Waiting Task)) (asked : WaitingRequest) (principal : List ℕ) (received : ℕ) → IsNextApplied s front (tasks.Asked asked) back → asked.work ≡ works.Starts principal received → may_start s asked.client principal ≡ false → SweepCase s
  StartedAgain : (front back : List (Waiting Task)) (asked : WaitingRequest) (principal : List ℕ) (received : ℕ) (session : Session Reply) → IsNextApplied s front (tasks.Asked asked) back → asked.work ≡ works.Starts principal received → session_of s asked.client ≡ Some session → session.live ≡ true → SweepCase s
  Started : (front back : List (Waiting Task)) (asked : WaitingRequest) (principal : List ℕ) (received : ℕ) → IsNextApplied s front (tasks.Asked asked) back → asked.work ≡ works.Starts principal received → IsUnused s asked.client → SweepCase s
  -- A LOCK
  Reopens : (instance : ℕ) → IsToReopen s instance → SweepCase s
  -- AN EPHEMERAL NODE
  Tidies : (idle : Orphan) → IsToGo s idle → SweepCase s
  Spared : (front back : List (Waiting Task)) (idle : Orphan) → IsNextApplied s front (tasks.Tidies idle) back → is_still_idle s idle ≡ false → SweepCase s
  Tidied : (front back : List (Waiting Task)) (idle : Orphan) → IsNextApplied s front (tasks.Tidies idle) back → is_still_idle s idle ≡ true → SweepCase s
  -- A CALL'S TURN
  OfEnded : (front back : List (Waiting Task)) (asked : WaitingRequest) (call : Call) (sequencer : Option (List ℕ)) → IsNextApplied s front (tasks.Asked asked) back → asked.work ≡ works.Calls call sequencer → is_live s asked.client ≡ false → SweepCase s
  -- the client ends its session
  Departed : (front back : List (Waiting Task)) (asked : WaitingRequest) (call : Call) (sequencer : Option (List ℕ)) (session : Session Reply) → IsNextApplied s front (tasks.Asked asked) back → asked.work ≡ works.Calls call sequencer → is_leave call ≡ true → session_of s asked.client ≡ Some session → session.live ≡ true → SweepCase s
  Ended : (front back : List (Waiting Task)) (asked : WaitingRequest) (call : Call) (sequencer : Option (List ℕ)) (note : Option HandleNote) (answer : CallResult) → IsNextApplied s front (tasks.Asked asked) back → asked.work ≡ works.Calls call sequencer → is_leave call ≡ false → is_live s asked.client ≡ true → effect (name_space s) (caller s asked.client) s.clock asked.number call sequencer ≡ record { note = note; change = None; locking = lockings.Nothing; answer = Some answer } → SweepCase s
  Applied : (front back : List (Waiting Task)) (asked : WaitingRequest) (call : Call) (sequencer : Option (List ℕ)) (note : Option HandleNote) (change : Change) (answer : CallResult) → IsNextApplied s front (tasks.Asked asked) back → asked.work ≡ works.Calls call sequencer → is_leave call ≡ false → is_live s asked.client ≡ true → effect (name_space s) (caller s asked.client) s.clock asked.number call sequencer ≡ record { note = note; change = Some change; locking = lockings.Nothing; answer = Some answer } → SweepCase s
  Deleted : (front back : List (Waiting Task)) (asked : WaitingRequest) (call : Call) (sequencer : Option (List ℕ)) (change : Change) (instance : ℕ) (waiters : List Claim) (answer : CallResult) → IsNextApplied s front (tasks.Asked asked) back → asked.work ≡ works.Calls call sequencer → is_leave call ≡ false → is_live s asked.client ≡ true → effect (name_space s) (caller s asked.client) s.clock asked.number call sequencer ≡ record { note = None; change = Some change; locking = lockings.Goes instance waiters; answer = Some answer } → SweepCase s
  Locked : (front back : List (Waiting Task)) (asked : WaitingRequest) (call : Call) (sequencer : Option (List ℕ)) (put : LockPut) (claim : Claim) (answer : CallResult) → IsNextApplied s front (tasks.Asked asked) back → asked.work ≡ works.Calls call sequencer → is_leave call ≡ false → is_live s asked.client ≡ true → effect (name_space s) (caller s asked.client) s.clock asked.number call sequencer ≡ record { note = None; change = None; locking = lockings.Takes put claim; answer = Some answer } → SweepCase s
  Awaited : (front back : List (Waiting Task)) (asked : WaitingRequest) (call : Call) (sequencer : Option (List ℕ)) (put : LockPut) → IsNextApplied s front (tasks.Asked asked) back → asked.work ≡ works.Calls call sequencer → is_leave call ≡ false → is_live s asked.client ≡ true → effect (name_space s) (caller s asked.client) s.clock asked.number call sequencer ≡ record { note = None; change = None; locking = lockings.Waits put; answer = None } → SweepCase s
  Left : (front back : List (Waiting Task)) (asked : WaitingRequest) (call : Call) (sequencer : Option (List ℕ)) (note : Option HandleNote) (leave : Leave) (answer : CallResult) → IsNextApplied s front (tasks.Asked asked) back → asked.work ≡ works.Calls call sequencer → is_leave call ≡ false → is_live s asked.client ≡ true → effect (name_space s) (caller s asked.client) s.clock asked.number call sequencer ≡ record { note = note; change = None; locking = lockings.Leaves leave; answer = Some answer } → SweepCase s

-- a change has left the gate; the others keep their order
abbrev pub rest : MasterState → List (Waiting Task) → List (Waiting Task) → MasterState
rest s front back = record s { gate = record s.gate { waiting = front ++ back } }

-- the call's reply is kept, and what is noted of its handle
abbrev pub ended : MasterState → WaitingRequest → Option HandleNote → CallResult → MasterState
ended s asked note answer = with_note (recorded s asked.client (answered_by (reply_of s asked.client asked.number answer))) note

-- the map has changed
abbrev pub mapped : MasterState → Change → MasterState
mapped s change = record s { nodes = changed s.nodes change.change; next_instance = change.next_instance }

-- who waited for a lock is answered
abbrev pub told : MasterState → List Reply → MasterState
told s replies = with_kept s (kept_puts replies)

-- the session has ended, which is noted, holds no right any more, and the handles that it had open are forgotten
abbrev pub parted : Parting → MasterState → ℕ → MasterState
parted parting s client =
    record s { handles = without_client s.handles client; sessions = with_session s.sessions client of_session.ended; departed = with_departed s.departed client; rights = of_rights.ended client (ending_by parting) s.rights }

-- and no lock; its client is answered, where it has asked for that, and who waited for a lock that it held
abbrev pub without_session : Parting → MasterState → ℕ → List Reply → MasterState
without_session parting s client own =
    told (with_locks (parted parting s client) (lapses_puts s (lapses_of parting s client))) (own ++ lapses_replies s (lapses_of parting s client))

-- what is sent then
abbrev pub parting_replies : Parting → MasterState → ℕ → List Reply → List Out
parting_replies parting s client own = sent (own ++ lapses_replies s (lapses_of parting s client))

-- the answer to a client that ended its session
abbrev pub left_reply : MasterState → WaitingRequest → Reply
left_reply s asked = reply_of s asked.client asked.number results.Done

-- what is sent of a call's end, and of those that waited for a lock
abbrev pub replied_with : MasterState → WaitingRequest → CallResult → List Reply → List Out
replied_with s asked answer others = outs.Reply (reply_of s asked.client asked.number answer) ∷ sent others

abbrev pub swept_with : List Line → List Out → Swept
swept_with printed sent = record { lines = printed; outs = sent; quiet = false }

-- the change of the map, and what those are answered who waited for the lock, where an ephemeral node goes
abbrev pub gone_change : MasterState → Orphan → Change
gone_change s idle = record { change = Gone idle.name; next_instance = s.next_instance }

abbrev pub gone_replies : MasterState → Orphan → List Reply
gone_replies s idle = replies_to s (results.Refused faults.StaleInstance) (lock_at s.locks idle.instance).waiters

-- what the master is then, prints and sends
abbrev pub swept_by : (s : MasterState) → SweepCase s → MasterState × Swept
swept_by s (Quiet none) = (s, record { lines = []; outs = []; quiet = true })
swept_by s (Recovers recovering heard) = (record s { recovering = false; serving_from = s.clock }, swept_with (lines.Recovered ∷ []) [])
swept_by s (Expires client session due) =
    (without_session partings.Expiry s client [], swept_with (parting_lines partings.Expiry s client (lapses_of partings.Expiry s client)) (parting_replies partings.Expiry s client []))
swept_by s (Reopens instance due) = (
  told (with_locks s (puts_of s instance (reopened (lock_at s.locks instance)).lock)) (turn_replies s (reopened (lock_at s.locks instance))),
  swept_with (lines.Reopened instance ∷ locked_lines instance (reopened (lock_at s.locks instance))) (sent (turn_replies s (reopened (lock_at s.locks instance)))),
)
swept_by s (Tidies idle due) = (tidied s idle, swept_with [] [])
swept_by s (Spared front back idle turn held) = (rest s front back, swept_with [] [])
swept_by s (Tidied front back idle turn still) = (
  without_lock (told (mapped (rest s front back) (gone_change s idle)) (gone_replies s idle)) (Some idle.instance),
  swept_with (lines.Applied 0 0 (Gone idle.name) [] ∷ []) (sent (gone_replies s idle)),
)
swept_by s (AnswersBeat client session beat due) = (
  record s { sessions = with_session s.sessions client (answered s.sessions.lease s.clock) },
  swept_with [] (alive_out s client (offer_to s.sessions.lease s.clock beat) ∷ []),
)
swept_by s (TurnedAway front back asked principal received turn work may) = (rest s front back, swept_with [] (turned_away s asked.client asked.number faults.NoSession).outs)
swept_by s (StartedAgain front back asked principal received session turn work found live) = (
  rest (record s { sessions = with_session s.sessions asked.client (prolonged (s.clock + s.sessions.lease)) }) front back,
  swept_with [] (started_out s asked.client asked.number received ∷ []),
)
swept_by s (Started front back asked principal received turn work none) = (
  rest (retired (record s { sessions = with_new s.sessions asked.client (session_until principal true (s.clock + s.sessions.lease)) }) (retiring s)) front back,
  swept_with (lines.Started asked.client ∷ []) (started_out s asked.client asked.number received ∷ []),
)
swept_by s (OfEnded front back asked call sequencer turn work gone) = (rest s front back, swept_with [] [])
swept_by s (Departed front back asked call sequencer session turn work leave found live) = (
  told (with_locks (parted partings.Leave (rest s front back) asked.client) (lapses_puts s (lapses_of partings.Leave s asked.client))) (left_reply s asked ∷ lapses_replies s (lapses_of partings.Leave s asked.client)),
  swept_with (parting_lines partings.Leave s asked.client (lapses_of partings.Leave s asked.client)) (parting_replies partings.Leave s asked.client (left_reply s asked ∷ [])),
)
swept_by s (Ended front back asked call sequencer note answer turn work stays live made) =
    (ended (rest s front back) asked note answer, swept_with [] (replied_with s asked answer []))
swept_by s (Applied front back asked call sequencer note change answer turn work stays live made) = (
  ended (mapped (rest s front back) change) asked note answer,
  swept_with (lines.Applied asked.client asked.number change.change (put_listing s.nodes change.change) ∷ []) (replied_with s asked answer []),
)
swept_by s (Deleted front back asked call sequencer change instance waiters answer turn work stays live made) = (
  without_lock (told (ended (mapped (rest s front back) change) asked None answer) (replies_to s (results.Refused faults.StaleInstance) waiters)) (Some instance),
  swept_with (lines.Applied asked.client asked.number change.change (put_listing s.nodes change.change) ∷ []) (replied_with s asked answer (replies_to s (results.Refused faults.StaleInstance) waiters)),
)
swept_by s (Locked front back asked call sequencer put claim answer turn work stays live made) = (
  ended (with_locks (rest s front back) (put ∷ [])) asked None answer,
  swept_with (locked_line put.instance put.lock.generation claim ∷ []) (replied_with s asked answer []),
)
swept_by s (Awaited front back asked call sequencer put turn work stays live made) = (with_locks (rest s front back) (put ∷ []), swept_with [] [])
swept_by s (Left front back asked call sequencer note leave answer turn work stays live made) = (
  told (ended (with_locks (rest s front back) (left_put leave ∷ [])) asked note answer) (turn_replies s leave.turn),
  swept_with (leave_lines asked.client leave) (replied_with s asked answer (turn_replies s leave.turn)),
)

-- what becomes of the rows of locks
abbrev pub relocking : MasterState → List LockPut → List Edit
relocking s puts = locks_edits (lock_changes s puts)

-- what the end of a session commits
abbrev pub parting_edits : Parting → MasterState → ℕ → List ℕ → List Edit
parting_edits parting s client principal = relocking s (lapses_puts s (lapses_of parting s client)) ++ PutSession client (record { principal = principal; live = false }) ∷ []

-- what it commits
abbrev pub swept_edits : (s : MasterState) → SweepCase s → List Edit
swept_edits s (Expires client session due) = parting_edits partings.Expiry s client session.principal
swept_edits s (Departed front back asked call sequencer session turn work leave found live) = parting_edits partings.Leave s asked.client session.principal
swept_edits s (Started front back asked principal received turn work none) = PutSession asked.client (record { principal = principal; live = true }) ∷ retire_edits s.ended_below (retiring s)
swept_edits s (Reopens instance due) = relocking s (puts_of s instance (reopened (lock_at s.locks instance)).lock)
swept_edits s (Applied front back asked call sequencer _ change answer turn work stays live made) = edit_of change.change ∷ NextInstance change.next_instance ∷ []
swept_edits s (Deleted front back asked call sequencer change instance waiters answer turn work stays live made) = edit_of change.change ∷ NextInstance change.next_instance ∷ []
swept_edits s (Tidied front back idle turn still) = edit_of (Gone idle.name) ∷ NextInstance s.next_instance ∷ []
swept_edits s (Locked front back asked call sequencer put claim answer turn work stays live made) = relocking s (put ∷ [])
-- one waiter more is no row
swept_edits s (Awaited front back asked call sequencer put turn work stays live made) = relocking s (put ∷ [])
swept_edits s (Left front back asked call sequencer _ leave answer turn work stays live made) = relocking s (left_put leave ∷ [])
swept_edits s _ = []
