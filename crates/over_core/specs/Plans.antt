-- What a master does by itself: the first action that there is, and what is planned for it.
use Rattle.std.specs.Prelude.{List, ◌++◌, ℕ, true, false, ◌&&◌, [], ◌∷◌, map, Option, Some, None, if◌then◌else◌}
use Rattle.master_parts.specs.declared.notices.Notice.{Notice}
use Rattle.master_parts.specs.declared.notices.SessionEvent.{SessionEvent}
use Rattle.master_state.specs.NameSpace.{name_space, caller}
use Rattle.master_state.specs.Notices.{tellings_to}
use Rattle.master_state.specs.State.{MasterState, next_change, task_at}
use Rattle.over_core.specs.declared.plans.Plan.{Plan}
use Rattle.cell_core.specs.ChangeNotices.{change_notices, locks_notices, contest_notices, contested_by}
use Rattle.std.specs.Option.{option_map_or}
use Rattle.node_core.specs.declared.lines.Line.{Line}
use Rattle.tags_cell.specs.declared.messages.beats.Invalidation.{Invalidation}
use Rattle.tags_cell.specs.declared.messages.outs.Out.{Out}
use Rattle.tags_cell.specs.declared.messages.outs.Reply.{Reply}
use Rattle.tags_cell.specs.declared.messages.calls.Call.{Call}
use Rattle.rights_core.specs.Rights.{unacked_of}
use Rattle.session_core.specs.declared.records.Offer.{Offer}
use Rattle.session_core.specs.Session.{is_client_expired, is_client_due, offered_span}
use Rattle.session_core.specs.Sessions.{unacked_events, all_heard, lowest, offer_of}
use Rattle.lock_core.specs.declared.partings.Parting.{Parting}
use Rattle.lock_core.specs.declared.turns.Turn.{Turn}
use Rattle.lock_core.specs.declared.turns.Lapse.{Lapse}
use Rattle.lock_core.specs.Turns.{reopened}
use Rattle.lock_core.specs.Locks.{lock_at, due}
use Rattle.master_state.specs.declared.updates.Update.{Update}
use Rattle.master_state.specs.declared.updates.SessionUpdate.{SessionUpdate}
use Rattle.master_state.specs.declared.updates.SessionUpdate.TheVariants.{Begins, Prolongs, Ends, Answers}
use Rattle.cell_core.specs.declared.effects.Effect.{Effect}
use Rattle.master_parts.specs.declared.pending.Orphan.{Orphan}
use Rattle.master_parts.specs.declared.pending.Task.{Task}
use Rattle.master_parts.specs.declared.pending.Work.{Work}
use Rattle.master_state.specs.Lookups.{session_of, may_start, retiring, is_live, nothing, turned_away, reply_of}
use Rattle.tags_cell.specs.Messages.{is_leave}
use Rattle.cell_core.specs.Ephemerals.{next_idle, is_still_idle}
use Rattle.cell_core.specs.Effect.{effect, gone_by_itself}
use Rattle.over_core.specs.declared.actions.Action.{Action}
use Rattle.over_core.specs.declared.actions.Action.TheVariants.{Recover, Expire, Apply, Reopen, Tidy, Answer, Quiet}
use Rattle.master_state.specs.Replies.{kept_puts, sent, turn_replies, locked_lines, puts_of}
use Rattle.cell_core.specs.Outcomes.{locking_lines, locking_puts, lock_ended, applied_lines, effect_replies}
use Rattle.master_state.specs.Lapses.{lapses_replies, lapses_puts, lapses_of, parting_lines}
use Rattle.node_core.specs.declared.refusals.Fault.TheVariants as faults
use Rattle.node_core.specs.declared.lines.Line.TheVariants as lines
use Rattle.tags_cell.specs.declared.messages.outs.Out.TheVariants as outs
use Rattle.tags_cell.specs.declared.messages.outs.CallResult.TheVariants as results
use Rattle.master_parts.specs.declared.pending.Task.TheVariants as tasks
use Rattle.master_parts.specs.declared.pending.Work.TheVariants as works
use Rattle.lock_core.specs.declared.partings.Parting.TheVariants as partings

-- ---- who is told

-- of what is planned, before anything changes
abbrev pub notices_of : MasterState → Plan → List Notice
notices_of s plan = change_notices s plan.update.change ++ locks_notices s.locks plan.update.locks ++ contest_notices plan.contested

-- what the clients of open handles are told of what is planned
abbrev pub tellings_of : MasterState → Plan → List SessionEvent
tellings_of s plan = tellings_to s plan.update.note (notices_of s plan)

-- ---- what is done first

-- the lowest client's parked Beat that is due
abbrev pub answer_or_quiet : MasterState → Action
answer_or_quiet s = option_map_or Answer (lowest s.sessions (is_client_due s.sessions.lease s.clock)) Quiet

-- the first ephemeral node, by name, that nobody holds open
abbrev pub tidy_or_later : MasterState → Action
tidy_or_later s = option_map_or Tidy (next_idle s) (answer_or_quiet s)

-- the lowest instance whose lock was closed long enough
abbrev pub reopen_or_later : MasterState → Action
reopen_or_later s = option_map_or Reopen (due s.locks s.clock) (tidy_or_later s)

-- the lowest change that no right holds up, by its number
abbrev pub apply_or_later : MasterState → Action
apply_or_later s = option_map_or Apply (next_change s) (reopen_or_later s)

-- a recovery ends, the lowest client's session expires that is due to, a change has its turn, a lock is open again, the deletion of a node that nobody holds open is queued, a Beat is
-- answered, or there is nothing to do
abbrev pub first_action : MasterState → Action
first_action s =
    if s.recovering && all_heard s.sessions then Recover
    else option_map_or Expire (lowest s.sessions (is_client_expired s.clock)) (apply_or_later s)

-- ---- what is planned

abbrev pub no_update : Update
no_update = record { session = None; retires = None; kept = []; note = None; change = None; locks = []; ends_lock = None; recovers = false; leaves = None }

abbrev pub no_plan : Plan
no_plan = record { update = no_update; taken = nothing; contested = None }

-- what becomes of one session, with what is printed and sent
abbrev pub session_plan : SessionUpdate → List Line → List Out → Plan
session_plan update printed sent = record { update = record no_update { session = Some update }; taken = record { lines = printed; outs = sent }; contested = None }

-- and the first session goes that has ended, where too many are known
abbrev pub with_retired : Option ℕ → Plan → Plan
with_retired client plan = record plan { update = record plan.update { retires = client } }

-- ---- Starts

-- the client may count on a lease from now on
abbrev pub started_out : MasterState → ℕ → ℕ → ℕ → Out
started_out s client number received =
    outs.Started (record { client = client; epoch = s.epoch; number = number; span = offered_span s.sessions.lease received s.clock })

-- for a live session nothing is committed or printed; else it is put as live, and one goes that has ended, where too many are known
abbrev pub plan_session : MasterState → ℕ → ℕ → List ℕ → ℕ → Plan
plan_session s client number principal received =
    if is_live s client then session_plan (Prolongs client) [] (started_out s client number received ∷ [])
    else with_retired (retiring s) (session_plan (Begins client principal) (lines.Started client ∷ []) (started_out s client number received ∷ []))

abbrev pub plan_start : MasterState → ℕ → ℕ → List ℕ → ℕ → Plan
plan_start s client number principal received =
    if may_start s client principal then plan_session s client number principal received
    else record no_plan { taken = turned_away s client number faults.NoSession }

-- ---- calls

-- the replies are kept and sent, and a change of the map or of a lock is committed and printed
abbrev pub plan_effect : MasterState → ℕ → ℕ → Effect → Plan
plan_effect s client number effected = record {
  update =
      record no_update {
        kept = kept_puts (effect_replies s client number effected);
        note = effected.note;
        change = effected.change;
        locks = locking_puts effected.locking;
        ends_lock = lock_ended effected.locking;
      };
  taken = record {
    lines = applied_lines s.nodes client number effected.change ++ locking_lines client effected.locking;
    outs = sent (effect_replies s client number effected);
  };
  contested = None;
}

-- and who holds a lock that the call asks for is told of that
abbrev pub contesting : MasterState → Call → Effect → Plan → Plan
contesting s call effected plan = record plan { contested = contested_by s call effected }

abbrev pub plan_asked : MasterState → ℕ → ℕ → Call → Effect → Plan
plan_asked s client number call effected = contesting s call effected (plan_effect s client number effected)

-- ---- the end of a session

-- it is put as ended, holds no right any more, and lets its locks go; its client is answered first, where it has asked for that
abbrev pub parting_plan : Parting → MasterState → ℕ → List ℕ → List Lapse → List Reply → Plan
parting_plan parting s client principal ended own = record {
  update =
      record no_update {
        session = Some (Ends client principal parting);
        kept = kept_puts (own ++ lapses_replies s ended);
        locks = lapses_puts s ended;
      };
  taken = record { lines = parting_lines parting s client ended; outs = sent (own ++ lapses_replies s ended) };
  contested = None;
}

abbrev pub plan_parting : Parting → MasterState → ℕ → List Reply → Plan
plan_parting parting s client own =
    option_map_or (λ session. parting_plan parting s client session.principal (lapses_of parting s client) own) (session_of s client) no_plan

abbrev pub plan_expiry : MasterState → ℕ → Plan
plan_expiry s client = plan_parting partings.Expiry s client []

-- the client ends its session
abbrev pub plan_leave : MasterState → ℕ → ℕ → Plan
plan_leave s client number = plan_parting partings.Leave s client (reply_of s client number results.Done ∷ [])

-- ---- a call's turn

abbrev pub plan_live : MasterState → ℕ → ℕ → Call → Option (List ℕ) → Plan
plan_live s client number call sequencer =
    if is_leave call then plan_leave s client number
    else plan_asked s client number call (effect (name_space s) (caller s client) s.clock number call sequencer)

-- a call of a session that has ended changes nothing, and sends nothing
abbrev pub plan_call : MasterState → ℕ → ℕ → Call → Option (List ℕ) → Plan
plan_call s client number call sequencer =
    if is_live s client then plan_live s client number call sequencer else no_plan

abbrev pub plan_work : MasterState → ℕ → ℕ → Work → Plan
plan_work s client number (works.Starts principal received) = plan_start s client number principal received
plan_work s client number (works.Calls call sequencer) = plan_call s client number call sequencer

-- an ephemeral node goes, unless somebody holds it open again
abbrev pub plan_tidied : MasterState → Orphan → Plan
plan_tidied s idle = if is_still_idle s idle then plan_effect s 0 0 (gone_by_itself (name_space s) idle) else no_plan

-- what a client asked for, or what the cell does by itself, of client 0 and number 0
abbrev pub plan_task : MasterState → Task → Plan
plan_task s (tasks.Asked asked) = plan_work s asked.client asked.number asked.work
plan_task s (tasks.Tidies idle) = plan_tidied s idle

-- the change of this number leaves the gate
abbrev pub leaving : ℕ → Plan → Plan
leaving number plan = record plan { update = record plan.update { leaves = Some number } }

-- ---- locks and Beats

abbrev pub reopen_plan : MasterState → ℕ → Turn → Plan
reopen_plan s instance turn = record {
  update = record no_update { kept = kept_puts (turn_replies s turn); locks = puts_of s instance turn.lock };
  taken = record { lines = lines.Reopened instance ∷ locked_lines instance turn; outs = sent (turn_replies s turn) };
  contested = None;
}

-- the lock of an instance is open again
abbrev pub plan_reopen : MasterState → ℕ → Plan
plan_reopen s instance = reopen_plan s instance (reopened (lock_at s.locks instance))

abbrev pub invalidation_of : ℕ × List ℕ → Invalidation
invalidation_of entry = record { number = entry.0; name = entry.1 }

-- those that the client has still to acknowledge, in order of their numbers
abbrev pub invalidations_for : MasterState → ℕ → List Invalidation
invalidations_for s client = map invalidation_of (unacked_of client s.rights)

-- the session lives for a lease from now on
abbrev pub alive_out : MasterState → ℕ → Offer → Out
alive_out s client offer =
    outs.Alive (record { client = client; epoch = s.epoch; number = offer.number; span = offer.span; invalidations = invalidations_for s client; events = unacked_events s.sessions client })

abbrev pub plan_answer : MasterState → ℕ → Plan
plan_answer s client = option_map_or (λ offer. session_plan (Answers client) [] (alive_out s client offer ∷ [])) (offer_of s.sessions client s.clock) no_plan

-- ---- every action

abbrev pub plan_of : MasterState → Action → Plan
plan_of s Recover = record no_plan { update = record no_update { recovers = true }; taken = record { lines = lines.Recovered ∷ []; outs = [] } }
plan_of s (Expire client) = plan_expiry s client
plan_of s (Apply number) = option_map_or (λ task. leaving number (plan_task s task)) (task_at number s.gate.waiting) no_plan
plan_of s (Reopen instance) = plan_reopen s instance
plan_of s (Tidy idle) = no_plan
plan_of s (Answer client) = plan_answer s client
plan_of s Quiet = no_plan
