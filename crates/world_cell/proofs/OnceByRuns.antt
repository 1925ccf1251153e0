-- Why each call is applied at most once.
use Rattle.std.proofs.Common.{◌≡◌, ℕ, ◌+◌, ◌≤◌, ◌<◌, List, [], ◌∷◌, ◌++◌, Bool, true, false, cond, Option, Some, None, Result, Ok, Err, refl, sym, ap, ◌∙◌, inl, inr, arith, eqb, subst, map}
use Rattle.std.specs.Prelude.{◌⊎◌, ◌==◌, ◌&&◌, not}
use Rattle.std.specs.Option.{option_map_or}
use Rattle.std.specs.List.{AllByRecursion}
use Rattle.tags_cell.specs.Numbers.{is_client_number}
use Rattle.std.proofs.lemmas.Bool.Decides.{nat_tests}
use Rattle.std.proofs.lemmas.List.{append-nil}
use Rattle.node_core.specs.declared.lines.Line.{Line}
use Rattle.node_core.specs.declared.lines.Line.TheVariants as lines
use Rattle.node_core.specs.declared.views.Mod.{Mod}
use Rattle.tags_cell.specs.declared.messages.requests.Request.{Request}
use Rattle.tags_cell.specs.declared.messages.requests.Request.TheVariants as requests
use Rattle.tags_cell.specs.declared.messages.requests.CallMessage.{CallMessage}
use Rattle.tags_cell.specs.declared.messages.calls.Call.{Call}
use Rattle.tags_cell.specs.declared.messages.outs.Out.{Out}
use Rattle.tags_cell.specs.declared.messages.outs.CallResult.{CallResult}
use Rattle.tags_cell.specs.declared.messages.outs.CallResult.TheVariants as results
use Rattle.node_core.specs.declared.refusals.Fault.{Fault}
use Rattle.node_core.specs.declared.refusals.Fault.TheVariants as faults
use Rattle.rights_core.specs.declared.grants.Grant.{Grant}
use Rattle.rights_core.specs.declared.grants.Grant.TheVariants as grants
use Rattle.rights_core.specs.Rights.{grant_answer, clients_to_ask, numbers_ending}
use Rattle.tags_cell.specs.declared.messages.outs.Reply.{Reply}
use Rattle.master_parts.specs.declared.handles.HandleNote.{HandleNote}
use Rattle.session_core.specs.declared.records.LastCall.{LastCall}
use Rattle.session_core.specs.declared.records.Session.{Session}
use Rattle.session_core.specs.Session.{beaten, keeping, prolonged, answered, session_until}
use Rattle.session_core.specs.Session as of_session
use Rattle.session_core.specs.Sessions as of_sessions
use Rattle.gate_core.specs.declared.pending.Waiting.{Waiting}
use Rattle.lock_core.specs.declared.claims.Claim.{Claim}
use Rattle.lock_core.specs.declared.turns.Lapse.{Lapse}
use Rattle.lock_core.specs.declared.turns.Turn.{Turn}
use Rattle.lock_core.specs.Turns.{reopened}
use Rattle.lock_core.specs.Locks.{lock_at}
use Rattle.master_parts.specs.declared.pending.WaitingRequest.{WaitingRequest}
use Rattle.master_parts.specs.declared.pending.Task.{Task}
use Rattle.master_parts.specs.declared.pending.Task.TheVariants as tasks
use Rattle.master_parts.specs.declared.pending.Work.TheVariants as works
use Rattle.master_parts.specs.declared.notices.SessionEvent.{SessionEvent}
use Rattle.master_state.specs.Notices.{with_tellings}
use Rattle.master_state.specs.State.{MasterState}
use Rattle.master_state.specs.Updates.{with_locks, with_note}
use Rattle.master_state.specs.Lookups.{session_of, kept_of, is_live, reply_of, stamped_reply, granted_lines, acknowledgement, repeated_reply, noted}
use Rattle.master_parts.specs.Answered.{answered_by}
use Rattle.node_core.specs.Nodes.{with_parent}
use Rattle.cell_core.specs.Step.{recorded, queued, with_call, asking, asking_for, names_of}
use Rattle.cell_core.specs.Cases.{IsBehind, TakeCase, taken_by}
use Rattle.master_state.specs.CallsWaiting.{has_call}
use Rattle.master_state.specs.Replies.{replies_to, turn_replies, locked_lines, puts_of}
use Rattle.cell_core.specs.Outcomes.{leave_lines, left_put}
use Rattle.master_state.specs.Lapses.{lapses_lines, lapses_of, lapses_puts, lapses_replies, parting_lines}
use Rattle.cell_core.specs.declared.effects.Leave.{Leave}
use Rattle.over_core.specs.SweepCase.{IsNextApplied, SweepCase, swept_by, rest, ended, mapped, told, parted, gone_change, gone_replies}
use Rattle.over_core.proofs.SweepCases.{action_tellings}
use Rattle.cell_core.specs.Cases.TakeCase.{StartRefused, OldBeat, BeatRefused, BeatParked, OldEpoch, NoSession, LeftBefore, Repeated, OlderCall, Outstanding, LeavesBeside, Recovering, Answered, Granted, Waits}
use Rattle.over_core.specs.SweepCase.SweepCase.{Quiet, Recovers, Expires, Reopens, Tidies, Spared, Tidied, AnswersBeat, TurnedAway, StartedAgain, Started as StartedFirst, OfEnded, Ended, Applied, Deleted, Locked, Awaited, Left, Departed}
use Rattle.world_steps.specs.declared.steps.Step.{Step}
use Rattle.client_core.specs.State.{ClientState}
use Rattle.world_steps.specs.declared.members.WorldClient.{WorldClient}
use Rattle.world_steps.specs.declared.mail.Message.{Message}
use Rattle.world_steps.specs.declared.mail.Message.TheVariants.{ToMaster, ToClient}
use Rattle.world_steps.specs.Messages.{call_of}
use Rattle.world_steps.specs.World.{WorldState, WorldView, member_of}
use Rattle.world_cell.proofs.StepsHold.{does_holds}
use Rattle.world_cell.specs.Consistent.{FitsMessages, IsConsistent}
use Rattle.world_cell.specs.Runs.{Run, applied, put_number, IsAbove, RisesFrom, Rises}
use Rattle.world_steps.specs.Made.{Does}
use Rattle.world_cell.proofs.SilentLines.{IsSilentLine, IsSilent, quiet_silent, silent_numbers}
use Rattle.world_cell.proofs.LockLines.{reopened_of_locks, left_of_locks, lapses_of_locks}
use Rattle.world_cell.proofs.MessagesGrow.{call_more, no_call, one_call}
use Rattle.world_cell.proofs.OneSession.{same, other, kept_in, each_session, kept_own, kept_other, kept_stays, kept_issued, answered_so}
use Rattle.world_cell.proofs.MasterFits.{application_sent, call_application, WasAsked, live_note, behind_note, epoch_note}
use Rattle.world_cell.proofs.WorldCases.{swept_master, IsSweep, WorldCase, world_case}
use Rattle.world_cell.proofs.ToldSweeps.{told_kept}
use Rattle.world_cell.proofs.WorldCases.WorldCase.{ComesUp, Joins, Asks, Beats, Gives, Ticks, Takes, Sweeps, GoesDown, CutsSweep, CutsUp, LosesUp}
use Rattle.world_cell.proofs.CutLines.{cut_applied}
use Rattle.world_cell.proofs.OwnSteps.{IsNextCall, Sends, sending, IsOwn, own_silent, asks_own, beats_own, gives_own}
use Rattle.world_cell.proofs.OwnSteps.Sends.{Nothing, NoCall, NextCall}
use Rattle.world_cell.proofs.MembersFound.{some_same}
use Rattle.world_cell.proofs.ForgottenRows.{IsGoneIn, HasGone, UnlessGone, gone_session, gone_on, settled, kept_unless}
use Rattle.world_cell.proofs.LocksByCases.{noted_kept}
use Rattle.world_cell.proofs.ConsistentSteps.{agrees_at, Later, own_goes, case_later, noted_fits, no_call_found, all_first}
use Rattle.lock_core.specs.declared.partings.Parting.{Parting}
use Rattle.lock_core.specs.declared.partings.Parting.TheVariants as partings
use Rattle.master_state.specs.Partings.{right_line, ending_by}

abbrev last_after : Option ℕ → List ℕ → Option ℕ
last_after last [] = last
last_after last (number ∷ numbers) = last_after (Some number) numbers

abbrev pub IsFrom : Option ℕ → ℕ → Type 0
IsFrom None number = Unit {0}
IsFrom (Some last) number = last ≤ number

above_from : (last : Option ℕ) (number : ℕ) → IsAbove last number → IsFrom last number
above_from None number h = tt
above_from (Some l) number h = omega arith

-- ---- what may still be applied is above the last number

abbrev PastResult : ℕ → Option Reply → Option ℕ → Type 0
PastResult number None last = IsAbove last number
PastResult number (Some reply) last = IsFrom last number

-- the call that waits, or else each one that the master may still take
abbrev PastKept : List Message → ℕ → ℕ → Option (LastCall Reply) → Option ℕ → Type 0
PastKept sent epoch client None last = (number : ℕ) (call : CallMessage) → call_of sent client number ≡ Some call → call.epoch ≡ epoch → IsAbove last number
PastKept sent epoch client (Some kept) last = PastResult kept.number kept.reply last

abbrev PastMaster : List Message → ℕ → MasterState → Option ℕ → Type 0
PastMaster sent client s last = PastKept sent s.epoch client (kept_of s client) last

abbrev PastIn : List Message → ℕ → Option MasterState → Option ℕ → Type 0
PastIn sent client None last = Unit {0}
PastIn sent client (Some s) last = PastMaster sent client s last

-- the client is there, and has made that many calls at least
pub record HasMade (w : WorldState) (client calls : ℕ) : Type 0 where
  pub member : WorldClient
  pub there : member_of w client ≡ Some member
  pub more : calls ≤ member.client.calls

-- the client numbered that far
abbrev pub IsCounted : WorldState → ℕ → Option ℕ → Type 0
IsCounted w client None = Unit {0}
IsCounted w client (Some last) = HasMade w client last

-- last: the number of the client's call that was applied last
record Past (w : WorldState) (client : ℕ) (last : Option ℕ) : Type 0 where
  counted : IsCounted w client last
  master : PastIn w.messages client w.master last

-- ---- later on

pub counted_later : (old new : WorldState) (client : ℕ) (last : Option ℕ) → Later old new → IsCounted old client last → IsCounted new client last
counted_later old new client None l h = tt
counted_later old new client (Some last) l h =
    let y = l.clients client h.member h.there in
    let a = h.more in
    let b = y.calls in
    record { member = y.next; there = y.there; more = omega arith }

kept_later : (xs ys : List Message) (epoch client : ℕ) (o : Option (LastCall Reply)) (last : Option ℕ) → ((number : ℕ) (call : CallMessage) → call_of ys client number ≡ Some call → IsAbove last number) → PastKept xs epoch client o last → PastKept (xs ++ ys) epoch client o last
kept_later xs ys epoch client (Some kept) last fresh h = h
kept_later xs ys epoch client None last fresh h = λ number call is of.
    elim (call_more xs ys client number call is) [ inl a ↦ h number call a of | inr b ↦ fresh number call b ]

in_later : (xs ys : List Message) (client : ℕ) (m : Option MasterState) (last : Option ℕ) → ((number : ℕ) (call : CallMessage) → call_of ys client number ≡ Some call → IsAbove last number) → PastIn xs client m last → PastIn (xs ++ ys) client m last
in_later xs ys client None last fresh h = tt
in_later xs ys client (Some s) last fresh h = kept_later xs ys s.epoch client (kept_of s client) last fresh h

outs_later : (xs : List Message) (sent : List Out) (client : ℕ) (s : MasterState) (last : Option ℕ) → PastMaster xs client s last → PastMaster (xs ++ map ToClient sent) client s last
outs_later xs sent client s last h =
    kept_later xs (map ToClient sent) s.epoch client (kept_of s client) last (λ number call is. let none = no_call sent client number in cc) h

-- ---- a message is taken

-- a new call is above the last one
new_above : (sent : List Message) (epoch client number : ℕ) (o : Option (LastCall Reply)) (last : Option ℕ) (call : CallMessage) → IsBehind o number → call_of sent client number ≡ Some call → call.epoch ≡ epoch → PastKept sent epoch client o last → IsAbove last number
new_above sent epoch client number None last call behind found of h = h number call found of
new_above sent epoch client number (Some kept) None call behind found of h = tt
new_above sent epoch client number (Some kept) (Some l) call behind found of h =
    let e = behind.1 in
    let less = behind.2 in
    let k : PastResult kept.number (Some behind.0) (Some l) = rw e at h in omega arith

-- what is kept of one client is the new entry, or as it was
put_past : (sent : List Message) (s : MasterState) (whose client : ℕ) (kept : LastCall Reply) (last : Option ℕ) → is_live s whose ≡ true → (whose ≡ client → PastResult kept.number kept.reply last) → PastMaster sent client s last → PastKept sent s.epoch client (kept_of (recorded s whose kept) client) last
put_past sent s whose client kept last live own h =
    (elim (eqb client whose) as (λ b. eqb client whose ≡ b → PastKept sent s.epoch client (kept_of (recorded s whose kept) client) last) [
      | true ↦ (λ e.
          let n : client ≡ whose = same client whose e in
          subst (λ q. PastKept sent s.epoch client (kept_of (recorded s whose kept) q) last) (sym n)
          (subst (λ o. PastKept sent s.epoch client o last) (sym (kept_own s.sessions whose kept live)) (own (sym n))))
      | false ↦ (λ e. subst (λ o. PastKept sent s.epoch client o last) (sym (kept_other s.sessions whose client kept (other client whose e))) h)
    ]) refl

note_past : (sent : List Message) (s : MasterState) (note : Option HandleNote) (client : ℕ) (last : Option ℕ) → PastMaster sent client s last → PastMaster sent client (with_note s note) last
note_past sent s None client last h = h
note_past sent s (Some note) client last h = h

-- a new call of whichever client
call_above : (sent : List Message) (t : MasterState) (client : ℕ) (last : Option ℕ) (message : CallMessage) → IsBehind (kept_of t message.client) message.number → call_of sent message.client message.number ≡ Some message → message.epoch ≡ t.epoch → PastMaster sent client t last → message.client ≡ client → IsAbove last message.number
call_above sent t client last message behind found of h is =
    let k : PastMaster sent message.client t last = rw (← is) at h in
    new_above sent t.epoch message.client message.number (kept_of t message.client) last message behind found of k

-- a step that keeps what is kept of calls
same_past : (sent : List Message) (epoch client : ℕ) (a b : Option (LastCall Reply)) (last : Option ℕ) → b ≡ a → PastKept sent epoch client a last → PastKept sent epoch client b last
same_past sent epoch client a b last is h = subst (λ o. PastKept sent epoch client o last) (sym is) h

asking_past : (sent : List Message) (s : MasterState) (names : List (List ℕ)) (client : ℕ) (last : Option ℕ) → PastMaster sent client s last → PastMaster sent client (asking_for s names) last
asking_past sent s [] client last h = h
asking_past sent s (name ∷ names) client last h =
    asking_past sent (asking s name) names client last (same_past sent s.epoch client (kept_of s client) _ last (kept_issued (clients_to_ask name s.rights) s.sessions client) h)

-- a call beside one that waits is above it
beside_above : (sent : List Message) (epoch client number : ℕ) (o : Option (LastCall Reply)) (kept : LastCall Reply) (last : Option ℕ) → o ≡ Some kept → kept.reply ≡ None → kept.number < number → PastKept sent epoch client o last → IsAbove last number
beside_above sent epoch client number o kept None is none more h = tt
beside_above sent epoch client number o kept (Some l) is none more h =
    let there : PastKept sent epoch client (Some kept) (Some l) = subst (λ x. PastKept sent epoch client x (Some l)) is h in
    let k : PastResult kept.number None (Some l) = subst (λ x. PastResult kept.number x (Some l)) none there in omega (arith, k, more)

take_past : (sent : List Message) (s : MasterState) (request : Request) (c : TakeCase s request) (client : ℕ) (last : Option ℕ) → WasAsked sent request → PastMaster sent client s last → PastMaster sent client (taken_by s request c).0 last
take_past sent s request (BeatParked beat is epoch taken) client last asked h =
    same_past sent s.epoch client (kept_of s client) _ last (kept_stays s.sessions beat.client (beaten beat s.clock) (λ session. refl) client) h
take_past sent s request (LeavesBeside message heard beside) client last asked h =
    put_past sent s message.client client (record { number = message.number; reply = None }) last heard.live
    (λ is. beside_above sent s.epoch message.client message.number (kept_of s message.client) beside.kept last beside.found beside.none beside.more (subst (λ q. PastMaster sent q s last) (sym is) h)) h
take_past sent s request (Recovering message new recovering) client last asked h =
    put_past sent s message.client client (answered_by (reply_of s message.client message.number (results.Refused faults.Recovering))) last new.heard.live
    (λ is. above_from last message.number (call_above sent s client last message new.behind (asked message new.heard.is_call) new.heard.epoch h is)) h
take_past sent s request (Answered message note answer new serving answered) client last asked h =
    let t = with_note s note in
    let past : PastMaster sent client t last = note_past sent s note client last h in
    put_past sent t message.client client (answered_by (reply_of t message.client message.number answer)) last (live_note s note message.client new.heard.live)
    (λ is. above_from last message.number (call_above sent t client last message (behind_note s note message.client message.number new.behind) (asked message new.heard.is_call) (new.heard.epoch ∙ sym (epoch_note s note)) past is))
    past
take_past sent s request (Granted message note answer name new serving may) client last asked h =
    let t = with_note s note in
    let past : PastMaster sent client t last = note_past sent s note client last h in
    put_past sent t message.client client (answered_by (stamped_reply t message.client message.number answer)) last (live_note s note message.client new.heard.live)
    (λ is. above_from last message.number (call_above sent t client last message (behind_note s note message.client message.number new.behind) (asked message new.heard.is_call) (new.heard.epoch ∙ sym (epoch_note s note)) past is))
    past
take_past sent s request (Waits message note touched new serving admitted) client last asked h =
    let t = with_note s note in
    let past : PastMaster sent client t last = note_past sent s note client last h in
    asking_past sent (with_call t message touched) (names_of touched) client last
    (put_past sent t message.client client (record { number = message.number; reply = None }) last (live_note s note message.client new.heard.live)
    (λ is. call_above sent t client last message (behind_note s note message.client message.number new.behind) (asked message new.heard.is_call) (new.heard.epoch ∙ sym (epoch_note s note)) past is)
    past)
take_past sent s request _ client last asked h = h

repeated_silent : (reply : Option Reply) → IsSilent (repeated_reply reply).lines
repeated_silent None = tt
repeated_silent (Some reply) = tt

granted_silent : (client : ℕ) (name : List ℕ) (answer : Result Grant Fault) → IsSilent (granted_lines client name answer)
granted_silent client name (Ok (grants.Granted number)) = (tt, tt)
granted_silent client name (Ok (grants.Already number)) = tt
granted_silent client name (Ok grants.Full) = tt
granted_silent client name (Err fault) = tt

-- taking a message applies nothing
pub taken_silent : (s : MasterState) (request : Request) (c : TakeCase s request) → IsSilent (taken_by s request c).1.lines
taken_silent s request (StartRefused start is may) = (tt, tt)
taken_silent s request (OldBeat beat is apart) = (tt, tt)
taken_silent s request (BeatRefused beat fault is of refused) = (tt, tt)
taken_silent s request (BeatParked beat is of taken) =
    silent_numbers lines.Acked (λ number. tt) (numbers_ending beat.client (acknowledgement beat) s.rights)
taken_silent s request (OldEpoch message is apart) = (tt, tt)
taken_silent s request (NoSession message is of dead) = (tt, tt)
taken_silent s request (LeftBefore message kept request_is same_epoch ended is number) = repeated_silent kept.reply
taken_silent s request (Repeated message kept heard is number) = repeated_silent kept.reply
taken_silent s request (OlderCall message kept heard is less) = (tt, tt)
taken_silent s request (Outstanding message kept heard is more none) = (tt, tt)
taken_silent s request (Granted message note answer name new serving may) = granted_silent message.client name (grant_answer message.client name (with_note s note).rights)
taken_silent s request _ = tt

-- ---- a sweep

-- what is applied rises, and the rest goes on
record SweptOn (sent : List Message) (client : ℕ) (last : Option ℕ) (printed : List Line) (new : MasterState) : Type 0 where
  rises : RisesFrom last (applied client printed)
  past : PastMaster sent client new (last_after last (applied client printed))

put_number_more : (client : ℕ) (line : Line) (xs ys : List ℕ) → put_number client line (xs ++ ys) ≡ put_number client line xs ++ ys
put_number_more client (lines.Applied whose number change names) xs ys =
    elim (whose == client) as (λ b. cond b (number ∷ (xs ++ ys)) (xs ++ ys) ≡ cond b (number ∷ xs) xs ++ ys) [ true ↦ refl | false ↦ refl ]
put_number_more client _ xs ys = refl

applied_more : (client : ℕ) (xs ys : List Line) → applied client (xs ++ ys) ≡ applied client xs ++ applied client ys
applied_more client [] ys = refl
applied_more client (x ∷ xs) ys = ap (put_number client x) (applied_more client xs ys) ∙ put_number_more client x (applied client xs) (applied client ys)

line_silent : (client : ℕ) (line : Line) (numbers : List ℕ) → IsSilentLine line → put_number client line numbers ≡ numbers
line_silent client (lines.Applied whose number change names) numbers h = absurd h
line_silent client _ numbers h = refl

none_applied : (client : ℕ) (printed : List Line) → IsSilent printed → applied client printed ≡ []
none_applied client [] h = refl
none_applied client (line ∷ rest) h = line_silent client line (applied client rest) h.0 ∙ none_applied client rest h.1

-- the end of a session applies nothing
parting_applied : (parting : Parting) (client : ℕ) (numbers : List ℕ) (others : List Line) (whose : ℕ) → IsSilent others → applied client (map (right_line parting) numbers ++ others ++ lines.Ended whose ∷ []) ≡ []
parting_applied parting client [] others whose silent = applied_more client others (lines.Ended whose ∷ []) ∙ append-nil (applied client others) ∙ none_applied client others silent
parting_applied partings.Expiry client (number ∷ numbers) others whose silent = parting_applied partings.Expiry client numbers others whose silent
parting_applied partings.Leave client (number ∷ numbers) others whose silent = parting_applied partings.Leave client numbers others whose silent

lapses_applied : (parting : Parting) (client : ℕ) (s : MasterState) (whose : ℕ) → applied client (parting_lines parting s whose (lapses_of parting s whose)) ≡ []
lapses_applied parting client s whose =
    let others = lapses_lines parting whose (lapses_of parting s whose) in
    parting_applied parting client (numbers_ending whose (ending_by parting) s.rights) others whose (quiet_silent others (lapses_of_locks parting whose (lapses_of parting s whose)).quiet)

reopened_applied : (client instance : ℕ) (turn : Turn) → applied client (lines.Reopened instance ∷ locked_lines instance turn) ≡ []
reopened_applied client instance turn = none_applied client (lines.Reopened instance ∷ locked_lines instance turn) (quiet_silent (lines.Reopened instance ∷ locked_lines instance turn) (reopened_of_locks instance turn).quiet)

left_applied : (client whose : ℕ) (leave : Leave) → applied client (leave_lines whose leave) ≡ []
left_applied client whose leave = none_applied client (leave_lines whose leave) (quiet_silent (leave_lines whose leave) (left_of_locks whose leave).quiet)

-- nor does what the cell does by itself, to any client
not_zero : (client : ℕ) → 1 ≤ client → (0 == client) ≡ false
not_zero client some = grind (arith, nat_tests)

own_applied : (client : ℕ) (change : Mod) (names : List (List ℕ)) → 1 ≤ client → applied client (lines.Applied 0 0 change names ∷ []) ≡ []
own_applied client change names some = ap (λ b. cond b (0 ∷ []) []) (not_zero client some)

-- ---- who waited for a lock

-- a reply to one of the client's calls is to the last one, or to a later one
abbrev pub AreFrom : ℕ → Option ℕ → List Reply → Type 0
AreFrom client last replies = AllByRecursion (λ reply. reply.client ≡ client → IsFrom last reply.number) replies

pub from_both : (client : ℕ) (last : Option ℕ) (xs ys : List Reply) → AreFrom client last xs → AreFrom client last ys → AreFrom client last (xs ++ ys)
from_both client last [] ys h k = k
from_both client last (x ∷ xs) ys h k = (h.0, from_both client last xs ys h.1 k)

-- the reply is to the call that is kept
module _ (s : MasterState) (client : ℕ) (last : Option ℕ) (from : (kept : LastCall Reply) → kept_of s client ≡ Some kept → IsFrom last kept.number) where
  one_from : (answer : CallResult) (whose : ℕ) (b : Bool) (o : Option (LastCall Reply)) → kept_of s whose ≡ o → AreFrom client last (cond b (option_map_or (λ kept. reply_of s whose kept.number answer ∷ []) o []) [])
  one_from answer whose true None is = tt
  one_from answer whose true (Some kept) is = ((λ own. from kept (ap (λ n. kept_of s n) (sym own) ∙ is)), tt)
  one_from answer whose false o is = tt

  pub claims_from : (answer : CallResult) (claims : List Claim) → AreFrom client last (replies_to s answer claims)
  claims_from answer [] = tt
  claims_from answer (claim ∷ claims) =
      let whose = claim.owner.client in
      from_both client last _ (replies_to s answer claims) (one_from answer whose (is_client_number whose && not (has_call whose s.gate.waiting)) (kept_of s whose) refl) (claims_from answer claims)

  pub turn_from : (turn : Turn) → AreFrom client last (turn_replies s turn)
  turn_from turn =
      from_both client last (replies_to s results.Done turn.granted) (replies_to s (results.Refused faults.Exhausted) turn.exhausted)
      (claims_from results.Done turn.granted) (claims_from (results.Refused faults.Exhausted) turn.exhausted)

  pub lapses_from : (lapses : List Lapse) → AreFrom client last (lapses_replies s lapses)
  lapses_from [] = tt
  lapses_from (lapse ∷ lapses) = from_both client last (turn_replies s lapse.turn) (lapses_replies s lapses) (turn_from lapse.turn) (lapses_from lapses)

-- one more is told its reply
one_told : (sent : List Message) (s : MasterState) (client : ℕ) (last : Option ℕ) (reply : Reply) → (reply.client ≡ client → IsFrom last reply.number) → PastMaster sent client s last → PastMaster sent client (recorded s reply.client (answered_by reply)) last
one_told sent s client last reply from h =
    each_session (λ q o. q ≡ client → PastKept sent s.epoch client (kept_in o) last) s.sessions reply.client
    (λ q own. subst (λ n. PastKept sent s.epoch client (kept_of s n) last) (sym own) h)
    (keeping (answered_by reply)) (λ session is own. from own) client refl

told_past : (sent : List Message) (s : MasterState) (client : ℕ) (last : Option ℕ) (replies : List Reply) → AreFrom client last replies → PastMaster sent client s last → PastMaster sent client (told s replies) last
told_past sent s client last [] from h = h
told_past sent s client last (reply ∷ replies) from h =
    told_past sent (recorded s reply.client (answered_by reply)) client last replies from.1 (one_told sent s client last reply from.0 h)

-- the number of a call that is kept is the last one, or a later one
result_from : (number : ℕ) (o : Option Reply) (last : Option ℕ) → PastResult number o last → IsFrom last number
result_from number None last h = above_from last number h
result_from number (Some reply) last h = h

kept_from : (sent : List Message) (epoch client : ℕ) (o : Option (LastCall Reply)) (last : Option ℕ) → PastKept sent epoch client o last → (kept : LastCall Reply) → o ≡ Some kept → IsFrom last kept.number
kept_from sent epoch client o last h kept is = let k : PastKept sent epoch client (Some kept) last = subst (λ x. PastKept sent epoch client x last) is h in result_from kept.number kept.reply last k

-- ---- a sweep's cases

module _ (sent : List Message) (s : MasterState) (client : ℕ) (last : Option ℕ) (fits : FitsMessages sent s) (h : PastMaster sent client s last) (some : 1 ≤ client) where
  -- the call whose turn it is is above the last one
  application_above : (front back : List (Waiting Task)) (asked : WaitingRequest) (call : Call) (sequencer : Option (List ℕ)) → IsNextApplied s front (tasks.Asked asked) back → asked.work ≡ works.Calls call sequencer → asked.client ≡ client → IsAbove last asked.number
  application_above front back asked call sequencer turn work own =
      let t = call_application sent s front asked back turn fits call sequencer work in
      let k : PastMaster sent asked.client s last = rw (← own) at h in
      let w : PastResult t.kept.number t.kept.reply last = subst (λ o. PastKept sent s.epoch asked.client o last) t.is_kept k in
      let v : PastResult t.kept.number None last = subst (λ o. PastResult t.kept.number o last) t.no_reply w in
      subst (λ n. PastResult n None last) t.same v

  -- t: the master after the change, without what is noted of a handle
  end_past : (t : MasterState) (asked : WaitingRequest) (note : Option HandleNote) (answer : CallResult) (next : Option ℕ) → t.sessions ≡ s.sessions → t.epoch ≡ s.epoch → is_live s asked.client ≡ true → (asked.client ≡ client → IsFrom next asked.number) → (eqb client asked.client ≡ false → next ≡ last) → PastMaster sent client (ended t asked note answer) next
  end_past t asked note answer next same_sessions same_epoch live own apart =
      let kept : LastCall Reply = answered_by (reply_of t asked.client asked.number answer) in
      let lives : is_live t asked.client ≡ true = subst (λ x. of_sessions.is_live x asked.client ≡ true) (sym same_sessions) live in
      let before : PastKept sent t.epoch client (kept_of t client) last = subst (λ x. PastKept sent t.epoch client (of_sessions.kept_of x client) last) (sym same_sessions) (subst (λ n. PastKept sent n client (kept_of s client) last) (sym same_epoch) h) in
      note_past sent (recorded t asked.client kept) note client next
      ((elim (eqb client asked.client) as (λ b. eqb client asked.client ≡ b → PastKept sent t.epoch client (kept_of (recorded t asked.client kept) client) next) [
        | true ↦ (λ e.
            let n : client ≡ asked.client = same client asked.client e in
            subst (λ q. PastKept sent t.epoch client (kept_of (recorded t asked.client kept) q) next) (sym n)
            (subst (λ o. PastKept sent t.epoch client o next) (sym (kept_own t.sessions asked.client kept lives)) (own (sym n))))
        | false ↦ (λ e.
            subst (λ o. PastKept sent t.epoch client o next) (sym (kept_other t.sessions asked.client client kept (other client asked.client e)))
            (subst (λ l. PastKept sent t.epoch client (kept_of t client) l) (sym (apart e)) before))
      ]) refl)

  differ : (n m : ℕ) → eqb n m ≡ false → (m == n) ≡ false
  differ n m e = grind (arith, nat_tests)

  -- the call whose turn it is isn't applied
  unapplied_past : (t : MasterState) (front back : List (Waiting Task)) (asked : WaitingRequest) (call : Call) (sequencer : Option (List ℕ)) (note : Option HandleNote) (answer : CallResult) → t.sessions ≡ s.sessions → t.epoch ≡ s.epoch → is_live s asked.client ≡ true → IsNextApplied s front (tasks.Asked asked) back → asked.work ≡ works.Calls call sequencer → PastMaster sent client (ended t asked note answer) last
  unapplied_past t front back asked call sequencer note answer same_sessions same_epoch live turn work =
      end_past t asked note answer last same_sessions same_epoch live (λ own. above_from last asked.number (application_above front back asked call sequencer turn work own)) (λ apart. refl)

  -- what is kept of the client then
  still_from : (kept : LastCall Reply) → kept_of s client ≡ Some kept → IsFrom last kept.number
  still_from kept is = kept_from sent s.epoch client (kept_of s client) last h kept is

  turn_from_it : (front back : List (Waiting Task)) (asked : WaitingRequest) (call : Call) (sequencer : Option (List ℕ)) → IsNextApplied s front (tasks.Asked asked) back → asked.work ≡ works.Calls call sequencer → asked.client ≡ client → (kept : LastCall Reply) → kept_of s client ≡ Some kept → IsFrom (Some asked.number) kept.number
  turn_from_it front back asked call sequencer turn work own kept is =
      let t = call_application sent s front asked back turn fits call sequencer work in
      let k : kept_of s asked.client ≡ Some kept = ap (λ n. kept_of s n) own ∙ is in
      let e : t.kept ≡ kept = some_same t.kept kept (sym t.is_kept ∙ k) in
      let n : kept.number ≡ asked.number = ap (λ (x : LastCall Reply). x.number) (sym e) ∙ t.same in
      omega arith

  -- it is applied, and others are told their replies
  record AppliedOn (t : MasterState) (asked : WaitingRequest) (note : Option HandleNote) (answer : CallResult) (b : Bool) : Type 0 where
    rises : RisesFrom last (cond b (asked.number ∷ []) [])
    past : PastMaster sent client (ended t asked note answer) (last_after last (cond b (asked.number ∷ []) []))
    from : (kept : LastCall Reply) → kept_of s client ≡ Some kept → IsFrom (last_after last (cond b (asked.number ∷ []) [])) kept.number

  applied_past : (t : MasterState) (front back : List (Waiting Task)) (asked : WaitingRequest) (call : Call) (sequencer : Option (List ℕ)) (note : Option HandleNote) (answer : CallResult) → t.sessions ≡ s.sessions → t.epoch ≡ s.epoch → is_live s asked.client ≡ true → IsNextApplied s front (tasks.Asked asked) back → asked.work ≡ works.Calls call sequencer → (b : Bool) → (asked.client == client) ≡ b → AppliedOn t asked note answer b
  applied_past t front back asked call sequencer note answer same_sessions same_epoch live turn work true e =
      let n : asked.client ≡ client = same asked.client client e in
      record {
        rises = (application_above front back asked call sequencer turn work n, tt);
        past = end_past t asked note answer (Some asked.number) same_sessions same_epoch live (λ own. omega arith) (λ apart. let d = differ client asked.client apart in cc);
        from = turn_from_it front back asked call sequencer turn work n;
      }
  applied_past t front back asked call sequencer note answer same_sessions same_epoch live turn work false e =
      record { rises = tt; past = unapplied_past t front back asked call sequencer note answer same_sessions same_epoch live turn work; from = still_from }

  -- a step that applies nothing
  none_on : (printed : List Line) (new : MasterState) → applied client printed ≡ [] → PastMaster sent client new last → SweptOn sent client last printed new
  none_on printed new none past = record { rises = rw none tt; past = rw none past }

  sweep_past : (c : SweepCase s) → UnlessGone s client c (SweptOn sent client last (swept_by s c).1.lines (swept_by s c).0)
  sweep_past (Quiet none) = record { rises = tt; past = h }
  sweep_past (Recovers recovering heard) = record { rises = tt; past = h }
  sweep_past (Expires whose session due) =
      let c : SweepCase s = Expires whose session due in
      let t = with_locks (parted partings.Expiry s whose) (lapses_puts s (lapses_of partings.Expiry s whose)) in
      let past : PastMaster sent client t last =
      same_past sent s.epoch client (kept_of s client) _ last (kept_stays s.sessions whose of_session.ended (λ session. refl) client) h in
      none_on (swept_by s c).1.lines (swept_by s c).0 (lapses_applied partings.Expiry client s whose)
      (told_past sent t client last (lapses_replies s (lapses_of partings.Expiry s whose)) (lapses_from s client last still_from (lapses_of partings.Expiry s whose)) past)
  sweep_past (Departed front back asked call sequencer session turn work leave found live) =
      let c : SweepCase s = Departed front back asked call sequencer session turn work leave found live in
      let t = with_locks (parted partings.Leave (rest s front back) asked.client) (lapses_puts s (lapses_of partings.Leave s asked.client)) in
      let past : PastMaster sent client t last =
      same_past sent s.epoch client (kept_of s client) _ last (kept_stays s.sessions asked.client of_session.ended (λ session. refl) client) h in
      none_on (swept_by s c).1.lines (swept_by s c).0 (lapses_applied partings.Leave client s asked.client)
      (told_past sent t client last (reply_of s asked.client asked.number results.Done ∷ lapses_replies s (lapses_of partings.Leave s asked.client))
      ((λ own. above_from last asked.number (application_above front back asked call sequencer turn work own)), lapses_from s client last still_from (lapses_of partings.Leave s asked.client)) past)
  sweep_past (Reopens instance due) =
      let c : SweepCase s = Reopens instance due in
      let turn = reopened (lock_at s.locks instance) in
      none_on (swept_by s c).1.lines (swept_by s c).0 (reopened_applied client instance turn)
      (told_past sent (with_locks s (puts_of s instance turn.lock)) client last (turn_replies s turn) (turn_from s client last still_from turn) h)
  sweep_past (Tidies idle due) = record { rises = tt; past = asking_past sent (queued s (with_parent idle.name) (tasks.Tidies idle)) (with_parent idle.name) client last h }
  sweep_past (Spared front back idle turn held) = record { rises = tt; past = h }
  sweep_past (Tidied front back idle turn still) =
      let c : SweepCase s = Tidied front back idle turn still in
      let gone = results.Refused faults.StaleInstance in
      none_on (swept_by s c).1.lines (swept_by s c).0 (own_applied client (gone_change s idle).change [] some)
      (told_past sent (mapped (rest s front back) (gone_change s idle)) client last (gone_replies s idle) (claims_from s client last still_from gone (lock_at s.locks idle.instance).waiters) h)
  sweep_past (AnswersBeat whose session beat due) =
      record { rises = tt; past = same_past sent s.epoch client (kept_of s client) _ last (kept_stays s.sessions whose (answered s.sessions.lease s.clock) (λ session. (answered_so s.sessions.lease s.clock session).kept) client) h }
  sweep_past (TurnedAway front back asked principal received turn work may) = record { rises = tt; past = h }
  sweep_past (StartedAgain front back asked principal received session turn work found live) =
      record { rises = tt; past = same_past sent s.epoch client (kept_of s client) _ last (kept_stays s.sessions asked.client (prolonged (s.clock + s.sessions.lease)) (λ session. refl) client) h }
  sweep_past (StartedFirst front back asked principal received turn work none) =
      λ stays. record { rises = tt; past = same_past sent s.epoch client (kept_of s client) _ last (kept_unless s asked.client client (session_until principal true (s.clock + s.sessions.lease)) none.0 refl stays) h }
  sweep_past (OfEnded front back asked call sequencer turn work gone) = record { rises = tt; past = h }
  sweep_past (Ended front back asked call sequencer note answer turn work stays live made) =
      record { rises = tt; past = unapplied_past (rest s front back) front back asked call sequencer note answer refl refl live turn work }
  sweep_past (Applied front back asked call sequencer note change answer turn work stays live made) =
      let t = applied_past (mapped (rest s front back) change) front back asked call sequencer note answer refl refl live turn work (asked.client == client) refl in
      record { rises = t.rises; past = t.past }
  sweep_past (Deleted front back asked call sequencer change instance waiters answer turn work stays live made) =
      let m = mapped (rest s front back) change in
      let t = applied_past m front back asked call sequencer None answer refl refl live turn work (asked.client == client) refl in
      let next : Option ℕ = last_after last (cond (asked.client == client) (asked.number ∷ []) []) in
      let answer_all = results.Refused faults.StaleInstance in
      record { rises = t.rises; past = told_past sent (ended m asked None answer) client next (replies_to s answer_all waiters) (claims_from s client next t.from answer_all waiters) t.past }
  sweep_past (Locked front back asked call sequencer put claim answer turn work stays live made) =
      record { rises = tt; past = unapplied_past (with_locks (rest s front back) (put ∷ [])) front back asked call sequencer None answer refl refl live turn work }
  sweep_past (Awaited front back asked call sequencer put turn work stays live made) = record { rises = tt; past = h }
  sweep_past (Left front back asked call sequencer note leave answer turn work stays live made) =
      let c : SweepCase s = Left front back asked call sequencer note leave answer turn work stays live made in
      let t = with_locks (rest s front back) (left_put leave ∷ []) in
      none_on (swept_by s c).1.lines (swept_by s c).0 (left_applied client asked.client leave)
      (told_past sent (ended t asked note answer) client last (turn_replies s leave.turn) (turn_from s client last still_from leave.turn)
      (unapplied_past t front back asked call sequencer note answer refl refl live turn work))

telling_past : (sent : List Message) (s : MasterState) (client : ℕ) (last : Option ℕ) (tellings : List SessionEvent) → PastMaster sent client s last → PastMaster sent client (with_tellings s tellings) last
telling_past sent s client last tellings h = same_past sent s.epoch client (kept_of s client) (kept_of (with_tellings s tellings) client) last (told_kept s tellings client) h

-- ---- a step

-- what it was, or nothing is known of the client any more
abbrev Lasts : WorldState → ℕ → Option ℕ → Type 0
Lasts w client last = Past w client last ⊎ IsGoneIn w.rows client

record StepsOn (client : ℕ) (last : Option ℕ) (printed : List Line) (new : WorldState) : Type 0 where
  rises : RisesFrom last (applied client printed)
  past : Lasts new client (last_after last (applied client printed))

silent_on : (client : ℕ) (new : WorldState) (printed : List Line) (last : Option ℕ) → IsSilent printed → Past new client last → StepsOn client last printed new
silent_on client new printed last silent h =
    let e = none_applied client printed silent in record { rises = rw e tt; past = inl (rw e h) }

-- what a sweep applied was sent
counted_put : (w : WorldState) (h : IsConsistent w) (s : MasterState) (front back : List (Waiting Task)) (asked : WaitingRequest) (call : Call) (sequencer : Option (List ℕ)) (client : ℕ) (last : Option ℕ) → IsNextApplied s front (tasks.Asked asked) back → asked.work ≡ works.Calls call sequencer → FitsMessages w.messages s → IsCounted w client last → IsCounted w client (last_after last (cond (asked.client == client) (asked.number ∷ []) []))
counted_put w h s front back asked call sequencer client last turn work fits counted =
    let sent = h.sent asked.client asked.number (record { client = asked.client; epoch = s.epoch; number = asked.number; call = call; sequencer = sequencer }) (application_sent w.messages s front asked back turn fits call sequencer work) in
    (elim (asked.client == client) as (λ b. (asked.client == client) ≡ b → IsCounted w client (last_after last (cond b (asked.number ∷ []) []))) [
      | true ↦ (λ e. let n : asked.client ≡ client = same asked.client client e in rw (← n) (record { member = sent.member; there = sent.joined; more = sent.within }))
      | false ↦ (λ e. counted)
    ]) refl

applied_counted : (w : WorldState) (h : IsConsistent w) (s : MasterState) (c : SweepCase s) (client : ℕ) (last : Option ℕ) → 1 ≤ client → FitsMessages w.messages s → IsCounted w client last → IsCounted w client (last_after last (applied client (swept_by s c).1.lines))
applied_counted w h s (Applied front back asked call sequencer _ change answer turn work stays live made) client last some fits counted =
    counted_put w h s front back asked call sequencer client last turn work fits counted
applied_counted w h s (Deleted front back asked call sequencer change instance waiters answer turn work stays live made) client last some fits counted =
    counted_put w h s front back asked call sequencer client last turn work fits counted
applied_counted w h s (Expires whose session due) client last some fits counted = subst (λ numbers. IsCounted w client (last_after last numbers)) (sym (lapses_applied partings.Expiry client s whose)) counted
applied_counted w h s (Departed front back asked call sequencer session turn work leave found live) client last some fits counted =
    subst (λ numbers. IsCounted w client (last_after last numbers)) (sym (lapses_applied partings.Leave client s asked.client)) counted
applied_counted w h s (Reopens instance due) client last some fits counted =
    subst (λ numbers. IsCounted w client (last_after last numbers)) (sym (reopened_applied client instance (reopened (lock_at s.locks instance)))) counted
applied_counted w h s (Left front back asked call sequencer _ leave answer turn work stays live made) client last some fits counted = subst (λ numbers. IsCounted w client (last_after last numbers)) (sym (left_applied client asked.client leave)) counted
applied_counted w h s (Tidied front back idle turn still) client last some fits counted = subst (λ numbers. IsCounted w client (last_after last numbers)) (sym (own_applied client (gone_change s idle).change [] some)) counted
applied_counted w h s _ client last some fits counted = counted

past_master : (sent : List Message) (client : ℕ) (last : Option ℕ) (m : Option MasterState) (s : MasterState) → m ≡ Some s → PastIn sent client m last → PastMaster sent client s last
past_master sent client last m s e k = rw e at k

-- a call that is sent now is above all that were
sent_above : (w : WorldState) → IsConsistent w → (number client : ℕ) (member : WorldClient) (call : CallMessage) (last : Option ℕ) → member_of w number ≡ Some member → IsNextCall member.client call → IsCounted w client last → call.client ≡ client → IsAbove last call.number
sent_above w h number client member call None found made counted of = tt
sent_above w h number client member call (Some l) found made counted of =
    let n : client ≡ number = sym of ∙ made.client ∙ (h.clients number member found).own in
    let there = counted.there in
    let i : member_of w number ≡ Some counted.member = rw n at there in
    let y : member ≡ counted.member = some_same member counted.member (sym found ∙ i) in
    let more = counted.more in
    let k : l ≤ member.client.calls = rw (← y) at more in
    let is_next = made.number in
    omega arith

-- and so is each call in what a client sends
pub sending_above : (w : WorldState) → IsConsistent w → (number client : ℕ) (member : WorldClient) (new : ClientState) (sent : Option Request) (last : Option ℕ) → member_of w number ≡ Some member → Sends member.client new sent → IsCounted w client last → (n : ℕ) (call : CallMessage) → call_of (sending sent) client n ≡ Some call → IsAbove last n
sending_above w h number client member new sent last found (Nothing e calls) counted n call is =
    let k : call_of [] client n ≡ Some call = subst (λ o. call_of (sending o) client n ≡ Some call) e is in cc
sending_above w h number client member new sent last found (NoCall request e none calls) counted n call is =
    let k : call_of (ToMaster request ∷ []) client n ≡ Some call = subst (λ o. call_of (sending o) client n ≡ Some call) e is in
    let nothing = no_call_found request client n none in cc
sending_above w h number client member new sent last found (NextCall next e m calls) counted n call is =
    let k : call_of (ToMaster (requests.Call next) ∷ []) client n ≡ Some call = subst (λ o. call_of (sending o) client n ≡ Some call) e is in
    let t = one_call next call client n k in
    subst (λ x. IsAbove last x) t.2 (sent_above w h number client member next last found m counted t.1)

module _ (client : ℕ) (last : Option ℕ) (old : WorldState) (step : Step) (new : WorldState) (printed : List Line) (h : IsConsistent old) (p : Past old client last) (some : 1 ≤ client) where
  counted_on : WorldCase old step new printed → IsCounted new client last
  counted_on c = counted_later old new client last (case_later old step new printed h c) p.counted

  -- the master is as it was
  same_master : (more : List Message) → new.messages ≡ old.messages ++ more → new.master ≡ old.master → ((number : ℕ) (call : CallMessage) → call_of more client number ≡ Some call → IsAbove last number) → PastIn new.messages client new.master last
  same_master more messages master fresh = rw (messages, master) (in_later old.messages more client old.master last fresh p.master)

  own_on : IsOwn old new printed → StepsOn client last printed new
  own_on o =
      silent_on client new printed last (own_silent old new printed o) (record {
        counted = counted_later old new client last (own_goes old new printed h o) p.counted;
        master = same_master (sending o.sent) o.grown (ap (λ (w : WorldState). w.master) o.is) (λ number call is. sending_above old h o.number client o.member o.client o.sent last o.found o.sends p.counted number call is);
      })

  -- a sweep, unless the client goes
  swept_on : {mid : WorldState} {at : Step} {told : List Line} (t : IsSweep old at mid told) → SweptOn old.messages client last (swept_by (noted t.master old.clock) t.case).1.lines (swept_by (noted t.master old.clock) t.case).0 ⊎ HasGone old.rows (noted t.master old.clock) client t.case
  swept_on t =
      let s = noted t.master old.clock in
      let k = noted_kept old.cell old.rows t.master old.clock (agrees_at old old.master t.master t.is_up h.master) in
      settled old.cell old.rows s k client t.case (SweptOn old.messages client last (swept_by s t.case).1.lines (swept_by s t.case).0)
      (sweep_past old.messages s client last (noted_fits old h t.master t.is_up) (past_master old.messages client last old.master t.master t.is_up p.master) some t.case)

  step_on : WorldCase old step new printed → StepsOn client last printed new
  step_on (ComesUp u) =
      let past : PastIn new.messages client new.master last = subst (λ (x : WorldState). PastIn x.messages client x.master last) (sym u.is)
      (same_past old.messages (old.rows.epoch + 1) client None _ last (all_first u.now old.rows.sessions client).0
      (λ number call is of. let before = (h.sent client number call is).past in absurd (omega arith))) in
      record { rises = rw u.tells tt; past = inl (rw u.tells (record { counted = counted_on (ComesUp u); master = past })) }
  step_on (Joins j) =
      silent_on client new printed last (rw j.tells tt) (record { counted = counted_on (Joins j); master = same_master [] (rw j.is (sym (append-nil old.messages))) (rw j.is refl) (λ number call is. cc) })
  step_on (Asks a) = own_on (asks_own old step new printed a)
  step_on (Beats b) = own_on (beats_own old step new printed b)
  step_on (Gives g) = own_on (gives_own old step new printed g)
  step_on (Ticks t) =
      silent_on client new printed last (rw t.tells tt) (record { counted = counted_on (Ticks t); master = same_master [] (rw t.is (sym (append-nil old.messages))) (rw t.is refl) (λ number call is. cc) })
  step_on (Takes t) =
      let s = noted t.master old.clock in
      let asked = λ (call : CallMessage) (e : t.request ≡ requests.Call call). h.named t.at call (t.was_sent ∙ ap (λ r. Some r) e) in
      let past = take_past old.messages s t.request t.case client last asked (past_master old.messages client last old.master t.master t.is_up p.master) in
      let later = outs_later old.messages (taken_by s t.request t.case).1.outs client (taken_by s t.request t.case).0 last past in
      silent_on client new printed last (rw t.tells (taken_silent s t.request t.case)) (record {
        counted = counted_on (Takes t);
        master = subst (λ (x : WorldState). PastIn x.messages client x.master last) (sym t.is) later;
      })
  step_on (Sweeps t) =
      let s = noted t.master old.clock in
      let fits = noted_fits old h t.master t.is_up in
      let next : Option ℕ = last_after last (applied client (swept_by s t.case).1.lines) in
      elim (swept_on t) [
        | inl on ↦ (
            let later = outs_later old.messages (swept_by s t.case).1.outs client (swept_master s t.case t.action) next (telling_past old.messages (swept_by s t.case).0 client next (action_tellings s t.action) on.past) in
            rw t.tells (record {
              rises = on.rises;
              past = inl (record {
                counted = counted_later old new client next (case_later old step new printed h (Sweeps t)) (applied_counted old h s t.case client last some fits p.counted);
                master = subst (λ (x : WorldState). PastIn x.messages client x.master next) (sym t.is) later;
              });
            }))
        | inr goes ↦ record {
          rises = subst (λ ls. RisesFrom last (applied client ls)) (sym (t.tells ∙ goes.printed)) tt;
          past = inr (subst (λ (x : WorldState). IsGoneIn x.rows client) (sym t.is) goes.gone);
        }
      ]
  step_on (GoesDown d) =
      silent_on client new printed last (rw d.tells (tt, tt)) (record { counted = counted_on (GoesDown d); master = subst (λ (x : WorldState). PastIn x.messages client x.master last) (sym d.is) tt })
  step_on (CutsSweep k) =
      let t = k.sweeps in
      let s = noted t.master old.clock in
      let fits = noted_fits old h t.master t.is_up in
      let next : Option ℕ = last_after last (applied client (swept_by s t.case).1.lines) in
      let same : applied client printed ≡ applied client (swept_by s t.case).1.lines = ap (applied client) k.tells ∙ cut_applied client k.told ∙ ap (applied client) t.tells in
      let past : Past new client next = record {
        counted = counted_later old new client next (case_later old step new printed h (CutsSweep k)) (applied_counted old h s t.case client last some fits p.counted);
        master = subst (λ (x : WorldState). PastIn x.messages client x.master next) (sym k.is) tt;
      } in
      elim (swept_on t) [
        | inl on ↦ record { rises = subst (RisesFrom last) (sym same) on.rises; past = inl (subst (λ numbers. Past new client (last_after last numbers)) (sym same) past) }
        | inr goes ↦ record {
          rises = subst (RisesFrom last) (sym (same ∙ ap (applied client) goes.printed)) tt;
          past = inr (
              let there : IsGoneIn k.mid.rows client = subst (λ (x : WorldState). IsGoneIn x.rows client) (sym t.is) goes.gone in
              subst (λ (x : WorldState). IsGoneIn x.rows client) (sym k.is) there
              );
        }
      ]
  step_on (CutsUp k) =
      let u = k.comes in
      let none : new.master ≡ None = ap (λ (w : WorldState). w.master) k.is ∙ u.none in
      rw (k.tells, u.tells) (record { rises = tt; past = inl (record { counted = counted_on (CutsUp k); master = rw none tt }) })
  step_on (LosesUp k) =
      let none : new.master ≡ None = ap (λ (w : WorldState). w.master) k.is ∙ k.none in
      silent_on client new printed last (rw k.tells (tt, tt)) (record { counted = counted_on (LosesUp k); master = rw none tt })

-- ---- of a client of which nothing is known nothing is applied

none_put : (s : MasterState) (client whose number : ℕ) → session_of s client ≡ None → is_live s whose ≡ true → cond (whose == client) (number ∷ []) [] ≡ []
none_put s client whose number none live =
    (elim (whose == client) as (λ b. (whose == client) ≡ b → cond b (number ∷ []) [] ≡ []) [
      | true ↦ (λ e.
          let lives : is_live s client ≡ true = subst (λ q. is_live s q ≡ true) (same whose client e) live in
          let never : false ≡ true = sym (ap (λ (o : Option (Session Reply)). option_map_or (λ (x : Session Reply). x.live) o false) none) ∙ lives in
          absurd (cc))
      | false ↦ (λ e. refl)
    ]) refl

none_swept : (s : MasterState) (client : ℕ) → session_of s client ≡ None → 1 ≤ client → (c : SweepCase s) → applied client (swept_by s c).1.lines ≡ []
none_swept s client none some (Applied front back asked call sequencer _ change answer turn work stays live made) = none_put s client asked.client asked.number none live
none_swept s client none some (Deleted front back asked call sequencer change instance waiters answer turn work stays live made) = none_put s client asked.client asked.number none live
none_swept s client none some (Expires whose session due) = lapses_applied partings.Expiry client s whose
none_swept s client none some (Departed front back asked call sequencer session turn work leave found live) = lapses_applied partings.Leave client s asked.client
none_swept s client none some (Reopens instance due) = reopened_applied client instance (reopened (lock_at s.locks instance))
none_swept s client none some (Left front back asked call sequencer _ leave answer turn work stays live made) = left_applied client asked.client leave
none_swept s client none some (Tidied front back idle turn still) = own_applied client (gone_change s idle).change [] some
none_swept s client none some _ = refl

none_applied_on : (client : ℕ) (old : WorldState) (step : Step) (new : WorldState) (printed : List Line) → IsConsistent old → IsGoneIn old.rows client → 1 ≤ client → WorldCase old step new printed → applied client printed ≡ []
none_applied_on client old step new printed h goes some c = on c
  where
    by_sweep : {mid : WorldState} {at : Step} {told : List Line} (t : IsSweep old at mid told) → applied client (swept_by (noted t.master old.clock) t.case).1.lines ≡ []
    by_sweep t =
        let s = noted t.master old.clock in
        let k = noted_kept old.cell old.rows t.master old.clock (agrees_at old old.master t.master t.is_up h.master) in
        none_swept s client (gone_session old.cell old.rows s k client goes) some t.case

    on : WorldCase old step new printed → applied client printed ≡ []
    on (ComesUp u) = rw u.tells refl
    on (Joins j) = none_applied client printed (rw j.tells tt)
    on (Asks a) = none_applied client printed (own_silent old new printed (asks_own old step new printed a))
    on (Beats b) = none_applied client printed (own_silent old new printed (beats_own old step new printed b))
    on (Gives g) = none_applied client printed (own_silent old new printed (gives_own old step new printed g))
    on (Ticks t) = none_applied client printed (rw t.tells tt)
    on (Takes t) = none_applied client printed (rw t.tells (taken_silent (noted t.master old.clock) t.request t.case))
    on (Sweeps t) = ap (applied client) t.tells ∙ by_sweep t
    on (GoesDown d) = none_applied client printed (rw d.tells (tt, tt))
    on (CutsSweep k) = ap (applied client) k.tells ∙ cut_applied client k.told ∙ ap (applied client) k.sweeps.tells ∙ by_sweep k.sweeps
    on (CutsUp k) = let u = k.comes in rw (k.tells, u.tells) refl
    on (LosesUp k) = none_applied client printed (rw k.tells (tt, tt))

does_on : (client : ℕ) (last : Option ℕ) (old : WorldView) (step : Step) (new : WorldView) (printed : List Line) → IsConsistent old.world → Lasts old.world client last → 1 ≤ client → Does old step new printed → StepsOn client last printed new.world
does_on client last old step new printed h (inl p) some (inl m) = step_on client last old.world step new.world printed h p some (world_case old.world step new.world printed h.master m.is_step)
does_on client last old step new printed h (inl p) some (inr r) =
    silent_on client new.world printed last (rw r.line (tt, tt)) (subst (λ (x : WorldState). Past x client last) (sym r.left.same) p)
does_on client last old step new printed h (inr goes) some (inl m) =
    let c = world_case old.world step new.world printed h.master m.is_step in
    let e = none_applied_on client old.world step new.world printed h goes some c in
    record { rises = rw e tt; past = inr (gone_on client old.world step new.world printed h.master goes c) }
does_on client last old step new printed h (inr goes) some (inr r) =
    let e = none_applied client printed (rw r.line (tt, tt)) in
    record { rises = rw e tt; past = inr (subst (λ (x : WorldState). IsGoneIn x.rows client) (sym r.left.same) goes) }

-- ---- a run

rises_more : (last : Option ℕ) (xs ys : List ℕ) → RisesFrom last xs → RisesFrom (last_after last xs) ys → RisesFrom last (xs ++ ys)
rises_more last [] ys h k = k
rises_more last (x ∷ xs) ys h k = (h.0, rises_more (Some x) xs ys h.1 k)

run_on : (client : ℕ) (old : WorldView) (steps : List Step) (printed : List Line) (new : WorldView) (last : Option ℕ) → Run old steps printed new → IsConsistent old.world → Lasts old.world client last → 1 ≤ client → RisesFrom last (applied client printed)
run_on client old [] printed new last run h p some = rw run.0 tt
run_on client old (step ∷ steps) printed new last run h p some =
    let first = does_on client last old step run.0 run.1 h p some run.3 in
    let then = run_on client run.0 steps run.2 new (last_after last (applied client run.1)) run.4 (does_holds old step run.0 run.1 h run.3) first.past some in
    rw (run.5, applied_more client run.1 run.2) (rises_more last (applied client run.1) (applied client run.2) first.rises then)

first_result : (number : ℕ) (o : Option Reply) → PastResult number o None
first_result number None = tt
first_result number (Some reply) = tt

first_kept : (sent : List Message) (epoch client : ℕ) (o : Option (LastCall Reply)) → PastKept sent epoch client o None
first_kept sent epoch client None = λ number call is of. tt
first_kept sent epoch client (Some kept) = first_result kept.number kept.reply

first_in : (sent : List Message) (client : ℕ) (m : Option MasterState) → PastIn sent client m None
first_in sent client None = tt
first_in sent client (Some s) = first_kept sent s.epoch client (kept_of s client)

-- the numbers of a client's applied calls rise
pub run_once : (client : ℕ) (old : WorldView) (steps : List Step) (printed : List Line) (new : WorldView) → Run old steps printed new → IsConsistent old.world → 1 ≤ client → Rises (applied client printed)
run_once client old steps printed new run h some =
    run_on client old steps printed new None run h (inl (record { counted = tt; master = first_in old.world.messages client old.world.master })) some
