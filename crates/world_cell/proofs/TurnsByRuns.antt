-- Why no call waits for its turn twice.
use Rattle.std.proofs.Common.{◌≡◌, ℕ, ◌+◌, ◌<◌, ◌≤◌, List, [], ◌∷◌, ◌++◌, length, true, false, cond, Option, Some, None, refl, sym, ap, ◌∙◌, inl, inr, ⊎_elim, arith, eqb, subst, map}
use Rattle.std.specs.Prelude.{◌⊎◌, ◌==◌}
use Rattle.std.specs.Option.{option_map_or}
use Rattle.std.proofs.lemmas.List.{append-nil, length-append}
use Rattle.node_core.specs.Nodes.{with_parent}
use Rattle.node_core.specs.declared.lines.Line.{Line}
use Rattle.node_core.specs.declared.refusals.Fault.TheVariants as faults
use Rattle.tags_cell.specs.declared.messages.calls.Call.{Call}
use Rattle.tags_cell.specs.declared.messages.outs.CallResult.{CallResult}
use Rattle.tags_cell.specs.declared.messages.outs.CallResult.TheVariants as results
use Rattle.tags_cell.specs.declared.messages.outs.Out.{Out}
use Rattle.tags_cell.specs.declared.messages.outs.Reply.{Reply}
use Rattle.tags_cell.specs.declared.messages.requests.CallMessage.{CallMessage}
use Rattle.tags_cell.specs.declared.messages.requests.Request.{Request}
use Rattle.tags_cell.specs.declared.messages.requests.Request.TheVariants as requests
use Rattle.rights_core.specs.Rights.{clients_to_ask}
use Rattle.gate_core.specs.declared.pending.Waiting.{Waiting}
use Rattle.gate_core.specs.Gate.{GateState}
use Rattle.session_core.specs.declared.records.LastCall.{LastCall}
use Rattle.session_core.specs.declared.records.Session.{Session}
use Rattle.session_core.specs.Session.{beaten, keeping, prolonged, answered, session_until}
use Rattle.session_core.specs.Session as of_session
use Rattle.session_core.specs.Sessions as of_sessions
use Rattle.lock_core.specs.declared.partings.Parting.TheVariants as partings
use Rattle.lock_core.specs.Locks.{lock_at}
use Rattle.lock_core.specs.Turns.{reopened}
use Rattle.master_parts.specs.Answered.{answered_by}
use Rattle.master_parts.specs.declared.handles.HandleNote.{HandleNote}
use Rattle.master_parts.specs.declared.notices.SessionEvent.{SessionEvent}
use Rattle.master_parts.specs.declared.pending.WaitingRequest.{WaitingRequest}
use Rattle.master_parts.specs.declared.pending.Task.{Task}
use Rattle.master_parts.specs.declared.pending.Task.TheVariants as tasks
use Rattle.master_parts.specs.declared.pending.Work.{Work}
use Rattle.master_parts.specs.declared.pending.Work.TheVariants as works
use Rattle.master_state.specs.Lapses.{lapses_of, lapses_puts, lapses_replies}
use Rattle.master_state.specs.Lookups.{session_of, kept_of, is_live, reply_of, stamped_reply, noted}
use Rattle.master_state.specs.Notices.{with_tellings}
use Rattle.master_state.specs.Replies.{replies_to, turn_replies, puts_of}
use Rattle.master_state.specs.State.{MasterState}
use Rattle.master_state.specs.Updates.{with_locks, with_note}
use Rattle.cell_core.specs.Cases.{IsBehind, TakeCase, taken_by}
use Rattle.cell_core.specs.Cases.TakeCase.{StartRefused, StartRecovering, StartFull, StartQueued, OldBeat, BeatRefused, BeatParked, OldEpoch, NoSession, LeftBefore, Repeated, OlderCall, Outstanding, LeavesBeside, Recovering, Answered, Granted, Waits}
use Rattle.cell_core.specs.Outcomes.{left_put}
use Rattle.cell_core.specs.Step.{recorded, queued, with_call, task_of, asking, asking_for, names_of}
use Rattle.cell_core.proofs.AskedFor.{asks_only}
use Rattle.over_core.specs.SweepCase.{IsNextApplied, SweepCase, swept_by, rest, ended, mapped, told, parted, gone_change, gone_replies}
use Rattle.over_core.specs.SweepCase.SweepCase.{Quiet, Recovers, Expires, Reopens, Tidies, Spared, Tidied, AnswersBeat, TurnedAway, StartedAgain, Started as StartedFirst, OfEnded, Ended, Applied, Deleted, Locked, Awaited, Left, Departed}
use Rattle.over_core.proofs.KeptByTakes.{unnoted}
use Rattle.over_core.proofs.SweepCases.{action_tellings}
use Rattle.world_steps.specs.declared.mail.Message.{Message}
use Rattle.world_steps.specs.declared.mail.Message.TheVariants.{ToClient}
use Rattle.world_steps.specs.declared.steps.Step.{Step}
use Rattle.world_steps.specs.Made.{Does}
use Rattle.world_steps.specs.Messages.{call_of}
use Rattle.world_steps.specs.World.{WorldState, WorldView}
use Rattle.world_cell.specs.Consistent.{waiting, put_waiting, put_task, IsWaiting, IsLastInTurn, IsInTurn, FitsMessages, IsConsistent}
use Rattle.world_cell.specs.Runs.{Run}
use Rattle.world_cell.specs.Turns.{waits_in, HaveOneTurn}
use Rattle.world_cell.proofs.ClocksByRuns.{run_consistent}
use Rattle.world_cell.proofs.ConsistentSteps.{agrees_at, case_later, noted_fits, all_first}
use Rattle.world_cell.proofs.ForgottenRows.{IsGoneIn, UnlessGone, gone_session, gone_on, settled, kept_unless}
use Rattle.world_cell.proofs.LocksByCases.{noted_kept}
use Rattle.world_cell.proofs.MasterFits.{call_application, WasAsked, live_note, behind_note, epoch_note, waits_as, waiting_append, waits_own, waits_other, none_waits, none_called}
use Rattle.world_cell.proofs.MessagesGrow.{call_more, no_call}
use Rattle.world_cell.proofs.OnceByRuns.{IsFrom, IsCounted, counted_later, AreFrom, claims_from, turn_from, lapses_from, sending_above}
use Rattle.world_cell.proofs.OneSession.{same, other, kept_in, each_session, kept_own, kept_other, kept_stays, kept_issued, answered_so}
use Rattle.world_cell.proofs.OwnSteps.{sending, IsOwn, asks_own, beats_own, gives_own}
use Rattle.world_cell.proofs.StepsHold.{does_holds}
use Rattle.world_cell.proofs.ToldSweeps.{told_kept}
use Rattle.world_cell.proofs.WorldCases.{swept_master, WorldCase, world_case}
use Rattle.world_cell.proofs.WorldCases.WorldCase.{ComesUp, Joins, Asks, Beats, Gives, Ticks, Takes, Sweeps, GoesDown, CutsSweep, CutsUp, LosesUp}

-- ---- what is kept of a client's calls

-- the last call of the client is of this number or a greater one; where none is kept, each that the master may still take is of a greater one
abbrev IsPast : List Message → ℕ → ℕ → Option (LastCall Reply) → ℕ → Type 0
IsPast sent epoch client None n = (number : ℕ) (call : CallMessage) → call_of sent client number ≡ Some call → call.epoch ≡ epoch → n < number
IsPast sent epoch client (Some kept) n = n ≤ kept.number

abbrev PastMaster : List Message → ℕ → MasterState → ℕ → Type 0
PastMaster sent client s n = IsPast sent s.epoch client (kept_of s client) n

abbrev PastIn : List Message → ℕ → Option MasterState → ℕ → Type 0
PastIn sent client None n = Unit {0}
PastIn sent client (Some s) n = PastMaster sent client s n

weaker : (n m : ℕ) → n < m → n ≤ m
weaker n m h = omega (arith, h)

past_later : (xs ys : List Message) (epoch client : ℕ) (o : Option (LastCall Reply)) (n : ℕ) → ((number : ℕ) (call : CallMessage) → call_of ys client number ≡ Some call → n < number) → IsPast xs epoch client o n → IsPast (xs ++ ys) epoch client o n
past_later xs ys epoch client (Some kept) n fresh h = h
past_later xs ys epoch client None n fresh h = λ number call is of.
    elim (call_more xs ys client number call is) [ inl a ↦ h number call a of | inr b ↦ fresh number call b ]

in_later : (xs ys : List Message) (client : ℕ) (m : Option MasterState) (n : ℕ) → ((number : ℕ) (call : CallMessage) → call_of ys client number ≡ Some call → n < number) → PastIn xs client m n → PastIn (xs ++ ys) client m n
in_later xs ys client None n fresh h = tt
in_later xs ys client (Some s) n fresh h = past_later xs ys s.epoch client (kept_of s client) n fresh h

outs_later : (xs : List Message) (sent : List Out) (client : ℕ) (s : MasterState) (n : ℕ) → PastMaster xs client s n → PastMaster (xs ++ map ToClient sent) client s n
outs_later xs sent client s n h = past_later xs (map ToClient sent) s.epoch client (kept_of s client) n (λ number call is. let none = no_call sent client number in cc) h

-- ---- a message is taken

-- a new call is of a greater number
new_past : (sent : List Message) (epoch client number : ℕ) (o : Option (LastCall Reply)) (n : ℕ) (call : CallMessage) → IsBehind o number → call_of sent client number ≡ Some call → call.epoch ≡ epoch → IsPast sent epoch client o n → n < number
new_past sent epoch client number None n call behind found of h = h number call found of
new_past sent epoch client number (Some kept) n call behind found of h = let less = behind.2 in omega (arith, h, less)

call_past : (sent : List Message) (t : MasterState) (client n : ℕ) (message : CallMessage) → IsBehind (kept_of t message.client) message.number → call_of sent message.client message.number ≡ Some message → message.epoch ≡ t.epoch → PastMaster sent client t n → message.client ≡ client → n < message.number
call_past sent t client n message behind found of h is =
    let k : PastMaster sent message.client t n = rw (← is) at h in
    new_past sent t.epoch message.client message.number (kept_of t message.client) n message behind found of k

-- so is one beside a call that waits
beside_past : (sent : List Message) (epoch client number : ℕ) (o : Option (LastCall Reply)) (kept : LastCall Reply) (n : ℕ) → o ≡ Some kept → kept.number < number → IsPast sent epoch client o n → n < number
beside_past sent epoch client number o kept n is more h =
    let k : n ≤ kept.number = subst (λ x. IsPast sent epoch client x n) is h in omega (arith, k, more)

put_past : (sent : List Message) (s : MasterState) (whose client : ℕ) (kept : LastCall Reply) (n : ℕ) → is_live s whose ≡ true → (whose ≡ client → n ≤ kept.number) → PastMaster sent client s n → IsPast sent s.epoch client (kept_of (recorded s whose kept) client) n
put_past sent s whose client kept n live own h =
    (elim (eqb client whose) as (λ b. eqb client whose ≡ b → IsPast sent s.epoch client (kept_of (recorded s whose kept) client) n) [
      | true ↦ (λ e.
          let m : client ≡ whose = same client whose e in
          subst (λ q. IsPast sent s.epoch client (kept_of (recorded s whose kept) q) n) (sym m)
          (subst (λ o. IsPast sent s.epoch client o n) (sym (kept_own s.sessions whose kept live)) (own (sym m))))
      | false ↦ (λ e. subst (λ o. IsPast sent s.epoch client o n) (sym (kept_other s.sessions whose client kept (other client whose e))) h)
    ]) refl

note_past : (sent : List Message) (s : MasterState) (note : Option HandleNote) (client n : ℕ) → PastMaster sent client s n → PastMaster sent client (with_note s note) n
note_past sent s None client n h = h
note_past sent s (Some note) client n h = h

same_past : (sent : List Message) (epoch client : ℕ) (a b : Option (LastCall Reply)) (n : ℕ) → b ≡ a → IsPast sent epoch client a n → IsPast sent epoch client b n
same_past sent epoch client a b n is h = subst (λ o. IsPast sent epoch client o n) (sym is) h

asking_past : (sent : List Message) (s : MasterState) (names : List (List ℕ)) (client n : ℕ) → PastMaster sent client s n → PastMaster sent client (asking_for s names) n
asking_past sent s [] client n h = h
asking_past sent s (name ∷ names) client n h =
    asking_past sent (asking s name) names client n (same_past sent s.epoch client (kept_of s client) _ n (kept_issued (clients_to_ask name s.rights) s.sessions client) h)

take_past : (sent : List Message) (s : MasterState) (request : Request) (c : TakeCase s request) (client n : ℕ) → WasAsked sent request → PastMaster sent client s n → PastMaster sent client (taken_by s request c).0 n
take_past sent s request (BeatParked beat is epoch taken) client n asked h =
    same_past sent s.epoch client (kept_of s client) _ n (kept_stays s.sessions beat.client (beaten beat s.clock) (λ session. refl) client) h
take_past sent s request (LeavesBeside message heard beside) client n asked h =
    put_past sent s message.client client (record { number = message.number; reply = None }) n heard.live
    (λ is. weaker n message.number (beside_past sent s.epoch message.client message.number (kept_of s message.client) beside.kept n beside.found beside.more (subst (λ q. PastMaster sent q s n) (sym is) h))) h
take_past sent s request (Recovering message new recovering) client n asked h =
    put_past sent s message.client client (answered_by (reply_of s message.client message.number (results.Refused faults.Recovering))) n new.heard.live
    (λ is. weaker n message.number (call_past sent s client n message new.behind (asked message new.heard.is_call) new.heard.epoch h is)) h
take_past sent s request (Answered message note answer new serving answered) client n asked h =
    let t = with_note s note in
    let past : PastMaster sent client t n = note_past sent s note client n h in
    put_past sent t message.client client (answered_by (reply_of t message.client message.number answer)) n (live_note s note message.client new.heard.live)
    (λ is. weaker n message.number (call_past sent t client n message (behind_note s note message.client message.number new.behind) (asked message new.heard.is_call) (new.heard.epoch ∙ sym (epoch_note s note)) past is))
    past
take_past sent s request (Granted message note answer name new serving may) client n asked h =
    let t = with_note s note in
    let past : PastMaster sent client t n = note_past sent s note client n h in
    put_past sent t message.client client (answered_by (stamped_reply t message.client message.number answer)) n (live_note s note message.client new.heard.live)
    (λ is. weaker n message.number (call_past sent t client n message (behind_note s note message.client message.number new.behind) (asked message new.heard.is_call) (new.heard.epoch ∙ sym (epoch_note s note)) past is))
    past
take_past sent s request (Waits message note touched new serving admitted) client n asked h =
    let t = with_note s note in
    let past : PastMaster sent client t n = note_past sent s note client n h in
    asking_past sent (with_call t message touched) (names_of touched) client n
    (put_past sent t message.client client (record { number = message.number; reply = None }) n (live_note s note message.client new.heard.live)
    (λ is. weaker n message.number (call_past sent t client n message (behind_note s note message.client message.number new.behind) (asked message new.heard.is_call) (new.heard.epoch ∙ sym (epoch_note s note)) past is))
    past)
take_past sent s request _ client n asked h = h

-- ---- a sweep

one_told : (sent : List Message) (s : MasterState) (client n : ℕ) (reply : Reply) → (reply.client ≡ client → n ≤ reply.number) → PastMaster sent client s n → PastMaster sent client (recorded s reply.client (answered_by reply)) n
one_told sent s client n reply from h =
    each_session (λ q o. q ≡ client → IsPast sent s.epoch client (kept_in o) n) s.sessions reply.client
    (λ q own. subst (λ m. IsPast sent s.epoch client (kept_of s m) n) (sym own) h)
    (keeping (answered_by reply)) (λ session is own. from own) client refl

told_past : (sent : List Message) (s : MasterState) (client n : ℕ) (replies : List Reply) → AreFrom client (Some n) replies → PastMaster sent client s n → PastMaster sent client (told s replies) n
told_past sent s client n [] from h = h
told_past sent s client n (reply ∷ replies) from h =
    told_past sent (recorded s reply.client (answered_by reply)) client n replies from.1 (one_told sent s client n reply from.0 h)

kept_from : (sent : List Message) (epoch client : ℕ) (o : Option (LastCall Reply)) (n : ℕ) → IsPast sent epoch client o n → (kept : LastCall Reply) → o ≡ Some kept → n ≤ kept.number
kept_from sent epoch client o n h kept is = let k : IsPast sent epoch client (Some kept) n = subst (λ x. IsPast sent epoch client x n) is h in k

module _ (sent : List Message) (s : MasterState) (client n : ℕ) (fits : FitsMessages sent s) (h : PastMaster sent client s n) where
  still_from : (kept : LastCall Reply) → kept_of s client ≡ Some kept → IsFrom (Some n) kept.number
  still_from kept is = kept_from sent s.epoch client (kept_of s client) n h kept is

  -- the call whose turn it is
  turn_past : (front back : List (Waiting Task)) (asked : WaitingRequest) (call : Call) (sequencer : Option (List ℕ)) → IsNextApplied s front (tasks.Asked asked) back → asked.work ≡ works.Calls call sequencer → asked.client ≡ client → n ≤ asked.number
  turn_past front back asked call sequencer turn work own =
      let t = call_application sent s front asked back turn fits call sequencer work in
      let k : n ≤ t.kept.number = still_from t.kept (ap (λ m. kept_of s m) (sym own) ∙ t.is_kept) in
      let e = t.same in
      omega (arith, k, e)

  -- t: the master after the change, without what is noted of a handle
  end_past : (t : MasterState) (asked : WaitingRequest) (note : Option HandleNote) (answer : CallResult) → t.sessions ≡ s.sessions → t.epoch ≡ s.epoch → is_live s asked.client ≡ true → (asked.client ≡ client → n ≤ asked.number) → PastMaster sent client (ended t asked note answer) n
  end_past t asked note answer same_sessions same_epoch live own =
      let kept : LastCall Reply = answered_by (reply_of t asked.client asked.number answer) in
      let lives : is_live t asked.client ≡ true = subst (λ x. of_sessions.is_live x asked.client ≡ true) (sym same_sessions) live in
      let before : PastMaster sent client t n = subst (λ x. IsPast sent t.epoch client (of_sessions.kept_of x client) n) (sym same_sessions) (subst (λ e. IsPast sent e client (kept_of s client) n) (sym same_epoch) h) in
      note_past sent (recorded t asked.client kept) note client n (put_past sent t asked.client client kept n lives own before)

  sweep_past : (c : SweepCase s) → UnlessGone s client c (PastMaster sent client (swept_by s c).0 n)
  sweep_past (Quiet none) = h
  sweep_past (Recovers recovering heard) = h
  sweep_past (Expires whose session due) =
      let t = with_locks (parted partings.Expiry s whose) (lapses_puts s (lapses_of partings.Expiry s whose)) in
      told_past sent t client n (lapses_replies s (lapses_of partings.Expiry s whose)) (lapses_from s client (Some n) still_from (lapses_of partings.Expiry s whose))
      (same_past sent s.epoch client (kept_of s client) _ n (kept_stays s.sessions whose of_session.ended (λ session. refl) client) h)
  sweep_past (Departed front back asked call sequencer session turn work leave found live) =
      let t = with_locks (parted partings.Leave (rest s front back) asked.client) (lapses_puts s (lapses_of partings.Leave s asked.client)) in
      told_past sent t client n (reply_of s asked.client asked.number results.Done ∷ lapses_replies s (lapses_of partings.Leave s asked.client))
      (turn_past front back asked call sequencer turn work, lapses_from s client (Some n) still_from (lapses_of partings.Leave s asked.client))
      (same_past sent s.epoch client (kept_of s client) _ n (kept_stays s.sessions asked.client of_session.ended (λ session. refl) client) h)
  sweep_past (Reopens instance due) =
      let turn = reopened (lock_at s.locks instance) in
      told_past sent (with_locks s (puts_of s instance turn.lock)) client n (turn_replies s turn) (turn_from s client (Some n) still_from turn) h
  sweep_past (Tidies idle due) = asking_past sent (queued s (with_parent idle.name) (tasks.Tidies idle)) (with_parent idle.name) client n h
  sweep_past (Spared front back idle turn held) = h
  sweep_past (Tidied front back idle turn still) =
      told_past sent (mapped (rest s front back) (gone_change s idle)) client n (gone_replies s idle) (claims_from s client (Some n) still_from (results.Refused faults.StaleInstance) (lock_at s.locks idle.instance).waiters) h
  sweep_past (AnswersBeat whose session beat due) =
      same_past sent s.epoch client (kept_of s client) _ n (kept_stays s.sessions whose (answered s.sessions.lease s.clock) (λ session. (answered_so s.sessions.lease s.clock session).kept) client) h
  sweep_past (TurnedAway front back asked principal received turn work may) = h
  sweep_past (StartedAgain front back asked principal received session turn work found live) =
      same_past sent s.epoch client (kept_of s client) _ n (kept_stays s.sessions asked.client (prolonged (s.clock + s.sessions.lease)) (λ session. refl) client) h
  sweep_past (StartedFirst front back asked principal received turn work none) =
      λ stays. same_past sent s.epoch client (kept_of s client) _ n (kept_unless s asked.client client (session_until principal true (s.clock + s.sessions.lease)) none.0 refl stays) h
  sweep_past (OfEnded front back asked call sequencer turn work gone) = h
  sweep_past (Ended front back asked call sequencer note answer turn work stays live made) =
      end_past (rest s front back) asked note answer refl refl live (turn_past front back asked call sequencer turn work)
  sweep_past (Applied front back asked call sequencer note change answer turn work stays live made) =
      end_past (mapped (rest s front back) change) asked note answer refl refl live (turn_past front back asked call sequencer turn work)
  sweep_past (Deleted front back asked call sequencer change instance waiters answer turn work stays live made) =
      let m = mapped (rest s front back) change in
      let gone = results.Refused faults.StaleInstance in
      told_past sent (ended m asked None answer) client n (replies_to s gone waiters) (claims_from s client (Some n) still_from gone waiters)
      (end_past m asked None answer refl refl live (turn_past front back asked call sequencer turn work))
  sweep_past (Locked front back asked call sequencer put claim answer turn work stays live made) =
      end_past (with_locks (rest s front back) (put ∷ [])) asked None answer refl refl live (turn_past front back asked call sequencer turn work)
  sweep_past (Awaited front back asked call sequencer put turn work stays live made) = h
  sweep_past (Left front back asked call sequencer note leave answer turn work stays live made) =
      let t = with_locks (rest s front back) (left_put leave ∷ []) in
      told_past sent (ended t asked note answer) client n (turn_replies s leave.turn) (turn_from s client (Some n) still_from leave.turn)
      (end_past t asked note answer refl refl live (turn_past front back asked call sequencer turn work))

telling_past : (sent : List Message) (s : MasterState) (client n : ℕ) (tellings : List SessionEvent) → PastMaster sent client s n → PastMaster sent client (with_tellings s tellings) n
telling_past sent s client n tellings h = same_past sent s.epoch client (kept_of s client) (kept_of (with_tellings s tellings) client) n (told_kept s tellings client) h

-- ---- who waits

-- a call of the client that waits after a step waited before it, or is of a greater number
abbrev Stays : ℕ → ℕ → List ℕ → List ℕ → Type 0
Stays n q before behind = behind ≡ q ∷ [] → (before ≡ q ∷ []) ⊎ (n < q)

abbrev StaysIn : ℕ → ℕ → MasterState → MasterState → Type 0
StaysIn client n s t = (q : ℕ) → Stays n q (waiting client s.gate.waiting) (waiting client t.gate.waiting)

same_gate : (client n : ℕ) (s t : MasterState) → t.gate ≡ s.gate → StaysIn client n s t
same_gate client n s t same_now q is = inl (ap (λ (g : GateState Task). waiting client g.waiting) (sym same_now) ∙ is)

-- what is none of the client's calls
pushed : (client : ℕ) (ws : List (Waiting Task)) (w : Waiting Task) (q : ℕ) → waiting client (w ∷ []) ≡ [] → waiting client (ws ++ w ∷ []) ≡ q ∷ [] → waiting client ws ≡ q ∷ []
pushed client ws w q none is = sym (append-nil (waiting client ws)) ∙ ap (λ xs. waiting client ws ++ xs) (sym none) ∙ sym (waiting_append client ws (w ∷ [])) ∙ is

one_head : (a b : ℕ) → ◌≡◌ {A = List ℕ} (a ∷ []) (b ∷ []) → a ≡ b
one_head a b h = cc

-- of a client's calls at most one waits
short_last : (o : Option (LastCall Reply)) (numbers : List ℕ) → IsLastInTurn o numbers → length numbers ≤ 1
short_last None numbers h = let none : length numbers ≡ 0 = ap (λ (xs : List ℕ). length xs) h in omega (arith, none)
short_last (Some kept) numbers h = by_reply kept.number kept.reply h
  where
    by_reply : (number : ℕ) (reply : Option Reply) → IsWaiting number reply numbers → length numbers ≤ 1
    by_reply number (Some reply) k = let none : length numbers ≡ 0 = ap (λ (xs : List ℕ). length xs) k in omega (arith, none)
    by_reply number None (inl k) = let one : length numbers ≡ 1 = ap (λ (xs : List ℕ). length xs) k in omega (arith, one)
    by_reply number None (inr k) = let none : length numbers ≡ 0 = ap (λ (xs : List ℕ). length xs) k in omega (arith, none)

one_at_most : (o : Option (Session Reply)) (numbers : List ℕ) → IsInTurn o numbers → length numbers ≤ 1
one_at_most None numbers h = let none : length numbers ≡ 0 = ap (λ (xs : List ℕ). length xs) h in omega (arith, none)
one_at_most (Some session) numbers h = short_last session.kept numbers h

noted_gate : (s : MasterState) (note : Option HandleNote) → (with_note s note).gate.waiting ≡ s.gate.waiting
noted_gate s note = ap (λ (g : GateState Task). g.waiting) (unnoted (λ x. x.gate) (λ x m. refl) s note)

module _ (sent : List Message) (s : MasterState) (client n : ℕ) (fits : FitsMessages sent s) (h : PastMaster sent client s n) where
  gate_note : (note : Option HandleNote) → (with_note s note).gate ≡ s.gate
  gate_note note = unnoted (λ x. x.gate) (λ x m. refl) s note

  -- a call that comes to wait, of a client of which none waits, and above those before
  module _ (t : MasterState) (message : CallMessage) (same_gate_now : t.gate ≡ s.gate) (uncalled : waiting message.client s.gate.waiting ≡ []) (above : message.client ≡ client → n < message.number) where
    abbrev w : List (List ℕ) → Waiting Task
    w names = waits_as (t.gate.pushed + 1) names (tasks.Asked (task_of message))

    same_waiting : (q : ℕ) → waiting q t.gate.waiting ≡ waiting q s.gate.waiting
    same_waiting q = ap (λ (g : GateState Task). waiting q g.waiting) same_gate_now

    new_waits : (names : List (List ℕ)) (q : ℕ) → waiting client (t.gate.waiting ++ w names ∷ []) ≡ q ∷ [] → (waiting client s.gate.waiting ≡ q ∷ []) ⊎ (n < q)
    new_waits names q is =
        (elim (eqb client message.client) as (λ b. eqb client message.client ≡ b → (waiting client s.gate.waiting ≡ q ∷ []) ⊎ (n < q)) [
          | true ↦ (λ e.
              let m : client ≡ message.client = same client message.client e in
              let own : waiting message.client (t.gate.waiting ++ w names ∷ []) ≡ message.number ∷ [] =
              waiting_append message.client t.gate.waiting (w names ∷ []) ∙ ap (λ xs. xs ++ waiting message.client (w names ∷ [])) (same_waiting message.client ∙ uncalled) ∙ waits_own message.client message.number message.call message.sequencer [] in
              let P : ℕ → Type 0 = λ x. waiting x (t.gate.waiting ++ w names ∷ []) ≡ q ∷ [] in
              let number : message.number ≡ q = one_head message.number q (sym own ∙ subst P m is) in
              let more = above (sym m) in
              inr (omega (arith, number, more)))
          | false ↦ (λ e.
              let before : waiting client t.gate.waiting ≡ q ∷ [] = pushed client t.gate.waiting (w names) q (waits_other client message.client message.number (works.Calls message.call message.sequencer) [] (other client message.client e)) is in
              inl (sym (same_waiting client) ∙ before))
        ]) refl

  take_stays : (request : Request) (c : TakeCase s request) → WasAsked sent request → StaysIn client n s (taken_by s request c).0
  take_stays request (StartRefused start is may) asked = same_gate client n s s refl
  take_stays request (StartRecovering start is may recovering) asked = same_gate client n s s refl
  take_stays request (StartFull start is may serving full) asked = same_gate client n s s refl
  take_stays request (StartQueued start is may serving room) asked = λ q is_then.
      inl (pushed client s.gate.waiting (waits_as (s.gate.pushed + 1) [] (tasks.Asked (record { client = start.client; number = start.number; work = works.Starts start.principal s.clock }))) q refl is_then)
  take_stays request (OldBeat beat is other_epoch) asked = same_gate client n s s refl
  take_stays request (BeatRefused beat fault is same_epoch refused) asked = same_gate client n s s refl
  take_stays request (BeatParked beat is same_epoch taken) asked = same_gate client n s (taken_by s request (BeatParked beat is same_epoch taken)).0 refl
  take_stays request (OldEpoch message is other_epoch) asked = same_gate client n s s refl
  take_stays request (NoSession message is same_epoch gone) asked = same_gate client n s s refl
  take_stays request (LeftBefore message kept request_is same_epoch gone is number) asked = same_gate client n s s refl
  take_stays request (Repeated message kept heard is number) asked = same_gate client n s s refl
  take_stays request (OlderCall message kept heard is less) asked = same_gate client n s s refl
  take_stays request (Outstanding message kept heard is more none) asked = same_gate client n s s refl
  take_stays request (LeavesBeside message heard beside) asked = λ q is_then.
      new_waits s message refl (none_called message.client s.gate.waiting beside.alone)
      (λ is. beside_past sent s.epoch message.client message.number (kept_of s message.client) beside.kept n beside.found beside.more (subst (λ c. PastMaster sent c s n) (sym is) h)) [] q is_then
  take_stays request (Recovering message new recovering) asked = same_gate client n s (taken_by s request (Recovering message new recovering)).0 refl
  take_stays request (Answered message note answer new serving answered_now) asked = same_gate client n s (taken_by s request (Answered message note answer new serving answered_now)).0 (gate_note note)
  take_stays request (Granted message note answer name new serving granted) asked = same_gate client n s (taken_by s request (Granted message note answer name new serving granted)).0 (gate_note note)
  take_stays request (Waits message note touched new serving admitted) asked = λ q is_then.
      let call = with_call (with_note s note) message touched in
      let only : (asking_for call (names_of touched)).gate ≡ call.gate = ap (λ (m : MasterState). m.gate) (asks_only (names_of touched) call) in
      let uncalled = none_waits (session_of s message.client) message.number (waiting message.client s.gate.waiting) (fits.turns message.client) new.behind in
      new_waits (with_note s note) message (gate_note note) uncalled (call_past sent s client n message new.behind (asked message new.heard.is_call) new.heard.epoch h) (names_of touched) q (ap (λ (g : GateState Task). waiting client g.waiting) (sym only) ∙ is_then)

  -- ---- a change leaves the gate

  -- whose call it is, if it is one
  put_or : (whose number : ℕ) (work : Work) (xs : List ℕ) → (put_waiting client whose number work xs ≡ xs) ⊎ (put_waiting client whose number work xs ≡ number ∷ xs)
  put_or whose number (works.Starts principal received) xs = inl refl
  put_or whose number (works.Calls call sequencer) xs =
      elim (whose == client) as (λ b. (cond b (number ∷ xs) xs ≡ xs) ⊎ (cond b (number ∷ xs) xs ≡ number ∷ xs)) [ true ↦ inr refl | false ↦ inl refl ]

  task_or : (task : Task) (xs : List ℕ) → (put_task client task xs ≡ xs) ⊎ ((number : ℕ) × (put_task client task xs ≡ number ∷ xs))
  task_or (tasks.Tidies idle) xs = inl refl
  task_or (tasks.Asked asked) xs = ⊎_elim (λ none. inl none) (λ some. inr (asked.number, some)) (put_or asked.client asked.number asked.work xs)

  rest_stays : (front back : List (Waiting Task)) (task : Task) (t : MasterState) → t.gate.waiting ≡ front ++ back → IsNextApplied s front task back → StaysIn client n s t
  rest_stays front back task t left turn q is =
      let F = waiting client front in
      let B = waiting client back in
      let whole : waiting client s.gate.waiting ≡ F ++ put_task client task B = ap (waiting client) turn.waited ∙ waiting_append client front (record { number = turn.number; change = record { touched = turn.touched; body = task } } ∷ back) in
      let after : F ++ B ≡ q ∷ [] = sym (waiting_append client front back) ∙ ap (waiting client) (sym left) ∙ is in
      by_task F B whole after (task_or task B)
    where
      by_task : (F B : List ℕ) → waiting client s.gate.waiting ≡ F ++ put_task client task B → F ++ B ≡ q ∷ [] → (put_task client task B ≡ B) ⊎ ((number : ℕ) × (put_task client task B ≡ number ∷ B)) → (waiting client s.gate.waiting ≡ q ∷ []) ⊎ (n < q)
      by_task F B whole after (inl none) = inl (whole ∙ ap (λ xs. F ++ xs) none ∙ after)
      by_task F B whole after (inr some) =
          let short = one_at_most (session_of s client) (waiting client s.gate.waiting) (fits.turns client) in
          let all : length (waiting client s.gate.waiting) ≡ length F + length (some.0 ∷ B) = ap (λ (xs : List ℕ). length xs) (whole ∙ ap (λ xs. F ++ xs) some.1) ∙ length-append F (some.0 ∷ B) in
          let left_ones : length F + length B ≡ 1 = sym (length-append F B) ∙ ap (λ (xs : List ℕ). length xs) after in
          absurd (omega (arith, short, all, left_ones))

  sweep_stays : (c : SweepCase s) → StaysIn client n s (swept_by s c).0
  sweep_stays (Quiet none) = same_gate client n s (swept_by s (Quiet none)).0 refl
  sweep_stays (Recovers recovering heard) = same_gate client n s (swept_by s (Recovers recovering heard)).0 refl
  sweep_stays (Expires whose session due) = same_gate client n s (swept_by s (Expires whose session due)).0 refl
  sweep_stays (Departed front back asked call sequencer session turn work leave found live) = rest_stays front back (tasks.Asked asked) (swept_by s (Departed front back asked call sequencer session turn work leave found live)).0 refl turn
  sweep_stays (Reopens instance due) = same_gate client n s (swept_by s (Reopens instance due)).0 refl
  sweep_stays (Tidies idle due) = λ q is.
      let waits_now = queued s (with_parent idle.name) (tasks.Tidies idle) in
      let only : (asking_for waits_now (with_parent idle.name)).gate ≡ waits_now.gate = ap (λ (m : MasterState). m.gate) (asks_only (with_parent idle.name) waits_now) in
      inl (pushed client s.gate.waiting (waits_as (s.gate.pushed + 1) (with_parent idle.name) (tasks.Tidies idle)) q refl (ap (λ (g : GateState Task). waiting client g.waiting) (sym only) ∙ is))
  sweep_stays (Spared front back idle turn held) = rest_stays front back (tasks.Tidies idle) (swept_by s (Spared front back idle turn held)).0 refl turn
  sweep_stays (Tidied front back idle turn still) = rest_stays front back (tasks.Tidies idle) (swept_by s (Tidied front back idle turn still)).0 refl turn
  sweep_stays (AnswersBeat whose session beat due) = same_gate client n s (swept_by s (AnswersBeat whose session beat due)).0 refl
  sweep_stays (TurnedAway front back asked principal received turn work may) = rest_stays front back (tasks.Asked asked) (swept_by s (TurnedAway front back asked principal received turn work may)).0 refl turn
  sweep_stays (StartedAgain front back asked principal received session turn work found live) = rest_stays front back (tasks.Asked asked) (swept_by s (StartedAgain front back asked principal received session turn work found live)).0 refl turn
  sweep_stays (StartedFirst front back asked principal received turn work none) = rest_stays front back (tasks.Asked asked) (swept_by s (StartedFirst front back asked principal received turn work none)).0 refl turn
  sweep_stays (OfEnded front back asked call sequencer turn work gone) = rest_stays front back (tasks.Asked asked) (swept_by s (OfEnded front back asked call sequencer turn work gone)).0 refl turn
  sweep_stays (Ended front back asked call sequencer note answer turn work stays live made) =
      rest_stays front back (tasks.Asked asked) (swept_by s (Ended front back asked call sequencer note answer turn work stays live made)).0 (noted_gate (recorded (rest s front back) asked.client _) note) turn
  sweep_stays (Applied front back asked call sequencer note change answer turn work stays live made) =
      rest_stays front back (tasks.Asked asked) (swept_by s (Applied front back asked call sequencer note change answer turn work stays live made)).0 (noted_gate (recorded (mapped (rest s front back) change) asked.client _) note) turn
  sweep_stays (Deleted front back asked call sequencer change instance waiters answer turn work stays live made) = rest_stays front back (tasks.Asked asked) (swept_by s (Deleted front back asked call sequencer change instance waiters answer turn work stays live made)).0 refl turn
  sweep_stays (Locked front back asked call sequencer put claim answer turn work stays live made) = rest_stays front back (tasks.Asked asked) (swept_by s (Locked front back asked call sequencer put claim answer turn work stays live made)).0 refl turn
  sweep_stays (Awaited front back asked call sequencer put turn work stays live made) = rest_stays front back (tasks.Asked asked) (swept_by s (Awaited front back asked call sequencer put turn work stays live made)).0 refl turn
  sweep_stays (Left front back asked call sequencer note leave answer turn work stays live made) =
      rest_stays front back (tasks.Asked asked) (swept_by s (Left front back asked call sequencer note leave answer turn work stays live made)).0 (noted_gate (recorded (with_locks (rest s front back) (left_put leave ∷ [])) asked.client _) note) turn

-- ---- a step

-- the client made that many calls, and the last of them that is kept isn't earlier
record Beyond (w : WorldState) (client n : ℕ) : Type 0 where
  counted : IsCounted w client (Some n)
  past : PastIn w.messages client w.master n

-- or nothing is known of it any more
abbrev Lasts : WorldState → ℕ → ℕ → Type 0
Lasts w client n = Beyond w client n ⊎ IsGoneIn w.rows client

past_at : (sent : List Message) (client n : ℕ) (m : Option MasterState) (s : MasterState) → m ≡ Some s → PastIn sent client m n → PastMaster sent client s n
past_at sent client n m s e k = rw e at k

waits_up : (w : WorldState) (client : ℕ) (s : MasterState) → w.master ≡ Some s → waits_in w client ≡ waiting client s.gate.waiting
waits_up w client s up = ap (λ (o : Option MasterState). option_map_or (λ (master : MasterState). waiting client master.gate.waiting) o []) up

waits_same : (old new : WorldState) (client : ℕ) → new.master ≡ old.master → waits_in new client ≡ waits_in old client
waits_same old new client same_now = ap (λ (o : Option MasterState). option_map_or (λ (master : MasterState). waiting client master.gate.waiting) o []) same_now

none_up : (w : WorldState) (client : ℕ) → w.master ≡ None → waits_in w client ≡ []
none_up w client none = ap (λ (o : Option MasterState). option_map_or (λ (master : MasterState). waiting client master.gate.waiting) o []) none

module _ (client n : ℕ) (old : WorldState) (step : Step) (new : WorldState) (printed : List Line) (h : IsConsistent old) (b : Beyond old client n) where
  counted_on : WorldCase old step new printed → IsCounted new client (Some n)
  counted_on c = counted_later old new client (Some n) (case_later old step new printed h c) b.counted

  same_master : (more : List Message) → new.messages ≡ old.messages ++ more → new.master ≡ old.master → ((number : ℕ) (call : CallMessage) → call_of more client number ≡ Some call → n < number) → PastIn new.messages client new.master n
  same_master more messages master fresh = rw (messages, master) (in_later old.messages more client old.master n fresh b.past)

  own_past : IsOwn old new printed → PastIn new.messages client new.master n
  own_past o = same_master (sending o.sent) o.grown (ap (λ (w : WorldState). w.master) o.is) (λ number call is. sending_above old h o.number client o.member o.client o.sent (Some n) o.found o.sends b.counted number call is)

  past_on : WorldCase old step new printed → PastIn new.messages client new.master n ⊎ IsGoneIn new.rows client
  past_on (ComesUp u) =
      inl (subst (λ (x : WorldState). PastIn x.messages client x.master n) (sym u.is)
      (same_past old.messages (old.rows.epoch + 1) client None _ n (all_first u.now old.rows.sessions client).0
      (λ number call is of. let before = (h.sent client number call is).past in absurd (omega arith))))
  past_on (Joins j) = inl (same_master [] (rw j.is (sym (append-nil old.messages))) (rw j.is refl) (λ number call is. cc))
  past_on (Asks a) = inl (own_past (asks_own old step new printed a))
  past_on (Beats beats) = inl (own_past (beats_own old step new printed beats))
  past_on (Gives g) = inl (own_past (gives_own old step new printed g))
  past_on (Ticks t) = inl (same_master [] (rw t.is (sym (append-nil old.messages))) (rw t.is refl) (λ number call is. cc))
  past_on (Takes t) =
      let s = noted t.master old.clock in
      let asked = λ (call : CallMessage) (e : t.request ≡ requests.Call call). h.named t.at call (t.was_sent ∙ ap (λ r. Some r) e) in
      let past = take_past old.messages s t.request t.case client n asked (past_at old.messages client n old.master t.master t.is_up b.past) in
      inl (subst (λ (x : WorldState). PastIn x.messages client x.master n) (sym t.is) (outs_later old.messages (taken_by s t.request t.case).1.outs client (taken_by s t.request t.case).0 n past))
  past_on (Sweeps t) =
      let s = noted t.master old.clock in
      let k = noted_kept old.cell old.rows t.master old.clock (agrees_at old old.master t.master t.is_up h.master) in
      let P : Type 0 = PastMaster old.messages client (swept_by s t.case).0 n in
      elim (settled old.cell old.rows s k client t.case P (sweep_past old.messages s client n (noted_fits old h t.master t.is_up) (past_at old.messages client n old.master t.master t.is_up b.past) t.case)) [
        | inl past ↦ inl (subst (λ (x : WorldState). PastIn x.messages client x.master n) (sym t.is) (outs_later old.messages (swept_by s t.case).1.outs client (swept_master s t.case t.action) n (telling_past old.messages (swept_by s t.case).0 client n (action_tellings s t.action) past)))
        | inr goes ↦ inr (subst (λ (x : WorldState). IsGoneIn x.rows client) (sym t.is) goes.gone)
      ]
  past_on (GoesDown d) = inl (subst (λ (x : WorldState). PastIn x.messages client x.master n) (sym d.is) tt)
  past_on (CutsSweep k) = inl (subst (λ (x : WorldState). PastIn x.messages client x.master n) (sym k.is) tt)
  past_on (CutsUp k) = let none : new.master ≡ None = ap (λ (w : WorldState). w.master) k.is ∙ k.comes.none in inl (rw none tt)
  past_on (LosesUp k) = let none : new.master ≡ None = ap (λ (w : WorldState). w.master) k.is ∙ k.none in inl (rw none tt)

  beyond_on : WorldCase old step new printed → Lasts new client n
  beyond_on c = elim (past_on c) [
    | inl past ↦ inl (record { counted = counted_on c; past = past })
    | inr goes ↦ inr goes
  ]

  abbrev StaysOn : Type 0
  StaysOn = (q : ℕ) → Stays n q (waits_in old client) (waits_in new client)

  -- the master is as it was, or gone
  as_before : new.master ≡ old.master → StaysOn
  as_before same_now q is = inl (sym (waits_same old new client same_now) ∙ is)

  gone : new.master ≡ None → StaysOn
  gone none q is = let nobody : q ∷ [] ≡ [] = sym is ∙ none_up new client none in absurd cc

  -- it is another one
  by_masters : (s t : MasterState) → old.master ≡ Some s → new.master ≡ Some t → StaysIn client n (noted s old.clock) t → StaysOn
  by_masters s t up up_then stays q is =
      ⊎_elim (λ before. inl (waits_up old client s up ∙ before)) (λ later. inr later) (stays q (sym (waits_up new client t up_then) ∙ is))

  stays_on : WorldCase old step new printed → StaysOn
  stays_on (ComesUp u) = λ q is. let nobody : q ∷ [] ≡ [] = sym is ∙ waits_up new client _ (ap (λ (w : WorldState). w.master) u.is) in absurd cc
  stays_on (Joins j) = as_before (ap (λ (w : WorldState). w.master) j.is)
  stays_on (Asks a) = as_before (ap (λ (w : WorldState). w.master) (asks_own old step new printed a).is)
  stays_on (Beats beats) = as_before (ap (λ (w : WorldState). w.master) (beats_own old step new printed beats).is)
  stays_on (Gives g) = as_before (ap (λ (w : WorldState). w.master) (gives_own old step new printed g).is)
  stays_on (Ticks t) = as_before (ap (λ (w : WorldState). w.master) t.is)
  stays_on (Takes t) =
      let s = noted t.master old.clock in
      let asked = λ (call : CallMessage) (e : t.request ≡ requests.Call call). h.named t.at call (t.was_sent ∙ ap (λ r. Some r) e) in
      by_masters t.master (taken_by s t.request t.case).0 t.is_up (ap (λ (w : WorldState). w.master) t.is)
      (take_stays old.messages s client n (noted_fits old h t.master t.is_up) (past_at old.messages client n old.master t.master t.is_up b.past) t.request t.case asked)
  stays_on (Sweeps t) =
      let s = noted t.master old.clock in
      by_masters t.master (swept_master s t.case t.action) t.is_up (ap (λ (w : WorldState). w.master) t.is)
      (sweep_stays old.messages s client n (noted_fits old h t.master t.is_up) (past_at old.messages client n old.master t.master t.is_up b.past) t.case)
  stays_on (GoesDown d) = gone (ap (λ (w : WorldState). w.master) d.is)
  stays_on (CutsSweep k) = gone (ap (λ (w : WorldState). w.master) k.is)
  stays_on (CutsUp k) = gone (ap (λ (w : WorldState). w.master) k.is ∙ k.comes.none)
  stays_on (LosesUp k) = gone (ap (λ (w : WorldState). w.master) k.is ∙ k.none)

-- a client of which nothing is known waits for nothing
none_waits_in : (w : WorldState) → IsConsistent w → (client : ℕ) → IsGoneIn w.rows client → (m : Option MasterState) → w.master ≡ m → waits_in w client ≡ []
none_waits_in w h client goes None up = none_up w client up
none_waits_in w h client goes (Some s) up =
    let none : session_of s client ≡ None = gone_session w.cell w.rows s (agrees_at w w.master s up h.master) client goes in
    waits_up w client s up ∙ subst (λ o. IsInTurn o (waiting client s.gate.waiting)) none ((noted_fits w h s up).turns client)

does_beyond : (client n : ℕ) (old : WorldView) (step : Step) (new : WorldView) (printed : List Line) → IsConsistent old.world → Lasts old.world client n → Does old step new printed → Lasts new.world client n
does_beyond client n old step new printed h (inl b) (inl m) = beyond_on client n old.world step new.world printed h b (world_case old.world step new.world printed h.master m.is_step)
does_beyond client n old step new printed h (inr goes) (inl m) = inr (gone_on client old.world step new.world printed h.master goes (world_case old.world step new.world printed h.master m.is_step))
does_beyond client n old step new printed h b (inr r) = subst (λ (x : WorldState). Lasts x client n) (sym r.left.same) b

does_stays : (client n : ℕ) (old : WorldView) (step : Step) (new : WorldView) (printed : List Line) → IsConsistent old.world → Lasts old.world client n → Does old step new printed → (q : ℕ) → Stays n q (waits_in old.world client) (waits_in new.world client)
does_stays client n old step new printed h (inl b) (inl m) = stays_on client n old.world step new.world printed h b (world_case old.world step new.world printed h.master m.is_step)
does_stays client n old step new printed h (inl b) (inr r) = as_before client n old.world step new.world printed h b (ap (λ (w : WorldState). w.master) r.left.same)
does_stays client n old step new printed h (inr goes) does = λ q is. let nobody : q ∷ [] ≡ [] = sym is ∙ none_waits_in new.world (does_holds old step new printed h does) client (rows_then does) new.world.master refl in absurd cc
  where
    rows_then : Does old step new printed → IsGoneIn new.world.rows client
    rows_then (inl m) = gone_on client old.world step new.world printed h.master goes (world_case old.world step new.world printed h.master m.is_step)
    rows_then (inr r) = subst (λ (x : WorldState). IsGoneIn x.rows client) (sym r.left.same) goes

-- ---- a run

run_stays_on : (client n : ℕ) (old : WorldView) (made : List Step) (printed : List Line) (new : WorldView) → IsConsistent old.world → Lasts old.world client n → Run old made printed new → (q : ℕ) → Stays n q (waits_in old.world client) (waits_in new.world client)
run_stays_on client n old [] printed new h b run q is = inl (ap (λ (v : WorldView). waits_in v.world client) (sym run.1) ∙ is)
run_stays_on client n old (step ∷ made) printed new h b run q is =
    ⊎_elim (λ between. does_stays client n old step run.0 run.1 h b run.3 q between) (λ later. inr later)
    (run_stays_on client n run.0 made run.2 new (does_holds old step run.0 run.1 h run.3) (does_beyond client n old step run.0 run.1 h b run.3) run.4 q is)

run_beyond : (client n : ℕ) (old : WorldView) (made : List Step) (printed : List Line) (new : WorldView) → IsConsistent old.world → Lasts old.world client n → Run old made printed new → Lasts new.world client n
run_beyond client n old [] printed new h b run = subst (λ (v : WorldView). Lasts v.world client n) (sym run.1) b
run_beyond client n old (step ∷ made) printed new h b run =
    run_beyond client n run.0 made run.2 new (does_holds old step run.0 run.1 h run.3) (does_beyond client n old step run.0 run.1 h b run.3) run.4

-- the call that waits is the last that is kept
last_kept : (o : Option (LastCall Reply)) (n : ℕ) (numbers : List ℕ) → IsLastInTurn o numbers → numbers ≡ n ∷ [] → (kept : LastCall Reply) × (o ≡ Some kept) × (kept.number ≡ n)
last_kept None n numbers h is = absurd cc
last_kept (Some kept) n numbers h is = (kept, refl, by_reply kept.number kept.reply h)
  where
    by_reply : (number : ℕ) (reply : Option Reply) → IsWaiting number reply numbers → number ≡ n
    by_reply number (Some reply) none = absurd cc
    by_reply number None (inl own) = one_head number n (sym own ∙ is)
    by_reply number None (inr none) = absurd cc

kept_waits : (o : Option (Session Reply)) (n : ℕ) (numbers : List ℕ) → IsInTurn o numbers → numbers ≡ n ∷ [] → (kept : LastCall Reply) × (kept_in o ≡ Some kept) × (kept.number ≡ n)
kept_waits None n numbers h is = absurd cc
kept_waits (Some session) n numbers h is = last_kept session.kept n numbers h is

-- where a call waits
at_turn : (w : WorldState) → IsConsistent w → (client n : ℕ) (m : Option MasterState) → w.master ≡ m → waits_in w client ≡ n ∷ [] → Beyond w client n
at_turn w h client n None up is = let nobody : n ∷ [] ≡ [] = sym is ∙ none_up w client up in absurd cc
at_turn w h client n (Some s) up is =
    let fits = noted_fits w h s up in
    let t = kept_waits (session_of s client) n (waiting client s.gate.waiting) (fits.turns client) (sym (waits_up w client s up) ∙ is) in
    let was = fits.kept client t.0 t.1 in
    let sent = h.sent client t.0.number was.call was.found in
    let within = sent.within in
    let number = t.2 in
    let P : Option MasterState → Type 0 = λ o. PastIn w.messages client o n in
    record {
      counted = record { member = sent.member; there = sent.joined; more = omega (arith, within, number) };
      past = subst P (sym up) (subst (λ o. IsPast w.messages s.epoch client o n) (sym t.1) (omega (arith, number)));
    }

-- of a client at most one
alone_in : (w : WorldState) → IsConsistent w → (client : ℕ) (m : Option MasterState) → w.master ≡ m → length (waits_in w client) ≤ 1
alone_in w h client None up = let none : length (waits_in w client) ≡ 0 = ap (λ (xs : List ℕ). length xs) (none_up w client up) in omega (arith, none)
alone_in w h client (Some s) up =
    let some : length (waits_in w client) ≡ length (waiting client s.gate.waiting) = ap (λ (xs : List ℕ). length xs) (waits_up w client s up) in
    let short = one_at_most (session_of s client) (waiting client s.gate.waiting) ((noted_fits w h s up).turns client) in
    omega (arith, some, short)

pub run_turns : (old : WorldView) (made : List Step) (new : WorldView) → IsConsistent old.world → HaveOneTurn old made new
run_turns old made new h = record {
  alone = λ front remaining here before after client is first last.
      let k = run_consistent old front before here h first in
      alone_in here.world k client here.world.master refl;
  rises = λ front part remaining step here next later before told_then between after client number later_number is first left onward last waited gone_now waits_then.
      let k = run_consistent old front before here h first in
      let l = run_consistent here (step ∷ []) told_then next k left in
      let b = at_turn here.world k client number here.world.master refl waited in
      let c = run_beyond client number here (step ∷ []) told_then next k (inl b) left in
      ⊎_elim (λ before_then. let nobody : later_number ∷ [] ≡ [] = sym before_then ∙ gone_now in absurd cc) (λ above. above) (run_stays_on client number next part between later l c onward later_number waits_then);
}
