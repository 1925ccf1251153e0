-- Of a consistent world, after each step, each reply that was sent is to a call that was sent before.
use Rattle.std.proofs.Common.{◌≡◌, ℕ, true, false, List, [], ◌∷◌, ◌++◌, Option, Some, None, refl, sym, ap, ◌∙◌, inl, inr, subst, map}
use Rattle.node_core.specs.declared.refusals.Fault.TheVariants as faults
use Rattle.node_core.specs.declared.lines.Line.{Line}
use Rattle.node_core.specs.declared.views.Mod.{Mod}
use Rattle.node_core.specs.declared.views.Mod.TheVariants.{Put, Gone}
use Rattle.rows_cell.specs.declared.tables.Rows.{Rows}
use Rattle.rows_cell.specs.declared.tables.Edit.TheVariants.{NextInstance, PutSession}
use Rattle.rows_cell.specs.Rows.{changed_rows}
use Rattle.tags_cell.specs.declared.messages.calls.Call.{Call}
use Rattle.tags_cell.specs.declared.messages.requests.Request.{Request}
use Rattle.tags_cell.specs.declared.messages.requests.Request.TheVariants as requests
use Rattle.tags_cell.specs.declared.messages.requests.CallMessage.{CallMessage}
use Rattle.tags_cell.specs.declared.messages.outs.CallResult.{CallResult}
use Rattle.tags_cell.specs.declared.messages.outs.CallResult.TheVariants as results
use Rattle.tags_cell.specs.declared.messages.outs.Out.{Out}
use Rattle.tags_cell.specs.declared.messages.outs.Out.TheVariants as outs
use Rattle.tags_cell.specs.declared.messages.outs.Reply.{Reply}
use Rattle.session_core.specs.declared.records.LastCall.{LastCall}
use Rattle.cell_core.proofs.Told.{told_is_shown}
use Rattle.lock_core.specs.Turns.{reopened}
use Rattle.lock_core.specs.Locks.{lock_at}
use Rattle.master_state.specs.State.{MasterState}
use Rattle.master_state.specs.Updates.{edit_of, retire_edits, lock_changes, with_note}
use Rattle.master_state.specs.Lookups.{kept_of, reply_of, stamped_reply, repeated_reply, retiring, noted}
use Rattle.cell_core.specs.Cases.{TakeCase, taken_by}
use Rattle.cell_core.specs.Cases.TakeCase.{StartQueued, BeatParked, LeftBefore, Repeated, LeavesBeside, Recovering, Answered, Granted, Waits}
use Rattle.master_parts.specs.declared.pending.WaitingRequest.{WaitingRequest}
use Rattle.master_parts.specs.declared.pending.Task.{Task}
use Rattle.master_parts.specs.declared.pending.Task.TheVariants as tasks
use Rattle.master_parts.specs.declared.pending.Work.TheVariants as works
use Rattle.gate_core.specs.declared.pending.Waiting.{Waiting}
use Rattle.over_core.specs.SweepCase.{IsNextApplied, SweepCase, swept_by, swept_edits, gone_replies}
use Rattle.cell_core.specs.Outcomes.{left_put}
use Rattle.master_state.specs.Replies.{turn_replies, puts_of, replies_to}
use Rattle.master_state.specs.Lapses.{lapses_of, lapses_puts, lapses_replies}
use Rattle.over_core.specs.SweepCase.SweepCase.{Quiet, Recovers, Expires, Reopens, Tidies, Spared, Tidied, Started, OfEnded, Ended, Applied, Deleted, Locked, Awaited, Left, Departed}
use Rattle.world_steps.specs.declared.mail.Message.{Message}
use Rattle.world_steps.specs.declared.mail.Message.TheVariants.{ToMaster, ToClient}
use Rattle.world_steps.specs.declared.steps.Step.{Step}
use Rattle.world_steps.specs.Messages.{out_at, call_of}
use Rattle.world_steps.specs.World.{WorldState}
use Rattle.world_cell.specs.Consistent.{OpensAs, IsAnswer, FitsMessages, IsConsistent}
use Rattle.world_cell.proofs.MessagesGrow.{out_more, out_among, one_no_out}
use Rattle.world_cell.proofs.LateReplies.{IsLate, AreLate, replies_late, application_late, lapses_late}
use Rattle.world_cell.proofs.MasterFits.{WasAsked, secret_note, application_sent}
use Rattle.world_cell.proofs.AnswersSent.{answer_stays, plain_answer, told_answer, answered_opens, applied_opens, AreAnswers, answer_at}
use Rattle.world_cell.proofs.OpensNamed.{answer_opens}
use Rattle.world_cell.proofs.RelockedRows.{let_go, relocked_rows}
use Rattle.world_cell.proofs.ConsistentSteps.{noted_fits, agrees_at}
use Rattle.world_cell.proofs.OwnSteps.{IsOwn, sending, asks_own, beats_own, gives_own}
use Rattle.world_cell.proofs.WorldCases.{WorldCase}
use Rattle.world_cell.proofs.WorldCases.WorldCase.{ComesUp, Joins, Asks, Beats, Gives, Ticks, Takes, Sweeps, GoesDown, CutsSweep, CutsUp, LosesUp}
use Rattle.lock_core.specs.declared.partings.Parting.TheVariants as partings

-- ---- what a master sends

abbrev Sends : List Message → List ℕ → List Out → Type 0
Sends sent secret out = AreAnswers (sent ++ map ToClient out) secret out

-- what may not be kept in a cache
sends_plain : (sent : List Message) (s : MasterState) (client number : ℕ) (result : CallResult) (call : CallMessage) → call_of sent client number ≡ Some call → OpensAs call.call result → Sends sent s.secret (outs.Reply (reply_of s client number result) ∷ [])
sends_plain sent s client number result call found opens =
    let reply = reply_of s client number result in
    (answer_stays sent (ToClient (outs.Reply reply) ∷ []) s.secret reply (plain_answer sent s.secret reply call found refl opens), tt)

sends_again : (sent : List Message) (s : MasterState) (client : ℕ) (kept : LastCall Reply) (o : Option Reply) → FitsMessages sent s → kept_of s client ≡ Some kept → kept.reply ≡ o → Sends sent s.secret (repeated_reply o).outs
sends_again sent s client kept None h is replied = tt
sends_again sent s client kept (Some reply) h is replied = (answer_stays sent (ToClient (outs.Reply reply) ∷ []) s.secret reply (h.answers client kept reply is replied), tt)

pub taken_answers : (sent : List Message) (s : MasterState) (request : Request) (c : TakeCase s request) → FitsMessages sent s → WasAsked sent request → Sends sent s.secret (taken_by s request c).1.outs
taken_answers sent s request (StartQueued start is may serving room) h asked = tt
taken_answers sent s request (BeatParked beat is epoch taken) h asked = tt
taken_answers sent s request (LeftBefore message kept request_is same_epoch ended is same) h asked = sends_again sent s message.client kept kept.reply h is refl
taken_answers sent s request (Repeated message kept heard is same) h asked = sends_again sent s message.client kept kept.reply h is refl
taken_answers sent s request (LeavesBeside message heard beside) h asked = tt
taken_answers sent s request (Recovering message new recovering) h asked = sends_plain sent s message.client message.number (results.Refused faults.Recovering) message (asked message new.heard.is_call) tt
taken_answers sent s request (Answered message note answer new serving answered) h asked =
    subst (λ secret. Sends sent secret (outs.Reply (reply_of (with_note s note) message.client message.number answer) ∷ [])) (secret_note s note)
    (sends_plain sent (with_note s note) message.client message.number answer message (asked message new.heard.is_call) (answered_opens s message note answer answered))
taken_answers sent s request (Granted message note answer name new serving may) h asked = (
  told_answer sent s.secret (stamped_reply (with_note s note) message.client message.number answer) message name (asked message new.heard.is_call)
      (told_is_shown s message.client message.number message.call message.sequencer name answer may.is_told may.is_answer).0
      (answer_opens s message.client message.number message.call message.sequencer answer may.is_answer),
  tt,
)
taken_answers sent s request (Waits message _ touched new serving admitted) h asked = tt
taken_answers sent s request _ h asked = (tt, tt)

-- to those that waited for a lock
late_answer : (sent : List Message) (s : MasterState) (reply : Reply) → FitsMessages sent s → IsLate s reply → IsAnswer sent s.secret reply
late_answer sent s reply h late =
    let was = h.kept reply.client late.kept late.is_kept in
    plain_answer sent s.secret reply was.call (ap (call_of sent reply.client) late.same ∙ was.found) late.unstamped (late.opens was.call.call)

late_answers : (sent more : List Message) (s : MasterState) (replies : List Reply) → FitsMessages sent s → AreLate s replies → AreAnswers (sent ++ more) s.secret (map outs.Reply replies)
late_answers sent more s [] h late = tt
late_answers sent more s (reply ∷ replies) h late = (answer_stays sent more s.secret reply (late_answer sent s reply h late.0), late_answers sent more s replies h late.1)

sends_late : (sent : List Message) (s : MasterState) (replies : List Reply) → FitsMessages sent s → AreLate s replies → Sends sent s.secret (map outs.Reply replies)
sends_late sent s replies h late = late_answers sent (map ToClient (map outs.Reply replies)) s replies h late

-- a call that has its turn is answered, and then those that waited for a lock
module _ (sent : List Message) (s : MasterState) (front : List (Waiting Task)) (asked : WaitingRequest) (back : List (Waiting Task)) (turn : IsNextApplied s front (tasks.Asked asked) back) (h : FitsMessages sent s) (call : Call) (sequencer : Option (List ℕ)) (work : asked.work ≡ works.Calls call sequencer) where
  application_answers : (answer : CallResult) (replies : List Reply) → OpensAs call answer → AreLate s replies → Sends sent s.secret (outs.Reply (reply_of s asked.client asked.number answer) ∷ map outs.Reply replies)
  application_answers answer replies opens late =
      let reply = reply_of s asked.client asked.number answer in
      let more = map ToClient (outs.Reply reply ∷ map outs.Reply replies) in
      let found = application_sent sent s front asked back turn h call sequencer work in
      (answer_stays sent more s.secret reply (plain_answer sent s.secret reply (record { client = asked.client; epoch = s.epoch; number = asked.number; call = call; sequencer = sequencer }) found refl opens), late_answers sent more s replies h late)

pub swept_answers : (sent : List Message) (s : MasterState) (c : SweepCase s) → FitsMessages sent s → Sends sent s.secret (swept_by s c).1.outs
swept_answers sent s (Quiet none) h = tt
swept_answers sent s (Recovers recovering heard) h = tt
swept_answers sent s (Expires client session due) h = sends_late sent s (lapses_replies s (lapses_of partings.Expiry s client)) h (lapses_late s (lapses_of partings.Expiry s client))
swept_answers sent s (Departed front back asked call sequencer session turn work leave found live) h =
    application_answers sent s front asked back turn h call sequencer work results.Done (lapses_replies s (lapses_of partings.Leave s asked.client)) tt
    (lapses_late s (lapses_of partings.Leave s asked.client))
swept_answers sent s (Reopens instance due) h =
    let lock = lock_at s.locks instance in
    sends_late sent s (turn_replies s (reopened lock)) h (application_late s (reopened lock))
swept_answers sent s (Tidies idle due) h = tt
swept_answers sent s (Spared front back idle turn held) h = tt
swept_answers sent s (Tidied front back idle turn still) h =
    sends_late sent s (gone_replies s idle) h (replies_late s (results.Refused faults.StaleInstance) (lock_at s.locks idle.instance).waiters (λ x. tt))
swept_answers sent s (OfEnded front back asked call sequencer turn work gone) h = tt
swept_answers sent s (Ended front back asked call sequencer _ answer turn work stays live made) h =
    application_answers sent s front asked back turn h call sequencer work answer [] (applied_opens s asked.client asked.number call sequencer _ answer made refl) tt
swept_answers sent s (Applied front back asked call sequencer _ change answer turn work stays live made) h =
    application_answers sent s front asked back turn h call sequencer work answer [] (applied_opens s asked.client asked.number call sequencer _ answer made refl) tt
swept_answers sent s (Deleted front back asked call sequencer change instance waiters answer turn work stays live made) h =
    let gone = results.Refused faults.StaleInstance in
    application_answers sent s front asked back turn h call sequencer work answer (replies_to s gone waiters) (applied_opens s asked.client asked.number call sequencer _ answer made refl)
    (replies_late s gone waiters (λ x. tt))
swept_answers sent s (Locked front back asked call sequencer put claim answer turn work stays live made) h =
    application_answers sent s front asked back turn h call sequencer work answer [] (applied_opens s asked.client asked.number call sequencer _ answer made refl) tt
swept_answers sent s (Awaited front back asked call sequencer put turn work stays live made) h = tt
swept_answers sent s (Left front back asked call sequencer _ leave answer turn work stays live made) h =
    application_answers sent s front asked back turn h call sequencer work answer (turn_replies s leave.turn) (applied_opens s asked.client asked.number call sequencer _ answer made refl)
    (application_late s leave.turn)
swept_answers sent s _ h = (tt, tt)

-- ---- the cell's secret stays

mod_secret : (rows : Rows) (change : Mod) (next : ℕ) → (changed_rows rows (edit_of change ∷ NextInstance next ∷ [])).secret ≡ rows.secret
mod_secret rows (Put name view) next = refl
mod_secret rows (Gone name) next = refl

pub swept_secret : (rows : Rows) (s : MasterState) (c : SweepCase s) → (changed_rows rows (swept_edits s c)).secret ≡ rows.secret
swept_secret rows s (Expires client session due) =
    (let_go rows (lock_changes s (lapses_puts s (lapses_of partings.Expiry s client))) client (record { principal = session.principal; live = false })).beside.secret
swept_secret rows s (Departed front back asked call sequencer session turn work leave found live) =
    (let_go rows (lock_changes s (lapses_puts s (lapses_of partings.Leave s asked.client))) asked.client (record { principal = session.principal; live = false })).beside.secret
swept_secret rows s (Reopens instance due) = (relocked_rows rows (lock_changes s (puts_of s instance (reopened (lock_at s.locks instance)).lock))).beside.secret
swept_secret rows s (Applied front back asked call sequencer _ change answer turn work stays live made) = mod_secret rows change.change change.next_instance
swept_secret rows s (Deleted front back asked call sequencer change instance waiters answer turn work stays live made) = mod_secret rows change.change change.next_instance
swept_secret rows s (Tidied front back idle turn still) = mod_secret rows (Gone idle.name) s.next_instance
swept_secret rows s (Locked front back asked call sequencer put claim answer turn work stays live made) = (relocked_rows rows (lock_changes s (put ∷ []))).beside.secret
swept_secret rows s (Awaited front back asked call sequencer put turn work stays live made) = (relocked_rows rows (lock_changes s (put ∷ []))).beside.secret
swept_secret rows s (Left front back asked call sequencer _ leave answer turn work stays live made) = (relocked_rows rows (lock_changes s (left_put leave ∷ []))).beside.secret
swept_secret rows s (Started front back asked principal received turn work none) =
    elim (retiring s) as (λ gone. (changed_rows rows (PutSession asked.client (record { principal = principal; live = true }) ∷ retire_edits s.ended_below gone)).secret ≡ rows.secret) [ None ↦ refl | Some client ↦ refl ]
swept_secret rows s _ = refl

-- ---- the messages after a step

-- all replies are answers
abbrev pub AllAnswer : List Message → List ℕ → Type 0
AllAnswer sent secret = (at : ℕ) (reply : Reply) → out_at sent at ≡ Some (outs.Reply reply) → IsAnswer sent secret reply

more_answer : (sent : List Message) (out : List Out) (secret : List ℕ) → AllAnswer sent secret → Sends sent secret out → AllAnswer (sent ++ map ToClient out) secret
more_answer sent out secret h sends at reply is = elim (out_more sent (map ToClient out) at (outs.Reply reply) is) [
  | inl a ↦ answer_stays sent (map ToClient out) secret reply (h at reply a)
  | inr b ↦ answer_at (sent ++ map ToClient out) secret out b.0 reply sends (out_among out b.0 (outs.Reply reply) b.1)
]

asked_answer : (sent : List Message) (o : Option Request) (secret : List ℕ) → AllAnswer sent secret → AllAnswer (sent ++ sending o) secret
asked_answer sent None secret h at reply is = elim (out_more sent [] at (outs.Reply reply) is) [
  | inl a ↦ answer_stays sent [] secret reply (h at reply a)
  | inr b ↦ cc
]
asked_answer sent (Some request) secret h at reply is = elim (out_more sent (ToMaster request ∷ []) at (outs.Reply reply) is) [
  | inl a ↦ answer_stays sent (ToMaster request ∷ []) secret reply (h at reply a)
  | inr b ↦ absurd (one_no_out request (outs.Reply reply) b.0 b.1)
]

-- ---- a step

abbrev pub AllReplied : WorldState → Type 0
AllReplied w = AllAnswer w.messages w.rows.secret

own_answers : (old new : WorldState) (printed : List Line) → AllReplied old → IsOwn old new printed → AllReplied new
own_answers old new printed h o =
    subst (λ (m : List Message). AllAnswer m new.rows.secret) (sym o.grown)
    (subst (λ (secret : List ℕ). AllAnswer (old.messages ++ sending o.sent) secret) (sym (ap (λ (w : WorldState). w.rows.secret) o.is)) (asked_answer old.messages o.sent old.rows.secret h))

secret_at : (w : WorldState) → IsConsistent w → (s : MasterState) → w.master ≡ Some s → s.secret ≡ w.rows.secret
secret_at w h s up = (agrees_at w w.master s up h.master).secret

pub replies_answer : (old : WorldState) (step : Step) (new : WorldState) (printed : List Line) → IsConsistent old → WorldCase old step new printed → AllReplied new
replies_answer old step new printed h (ComesUp u) = subst AllReplied (sym u.is) h.answers
replies_answer old step new printed h (Joins j) = subst AllReplied (sym j.is) h.answers
replies_answer old step new printed h (Asks a) = own_answers old new printed h.answers (asks_own old step new printed a)
replies_answer old step new printed h (Beats b) = own_answers old new printed h.answers (beats_own old step new printed b)
replies_answer old step new printed h (Gives g) = own_answers old new printed h.answers (gives_own old step new printed g)
replies_answer old step new printed h (Ticks t) = subst AllReplied (sym t.is) h.answers
replies_answer old step new printed h (Takes t) =
    let s = noted t.master old.clock in
    let asked = λ (call : CallMessage) (e : t.request ≡ requests.Call call). h.named t.at call (t.was_sent ∙ ap (λ r. Some r) e) in
    subst AllReplied (sym t.is) (more_answer old.messages (taken_by s t.request t.case).1.outs old.rows.secret h.answers
    (subst (λ (secret : List ℕ). Sends old.messages secret (taken_by s t.request t.case).1.outs) (secret_at old h t.master t.is_up) (taken_answers old.messages s t.request t.case (noted_fits old h t.master t.is_up) asked)))
replies_answer old step new printed h (Sweeps t) =
    let s = noted t.master old.clock in
    subst AllReplied (sym t.is) (subst (λ (secret : List ℕ). AllAnswer (old.messages ++ map ToClient (swept_by s t.case).1.outs) secret) (sym (swept_secret old.rows s t.case))
    (more_answer old.messages (swept_by s t.case).1.outs old.rows.secret h.answers
    (subst (λ (secret : List ℕ). Sends old.messages secret (swept_by s t.case).1.outs) (secret_at old h t.master t.is_up) (swept_answers old.messages s t.case (noted_fits old h t.master t.is_up)))))
replies_answer old step new printed h (GoesDown d) = subst AllReplied (sym d.is) h.answers
replies_answer old step new printed h (CutsSweep k) =
    let t = k.sweeps in
    let same : k.mid.rows.secret ≡ old.rows.secret = ap (λ (w : WorldState). w.rows.secret) t.is ∙ swept_secret old.rows (noted t.master old.clock) t.case in
    subst AllReplied (sym k.is) (subst (AllAnswer old.messages) (sym same) h.answers)
replies_answer old step new printed h (CutsUp k) =
    let same : k.mid.rows.secret ≡ old.rows.secret = ap (λ (w : WorldState). w.rows.secret) k.comes.is in
    subst AllReplied (sym k.is) (subst (AllAnswer old.messages) (sym same) h.answers)
replies_answer old step new printed h (LosesUp k) = subst AllReplied (sym k.is) h.answers
