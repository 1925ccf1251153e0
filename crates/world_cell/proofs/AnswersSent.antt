-- Each reply that is sent is to a call that was sent before, whatever the master takes or sweeps.
use Rattle.std.proofs.Common.{◌≡◌, ℕ, List, [], ◌∷◌, ◌++◌, Option, Some, None, sym, ap, ◌∙◌, inl, inr, subst, zero, suc}
use Rattle.std.specs.List.{slice_get}
use Rattle.tags_cell.specs.declared.messages.calls.Call.{Call}
use Rattle.tags_cell.specs.declared.messages.requests.CallMessage.{CallMessage}
use Rattle.tags_cell.specs.declared.messages.outs.CallResult.{CallResult}
use Rattle.tags_cell.specs.declared.messages.outs.Out.{Out}
use Rattle.tags_cell.specs.declared.messages.outs.Out.TheVariants as outs
use Rattle.tags_cell.specs.declared.messages.outs.Reply.{Reply}
use Rattle.master_parts.specs.declared.handles.HandleNote.{HandleNote}
use Rattle.master_state.specs.NameSpace.{name_space, caller}
use Rattle.master_state.specs.State.{MasterState}
use Rattle.cell_core.specs.Names.{name_asked}
use Rattle.cell_core.specs.Cases.{IsAnswered}
use Rattle.cell_core.specs.declared.effects.Effect.{Effect}
use Rattle.cell_core.specs.Effect.{effect}
use Rattle.world_steps.specs.declared.mail.Message.{Message}
use Rattle.world_steps.specs.declared.mail.Message.TheVariants.{ToClient}
use Rattle.world_steps.specs.Messages.{call_of}
use Rattle.world_cell.specs.Consistent.{OpensAs, IsAnswer}
use Rattle.world_cell.proofs.MessagesGrow.{call_stays}
use Rattle.world_cell.proofs.GrantsSent.{none_granted, now_granted, later_granted}
use Rattle.world_cell.proofs.OpensNamed.{answer_opens, effect_opens}

-- ---- one reply

-- what is an answer stays one
pub answer_stays : (xs ys : List Message) (secret : List ℕ) (reply : Reply) → IsAnswer xs secret reply → IsAnswer (xs ++ ys) secret reply
answer_stays xs ys secret reply h = record {
  call = h.call;
  found = call_stays xs ys reply.client reply.number h.call h.found;
  tells = h.tells;
  granted = later_granted xs ys secret reply.client reply h.call h.found h.granted;
  opens = h.opens;
}

never : {X : Type 0} (o : Option ℕ) (stamp : ℕ) → o ≡ None → o ≡ Some stamp → X
never o stamp none is = cc

-- by what may not be kept in a cache
pub plain_answer : (sent : List Message) (secret : List ℕ) (reply : Reply) (call : CallMessage) → call_of sent reply.client reply.number ≡ Some call → reply.stamp ≡ None → OpensAs call.call reply.result → IsAnswer sent secret reply
plain_answer sent secret reply call found none opens = record {
  call = call;
  found = found;
  tells = λ stamp is. never reply.stamp stamp none is;
  granted = none_granted sent secret reply.client reply none;
  opens = opens;
}

-- and by what tells what a name shows
pub told_answer : (sent : List Message) (secret : List ℕ) (reply : Reply) (call : CallMessage) (name : List ℕ) → call_of sent reply.client reply.number ≡ Some call → name_asked secret call.call ≡ Some name → OpensAs call.call reply.result → IsAnswer (sent ++ ToClient (outs.Reply reply) ∷ []) secret reply
told_answer sent secret reply call name found asks opens = record {
  call = call;
  found = call_stays sent (ToClient (outs.Reply reply) ∷ []) reply.client reply.number call found;
  tells = λ stamp is. (name, asks);
  granted = now_granted sent secret reply.client reply;
  opens = opens;
}

-- ---- what is answered

-- what a message is answered at once opens its name
pub answered_opens : (s : MasterState) (message : CallMessage) (note : Option HandleNote) (answer : CallResult) → IsAnswered s message note answer → OpensAs message.call answer
answered_opens s message _ answer h = elim h.is_answer [
  | inl t ↦ answer_opens s message.client message.number message.call message.sequencer answer t.0
  | inr t ↦ subst (OpensAs message.call) (sym t.2) tt
]

-- and what a call comes to when its turn comes
pub applied_opens : (s : MasterState) (client number : ℕ) (call : Call) (sequencer : Option (List ℕ)) (effected : Effect) (answer : CallResult) → effect (name_space s) (caller s client) s.clock number call sequencer ≡ effected → effected.answer ≡ Some answer → OpensAs call answer
applied_opens s client number call sequencer effected answer is answered = effect_opens s client number call sequencer answer (ap (λ (e : Effect). e.answer) is ∙ answered)

-- ---- several messages

abbrev pub IsAnswerOut : List Message → List ℕ → Out → Type 0
IsAnswerOut sent secret (outs.Reply reply) = IsAnswer sent secret reply
IsAnswerOut sent secret _ = Unit {0}

abbrev pub AreAnswers : List Message → List ℕ → List Out → Type 0
AreAnswers sent secret [] = Unit {0}
AreAnswers sent secret (out ∷ rest) = IsAnswerOut sent secret out × AreAnswers sent secret rest

pub answer_at : (sent : List Message) (secret : List ℕ) (out : List Out) (j : ℕ) (reply : Reply) → AreAnswers sent secret out → slice_get out j ≡ Some (outs.Reply reply) → IsAnswer sent secret reply
answer_at sent secret [] j reply h k = cc
answer_at sent secret (out ∷ rest) zero reply h k =
    let e : out ≡ outs.Reply reply = cc in subst (IsAnswerOut sent secret) e h.0
answer_at sent secret (out ∷ rest) (suc j) reply h k = answer_at sent secret rest j reply h.1 k
