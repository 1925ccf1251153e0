-- What a new call is answered that is answered at once.
use Rattle.std.proofs.Common.{◌≡◌, [], ◌∷◌, false, Some, refl, sym, ap, subst, ◌∙◌, ⊎_elim, arith}
use Rattle.std.specs.Prelude.{Contains}
use Rattle.std.proofs.lemmas.List.Elements.{Contains-push, Contains-push_cases}
use Rattle.tags_cell.specs.declared.messages.outs.CallResult.{CallResult}
use Rattle.tags_cell.specs.declared.messages.outs.Out.TheVariants as outs
use Rattle.tags_cell.specs.declared.messages.outs.Reply.{Reply}
use Rattle.tags_cell.specs.declared.messages.requests.CallMessage.{CallMessage}
use Rattle.master_parts.specs.declared.pending.Taken.{Taken}
use Rattle.master_state.specs.State.{MasterState}
use Rattle.master_state.specs.Lookups.{reply_of, stamped_reply}
use Rattle.master_state.specs.Updates.{with_note}
use Rattle.cell_core.specs.Step.{admission_for}
use Rattle.master_laws.specs.Steps.{IsAnsweredBy}
use Rattle.master_laws.proofs.NewCalls.{NewCase, new_by, IsNewCase}
use Rattle.master_laws.proofs.NewCalls.NewCase.{Recovers, Answers, Grants, Queues}

-- ---- a single reply

pub none_in : {X : Type 0} (x : X) → Contains [] x → ⊥
none_in x h = omega (arith, h.1)

pub only_one : {X : Type 0} (x y : X) → Contains (x ∷ []) y → x ≡ y
only_one x y h = ⊎_elim (λ none. absurd (none_in y none)) (λ same. same) (Contains-push_cases [] x y h)

-- one reply alone is sent, to the call, with this result
pub record IsSent (taken : Taken) (message : CallMessage) (result : CallResult) : Type 0 where
  pub reply : Reply
  pub alone : taken.outs ≡ outs.Reply reply ∷ []
  pub client : reply.client ≡ message.client
  pub number : reply.number ≡ message.number
  pub is_result : reply.result ≡ result

pub is_answered : (taken : Taken) (message : CallMessage) (result : CallResult) → IsSent taken message result → IsAnsweredBy taken message result
is_answered taken message result h = record {
  reply = h.reply;
  is_sent = subst (λ sent. Contains sent (outs.Reply h.reply)) (sym h.alone) (Contains-push [] (outs.Reply h.reply));
  client = h.client;
  number = h.number;
  is_result = h.is_result;
}

-- so it is the one with which the call is answered
pub same_answer : (taken : Taken) (message : CallMessage) (result other : CallResult) → IsSent taken message result → IsAnsweredBy taken message other → other ≡ result
same_answer taken message result other h k =
    let is : outs.Reply h.reply ≡ outs.Reply k.reply = only_one (outs.Reply h.reply) (outs.Reply k.reply) (subst (λ sent. Contains sent (outs.Reply k.reply)) h.alone k.is_sent) in
    let same : h.reply ≡ k.reply = cc in
    sym k.is_result ∙ ap (λ r. r.result) (sym same) ∙ h.is_result

-- ---- by the tests of the call

module _ (s : MasterState) (message : CallMessage) (new : MasterState) (taken : Taken) (answer : CallResult) (serving : s.recovering ≡ false) (at_once : (admission_for s message).answer ≡ Some answer) where
  -- it is answered by the tests
  sent_as : (c : NewCase s message) → (new, taken) ≡ new_by s message c → IsSent taken message answer
  sent_as (Recovers recovering) is = absurd cc
  sent_as (Answers noted other going h) is =
      let same : other ≡ answer = ⊎_elim (λ l. let e = l.0 in cc) (λ r. let e = r.0 in absurd cc) h.is_answer in
      record { reply = reply_of (with_note s noted) message.client message.number other; alone = ap (λ p. p.1.outs) is; client = refl; number = refl; is_result = same }
  sent_as (Grants noted other name going h) is =
      let e = h.is_answer in
      let same : other ≡ answer = cc in
      record { reply = stamped_reply (with_note s noted) message.client message.number other; alone = ap (λ p. p.1.outs) is; client = refl; number = refl; is_result = same }
  sent_as (Queues noted touched going h) is = let e = h.passes in absurd cc

  pub sent_at_once : IsNewCase s message (new, taken) → IsSent taken message answer
  sent_at_once c = sent_as c.0 c.1
