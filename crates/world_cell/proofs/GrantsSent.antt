-- What was granted by the messages, as they grow.
use Rattle.std.proofs.Common.{◌≡◌, ℕ, List, [], ◌∷◌, ◌++◌, true, false, cond, Option, Some, None, refl, sym, ap, ◌∙◌, inl, inr, append_assoc, subst}
use Rattle.std.specs.Prelude.{◌==◌, ◌&&◌, fold}
use Rattle.std.proofs.lemmas.List.{append-nil}
use Rattle.coherence.specs.Slice as one
use Rattle.coherence.specs.Slice.{IsIn}
use Rattle.tags_cell.specs.declared.messages.requests.Request.{Request}
use Rattle.tags_cell.specs.declared.messages.requests.CallMessage.{CallMessage}
use Rattle.tags_cell.specs.declared.messages.outs.Out.{Out}
use Rattle.tags_cell.specs.declared.messages.outs.Out.TheVariants as outs
use Rattle.tags_cell.specs.declared.messages.outs.Reply.{Reply}
use Rattle.world_steps.specs.declared.mail.Message.{Message}
use Rattle.world_steps.specs.declared.mail.Message.TheVariants.{ToMaster, ToClient}
use Rattle.world_steps.specs.Messages.{call_of}
use Rattle.world_cell.specs.Slices.{Shown, Grants, GrantsSoFar, asks_for, stamped_grant, reply_grant, grant_of, put_grant, grants_of}
use Rattle.world_cell.specs.Consistent.{HasGranted}
use Rattle.world_cell.proofs.MessagesGrow.{first_of, call_append, call_stays}

-- ---- lists

pub in_front : {X : Type 0} (x : X) (xs ys : List X) → IsIn x xs → IsIn x (xs ++ ys)
in_front x [] ys h = absurd h
in_front x (y ∷ xs) ys (inl h) = inl h
in_front x (y ∷ xs) ys (inr h) = inr (in_front x xs ys h)

pub in_back : {X : Type 0} (x : X) (xs ys : List X) → IsIn x ys → IsIn x (xs ++ ys)
in_back x [] ys h = h
in_back x (y ∷ xs) ys h = inr (in_back x xs ys h)

-- ---- one message

module _ (client : ℕ) (name secret : List ℕ) where
  stamped_front : (reply : Reply) (stamp : Option ℕ) (grants : Grants) → stamped_grant reply stamp grants ≡ stamped_grant reply stamp [] ++ grants
  stamped_front reply None grants = refl
  stamped_front reply (Some stamp) grants = refl

  reply_front : (call : Option CallMessage) (reply : Reply) (grants : Grants) → reply_grant client name secret call reply grants ≡ reply_grant client name secret call reply [] ++ grants
  reply_front call reply grants =
      elim (client == reply.client && asks_for secret name call) as (λ b. cond b (stamped_grant reply reply.stamp grants) grants ≡ cond b (stamped_grant reply reply.stamp []) [] ++ grants) [
        | true ↦ stamped_front reply reply.stamp grants
        | false ↦ refl
      ]

  -- what a message grants comes in front of what was granted
  pub grant_front : (before : List Message) (out : Out) (grants : Grants) → grant_of client name secret before out grants ≡ grant_of client name secret before out [] ++ grants
  grant_front before (outs.Started started) grants = refl
  grant_front before (outs.Alive alive) grants = refl
  grant_front before (outs.Reply reply) grants = reply_front (call_of before reply.client reply.number) reply grants
  grant_front before (outs.Refused refused) grants = refl

  -- a reply that may not be kept grants nothing
  pub unstamped : (before : List Message) (reply : Reply) (grants : Grants) → reply.stamp ≡ None → grant_of client name secret before (outs.Reply reply) grants ≡ grants
  unstamped before reply grants none =
      ap (λ stamp. cond (client == reply.client && asks_for secret name (call_of before reply.client reply.number)) (stamped_grant reply stamp grants) grants) none
      ∙ elim (client == reply.client && asks_for secret name (call_of before reply.client reply.number)) as (λ b. cond b grants grants ≡ grants) [ true ↦ refl | false ↦ refl ]

  -- the call that it answers decides
  pub same_grant : (before after : List Message) (reply : Reply) (grants : Grants) → call_of after reply.client reply.number ≡ call_of before reply.client reply.number → grant_of client name secret after (outs.Reply reply) grants ≡ grant_of client name secret before (outs.Reply reply) grants
  same_grant before after reply grants same = ap (λ call. reply_grant client name secret call reply grants) same

-- ---- all messages

module _ (client : ℕ) (name secret : List ℕ) where
  abbrev pub granted_by : GrantsSoFar → List Message → GrantsSoFar
  granted_by granted sent = fold (put_grant client name secret) granted sent

  -- all that was looked at
  pub looked_at : (sent : List Message) (granted : GrantsSoFar) → (granted_by granted sent).before ≡ granted.before ++ sent
  looked_at [] granted = sym (append-nil granted.before)
  looked_at (ToMaster request ∷ rest) granted = looked_at rest (put_grant client name secret granted (ToMaster request)) ∙ append_assoc granted.before (ToMaster request ∷ []) rest
  looked_at (ToClient out ∷ rest) granted = looked_at rest (put_grant client name secret granted (ToClient out)) ∙ append_assoc granted.before (ToClient out ∷ []) rest

  by_more : (xs ys : List Message) (granted : GrantsSoFar) → granted_by granted (xs ++ ys) ≡ granted_by (granted_by granted xs) ys
  by_more [] ys granted = refl
  by_more (x ∷ xs) ys granted = by_more xs ys (put_grant client name secret granted x)

  abbrev nothing : GrantsSoFar
  nothing = record { before = []; grants = [] }

  -- a message to the master grants nothing
  pub grants_request : (sent : List Message) (request : Request) → grants_of client name secret (sent ++ ToMaster request ∷ []) ≡ grants_of client name secret sent
  grants_request sent request = ap (λ (g : GrantsSoFar). g.grants) (by_more sent (ToMaster request ∷ []) nothing)

  -- one to a client is looked at after all that were sent before it
  pub grants_out : (sent : List Message) (out : Out) → grants_of client name secret (sent ++ ToClient out ∷ []) ≡ grant_of client name secret sent out (grants_of client name secret sent)
  grants_out sent out =
      ap (λ (g : GrantsSoFar). g.grants) (by_more sent (ToClient out ∷ []) nothing)
      ∙ ap (λ before. grant_of client name secret before out (grants_of client name secret sent)) (looked_at sent nothing)

  stays_by : (grant : one.Grant Shown) (ys : List Message) (granted : GrantsSoFar) → IsIn grant granted.grants → IsIn grant (granted_by granted ys).grants
  stays_by grant [] granted h = h
  stays_by grant (ToMaster request ∷ ys) granted h = stays_by grant ys (put_grant client name secret granted (ToMaster request)) h
  stays_by grant (ToClient out ∷ ys) granted h =
      stays_by grant ys (put_grant client name secret granted (ToClient out))
      (subst (IsIn grant) (sym (grant_front client name secret granted.before out granted.grants)) (in_back grant (grant_of client name secret granted.before out []) granted.grants h))

  -- what was granted stays
  pub grants_stay : (grant : one.Grant Shown) (xs ys : List Message) → IsIn grant (grants_of client name secret xs) → IsIn grant (grants_of client name secret (xs ++ ys))
  grants_stay grant xs ys h =
      subst (λ (g : GrantsSoFar). IsIn grant g.grants) (sym (by_more xs ys nothing)) (stays_by grant ys (granted_by nothing xs) h)

-- ---- a reply that is kept

-- one that may not be kept in a cache grants nothing
pub none_granted : (sent : List Message) (secret : List ℕ) (client : ℕ) (reply : Reply) → reply.stamp ≡ None → HasGranted sent secret client reply
none_granted sent secret client reply none name grant h = absurd (subst (IsIn grant) (unstamped client name secret sent reply [] none) h)

first_none : (a : Option CallMessage) → first_of a None ≡ a
first_none None = refl
first_none (Some call) = refl

-- one that is sent now grants what it grants
pub now_granted : (sent : List Message) (secret : List ℕ) (client : ℕ) (reply : Reply) → HasGranted (sent ++ ToClient (outs.Reply reply) ∷ []) secret client reply
now_granted sent secret client reply name grant h =
    let all = sent ++ ToClient (outs.Reply reply) ∷ [] in
    let same : call_of all reply.client reply.number ≡ call_of sent reply.client reply.number =
    call_append sent (ToClient (outs.Reply reply) ∷ []) reply.client reply.number ∙ first_none (call_of sent reply.client reply.number) in
    let here : IsIn grant (grant_of client name secret sent (outs.Reply reply) []) = subst (IsIn grant) (same_grant client name secret sent all reply [] same) h in
    subst (IsIn grant) (sym (grants_out client name secret sent (outs.Reply reply) ∙ grant_front client name secret sent (outs.Reply reply) (grants_of client name secret sent)))
    (in_front grant (grant_of client name secret sent (outs.Reply reply) []) (grants_of client name secret sent) here)

-- and what was granted by one whose call was sent stays so
pub later_granted : (sent more : List Message) (secret : List ℕ) (client : ℕ) (reply : Reply) (call : CallMessage) → call_of sent reply.client reply.number ≡ Some call → HasGranted sent secret client reply → HasGranted (sent ++ more) secret client reply
later_granted sent more secret client reply call found granted name grant h =
    let same : call_of (sent ++ more) reply.client reply.number ≡ call_of sent reply.client reply.number =
    call_stays sent more reply.client reply.number call found ∙ sym found in
    grants_stay client name secret grant sent more (granted name grant (subst (IsIn grant) (same_grant client name secret sent (sent ++ more) reply [] same) h))
