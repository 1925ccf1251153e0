-- Messages only grow: what is found among them stays, and what is found then was there or is new.
use Rattle.std.proofs.Common.{◌≡◌, ℕ, ◌-◌, List, [], ◌∷◌, ◌++◌, Bool, true, false, cond, Option, Some, None, refl, sym, ap, ◌∙◌, inl, inr, arith, map, zero, suc, eqb}
use Rattle.std.specs.Prelude.{◌⊎◌, ◌==◌, ◌&&◌}
use Rattle.std.specs.Option.{option_map_or}
use Rattle.std.specs.List.{slice_get}
use Rattle.std.proofs.lemmas.Bool.Decides.{nat_tests}
use Rattle.tags_cell.specs.declared.messages.requests.Request.{Request}
use Rattle.tags_cell.specs.declared.messages.requests.Request.TheVariants as requests
use Rattle.tags_cell.specs.declared.messages.requests.CallMessage.{CallMessage}
use Rattle.tags_cell.specs.declared.messages.outs.Out.{Out}
use Rattle.world_steps.specs.declared.mail.Message.{Message}
use Rattle.world_steps.specs.declared.mail.Message.TheVariants.{ToMaster, ToClient}
use Rattle.world_steps.specs.Messages.{message_at, as_request, as_out, request_at, out_at, put_call, call_of}

-- ---- by their numbers

get_more : {X : Type 0} (xs ys : List X) (i : ℕ) (x : X) → slice_get (xs ++ ys) i ≡ Some x → (slice_get xs i ≡ Some x) ⊎ ((j : ℕ) × (slice_get ys j ≡ Some x))
get_more [] ys i x h = inr (i, h)
get_more (y ∷ xs) ys zero x h = inl h
get_more (y ∷ xs) ys (suc i) x h = get_more xs ys i x h

pub message_more : (sent more : List Message) (at : ℕ) (m : Message) → message_at (sent ++ more) at ≡ Some m → (message_at sent at ≡ Some m) ⊎ ((j : ℕ) × (slice_get more j ≡ Some m))
message_more sent more at m h =
    (elim (at == 0) as (λ b. cond b None (slice_get (sent ++ more) (at - 1)) ≡ Some m → (cond b None (slice_get sent (at - 1)) ≡ Some m) ⊎ ((j : ℕ) × (slice_get more j ≡ Some m))) [
      | true ↦ (λ k. cc)
      | false ↦ (λ k. get_more sent more (at - 1) m k)
    ]) h

is_request : (o : Option Message) (r : Request) → option_map_or as_request o None ≡ Some r → o ≡ Some (ToMaster r)
is_request None r h = cc
is_request (Some (ToMaster q)) r h = let e : q ≡ r = cc in ap (λ x. Some (ToMaster x)) e
is_request (Some (ToClient out)) r h = cc

is_out : (o : Option Message) (r : Out) → option_map_or as_out o None ≡ Some r → o ≡ Some (ToClient r)
is_out None r h = cc
is_out (Some (ToMaster q)) r h = cc
is_out (Some (ToClient out)) r h = let e : out ≡ r = cc in ap (λ x. Some (ToClient x)) e

pub request_more : (sent more : List Message) (at : ℕ) (r : Request) → request_at (sent ++ more) at ≡ Some r → (request_at sent at ≡ Some r) ⊎ ((j : ℕ) × (slice_get more j ≡ Some (ToMaster r)))
request_more sent more at r h =
    elim (message_more sent more at (ToMaster r) (is_request (message_at (sent ++ more) at) r h)) [
      | inl k ↦ inl (ap (λ o. option_map_or as_request o None) k)
      | inr k ↦ inr k
    ]

pub out_more : (sent more : List Message) (at : ℕ) (r : Out) → out_at (sent ++ more) at ≡ Some r → (out_at sent at ≡ Some r) ⊎ ((j : ℕ) × (slice_get more j ≡ Some (ToClient r)))
out_more sent more at r h =
    elim (message_more sent more at (ToClient r) (is_out (message_at (sent ++ more) at) r h)) [
      | inl k ↦ inl (ap (λ o. option_map_or as_out o None) k)
      | inr k ↦ inr k
    ]

-- where nothing was sent nothing is found
pub none_sent : {X : Type 0} (at : ℕ) (r : Request) → request_at [] at ≡ Some r → X
none_sent at r h = absurd ((elim (at == 0) as (λ b. option_map_or as_request (cond b None (slice_get [] (at - 1))) None ≡ Some r → ⊥) [ true ↦ (λ k. cc) | false ↦ (λ k. cc) ]) h)

pub none_out : {X : Type 0} (at : ℕ) (r : Out) → out_at [] at ≡ Some r → X
none_out at r h = absurd ((elim (at == 0) as (λ b. option_map_or as_out (cond b None (slice_get [] (at - 1))) None ≡ Some r → ⊥) [ true ↦ (λ k. cc) | false ↦ (λ k. cc) ]) h)

-- ---- by client and number

abbrev pub first_of : Option CallMessage → Option CallMessage → Option CallMessage
first_of (Some call) later = Some call
first_of None later = later

put_first : (client number : ℕ) (m : Message) (a b : Option CallMessage) → put_call client number m (first_of a b) ≡ first_of (put_call client number m a) b
put_first client number (ToClient out) a b = refl
put_first client number (ToMaster (requests.Start start)) a b = refl
put_first client number (ToMaster (requests.Beat beat)) a b = refl
put_first client number (ToMaster (requests.Call call)) a b =
    elim (call.client == client && call.number == number) as (λ t. cond t (Some call) (first_of a b) ≡ first_of (cond t (Some call) a) b) [ true ↦ refl | false ↦ refl ]

pub call_append : (xs ys : List Message) (client number : ℕ) → call_of (xs ++ ys) client number ≡ first_of (call_of xs client number) (call_of ys client number)
call_append [] ys client number = refl
call_append (x ∷ xs) ys client number = ap (put_call client number x) (call_append xs ys client number) ∙ put_first client number x (call_of xs client number) (call_of ys client number)

-- what was found is found
pub call_stays : (xs ys : List Message) (client number : ℕ) (call : CallMessage) → call_of xs client number ≡ Some call → call_of (xs ++ ys) client number ≡ Some call
call_stays xs ys client number call h = call_append xs ys client number ∙ ap (λ o. first_of o (call_of ys client number)) h

first_is : (a b : Option CallMessage) (call : CallMessage) → first_of a b ≡ Some call → (a ≡ Some call) ⊎ (b ≡ Some call)
first_is (Some x) b call h = inl h
first_is None b call h = inr h

-- what is found was there, or is new
pub call_more : (xs ys : List Message) (client number : ℕ) (call : CallMessage) → call_of (xs ++ ys) client number ≡ Some call → (call_of xs client number ≡ Some call) ⊎ (call_of ys client number ≡ Some call)
call_more xs ys client number call h = first_is (call_of xs client number) (call_of ys client number) call (sym (call_append xs ys client number) ∙ h)

pub call_new : (xs ys : List Message) (client number : ℕ) → call_of xs client number ≡ None → call_of (xs ++ ys) client number ≡ call_of ys client number
call_new xs ys client number h = call_append xs ys client number ∙ ap (λ o. first_of o (call_of ys client number)) h

-- no call is sent to a client
pub no_call : (outs : List Out) (client number : ℕ) → call_of (map ToClient outs) client number ≡ None
no_call [] client number = refl
no_call (out ∷ outs) client number = no_call outs client number

pub no_request : (outs : List Out) (j : ℕ) (r : Request) → slice_get (map ToClient outs) j ≡ Some (ToMaster r) → ⊥
no_request [] j r h = cc
no_request (out ∷ outs) zero r h = cc
no_request (out ∷ outs) (suc j) r h = no_request outs j r h

and_true : (a b : Bool) → (a && b) ≡ true → (a ≡ true) × (b ≡ true)
and_true true true h = (refl, refl)
and_true true false h = cc
and_true false b h = cc

same : (n m : ℕ) → eqb n m ≡ true → n ≡ m
same n m h = grind (arith, nat_tests)

itself : (n : ℕ) → (n == n) ≡ true
itself n = grind (arith, nat_tests)

-- the one call is found under its own client and number alone
pub one_call : (call found : CallMessage) (client number : ℕ) → call_of (ToMaster (requests.Call call) ∷ []) client number ≡ Some found → (found ≡ call) × (call.client ≡ client) × (call.number ≡ number)
one_call call found client number h =
    (elim (call.client == client && call.number == number) as (λ b. (call.client == client && call.number == number) ≡ b → cond b (Some call) None ≡ Some found → (found ≡ call) × (call.client ≡ client) × (call.number ≡ number)) [
      | true ↦ (λ t k.
          let e : call ≡ found = cc in
          let p = and_true (call.client == client) (call.number == number) t in
          (sym e, same call.client client p.0, same call.number number p.1))
      | false ↦ (λ t k. cc)
    ]) refl h

pub its_call : (call : CallMessage) → call_of (ToMaster (requests.Call call) ∷ []) call.client call.number ≡ Some call
its_call call = rw (itself call.client, itself call.number) refl

pub one_request : (q r : Request) (j : ℕ) → slice_get (ToMaster q ∷ []) j ≡ Some (ToMaster r) → r ≡ q
one_request q r zero h = cc
one_request q r (suc j) h = cc

pub one_no_out : (q : Request) (r : Out) (j : ℕ) → slice_get (ToMaster q ∷ []) j ≡ Some (ToClient r) → ⊥
one_no_out q r zero h = cc
one_no_out q r (suc j) h = cc

pub out_among : (outs : List Out) (j : ℕ) (r : Out) → slice_get (map ToClient outs) j ≡ Some (ToClient r) → slice_get outs j ≡ Some r
out_among [] j r h = cc
out_among (out ∷ outs) zero r h = let e : out ≡ r = cc in ap (λ x. Some x) e
out_among (out ∷ outs) (suc j) r h = out_among outs j r h
