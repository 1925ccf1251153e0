-- Entries of which some are left out, messages wherever they stand, and what of the parts a history without a keeper tells.
use Rattle.std.proofs.Common.{◌≡◌, ℕ, ◌+◌, ◌-◌, ◌≤◌, List, [], ◌∷◌, ◌++◌, true, false, cond, map, Option, Some, None, zero, suc, refl, sym, ap, ◌∙◌, subst, arith, inl, inr}
use Rattle.std.specs.Prelude.{◌⊎◌, ◌==◌, ◌&&◌}
use Rattle.std.specs.Option.{option_map_or}
use Rattle.std.specs.List.{slice_get}
use Rattle.std.proofs.lemmas.Bool.Decides.{nat_tests}
use Rattle.node_core.specs.declared.lines.Line.{Line}
use Rattle.tags_cell.specs.declared.messages.requests.Request.{Request}
use Rattle.tags_cell.specs.declared.messages.requests.Request.TheVariants as requests
use Rattle.tags_cell.specs.declared.messages.requests.CallMessage.{CallMessage}
use Rattle.tags_cell.specs.declared.messages.outs.Out.{Out}
use Rattle.tags_cell.specs.Messages.{out_client}
use Rattle.client_core.specs.State.{ClientState, new_client}
use Rattle.world_steps.specs.declared.mail.Message.{Message}
use Rattle.world_steps.specs.declared.mail.Message.TheVariants.{ToMaster, ToClient}
use Rattle.world_steps.specs.Messages.{message_at, as_request, as_out, request_at, out_at, call_of}
use Rattle.history_laws.specs.Parts.{Parts, Deed, ComesUp, FallsComingUp, Takes, Sweeps, FallsSweeping, AnswersBeat, Goes, Begins, Asks, Beats, Hears, with_client, sent_by, sent_as}
use Rattle.history_laws.specs.Histories.{Clocks, Entry, Does, MoveFairly, KeepFair, GoOn, AreMoments, AreFair, UnlessBegun, begins_life}
use Rattle.history_laws.specs.Kept.{IsOfOthers}
use Rattle.history_laws.specs.Crashes.{deed_edits, deed_frees}

-- ---- messages, wherever they stand

abbrev pub Among : Message → List Message → Type 0
Among m [] = ⊥
Among m (x ∷ xs) = (x ≡ m) ⊎ Among m xs

pub among_left : (m : Message) (xs ys : List Message) → Among m xs → Among m (xs ++ ys)
among_left m [] ys h = absurd h
among_left m (x ∷ xs) ys (inl is) = inl is
among_left m (x ∷ xs) ys (inr rest) = inr (among_left m xs ys rest)

pub among_right : (m : Message) (xs ys : List Message) → Among m ys → Among m (xs ++ ys)
among_right m [] ys h = h
among_right m (x ∷ xs) ys h = inr (among_right m xs ys h)

pub among_either : (m : Message) (xs ys : List Message) → Among m (xs ++ ys) → Among m xs ⊎ Among m ys
among_either m [] ys h = inr h
among_either m (x ∷ xs) ys (inl is) = inl (inl is)
among_either m (x ∷ xs) ys (inr rest) = elim (among_either m xs ys rest) [ inl h ↦ inl (inr h) | inr h ↦ inr h ]

got_among : (m : Message) (xs : List Message) (j : ℕ) → slice_get xs j ≡ Some m → Among m xs
got_among m [] j h = cc
got_among m (x ∷ xs) zero h = inl cc
got_among m (x ∷ xs) (suc j) h = inr (got_among m xs j h)

among_got : (m : Message) (xs : List Message) → Among m xs → (j : ℕ) × (slice_get xs j ≡ Some m)
among_got m [] h = absurd h
among_got m (x ∷ xs) (inl is) = (zero, ap (λ y. Some y) is)
among_got m (x ∷ xs) (inr rest) = let r = among_got m xs rest in (suc r.0, r.1)

message_among : (sent : List Message) (at : ℕ) (m : Message) → message_at sent at ≡ Some m → Among m sent
message_among sent at m h =
    (elim (at == 0) as (λ b. cond b None (slice_get sent (at - 1)) ≡ Some m → Among m sent) [
      | true ↦ (λ k. cc)
      | false ↦ (λ k. got_among m sent (at - 1) k)
    ]) h

next_place : (j : ℕ) → ((j + 1) == 0) ≡ false
next_place j = grind (arith, nat_tests)

next_less : (j : ℕ) → (j + 1) - 1 ≡ j
next_less j = omega arith

among_message : (sent : List Message) (m : Message) → Among m sent → (at : ℕ) × (message_at sent at ≡ Some m)
among_message sent m h = let r = among_got m sent h in (r.0 + 1, rw (next_place r.0, next_less r.0) r.1)

is_request : (o : Option Message) (r : Request) → option_map_or as_request o None ≡ Some r → o ≡ Some (ToMaster r)
is_request None r h = cc
is_request (Some (ToMaster q)) r h = let e : q ≡ r = cc in ap (λ x. Some (ToMaster x)) e
is_request (Some (ToClient out)) r h = cc

is_out : (o : Option Message) (r : Out) → option_map_or as_out o None ≡ Some r → o ≡ Some (ToClient r)
is_out None r h = cc
is_out (Some (ToMaster q)) r h = cc
is_out (Some (ToClient out)) r h = let e : out ≡ r = cc in ap (λ x. Some (ToClient x)) e

request_among : (sent : List Message) (at : ℕ) (r : Request) → request_at sent at ≡ Some r → Among (ToMaster r) sent
request_among sent at r h = message_among sent at (ToMaster r) (is_request (message_at sent at) r h)

out_among : (sent : List Message) (at : ℕ) (r : Out) → out_at sent at ≡ Some r → Among (ToClient r) sent
out_among sent at r h = message_among sent at (ToClient r) (is_out (message_at sent at) r h)

among_request : (sent : List Message) (r : Request) → Among (ToMaster r) sent → (at : ℕ) × (request_at sent at ≡ Some r)
among_request sent r h = let m = among_message sent (ToMaster r) h in (m.0, ap (λ o. option_map_or as_request o None) m.1)

among_out : (sent : List Message) (r : Out) → Among (ToClient r) sent → (at : ℕ) × (out_at sent at ≡ Some r)
among_out sent r h = let m = among_message sent (ToClient r) h in (m.0, ap (λ o. option_map_or as_out o None) m.1)

-- a call that is found was sent
pub called_among : (sent : List Message) (client number : ℕ) (call : CallMessage) → call_of sent client number ≡ Some call → Among (ToMaster (requests.Call call)) sent
called_among [] client number call h = cc
called_among (ToClient out ∷ rest) client number call h = inr (called_among rest client number call h)
called_among (ToMaster (requests.Start start) ∷ rest) client number call h = inr (called_among rest client number call h)
called_among (ToMaster (requests.Beat beat) ∷ rest) client number call h = inr (called_among rest client number call h)
called_among (ToMaster (requests.Call message) ∷ rest) client number call h =
    (elim (message.client == client && message.number == number) as (λ b. cond b (Some message) (call_of rest client number) ≡ Some call → Among (ToMaster (requests.Call call)) (ToMaster (requests.Call message) ∷ rest)) [
      | true ↦ (λ k. let e : message ≡ call = cc in inl (ap (λ x. ToMaster (requests.Call x)) e))
      | false ↦ (λ k. inr (called_among rest client number call k))
    ]) h

-- ---- entries of which some that begin no master's life are left out, and others have another such deed

abbrev pub Thins : List Entry → List Entry → Type 0
Thins [] [] = Unit {0}
Thins (x ∷ xs) [] = ⊥
Thins [] (y ∷ ys) = (begins_life y.deed ≡ false) × Thins [] ys
Thins (x ∷ xs) (y ∷ ys) = ((x.clocks ≡ y.clocks) × (begins_life x.deed ≡ begins_life y.deed) × Thins xs ys) ⊎ ((begins_life y.deed ≡ false) × Thins (x ∷ xs) ys)

pub thins_itself : (xs : List Entry) → Thins xs xs
thins_itself [] = tt
thins_itself (x ∷ xs) = inl (refl, refl, thins_itself xs)

pub thins_keep : (xs ys : List Entry) (x y : Entry) → x.clocks ≡ y.clocks → begins_life x.deed ≡ begins_life y.deed → Thins xs ys → Thins (xs ++ x ∷ []) (ys ++ y ∷ [])
thins_keep [] [] x y clocks life h = inl (clocks, life, tt)
thins_keep (a ∷ xs) [] x y clocks life h = absurd h
thins_keep [] (b ∷ ys) x y clocks life h = inr (h.0, thins_keep [] ys x y clocks life h.1)
thins_keep (a ∷ xs) (b ∷ ys) x y clocks life (inl k) = inl (k.0, k.1, thins_keep xs ys x y clocks life k.2)
thins_keep (a ∷ xs) (b ∷ ys) x y clocks life (inr k) = inr (k.0, thins_keep (a ∷ xs) ys x y clocks life k.1)

pub thins_drop : (xs ys : List Entry) (y : Entry) → begins_life y.deed ≡ false → Thins xs ys → Thins xs (ys ++ y ∷ [])
thins_drop [] [] y life h = (life, tt)
thins_drop (a ∷ xs) [] y life h = absurd h
thins_drop [] (b ∷ ys) y life h = (h.0, thins_drop [] ys y life h.1)
thins_drop (a ∷ xs) (b ∷ ys) y life (inl k) = inl (k.0, k.1, thins_drop xs ys y life k.2)
thins_drop (a ∷ xs) (b ∷ ys) y life (inr k) = inr (k.0, thins_drop (a ∷ xs) ys y life k.1)

goes_later : (here : Clocks) (y : Entry) (ys : List Entry) → GoOn here (y ∷ ys) → GoOn y.clocks ys → GoOn here ys
goes_later here y [] on next = tt
goes_later here y (z ∷ zs) on next = λ n. let a = on n in let b = next n in omega (arith, a, b)

goes_thin : (here : Clocks) (xs ys : List Entry) → Thins xs ys → GoOn here ys → AreFair ys → GoOn here xs
goes_thin here [] ys h on fair = tt
goes_thin here (x ∷ xs) [] h on fair = absurd h
goes_thin here (x ∷ xs) (y ∷ ys) (inl k) on fair = λ n. subst (λ (c : Clocks). here.client n ≤ c.client n) (sym k.0) (on n)
goes_thin here (x ∷ xs) (y ∷ ys) (inr k) on fair = goes_thin here (x ∷ xs) ys k.1 (goes_later here y ys on fair.1) fair.3

keeps_thin : (here : Clocks) (xs ys : List Entry) → Thins xs ys → KeepFair here ys → KeepFair here xs
keeps_thin here [] ys h fair = tt
keeps_thin here (x ∷ xs) [] h fair = absurd h
keeps_thin here (x ∷ xs) (y ∷ ys) (inl k) fair =
    subst (λ b. UnlessBegun b (MoveFairly here x.clocks × KeepFair here xs)) (sym k.1)
    ((elim (begins_life y.deed) as (λ b. UnlessBegun b (MoveFairly here y.clocks × KeepFair here ys) → UnlessBegun b (MoveFairly here x.clocks × KeepFair here xs)) [
      | true ↦ (λ u. tt)
      | false ↦ (λ u. (subst (MoveFairly here) (sym k.0) u.0, keeps_thin here xs ys k.2 u.1))
    ]) fair)
keeps_thin here (x ∷ xs) (y ∷ ys) (inr k) fair =
    let u : MoveFairly here y.clocks × KeepFair here ys = subst (λ b. UnlessBegun b (MoveFairly here y.clocks × KeepFair here ys)) k.0 fair in keeps_thin here (x ∷ xs) ys k.1 u.1

pub fair_thin : (xs ys : List Entry) → Thins xs ys → AreFair ys → AreFair xs
fair_thin [] ys h fair = tt
fair_thin (x ∷ xs) [] h fair = absurd h
fair_thin (x ∷ xs) (y ∷ ys) (inl k) fair = (
  subst AreMoments (sym k.0) fair.0,
  subst (λ c. GoOn c xs) (sym k.0) (goes_thin y.clocks xs ys k.2 fair.1 fair.3),
  subst (λ c. KeepFair c xs) (sym k.0) (keeps_thin y.clocks xs ys k.2 fair.2),
  fair_thin xs ys k.2 fair.3,
)
fair_thin (x ∷ xs) (y ∷ ys) (inr k) fair = fair_thin (x ∷ xs) ys k.1 fair.3

-- the first of fair entries are

goes_before : (here : Clocks) (xs ys : List Entry) → GoOn here (xs ++ ys) → GoOn here xs
goes_before here [] ys on = tt
goes_before here (x ∷ xs) ys on = on

keeps_before : (here : Clocks) (xs ys : List Entry) → KeepFair here (xs ++ ys) → KeepFair here xs
keeps_before here [] ys fair = tt
keeps_before here (x ∷ xs) ys fair =
    (elim (begins_life x.deed) as (λ b. UnlessBegun b (MoveFairly here x.clocks × KeepFair here (xs ++ ys)) → UnlessBegun b (MoveFairly here x.clocks × KeepFair here xs)) [
      | true ↦ (λ u. tt)
      | false ↦ (λ u. (u.0, keeps_before here xs ys u.1))
    ]) fair

pub fair_before : (xs ys : List Entry) → AreFair (xs ++ ys) → AreFair xs
fair_before [] ys fair = tt
fair_before (x ∷ xs) ys fair = (fair.0, goes_before x.clocks xs ys fair.1, keeps_before x.clocks xs ys fair.2, fair_before xs ys fair.3)

-- ---- shadows

abbrev pub shade : Parts → (ℕ → Option ClientState) → List Message → Parts
shade p of sent = record p { clients = of; told = sent }

-- the client of this number is this one, and all that was told was told there, and these messages too
pub record Shades (number : ℕ) (client : ClientState) (more : List Message) (p : Parts) (of : ℕ → Option ClientState) (sent : List Message) : Type 0 where
  pub others : (n : ℕ) → (n == number) ≡ false → of n ≡ p.clients n
  pub own : of number ≡ Some client
  pub told : (m : Message) → Among m (p.told ++ more) → Among m sent

-- a deed of others, and its shadow
pub record Casts (number : ℕ) (client : ClientState) (more : List Message) (p : Parts) (of : ℕ → Option ClientState) (sent : List Message) (clocks : Clocks) (deed : Deed) (printed : List Line) (new : Parts) : Type 0 where
  pub there : Deed
  pub clients : ℕ → Option ClientState
  pub messages : List Message
  pub does : Does (shade p of sent) clocks there (shade new clients messages) printed
  pub life : begins_life there ≡ begins_life deed
  pub frees : deed_frees (shade p of sent) clocks.master there ≡ deed_frees p clocks.master deed
  pub edits : deed_edits (shade p of sent) clocks.master there ≡ deed_edits p clocks.master deed
  pub shades : Shades number client more new clients messages

apart_too : (n q : ℕ) → (q == n) ≡ false → (n == q) ≡ false
apart_too n q h = grind (arith, nat_tests, h)

module _ (number : ℕ) (client : ClientState) (more : List Message) (p : Parts) (of : ℕ → Option ClientState) (sent : List Message) (h : Shades number client more p of sent) where
  told_on : (outs : List Message) (m : Message) → Among m ((p.told ++ outs) ++ more) → Among m (sent ++ outs)
  told_on outs m a =
      elim (among_either m (p.told ++ outs) more a) [
        | inl b ↦ elim (among_either m p.told outs b) [
          | inl c ↦ among_left m sent outs (h.told m (among_left m p.told more c))
          | inr c ↦ among_right m sent outs c
        ]
        | inr b ↦ among_left m sent outs (h.told m (among_right m p.told more b))
      ]

  -- another client goes on to this state
  beside : (q : ℕ) (next : ClientState) (n : ℕ) → (n == number) ≡ false → with_client of q next n ≡ with_client p.clients q next n
  beside q next n apart = elim (n == q) as (λ b. cond b (Some next) (of n) ≡ cond b (Some next) (p.clients n)) [ true ↦ refl | false ↦ h.others n apart ]

  own_beside : (q : ℕ) (next : ClientState) → (q == number) ≡ false → with_client of q next number ≡ Some client
  own_beside q next apart = rw (apart_too number q apart) h.own

  pub found_out : (at : ℕ) (out : Out) → out_at p.told at ≡ Some out → (place : ℕ) × (out_at sent place ≡ Some out)
  found_out at out was = among_out sent out (h.told (ToClient out) (among_left (ToClient out) p.told more (out_among p.told at out was)))

  found_request : (at : ℕ) (request : Request) → request_at p.told at ≡ Some request → (place : ℕ) × (request_at sent place ≡ Some request)
  found_request at request was = among_request sent request (h.told (ToMaster request) (among_left (ToMaster request) p.told more (request_among p.told at request was)))

  pub casts : (clocks : Clocks) (deed : Deed) (printed : List Line) (new : Parts) → IsOfOthers number p.told deed → Does p clocks deed new printed → Casts number client more p of sent clocks deed printed new
  casts clocks ComesUp printed new apart t =
      subst (Casts number client more p of sent clocks ComesUp printed) (sym t.left) (record {
        there = ComesUp;
        clients = of;
        messages = sent;
        does = record { master = t.master; none = t.none; ordered = t.ordered; step = t.step; left = refl; prints = t.prints };
        life = refl;
        frees = refl;
        edits = refl;
        shades = record { others = h.others; own = h.own; told = h.told };
      })
  casts clocks FallsComingUp printed new apart t =
      subst (Casts number client more p of sent clocks FallsComingUp printed) (sym t.left) (record {
        there = FallsComingUp;
        clients = of;
        messages = sent;
        does = record { master = t.master; none = t.none; step = t.step; left = refl; prints = t.prints };
        life = refl;
        frees = refl;
        edits = refl;
        shades = record { others = h.others; own = h.own; told = h.told };
      })
  casts clocks (Takes at) printed new apart t =
      let place = found_request at t.request t.was_told in
      subst (Casts number client more p of sent clocks (Takes at) printed) (sym t.left) (record {
        there = Takes place.0;
        clients = of;
        messages = sent ++ map ToClient t.taken.outs;
        does = record { master = t.master; request = t.request; next = t.next; taken = t.taken; up = t.up; was_told = place.1; numbered = t.numbered; step = t.step; left = refl; prints = t.prints };
        life = refl;
        frees = refl;
        edits = refl;
        shades = record { others = h.others; own = h.own; told = told_on (map ToClient t.taken.outs) };
      })
  casts clocks Sweeps printed new apart t =
      subst (Casts number client more p of sent clocks Sweeps printed) (sym t.left) (record {
        there = Sweeps;
        clients = of;
        messages = sent ++ map ToClient t.swept.outs;
        does = record { master = t.master; next = t.next; swept = t.swept; up = t.up; step = t.step; left = refl; prints = t.prints };
        life = refl;
        frees = refl;
        edits = refl;
        shades = record { others = h.others; own = h.own; told = told_on (map ToClient t.swept.outs) };
      })
  casts clocks FallsSweeping printed new apart t =
      subst (Casts number client more p of sent clocks FallsSweeping printed) (sym t.left) (record {
        there = FallsSweeping;
        clients = of;
        messages = sent;
        does = record { master = t.master; next = t.next; swept = t.swept; up = t.up; step = t.step; left = refl; prints = t.prints };
        life = refl;
        frees = refl;
        edits = refl;
        shades = record { others = h.others; own = h.own; told = h.told };
      })
  casts clocks AnswersBeat printed new apart t =
      subst (Casts number client more p of sent clocks AnswersBeat printed) (sym t.left) (record {
        there = AnswersBeat;
        clients = of;
        messages = sent ++ map ToClient t.swept.outs;
        does = record { master = t.master; next = t.next; swept = t.swept; up = t.up; step = t.step; left = refl; prints = t.prints };
        life = refl;
        frees = refl;
        edits = refl;
        shades = record { others = h.others; own = h.own; told = told_on (map ToClient t.swept.outs) };
      })
  casts clocks Goes printed new apart t =
      subst (Casts number client more p of sent clocks Goes printed) (sym t.left) (record {
        there = Goes;
        clients = of;
        messages = sent;
        does = record { master = t.master; up = t.up; left = refl; prints = t.prints };
        life = refl;
        frees = refl;
        edits = refl;
        shades = record { others = h.others; own = h.own; told = h.told };
      })
  casts clocks (Begins q principal) printed new apart t =
      subst (Casts number client more p of sent clocks (Begins q principal) printed) (sym t.left) (record {
        there = Begins q principal;
        clients = with_client of q (new_client q principal);
        messages = sent;
        does = record { free = h.others q apart ∙ t.free; left = refl; prints = t.prints };
        life = refl;
        frees = refl;
        edits = refl;
        shades = record { others = beside q (new_client q principal); own = own_beside q (new_client q principal) apart; told = h.told };
      })
  casts clocks (Asks q ask) printed new apart t =
      subst (Casts number client more p of sent clocks (Asks q ask) printed) (sym t.left) (record {
        there = Asks q ask;
        clients = with_client of q t.next;
        messages = sent ++ sent_by t.asked.outcome;
        does = record { client = t.client; next = t.next; asked = t.asked; there = h.others q apart ∙ t.there; step = t.step; left = refl; prints = t.prints };
        life = refl;
        frees = refl;
        edits = refl;
        shades = record { others = beside q t.next; own = own_beside q t.next apart; told = told_on (sent_by t.asked.outcome) };
      })
  casts clocks (Beats q) printed new apart t =
      subst (Casts number client more p of sent clocks (Beats q) printed) (sym t.left) (record {
        there = Beats q;
        clients = with_client of q t.next;
        messages = sent ++ sent_as t.beaten.request;
        does = record { client = t.client; next = t.next; beaten = t.beaten; there = h.others q apart ∙ t.there; step = t.step; left = refl; prints = t.prints };
        life = refl;
        frees = refl;
        edits = refl;
        shades = record { others = beside q t.next; own = own_beside q t.next apart; told = told_on (sent_as t.beaten.request) };
      })
  casts clocks (Hears at) printed new apart t =
      let place = found_out at t.out t.was_told in
      let other = apart t.out t.was_told in
      subst (Casts number client more p of sent clocks (Hears at) printed) (sym t.left) (record {
        there = Hears place.0;
        clients = with_client of (out_client t.out) t.next;
        messages = sent;
        does = record { out = t.out; client = t.client; next = t.next; given = t.given; was_told = place.1; there = h.others (out_client t.out) other ∙ t.there; step = t.step; left = refl; prints = t.prints };
        life = refl;
        frees = refl;
        edits = refl;
        shades = record { others = beside (out_client t.out) t.next; own = own_beside (out_client t.out) t.next other; told = h.told };
      })
