-- What a world shows of one client and one name where a step leaves it, and how their slice is led on.
use Rattle.std.proofs.Common.{◌≡◌, ◌≢◌, ℕ, ◌-◌, ◌<◌, ◌≤◌, max, Bool, true, false, cond, List, [], ◌∷◌, ◌++◌, map, zero, suc, Option, Some, None, inl, inr, arith, refl, sym, ap, ◌∙◌, subst}
use Rattle.std.specs.Prelude.{◌⊎◌, ◌==◌, ◌&&◌, fold}
use Rattle.std.specs.Option.{option_map, option_map_or}
use Rattle.std.specs.List.{slice_get, list_all}
use Rattle.std.specs.Map.{lookup, set_value, keys_of}
use Rattle.std.specs.BTreeMap.{is_at}
use Rattle.std.specs.Ordering.{nat_cmp}
use Rattle.std.specs.Cmp.Lexicographic.{slice_cmp}
use Rattle.std.specs.List.Sorted.{IsStrictlySortedBy}
use Rattle.std.proofs.lemmas.Bool.Decides.{nat_tests}
use Rattle.coherence.specs.Slice as one
use Rattle.coherence.specs.Slice.{IsIn, Slice, Event, Reached, Leads}
use Rattle.coherence.proofs.Reached.{reached_led}
use Rattle.coherence.proofs.Runs.{always}
use Rattle.node_core.specs.Nodes.{view_at}
use Rattle.rows_cell.specs.declared.tables.Rows.{Rows}
use Rattle.rows_cell.specs.Rows.{map_of}
use Rattle.rows_cell.proofs.RowNodes.{keys_of_nodes}
use Rattle.tags_cell.specs.declared.messages.requests.Request.{Request}
use Rattle.tags_cell.specs.declared.messages.requests.Request.TheVariants as requests
use Rattle.tags_cell.specs.declared.messages.outs.Out.{Out}
use Rattle.tags_cell.specs.declared.messages.outs.Out.TheVariants as outs
use Rattle.tags_cell.specs.declared.messages.outs.Started.{Started}
use Rattle.tags_cell.specs.declared.messages.outs.Reply.{Reply}
use Rattle.session_core.specs.declared.records.Session.{Session}
use Rattle.session_core.specs.Sessions.{SessionTable, with_session, session_of as session_in}
use Rattle.session_core.proofs.Keys.{same_key}
use Rattle.session_core.proofs.OneClient.{own_session, other_session}
use Rattle.session_core.proofs.RowsOfSessions.{rows_of}
use Rattle.rights_core.specs.Rights.{IsRecorded}
use Rattle.gate_core.specs.declared.pending.Waiting.{Waiting}
use Rattle.gate_core.specs.Laws.{touching}
use Rattle.master_parts.specs.declared.pending.Task.{Task}
use Rattle.master_state.specs.State.{MasterState}
use Rattle.master_parts.specs.StoredSessions.{row_of, session_rows}
use Rattle.master_state.specs.Lookups.{session_of, noted}
use Rattle.client_core.specs.Invalidations.{last_number}
use Rattle.over_core.specs.Kept.{AreByBeats, AreIssued, AreOwned, AreTouching, IsKept}
use Rattle.over_core.proofs.KeptBySweeps.{sessions_ordered}
use Rattle.world_steps.specs.declared.mail.Message.{Message}
use Rattle.world_steps.specs.declared.mail.Message.TheVariants.{ToMaster, ToClient}
use Rattle.world_steps.specs.declared.members.WorldClient.{WorldClient}
use Rattle.world_steps.specs.Messages.{message_at, as_request, as_out, request_at, out_at}
use Rattle.world_steps.specs.World.{WorldState, member_of}
use Rattle.world_cell.specs.Slices.{Seen, SeenRight, Shown, Grants, GrantsSoFar, Clocks, slice, standing_of, is_late, standing_in, seen_of, heard_from, right_of, start_of, starts_of, beat_of, put_beat, beats_of, name_number, offer_of, put_offer, offers_of, put_grant, grants_of, clocks_of, client_of, master_of}
use Rattle.world_cell.proofs.GrantsSent.{granted_by, looked_at}

-- to the client, and of the name, the one world leads to the other
abbrev pub LeadsTo : ℕ → List ℕ → WorldState → WorldState → Type 0
LeadsTo client name w new = (events : List (Event Shown)) × Leads (slice client name w) events (slice client name new)

pub reached_stays : (client : ℕ) (name : List ℕ) (w new : WorldState) → LeadsTo client name w new → Reached (slice client name w) → Reached (slice client name new)
reached_stays client name w new led reached = reached_led (slice client name w) (slice client name new) led.0 reached led.1

-- a step of which nothing is seen
pub unseen : (client : ℕ) (name : List ℕ) (w new : WorldState) → slice client name w ≡ slice client name new → LeadsTo client name w new
unseen client name w new same = ([], record { allowed = tt; leads_there = same })

-- ---- tests and lists

pub by_test : {P : Type 0} (b : Bool) → (b ≡ true → P) → (b ≡ false → P) → P
by_test true yes_ no_ = yes_ refl
by_test false yes_ no_ = no_ refl

pub both : (a b : Bool) → (a && b) ≡ true → (a ≡ true) × (b ≡ true)
both true b h = (refl, h)
both false b h = cc

pub is_same : (a b : ℕ) → (a == b) ≡ true → a ≡ b
is_same a b e = grind (arith, nat_tests, e)

pub is_other : (a b : ℕ) → (a == b) ≡ false → a ≢ b
is_other a b e = grind (arith, nat_tests, e)

pub same_test : (a b : ℕ) → a ≡ b → (a == b) ≡ true
same_test a b e = grind (arith, nat_tests, e)

pub two_same : {A B X : Type 0} (f : A → B → X) (a c : A) (b d : B) → a ≡ c → b ≡ d → f a b ≡ f c d
two_same f a c b d h k = cc

pub three_same : {A B C X : Type 0} (f : A → B → C → X) (a d : A) (b e : B) (c g : C) → a ≡ d → b ≡ e → c ≡ g → f a b c ≡ f d e g
three_same f a d b e c g h k l = cc

pub in_front : {A : Type 0} (a : A) (xs ys : List A) → IsIn a xs → IsIn a (xs ++ ys)
in_front a [] ys i = absurd i
in_front a (x ∷ xs) ys (inl e) = inl e
in_front a (x ∷ xs) ys (inr i) = inr (in_front a xs ys i)

pub in_back : {A : Type 0} (a : A) (xs ys : List A) → IsIn a ys → IsIn a (xs ++ ys)
in_back a [] ys i = i
in_back a (x ∷ xs) ys i = inr (in_back a xs ys i)

pub in_either : {A : Type 0} (a : A) (xs ys : List A) → IsIn a (xs ++ ys) → IsIn a xs ⊎ IsIn a ys
in_either a [] ys i = inr i
in_either a (x ∷ xs) ys (inl e) = inl (inl e)
in_either a (x ∷ xs) ys (inr i) = elim (in_either a xs ys i) [
  | inl k ↦ inl (inr k)
  | inr k ↦ inr k
]

fold_both : {A B : Type 0} (f : B → A → B) (b : B) (xs ys : List A) → fold f b (xs ++ ys) ≡ fold f (fold f b xs) ys
fold_both f b [] ys = refl
fold_both f b (x ∷ xs) ys = fold_both f (f b x) xs ys

fold_keeps : {A B : Type 0} (f : List A → B → List A) (a : A) → ((xs : List A) (b : B) → IsIn a xs → IsIn a (f xs b)) → (xs : List A) (bs : List B) → IsIn a xs → IsIn a (fold f xs bs)
fold_keeps f a keeps xs [] i = i
fold_keeps f a keeps xs (b ∷ bs) i = fold_keeps f a keeps (f xs b) bs (keeps xs b i)

fold_has : {A B : Type 0} (f : List A → B → List A) (a : A) (b : B) → ((xs : List A) (b : B) → IsIn a xs → IsIn a (f xs b)) → ((xs : List A) → IsIn a (f xs b)) → (xs : List A) (bs : List B) (i : ℕ) → slice_get bs i ≡ Some b → IsIn a (fold f xs bs)
fold_has f a b keeps here xs [] i h = cc
fold_has f a b keeps here xs (x ∷ bs) zero h = let e : b ≡ x = cc in fold_keeps f a keeps (f xs x) bs (subst (λ z. IsIn a (f xs z)) e (here xs))
fold_has f a b keeps here xs (x ∷ bs) (suc i) h = fold_has f a b keeps here (f xs x) bs i h

in_one_more : {A : Type 0} (t : Bool) (a x : A) (xs : List A) → IsIn a xs → IsIn a (cond t (x ∷ xs) xs)
in_one_more true a x xs i = inr i
in_one_more false a x xs i = i

-- ---- what was sent

no_beats : (c : ℕ) (beats : List one.Beat) (sent : List Out) → fold (put_beat c) beats (map ToClient sent) ≡ beats
no_beats c beats [] = refl
no_beats c beats (out ∷ sent) = no_beats c beats sent

pub beats_stay : (c : ℕ) (messages : List Message) (sent : List Out) → beats_of c (messages ++ map ToClient sent) ≡ beats_of c messages
beats_stay c messages sent = fold_both (put_beat c) [] messages (map ToClient sent) ∙ no_beats c (beats_of c messages) sent

pub offers_more : (c : ℕ) (x : List ℕ) (messages : List Message) (sent : List Out) → offers_of c x (messages ++ map ToClient sent) ≡ fold (put_offer c x) (offers_of c x messages) (map ToClient sent)
offers_more c x messages sent = fold_both (put_offer c x) [] messages (map ToClient sent)

pub beats_more : (c : ℕ) (messages : List Message) (request : Request) → beats_of c (messages ++ ToMaster request ∷ []) ≡ beat_of c request (beats_of c messages)
beats_more c messages request = fold_both (put_beat c) [] messages (ToMaster request ∷ [])

pub offers_stay : (c : ℕ) (x : List ℕ) (messages : List Message) (request : Request) → offers_of c x (messages ++ ToMaster request ∷ []) ≡ offers_of c x messages
offers_stay c x messages request = fold_both (put_offer c x) [] messages (ToMaster request ∷ [])

-- the grants among what is sent after these messages
abbrev pub grants_then : ℕ → List ℕ → List ℕ → List Message → List Out → Grants
grants_then c x secret messages sent = (granted_by c x secret (record { before = messages; grants = grants_of c x secret messages }) (map ToClient sent)).grants

pub grants_more : (c : ℕ) (x secret : List ℕ) (messages : List Message) (sent : List Out) → grants_of c x secret (messages ++ map ToClient sent) ≡ grants_then c x secret messages sent
grants_more c x secret messages sent =
    ap (λ (g : GrantsSoFar). g.grants) (fold_both (put_grant c x secret) (record { before = []; grants = [] }) messages (map ToClient sent))
    ∙ ap (λ before. (granted_by c x secret (record { before = before; grants = grants_of c x secret messages }) (map ToClient sent)).grants) (looked_at c x secret messages (record { before = []; grants = [] }))

is_request : (o : Option Message) (r : Request) → option_map_or as_request o None ≡ Some r → o ≡ Some (ToMaster r)
is_request None r h = cc
is_request (Some (ToMaster q)) r h = let e : q ≡ r = cc in ap (λ x. Some (ToMaster x)) e
is_request (Some (ToClient out)) r h = cc

is_out : (o : Option Message) (r : Out) → option_map_or as_out o None ≡ Some r → o ≡ Some (ToClient r)
is_out None r h = cc
is_out (Some (ToMaster q)) r h = cc
is_out (Some (ToClient out)) r h = let e : out ≡ r = cc in ap (λ x. Some (ToClient x)) e

found_at : (sent : List Message) (at : ℕ) (m : Message) → message_at sent at ≡ Some m → (i : ℕ) × (slice_get sent i ≡ Some m)
found_at sent at m h =
    (elim (at == 0) as (λ b. cond b None (slice_get sent (at - 1)) ≡ Some m → (i : ℕ) × (slice_get sent i ≡ Some m)) [
      | true ↦ (λ k. cc)
      | false ↦ (λ k. (at - 1, k))
    ]) h

beat_kept : (c : ℕ) (b : one.Beat) (beats : List one.Beat) (m : Message) → IsIn b beats → IsIn b (put_beat c beats m)
beat_kept c b beats (ToMaster (requests.Start start)) i = in_one_more (c == start.client) b (record { epoch = 0; number = start.number; processed = 0 }) beats i
beat_kept c b beats (ToMaster (requests.Beat beat)) i = in_one_more (c == beat.client) b (record { epoch = beat.epoch; number = beat.number; processed = beat.invalidations }) beats i
beat_kept c b beats (ToMaster (requests.Call call)) i = i
beat_kept c b beats (ToClient out) i = i

-- a Start or a Beat that is found among the messages was sent
pub beat_sent : (c : ℕ) (sent : List Message) (at : ℕ) (request : Request) (b : one.Beat) → request_at sent at ≡ Some request → ((beats : List one.Beat) → IsIn b (beat_of c request beats)) → IsIn b (beats_of c sent)
beat_sent c sent at request b found here =
    let m = found_at sent at (ToMaster request) (is_request (message_at sent at) request found) in
    fold_has (put_beat c) b (ToMaster request) (beat_kept c b) here [] sent m.0 m.1

module _ (c : ℕ) (x : List ℕ) where
  offer_kept : (o : one.Offer) (offers : List one.Offer) (m : Message) → IsIn o offers → IsIn o (put_offer c x offers m)
  offer_kept o offers (ToMaster request) i = i
  offer_kept o offers (ToClient (outs.Started started)) i = in_one_more (c == started.client) o (record { epoch = started.epoch; number = started.number; span = started.span; last_invalidation = 0; name_invalidation = 0 }) offers i
  offer_kept o offers (ToClient (outs.Alive alive)) i = in_one_more (c == alive.client) o (record { epoch = alive.epoch; number = alive.number; span = alive.span; last_invalidation = last_number 0 alive.invalidations; name_invalidation = name_number x alive.invalidations }) offers i
  offer_kept o offers (ToClient (outs.Reply reply)) i = i
  offer_kept o offers (ToClient (outs.Refused refused)) i = i

  -- and so was an offer
  pub offer_sent : (sent : List Message) (at : ℕ) (out : Out) (o : one.Offer) → out_at sent at ≡ Some out → ((offers : List one.Offer) → IsIn o (offer_of c x out offers)) → IsIn o (offers_of c x sent)
  offer_sent sent at out o found here =
      let m = found_at sent at (ToClient out) (is_out (message_at sent at) out found) in
      fold_has (put_offer c x) o (ToClient out) (offer_kept o) here [] sent m.0 m.1

-- ---- tables by client

pub lookup_rows : {A B : Type 0} (f : A → B) (test : ℕ → Bool) (es : List (ℕ × A)) → lookup test (rows_of f es) ≡ option_map f (lookup test es)
lookup_rows f test [] = refl
lookup_rows f test (e ∷ es) =
    elim (test e.0) as (λ b. cond b (Some (f e.1)) (lookup test (rows_of f es)) ≡ option_map f (cond b (Some e.1) (lookup test es))) [
      | true ↦ refl
      | false ↦ lookup_rows f test es
    ]

-- a step of each entry is one of a client's own
pub lookup_each : {A : Type 0} (c : ℕ) (step : ℕ → A → A) (es : List (ℕ × A)) → lookup (is_at (nat_cmp c)) (map {B = ℕ × A} (λ (e : ℕ × A). (e.0, step e.0 e.1)) es) ≡ option_map (step c) (lookup (is_at (nat_cmp c)) es)
lookup_each c step [] = refl
lookup_each {A} c step (e ∷ es) =
    (elim (is_at (nat_cmp c) e.0) as (λ b. is_at (nat_cmp c) e.0 ≡ b → cond b (Some (step e.0 e.1)) (lookup (is_at (nat_cmp c)) (map {B = ℕ × A} (λ (d : ℕ × A). (d.0, step d.0 d.1)) es)) ≡ option_map (step c) (cond b (Some e.1) (lookup (is_at (nat_cmp c)) es))) [
      | true ↦ (λ h. ap (λ k. Some (step k e.1)) (sym (same_key c e.0 h)))
      | false ↦ (λ h. lookup_each c step es)
    ]) refl

-- what all entries pass a client's own passes
pub all_found : {A : Type 0} (c : ℕ) (test : ℕ × A → Bool) (es : List (ℕ × A)) (a : A) → list_all test es ≡ true → lookup (is_at (nat_cmp c)) es ≡ Some a → test (c, a) ≡ true
all_found c test [] a h k = cc
all_found {A} c test (e ∷ es) a h k =
    let p = both (test e) (list_all test es) h in
    (elim (is_at (nat_cmp c) e.0) as (λ b. is_at (nat_cmp c) e.0 ≡ b → cond b (Some e.1) (lookup (is_at (nat_cmp c)) es) ≡ Some a → test (c, a) ≡ true) [
      | true ↦ (λ t found. let same : e.1 ≡ a = cc in ap (λ z. test (z, a)) (same_key c e.0 t) ∙ ap (λ z. test (e.0, z)) (sym same) ∙ p.0)
      | false ↦ (λ t found. all_found c test es a p.1 found)
    ]) refl k

-- ---- a master that is up

-- what is seen of it, of the rows and of the messages
pub record UpParts : Type 0 where
  pub present : Shown
  pub session : one.Session
  pub epoch : ℕ
  pub lease : ℕ
  pub recovering : Bool
  pub seen : Seen
  pub starts : List one.Receipt
  pub heard : Bool
  pub right : SeenRight
  pub pending : ℕ
  pub beats : List one.Beat
  pub offers : List one.Offer
  pub grants : Grants

-- the slice by these
abbrev pub seen_up : ℕ → Clocks → one.Client Shown → UpParts → Slice Shown
seen_up now clocks half parts = record {
  present = parts.present;
  session = parts.session;
  epoch = parts.epoch;
  master = record {
    up = true;
    now = now;
    lease_length = parts.lease;
    recovering = parts.recovering;
    client_when_up = clocks.client_when_up;
    least_now = clocks.least_now;
    least_client = clocks.least_client;
    received = parts.seen.parked ++ parts.starts;
    timeout = parts.seen.timeout;
    heard_from = parts.heard;
    issued = parts.right.issued;
    acknowledged = parts.seen.acknowledged;
    held = parts.right.held;
    asked_back = parts.right.asked_back;
    given_back = parts.right.given_back;
    pending = parts.pending;
  };
  client = half;
  beats = parts.beats;
  offers = parts.offers;
  grants = parts.grants;
}

-- the same parts
pub record AreSame (q p : UpParts) : Type 0 where
  pub present : q.present ≡ p.present
  pub session : q.session ≡ p.session
  pub epoch : q.epoch ≡ p.epoch
  pub lease : q.lease ≡ p.lease
  pub recovering : q.recovering ≡ p.recovering
  pub seen : q.seen ≡ p.seen
  pub starts : q.starts ≡ p.starts
  pub heard : q.heard ≡ p.heard
  pub right : q.right ≡ p.right
  pub pending : q.pending ≡ p.pending
  pub beats : q.beats ≡ p.beats
  pub offers : q.offers ≡ p.offers
  pub grants : q.grants ≡ p.grants

all_same : {X : Type 0} (f : Shown → one.Session → ℕ → ℕ → Bool → Seen → List one.Receipt → Bool → SeenRight → ℕ → List one.Beat → List one.Offer → Grants → X)
    (s t : Shown) (a b : one.Session) (e g l m : ℕ) (r q : Bool) (u v : Seen) (w x : List one.Receipt) (h k : Bool) (i j : SeenRight) (n p : ℕ) (c d : List one.Beat) (o y : List one.Offer) (z zz : Grants)
    → t ≡ s → b ≡ a → g ≡ e → m ≡ l → q ≡ r → v ≡ u → x ≡ w → k ≡ h → j ≡ i → p ≡ n → d ≡ c → y ≡ o → zz ≡ z → f t b g m q v x k j p d y zz ≡ f s a e l r u w h i n c o z
all_same f s t a b e g l m r q u v w x h k i j n p c d o y z zz is_present is_session is_epoch is_lease is_recovering is_seen is_starts is_heard is_right is_pending is_beats is_offers is_grants = cc

abbrev parts_with : Shown → one.Session → ℕ → ℕ → Bool → Seen → List one.Receipt → Bool → SeenRight → ℕ → List one.Beat → List one.Offer → Grants → UpParts
parts_with present session epoch lease recovering seen starts heard right pending beats offers grants = record {
  present = present;
  session = session;
  epoch = epoch;
  lease = lease;
  recovering = recovering;
  seen = seen;
  starts = starts;
  heard = heard;
  right = right;
  pending = pending;
  beats = beats;
  offers = offers;
  grants = grants;
}

pub same_parts : (q p : UpParts) → AreSame q p → q ≡ p
same_parts q p same = all_same parts_with p.present q.present p.session q.session p.epoch q.epoch p.lease q.lease p.recovering q.recovering p.seen q.seen p.starts q.starts p.heard q.heard p.right q.right p.pending q.pending p.beats q.beats p.offers q.offers p.grants q.grants
    same.present same.session same.epoch same.lease same.recovering same.seen same.starts same.heard same.right same.pending same.beats same.offers same.grants

pub alike : (p : UpParts) → AreSame p p
alike p = record { present = refl; session = refl; epoch = refl; lease = refl; recovering = refl; seen = refl; starts = refl; heard = refl; right = refl; pending = refl; beats = refl; offers = refl; grants = refl }

module _ (c : ℕ) (x : List ℕ) (w : WorldState) where
  -- a master with these rows, that has sent these
  abbrev pub up_with : Rows → MasterState → List Out → WorldState
  up_with rows t sent = record w { rows = rows; master = Some t; messages = w.messages ++ map ToClient sent }

  abbrev pub parts_of : Rows → MasterState → List Message → UpParts
  parts_of rows t messages = record {
    present = view_at (map_of rows) x;
    session = standing_in rows c;
    epoch = rows.epoch;
    lease = t.sessions.lease;
    recovering = t.recovering;
    seen = seen_of (session_of t c);
    starts = starts_of c t.gate.waiting;
    heard = heard_from t.recovering (seen_of (session_of t c));
    right = right_of c x t.rights;
    pending = touching x t.gate.waiting;
    beats = beats_of c messages;
    offers = offers_of c x messages;
    grants = grants_of c x rows.secret messages;
  }

  -- before a step
  abbrev pub here : MasterState → UpParts
  here s = parts_of w.rows s w.messages

  -- after it
  abbrev pub there : Rows → MasterState → List Out → UpParts
  there rows t sent = parts_of rows t (w.messages ++ map ToClient sent)

  abbrev pub shown : UpParts → Slice Shown
  shown parts = seen_up w.clock (clocks_of w.clock (member_of w c)) (client_of x (member_of w c)) parts

  -- from the master as it is these events lead to one with these rows, that has sent these
  abbrev pub Goes : MasterState → Rows → MasterState → List Out → Type 0
  Goes s rows t sent = (events : List (Event Shown)) × Leads (slice c x (record w { master = Some s })) events (slice c x (up_with rows t sent))

  -- by the parts before and after
  pub goes : (s : MasterState) (rows : Rows) (t : MasterState) (sent : List Out) (events : List (Event Shown)) (p q : UpParts) → AreSame (here s) p → AreSame (there rows t sent) q → Leads (shown p) events (shown q) → Goes s rows t sent
  goes s rows t sent events p q before behind led = (
    events,
    subst (λ z. Leads (shown (here s)) events (shown z)) (sym (same_parts (there rows t sent) q behind)) (subst (λ z. Leads (shown z) events (shown q)) (sym (same_parts (here s) p before)) led),
  )

  -- nothing is seen of it
  pub goes_unseen : (s : MasterState) (rows : Rows) (t : MasterState) (sent : List Out) → AreSame (there rows t sent) (here s) → Goes s rows t sent
  goes_unseen s rows t sent same = goes s rows t sent [] (here s) (here s) (alike (here s)) same (record { allowed = tt; leads_there = refl })

  -- what the rows say of the client's session, by what the master knows of it
  pub standing_kept : (s : MasterState) → session_rows s.sessions ≡ w.rows.sessions → standing_in w.rows c ≡ standing_of (is_late w.rows c) (option_map row_of (session_of s c))
  standing_kept s kept =
      ap (λ es. standing_of (is_late w.rows c) (lookup (is_at (nat_cmp c)) es)) (sym kept) ∙ ap (standing_of (is_late w.rows c)) (lookup_rows row_of (is_at (nat_cmp c)) s.sessions.sessions)

  -- before a step, where the client has this session or none
  abbrev pub with_found : MasterState → Option (Session Reply) → UpParts
  with_found s found = record (here s) { session = standing_of (is_late w.rows c) (option_map row_of found); epoch = s.epoch; seen = seen_of found; heard = heard_from s.recovering (seen_of found) }

  pub is_found : (s : MasterState) (found : Option (Session Reply)) → session_rows s.sessions ≡ w.rows.sessions → s.epoch ≡ w.rows.epoch → session_of s c ≡ found → AreSame (here s) (with_found s found)
  is_found s found kept epoch is = record {
    present = refl;
    session = standing_kept s kept ∙ ap (λ o. standing_of (is_late w.rows c) (option_map row_of o)) is;
    epoch = sym epoch;
    lease = refl;
    recovering = refl;
    seen = ap seen_of is;
    starts = refl;
    heard = ap (λ o. heard_from s.recovering (seen_of o)) is;
    right = refl;
    pending = refl;
    beats = refl;
    offers = refl;
    grants = refl;
  }

  -- where the master is up
  pub with_master : (s : MasterState) (events : List (Event Shown)) (later : Slice Shown) → w.master ≡ Some s → Leads (slice c x (record w { master = Some s })) events later → Leads (slice c x w) events later
  with_master s events later is led = subst (λ (m : Option MasterState). Leads (slice c x (record w { master = m })) events later) (sym is) led

  -- ---- a client

  abbrev pub stepped_as : Option WorldClient → List one.Beat → List one.Offer → Grants → Slice Shown
  stepped_as member beats offers grants = record {
    present = view_at (map_of w.rows) x;
    session = standing_in w.rows c;
    epoch = w.rows.epoch;
    master = master_of c x w.clock member w.master;
    client = client_of x member;
    beats = beats;
    offers = offers;
    grants = grants;
  }

-- ---- sessions

pub lease_stays : (s : SessionTable Reply) (q : ℕ) (step : Session Reply → Session Reply) → (with_session s q step).lease ≡ s.lease
lease_stays s q step = elim (session_in s q) as (λ (o : Option (Session Reply)). (option_map_or (λ session. record s { sessions = set_value (is_at (nat_cmp q)) s.sessions (step session) }) o s).lease ≡ s.lease) [
  | None ↦ refl
  | Some session ↦ refl
]

-- a step that shows a slice nothing of its own session shows nobody anything
pub seen_stays : (step : Session Reply → Session Reply) → ((session : Session Reply) → seen_of (Some (step session)) ≡ seen_of (Some session)) → (s : SessionTable Reply) (q c : ℕ) → seen_of (session_in (with_session s q step) c) ≡ seen_of (session_in s c)
seen_stays step keeps s q c = by_test (c == q)
    (λ e. subst (λ (z : ℕ). seen_of (session_in (with_session s z step) c) ≡ seen_of (session_in s c)) (is_same c q e) own)
    (λ e. ap seen_of (other_session s q step c (is_other c q e)))
  where
    own : seen_of (session_in (with_session s c step) c) ≡ seen_of (session_in s c)
    own = ap seen_of (own_session s c step) ∙ (elim (session_in s c) as (λ (o : Option (Session Reply)). seen_of (option_map step o) ≡ seen_of o) [
      | None ↦ refl
      | Some session ↦ keeps session
    ])

pub own_found : (step : Session Reply → Session Reply) (s : SessionTable Reply) (c : ℕ) (session : Session Reply) → session_in s c ≡ Some session → session_in (with_session s c step) c ≡ Some (step session)
own_found step s c session found = own_session s c step ∙ ap (option_map step) found

-- ---- what a master has to know

-- what it knows of the rows is what they hold, and the moment is noted
pub record IsKnown (w : WorldState) (s : MasterState) : Type 0 where
  pub nodes : s.nodes ≡ map_of w.rows
  pub in_order : IsStrictlySortedBy (slice_cmp nat_cmp) (keys_of (map_of w.rows))
  pub secret : s.secret ≡ w.rows.secret
  pub sessions : session_rows s.sessions ≡ w.rows.sessions
  pub ordered : IsStrictlySortedBy nat_cmp (keys_of s.sessions.sessions)
  pub rows_ordered : IsStrictlySortedBy nat_cmp (keys_of w.rows.sessions)
  pub epoch : s.epoch ≡ w.rows.epoch
  pub ended_below : s.ended_below ≡ w.rows.ended_below
  pub recovery_is_empty : s.recovering ≡ true → s.gate.waiting ≡ []
  pub by_beats : AreByBeats s.sessions
  pub recorded : IsRecorded s.rights
  pub issued : AreIssued s.sessions s.rights
  pub owned : AreOwned s.sessions s.ended_below s.rights
  pub touching : AreTouching s.secret s.gate.waiting
  pub clock : s.clock ≡ w.clock

pub latest : (a b : ℕ) → a ≤ b → max a b ≡ b
latest a b h = omega (arith, h)

pub known : (w : WorldState) (s : MasterState) → IsKept w.cell w.rows s → s.clock ≤ w.clock → IsKnown w (noted s w.clock)
known w s kept early = record {
  nodes = kept.nodes;
  in_order = subst (IsStrictlySortedBy (slice_cmp nat_cmp)) (sym (keys_of_nodes w.rows.nodes)) kept.names_in_order;
  secret = kept.secret;
  sessions = kept.sessions;
  ordered = sessions_ordered w.cell w.rows s kept;
  rows_ordered = kept.sessions_in_order;
  epoch = kept.epoch;
  ended_below = kept.ended_below;
  recovery_is_empty = kept.recovery_is_empty;
  by_beats = kept.by_beats;
  recorded = kept.recorded;
  issued = kept.issued;
  owned = kept.owned;
  touching = kept.touching;
  clock = latest s.clock w.clock early;
}

-- ---- one more, or not

pub first_of : {A : Type 0} (b : Bool) (x : A) (xs : List A) → b ≡ true → cond b (x ∷ xs) xs ≡ x ∷ xs
first_of true x xs h = refl
first_of false x xs h = cc

pub none_more : {A : Type 0} (b : Bool) (x : A) (xs : List A) → b ≡ false → cond b (x ∷ xs) xs ≡ xs
none_more true x xs h = cc
none_more false x xs h = refl

pub first_in : {A : Type 0} (b : Bool) (x : A) (xs : List A) → b ≡ true → IsIn x (cond b (x ∷ xs) xs)
first_in true x xs h = inl refl
first_in false x xs h = cc

-- no Start more
pub no_start : (c : ℕ) (ws : List (Waiting Task)) (x : Waiting Task) → start_of c x.change.body ≡ [] → starts_of c (ws ++ x ∷ []) ≡ starts_of c ws
no_start c [] x e = rw e refl
no_start c (y ∷ ws) x e = ap (λ l. start_of c y.change.body ++ l) (no_start c ws x e)

-- ---- epochs

offered_some : (slice : Slice Shown) → Reached slice → (offer : one.Offer) → IsIn offer slice.offers → 0 < offer.epoch
offered_some slice reached =
    subst (λ (z : Slice Shown). (offer : one.Offer) → IsIn offer z.offers → 0 < offer.epoch) reached.leads_here (λ offer was. ((always reached.present reached.session reached.epoch reached.events reached.allowed).epochs.offers offer was).some)

-- a session was granted in the epoch of some master
pub started_some : (w : WorldState) → ((client : ℕ) (name : List ℕ) → Reached (slice client name w)) → (at : ℕ) (started : Started) → out_at w.messages at ≡ Some (outs.Started started) → 0 < started.epoch
started_some w reached at started sent =
    let offer : one.Offer = record { epoch = started.epoch; number = started.number; span = started.span; last_invalidation = 0; name_invalidation = 0 } in
    offered_some (slice started.client [] w) (reached started.client []) offer
    (offer_sent started.client [] w.messages at (outs.Started started) offer sent (λ offers. first_in (started.client == started.client) offer offers (same_test started.client started.client refl)))
