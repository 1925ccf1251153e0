-- The first moments at which a client does something.
use Rattle.std.proofs.Common.{◌≡◌, ℕ, ◌+◌, ◌-◌, ◌<◌, ◌≤◌, Bool, true, false, cond, List, Option, Some, None, Result, Ok, Err, refl, sym, ap, subst, ◌∙◌, arith, inl, inr}
use Rattle.std.specs.Prelude.{◌⊎◌, max, not, nat_lt, nat_le, ◌||◌}
use Rattle.std.specs.Option.{option_to_list}
use Rattle.std.proofs.lemmas.Bool.{lt-ltb}
use Rattle.std.proofs.lemmas.Bool.Decides.{nat_tests}
use Rattle.lease_core.specs.Lease.{LeaseTerms, IsMoment, moment_limit}
use Rattle.node_core.specs.declared.lines.Line.{Line}
use Rattle.node_core.specs.declared.refusals.Fault.{Fault}
use Rattle.tags_cell.specs.declared.messages.requests.Request.{Request}
use Rattle.cache_core.specs.Caches.{is_leased}
use Rattle.cache_core.specs.Standings.{grace_period, standing_at, turn_line}
use Rattle.cache_core.specs.declared.standings.SessionTrust.{SessionTrust}
use Rattle.cache_core.specs.declared.standings.SessionTrust.TheVariants as standings
use Rattle.client_core.specs.declared.parts.sessions.ClientStanding.{ClientStanding}
use Rattle.client_core.specs.declared.parts.sessions.ClientStanding.TheVariants as sessions
use Rattle.client_core.specs.declared.parts.steps.Beaten.{Beaten}
use Rattle.client_core.specs.Moments.{moment}
use Rattle.client_core.specs.State.{ClientState, session_behind, session_in, session_then, note_lines_in, note_lines}
use Rattle.client_core.specs.Beats.{start_message, beat_message, beat_by, beat_at, beat_step}
use Rattle.client_core.specs.Deadlines.{IsFrom, IsFirst, prints, acts, beats_at, turns_at, IsNextBeat, IsNextTurn, until, loss_at, is_unleased, has_number, now_or_never, in_session}

-- ---- tests that hold from a moment on

either : {A : Type 0} (P : A → Type 0) (b : Bool) (x y : A) → (b ≡ true → P x) → (b ≡ false → P y) → P (cond b x y)
either P true x y h k = h refl
either P false x y h k = k refl

under : (n : ℕ) → nat_lt n moment_limit ≡ true → IsMoment n
under n h = grind (arith, nat_tests)

over : (n t : ℕ) → nat_lt n moment_limit ≡ false → IsMoment t → t < n
over n t h is = grind (arith, nat_tests)

-- from a moment on it holds, and before that it doesn't
pub first_from : (test : ℕ → Bool) (from n : ℕ) → from ≤ n → ((t : ℕ) → from ≤ t → t < n → test t ≡ false) → ((t : ℕ) → from ≤ t → n ≤ t → test t ≡ true) → IsFirst test from (until n)
first_from test from n le before after =
    either (λ (o : Option ℕ). IsFirst test from o) (nat_lt n moment_limit) (Some n) None
    (λ h. record { is = under n h; later = le; before = before; after = λ t from_n is. after t (omega (arith, le, from_n)) from_n })
    (λ h. λ t from_t is. before t from_t (over n t h is))

pub first_never : (test : ℕ → Bool) (from : ℕ) → ((t : ℕ) → from ≤ t → IsMoment t → test t ≡ false) → IsFirst test from None
first_never test from h = h

-- a test that is the same from there on
pub first_same : (test other : ℕ → Bool) (from : ℕ) (found : Option ℕ) → ((t : ℕ) → from ≤ t → IsMoment t → test t ≡ other t) → IsFirst other from found → IsFirst test from found
first_same test other from None same first = λ t le is. same t le is ∙ first t le is
first_same test other from (Some n) same first = record {
  is = first.is;
  later = first.later;
  before = λ t le lt. same t le (omega (arith, lt, first.is)) ∙ first.before t le lt;
  after = λ t le is. same t (omega (arith, le, first.later)) is ∙ first.after t le is;
}

-- ---- the end of a lease

earlier : (sent span t u : ℕ) → t ≤ u → is_leased (Some (record { sent = sent; span = span })) u ≡ true → is_leased (Some (record { sent = sent; span = span })) t ≡ true
earlier sent span t u le h = grind (arith, nat_tests)

-- a lease that runs ran before
pub leased_before : (lease : Option LeaseTerms) (t u : ℕ) → t ≤ u → is_leased lease u ≡ true → is_leased lease t ≡ true
leased_before None t u le h = absurd cc
leased_before (Some lease) t u le h = earlier lease.sent lease.span t u le h

not_true : (b : Bool) → b ≡ true → not b ≡ false
not_true b e = rw e refl

not_false : (b : Bool) → b ≡ false → not b ≡ true
not_false b e = rw e refl

false_of : (b : Bool) → (b ≡ true → ⊥) → b ≡ false
false_of true h = absurd (h refl)
false_of false h = refl

unleased_later : (lease : Option LeaseTerms) (t u : ℕ) → t ≤ u → is_leased lease t ≡ false → is_leased lease u ≡ false
unleased_later lease t u le h = false_of (is_leased lease u) (λ runs. let before = leased_before lease t u le runs in absurd cc)

pub end_found : (lease : Option LeaseTerms) (from runs ended : ℕ) → from ≤ runs → runs ≤ ended → ended ≤ 9007199254740991 → is_leased lease runs ≡ true → is_leased lease ended ≡ false
    → ended ≤ runs + 1 → IsFrom (is_unleased lease) from ended
end_found lease from runs ended le order most before behind met = record {
  is = omega arith;
  later = omega arith;
  before = λ t from_t lt. not_true (is_leased lease t) (leased_before lease t runs (omega arith) before);
  after = λ t le_t is. not_false (is_leased lease t) (unleased_later lease ended t le_t behind);
}

pub end_now : (lease : Option LeaseTerms) (from : ℕ) → from < 9007199254740992 → is_leased lease from ≡ false → IsFrom (is_unleased lease) from from
end_now lease from is ended = record {
  is = is;
  later = omega arith;
  before = λ t from_t lt. absurd (omega (arith, from_t, lt));
  after = λ t le_t is. not_false (is_leased lease t) (unleased_later lease from t le_t ended);
}

pub end_never : (lease : Option LeaseTerms) (from : ℕ) → is_leased lease 9007199254740991 ≡ true → IsFirst (is_unleased lease) from None
end_never lease from runs = λ t from_t is. not_true (is_leased lease t) (leased_before lease t 9007199254740991 (omega (arith, is)) runs)

pub end_past : (lease : Option LeaseTerms) (from : ℕ) → 9007199254740992 ≤ from → IsFirst (is_unleased lease) from None
end_past lease from long = λ t from_t is. absurd (omega (arith, long, from_t, is))

-- ---- how the time turns it

turn_prints : SessionTrust → Bool → ℕ → Bool
turn_prints standings.Safe leased m = not leased
turn_prints (standings.Jeopardy since) leased m = nat_le grace_period (m - since)
turn_prints standings.Lost leased m = false

session_turns : ClientStanding → SessionTrust → Bool → ℕ → Bool
session_turns sessions.Unstarted standing leased m = false
session_turns sessions.Live standing leased m = turn_prints standing leased m
session_turns sessions.Lost standing leased m = false
session_turns sessions.TurnedAway standing leased m = false

jeopardy_prints : (client since : ℕ) (b : Bool) → prints (option_to_list (turn_line client (standings.Jeopardy since) (cond b standings.Lost (standings.Jeopardy since)))) ≡ b
jeopardy_prints client since true = refl
jeopardy_prints client since false = refl

standing_prints : (client : ℕ) (standing : SessionTrust) (leased : Bool) (m : ℕ) → prints (option_to_list (turn_line client standing (standing_at standing leased m))) ≡ turn_prints standing leased m
unfolding turn_prints
standing_prints client standings.Safe true m = refl
standing_prints client standings.Safe false m = refl
standing_prints client (standings.Jeopardy since) leased m = jeopardy_prints client since (nat_le grace_period (m - since))
standing_prints client standings.Lost leased m = refl

turns_in : (s : ClientState) (session : ClientStanding) (m : ℕ) → prints (note_lines_in session s m) ≡ session_turns session s.standing (is_leased s.cache.lease m) m
unfolding session_turns
turns_in s sessions.Unstarted m = refl
turns_in s sessions.Live m = standing_prints s.number s.standing (is_leased s.cache.lease m) m
turns_in s sessions.Lost m = refl
turns_in s sessions.TurnedAway m = refl

at_clock : (clock t : ℕ) → clock ≤ t → max clock t ≡ t
at_clock clock t le = omega (arith, le)

turns_are : (s : ClientState) (t : ℕ) → s.clock ≤ t → turns_at s t ≡ session_turns s.session s.standing (is_leased s.cache.lease t) t
turns_are s t le = ap (λ (m : ℕ). prints (note_lines s m)) (at_clock s.clock t le) ∙ turns_in s s.session t

turns_by : (s : ClientState) (session : ClientStanding) (standing : SessionTrust) (t : ℕ) → s.session ≡ session → s.standing ≡ standing → s.clock ≤ t
    → turns_at s t ≡ session_turns session standing (is_leased s.cache.lease t) t
turns_by s session standing t e f le =
    turns_are s t le
    ∙ ap (λ (u : ClientStanding). session_turns u s.standing (is_leased s.cache.lease t) t) e
    ∙ ap (λ (u : SessionTrust). session_turns session u (is_leased s.cache.lease t) t) f

-- a jeopardy has lasted long enough
lasted : (since t : ℕ) → since + grace_period ≤ t → nat_le grace_period (t - since) ≡ true
lasted since t le = grind (arith, nat_tests)

lasts : (since t : ℕ) → t < since + grace_period → nat_le grace_period (t - since) ≡ false
lasts since t lt = grind (arith, nat_tests)

lost_from : (clock since : ℕ) → IsFirst (λ t. nat_le grace_period (t - since)) clock (until (loss_at clock since))
lost_from clock since =
    first_from (λ t. nat_le grace_period (t - since)) clock (loss_at clock since) (omega arith)
    (λ t le lt. lasts since t (omega (arith, le, lt))) (λ t le over. lasted since t (omega (arith, le, over)))

pub next_safe_turn : (s : ClientState) (lease : Option LeaseTerms) (clock : ℕ) (found : Option ℕ) → s.session ≡ sessions.Live → s.standing ≡ standings.Safe → lease ≡ s.cache.lease → clock ≡ s.clock
    → IsFirst (is_unleased lease) clock found → IsNextTurn s found
unfolding session_turns turn_prints
next_safe_turn s lease clock found e f l k first =
    let P : Option LeaseTerms → Type 0 = λ u. IsFirst (is_unleased u) s.clock found in
    let Q : ℕ → Type 0 = λ n. IsFirst (is_unleased lease) n found in
    first_same (turns_at s) (is_unleased s.cache.lease) s.clock found (λ t le is. turns_by s sessions.Live standings.Safe t e f le) (subst P l (subst Q k first))

pub next_lost_turn : (s : ClientState) (since clock : ℕ) (found : Option ℕ) → s.session ≡ sessions.Live → s.standing ≡ standings.Jeopardy since → clock ≡ s.clock
    → found ≡ until (loss_at clock since) → IsNextTurn s found
unfolding session_turns turn_prints
next_lost_turn s since clock found e f k is =
    let P : Option ℕ → Type 0 = λ o. IsFirst (turns_at s) s.clock o in
    subst P (sym (is ∙ ap (λ (n : ℕ). until (loss_at n since)) k))
    (first_same (turns_at s) (λ t. nat_le grace_period (t - since)) s.clock (until (loss_at s.clock since))
    (λ t le is. turns_by s sessions.Live (standings.Jeopardy since) t e f le) (lost_from s.clock since))

pub no_turn_lost : (s : ClientState) → s.session ≡ sessions.Live → s.standing ≡ standings.Lost → IsNextTurn s None
unfolding session_turns turn_prints
no_turn_lost s e f = λ t le is. turns_by s sessions.Live standings.Lost t e f le

turns_never : (session : ClientStanding) (standing : SessionTrust) (leased : Bool) (t : ℕ) → (session ≡ sessions.Live → ⊥) → session_turns session standing leased t ≡ false
unfolding session_turns
turns_never sessions.Unstarted standing leased t h = refl
turns_never sessions.Live standing leased t h = absurd (h refl)
turns_never sessions.Lost standing leased t h = refl
turns_never sessions.TurnedAway standing leased t h = refl

-- without a session
pub no_turn : (s : ClientState) → (s.session ≡ sessions.Live → ⊥) → IsNextTurn s None
no_turn s h = λ t le is. turns_are s t le ∙ turns_never s.session s.standing (is_leased s.cache.lease t) t h

-- ---- what a beat does

or_true : (b : Bool) → (b || true) ≡ true
or_true true = refl
or_true false = refl

or_false : (b : Bool) → (b || false) ≡ b
or_false true = refl
or_false false = refl

acts_sent : (b : Bool) (new old : ClientState) (lines : List Line) (message : Request) (fault : Fault)
    → acts (cond {A = ClientState × Result Beaten Fault} b (new, Ok (record { lines = lines; request = Some message })) (old, Err fault)).1 ≡ b
acts_sent true new old lines message fault = or_true (prints lines)
acts_sent false new old lines message fault = refl

does_by : ClientStanding → Bool → Bool → Bool
does_by sessions.Unstarted numbered printed = numbered
does_by sessions.Live numbered printed = numbered
does_by sessions.Lost numbered printed = printed
does_by sessions.TurnedAway numbered printed = printed

acts_by : (s : ClientState) (m : ℕ) (session : ClientStanding) → acts (beat_by s m session).1 ≡ does_by session (has_number s.beats) (prints (note_lines s m))
unfolding does_by
acts_by s m sessions.Unstarted = acts_sent (has_number s.beats) _ s (note_lines s m) (start_message s) _
acts_by s m sessions.Live = acts_sent (has_number s.beats) _ s (note_lines s m) (beat_message s) _
acts_by s m sessions.Lost = or_false (prints (note_lines s m))
acts_by s m sessions.TurnedAway = or_false (prints (note_lines s m))

session_at : ClientStanding → SessionTrust → Bool → ℕ → ClientStanding
session_at sessions.Unstarted standing leased m = sessions.Unstarted
session_at sessions.Live standing leased m = session_behind (standing_at standing leased m)
session_at sessions.Lost standing leased m = sessions.Lost
session_at sessions.TurnedAway standing leased m = sessions.TurnedAway

session_is : (s : ClientState) (session : ClientStanding) (m : ℕ) → session_in session s m ≡ session_at session s.standing (is_leased s.cache.lease m) m
unfolding session_at
session_is s sessions.Unstarted m = refl
session_is s sessions.Live m = refl
session_is s sessions.Lost m = refl
session_is s sessions.TurnedAway m = refl

beats_in : SessionTrust → Bool → ℕ → Bool
beats_in standings.Safe numbered t = numbered
beats_in (standings.Jeopardy since) numbered t = nat_le grace_period (t - since) || numbered
beats_in standings.Lost numbered t = false

beats_by : ClientStanding → SessionTrust → Bool → ℕ → Bool
beats_by sessions.Unstarted standing numbered t = numbered
beats_by sessions.Live standing numbered t = beats_in standing numbered t
beats_by sessions.Lost standing numbered t = false
beats_by sessions.TurnedAway standing numbered t = false

jeopardy_does : (b numbered : Bool) (since : ℕ) → does_by (session_behind (cond b standings.Lost (standings.Jeopardy since))) numbered b ≡ (b || numbered)
unfolding does_by
jeopardy_does true numbered since = refl
jeopardy_does false numbered since = refl

live_does : (standing : SessionTrust) (leased : Bool) (t : ℕ) (numbered : Bool)
    → does_by (session_behind (standing_at standing leased t)) numbered (turn_prints standing leased t) ≡ beats_in standing numbered t
unfolding does_by turn_prints beats_in
live_does standings.Safe true t numbered = refl
live_does standings.Safe false t numbered = refl
live_does (standings.Jeopardy since) leased t numbered = jeopardy_does (nat_le grace_period (t - since)) numbered since
live_does standings.Lost leased t numbered = refl

all_does : (session : ClientStanding) (standing : SessionTrust) (leased : Bool) (t : ℕ) (numbered : Bool)
    → does_by (session_at session standing leased t) numbered (session_turns session standing leased t) ≡ beats_by session standing numbered t
unfolding session_at session_turns beats_by does_by
all_does sessions.Unstarted standing leased t numbered = refl
all_does sessions.Live standing leased t numbered = live_does standing leased t numbered
all_does sessions.Lost standing leased t numbered = refl
all_does sessions.TurnedAway standing leased t numbered = refl

moment_is : (clock t : ℕ) → clock ≤ t → IsMoment t → moment clock t ≡ Ok t
moment_is clock t le is = rw (lt-ltb t moment_limit is) (ap (λ (m : ℕ). Ok m) (at_clock clock t le))

beats_are : (s : ClientState) (t : ℕ) → s.clock ≤ t → IsMoment t → beats_at s t ≡ beats_by s.session s.standing (has_number s.beats) t
unfolding beat_step
beats_are s t le is =
    ap (λ (r : Result ℕ Fault). acts (beat_at s r).1) (moment_is s.clock t le is)
    ∙ acts_by s t (session_then s t)
    ∙ ap (λ (u : ClientStanding). does_by u (has_number s.beats) (prints (note_lines s t))) (session_is s s.session t)
    ∙ ap (λ (p : Bool). does_by (session_at s.session s.standing (is_leased s.cache.lease t) t) (has_number s.beats) p) (turns_in s s.session t)
    ∙ all_does s.session s.standing (is_leased s.cache.lease t) t (has_number s.beats)

-- ---- the next beat

always_or_never : (numbered : Bool) (from : ℕ) → IsFirst (λ t. numbered) from (now_or_never numbered from)
always_or_never true from = first_from (λ t. true) from from (omega arith) (λ t le lt. absurd (omega (arith, le, lt))) (λ t le over. refl)
always_or_never false from = λ t le is. refl

jeopardy_first : (numbered : Bool) (since from : ℕ) → IsFirst (λ t. nat_le grace_period (t - since) || numbered) from (in_session (standings.Jeopardy since) numbered from)
jeopardy_first true since from = first_same _ (λ t. true) from (until from) (λ t le is. or_true (nat_le grace_period (t - since))) (always_or_never true from)
jeopardy_first false since from =
    first_same _ (λ t. nat_le grace_period (t - since)) from (until (loss_at from since)) (λ t le is. or_false (nat_le grace_period (t - since))) (lost_from from since)

in_session_first : (standing : SessionTrust) (numbered : Bool) (from : ℕ) → IsFirst (beats_in standing numbered) from (in_session standing numbered from)
unfolding beats_in
in_session_first standings.Safe numbered from = always_or_never numbered from
in_session_first (standings.Jeopardy since) numbered from = jeopardy_first numbered since from
in_session_first standings.Lost numbered from = λ t le is. refl

beats_as : (s : ClientState) (session : ClientStanding) → s.session ≡ session → (t : ℕ) → s.clock ≤ t → IsMoment t → beats_at s t ≡ beats_by session s.standing (has_number s.beats) t
beats_as s session e t le is = beats_are s t le is ∙ ap (λ (u : ClientStanding). beats_by u s.standing (has_number s.beats) t) e

pub next_start : (s : ClientState) (beats clock : ℕ) (found : Option ℕ) → s.session ≡ sessions.Unstarted → beats ≡ s.beats → clock ≡ s.clock → found ≡ now_or_never (has_number beats) clock → IsNextBeat s found
unfolding beats_by
next_start s beats clock found e b k is =
    let P : Option ℕ → Type 0 = λ o. IsFirst (beats_at s) s.clock o in
    subst P (sym (is ∙ ap (λ (n : ℕ). now_or_never (has_number n) clock) b ∙ ap (λ (n : ℕ). now_or_never (has_number s.beats) n) k))
    (first_same (beats_at s) (λ t. has_number s.beats) s.clock (now_or_never (has_number s.beats) s.clock) (beats_as s sessions.Unstarted e) (always_or_never (has_number s.beats) s.clock))

pub next_live : (s : ClientState) (standing : SessionTrust) (beats clock : ℕ) (found : Option ℕ) → s.session ≡ sessions.Live → standing ≡ s.standing → beats ≡ s.beats → clock ≡ s.clock
    → found ≡ in_session standing (has_number beats) clock → IsNextBeat s found
unfolding beats_by
next_live s standing beats clock found e f b k is =
    let P : Option ℕ → Type 0 = λ o. IsFirst (beats_at s) s.clock o in
    subst P (sym (is ∙ ap (λ (u : SessionTrust). in_session u (has_number beats) clock) f ∙ ap (λ (n : ℕ). in_session s.standing (has_number n) clock) b
    ∙ ap (λ (n : ℕ). in_session s.standing (has_number s.beats) n) k))
    (first_same (beats_at s) (beats_in s.standing (has_number s.beats)) s.clock (in_session s.standing (has_number s.beats) s.clock) (beats_as s sessions.Live e)
    (in_session_first s.standing (has_number s.beats) s.clock))

no_beat_lost : (s : ClientState) → s.session ≡ sessions.Lost → IsNextBeat s None
unfolding beats_by
no_beat_lost s e = λ t le is. beats_as s sessions.Lost e t le is

no_beat_away : (s : ClientState) → s.session ≡ sessions.TurnedAway → IsNextBeat s None
unfolding beats_by
no_beat_away s e = λ t le is. beats_as s sessions.TurnedAway e t le is

-- without a session, and with none to come
pub no_beat : (s : ClientState) (session : ClientStanding) → session ≡ s.session → (session ≡ sessions.Lost) ⊎ (session ≡ sessions.TurnedAway) → IsNextBeat s None
no_beat s session e (inl lost) = no_beat_lost s (sym e ∙ lost)
no_beat s session e (inr away) = no_beat_away s (sym e ∙ away)
