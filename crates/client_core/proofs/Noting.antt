-- What the noting of the time does, by how the client stands.
use Rattle.std.proofs.Common.{◌≡◌, ◌≢◌, ℕ, ◌<◌, ◌≤◌, Bool, true, false, cond, [], None, refl, sym, ap, ◌∙◌, arith, eqb}
use Rattle.std.specs.Prelude.{◌&&◌, nat_lt, nat_le, ◌-◌}
use Rattle.std.proofs.lemmas.Bool.Decides.{nat_tests}
use Rattle.cache_core.specs.Caches.{CacheState, is_leased, noted}
use Rattle.std.specs.Option.{option_to_list}
use Rattle.cache_core.specs.Standings.{grace_period, standing_at, turn_line}
use Rattle.cache_core.specs.declared.standings.SessionTrust.{SessionTrust}
use Rattle.cache_core.specs.declared.standings.SessionTrust.TheVariants as standings
use Rattle.client_core.specs.declared.parts.sessions.ClientStanding.{ClientStanding}
use Rattle.client_core.specs.declared.parts.sessions.ClientStanding.TheVariants as sessions
use Rattle.client_core.specs.State.{ClientState, at_moment, standing_then, session_behind, session_in, session_then, note_in, note, note_lines_in, note_lines}
use Rattle.client_core.specs.Asks.{fault_then}
use Rattle.client_core.specs.Sessions.{standing_fault, session_fault}
use Rattle.client_core.specs.Laws.{SafeNoteSetsTheClock}

pub either : {A : Type 0} (P : A → Type 0) (b : Bool) (x y : A) → (b ≡ true → P x) → (b ≡ false → P y) → P (cond b x y)
either P true x y h k = h refl
either P false x y h k = k refl

pub less : (n m : ℕ) → nat_lt n m ≡ true → n < m
less n m h = grind (arith, nat_tests)

pub not_less : (n m : ℕ) → nat_lt n m ≡ false → m ≤ n
not_less n m h = grind (arith, nat_tests)

pub same : (n m : ℕ) → eqb n m ≡ true → n ≡ m
same n m h = grind (arith, nat_tests)

pub other : (n m : ℕ) → eqb n m ≡ false → n ≢ m
other n m h = grind (arith, nat_tests)

pub up_to : (n m : ℕ) → nat_le n m ≡ true → n ≤ m
up_to n m h = grind (arith, nat_tests)

pub both : (a b : Bool) → (a && b) ≡ true → (a ≡ true) × (b ≡ true)
both true b h = (refl, h)
both false b h = cc

-- ---- the standing

no_longer_safe : (b : Bool) (since : ℕ) (X : Type 0) → cond {A = SessionTrust} b standings.Lost (standings.Jeopardy since) ≡ standings.Safe → X
no_longer_safe true since X h = cc
no_longer_safe false since X h = cc

-- safe is who was safe, under a lease that runs
pub stays_safe : (standing : SessionTrust) (leased : Bool) (moment : ℕ) → standing_at standing leased moment ≡ standings.Safe → (standing ≡ standings.Safe) × (leased ≡ true)
stays_safe standings.Safe true moment h = (refl, refl)
stays_safe standings.Safe false moment h = cc
stays_safe (standings.Jeopardy since) leased moment h = no_longer_safe (nat_le grace_period (moment - since)) since _ h
stays_safe standings.Lost leased moment h = cc

relies : (standing : SessionTrust) → standing_fault standing ≡ None → standing ≡ standings.Safe
relies standings.Safe h = refl
relies (standings.Jeopardy since) h = cc
relies standings.Lost h = cc

relies_on : (session : ClientStanding) (standing : SessionTrust) → session_fault session standing ≡ None → (session ≡ sessions.Live) × (standing ≡ standings.Safe)
relies_on sessions.Unstarted standing h = cc
relies_on sessions.Live standing h = (refl, relies standing h)
relies_on sessions.Lost standing h = cc
relies_on sessions.TurnedAway standing h = cc

-- a client that may rely on its session, at a moment
pub record Relies (s : ClientState) (moment : ℕ) : Type 0 where
  pub live : s.session ≡ sessions.Live
  pub safe : s.standing ≡ standings.Safe
  pub leased : is_leased s.cache.lease moment ≡ true

pub safely : (s : ClientState) (moment : ℕ) → s.session ≡ sessions.Live → standing_then s moment ≡ standings.Safe → Relies s moment
safely s moment live then =
    let e = stays_safe s.standing (is_leased s.cache.lease moment) moment then in
    record { live = live; safe = e.0; leased = e.1 }

pub faultless : (s : ClientState) (moment : ℕ) → fault_then s moment ≡ None → Relies s moment
faultless s moment h = let e = relies_on s.session (standing_then s moment) h in safely s moment e.0 e.1

-- ---- the session

-- what is a session then was one before
pub live_before : (s : ClientState) (session : ClientStanding) (moment : ℕ) → session_in session s moment ≡ sessions.Live → session ≡ sessions.Live
live_before s sessions.Unstarted moment h = cc
live_before s sessions.Live moment h = refl
live_before s sessions.Lost moment h = cc
live_before s sessions.TurnedAway moment h = cc

not_unstarted : (standing : SessionTrust) (X : Type 0) → session_behind standing ≡ sessions.Unstarted → X
not_unstarted standings.Safe X h = cc
not_unstarted (standings.Jeopardy since) X h = cc
not_unstarted standings.Lost X h = cc

pub unstarted_before : (s : ClientState) (session : ClientStanding) (moment : ℕ) → session_in session s moment ≡ sessions.Unstarted → session ≡ sessions.Unstarted
unstarted_before s sessions.Unstarted moment h = refl
unstarted_before s sessions.Live moment h = not_unstarted (standing_then s moment) _ h
unstarted_before s sessions.Lost moment h = cc
unstarted_before s sessions.TurnedAway moment h = cc

pub then_in : (s : ClientState) (moment : ℕ) (session : ClientStanding) → s.session ≡ sessions.Live → session_behind (standing_then s moment) ≡ session → session_then s moment ≡ session
then_in s moment session live h = ap (λ x. session_in x s moment) live ∙ h

-- ---- the cache

lease_by : (cache : CacheState) (b : Bool) → (cond b cache (record cache { entries = []; enabled = false })).lease ≡ cache.lease
lease_by cache true = refl
lease_by cache false = refl

-- the lease stays
pub noted_lease : (cache : CacheState) (moment : ℕ) → (noted cache moment).lease ≡ cache.lease
noted_lease cache moment = lease_by cache (is_leased cache.lease moment)

-- ---- a client that may rely on its session

noted_by : (cache : CacheState) (b : Bool) → b ≡ true → cond b cache (record cache { entries = []; enabled = false }) ≡ cache
noted_by cache true h = refl
noted_by cache false h = cc

-- a client whose parts are the same
made : (s : ClientState) (moment : ℕ) (session : ClientStanding) (cache : CacheState) (standing : SessionTrust) → session ≡ s.session → cache ≡ s.cache → standing ≡ s.standing → (record s { clock = moment; session = session; cache = cache; standing = standing }) ≡ at_moment s moment
made s moment session cache standing h k l = ap (λ x. record s { clock = moment; session = x; cache = cache; standing = standing }) h ∙ (ap (λ x. record s { clock = moment; session = s.session; cache = x; standing = standing }) k ∙ ap (λ x. record s { clock = moment; session = s.session; cache = s.cache; standing = x }) l)

relied_then : (s : ClientState) (moment : ℕ) → Relies s moment → standing_then s moment ≡ standings.Safe
relied_then s moment r = ap (λ x. standing_at x (is_leased s.cache.lease moment) moment) r.safe ∙ ap (λ b. standing_at standings.Safe b moment) r.leased

pub relied_note : (s : ClientState) (moment : ℕ) → Relies s moment → note s moment ≡ at_moment s moment
relied_note s moment r =
    let then = relied_then s moment r in
    ap (λ x. note_in x s moment) r.live
    ∙ made s moment (session_behind (standing_then s moment)) (noted s.cache moment) (standing_then s moment) (ap session_behind then ∙ sym r.live) (noted_by s.cache (is_leased s.cache.lease moment) r.leased) (then ∙ sym r.safe)

pub relied_lines : (s : ClientState) (moment : ℕ) → Relies s moment → note_lines s moment ≡ []
relied_lines s moment r =
    let then = relied_then s moment r in
    ap (λ x. note_lines_in x s moment) r.live
    ∙ (ap (λ x. option_to_list (turn_line s.number x (standing_then s moment))) r.safe ∙ ap (λ x. option_to_list (turn_line s.number standings.Safe x)) then)

pub safe_note_sets_the_clock : SafeNoteSetsTheClock
safe_note_sets_the_clock s moment h = let r = faultless s moment h in (r.leased, relied_note s moment r, relied_lines s moment r)

-- ---- what stays

pub note_number : (s : ClientState) (session : ClientStanding) (moment : ℕ) → (note_in session s moment).number ≡ s.number
note_number s sessions.Unstarted moment = refl
note_number s sessions.Live moment = refl
note_number s sessions.Lost moment = refl
note_number s sessions.TurnedAway moment = refl

pub note_clock : (s : ClientState) (session : ClientStanding) (moment : ℕ) → (note_in session s moment).clock ≡ moment
note_clock s sessions.Unstarted moment = refl
note_clock s sessions.Live moment = refl
note_clock s sessions.Lost moment = refl
note_clock s sessions.TurnedAway moment = refl

pub note_beats : (s : ClientState) (session : ClientStanding) (moment : ℕ) → (note_in session s moment).beats ≡ s.beats
note_beats s sessions.Unstarted moment = refl
note_beats s sessions.Live moment = refl
note_beats s sessions.Lost moment = refl
note_beats s sessions.TurnedAway moment = refl

pub note_leaving : (s : ClientState) (session : ClientStanding) (moment : ℕ) → (note_in session s moment).leaving ≡ s.leaving
note_leaving s sessions.Unstarted moment = refl
note_leaving s sessions.Live moment = refl
note_leaving s sessions.Lost moment = refl
note_leaving s sessions.TurnedAway moment = refl

pub note_sent : (s : ClientState) (session : ClientStanding) (moment : ℕ) → (note_in session s moment).sent ≡ s.sent
note_sent s sessions.Unstarted moment = refl
note_sent s sessions.Live moment = refl
note_sent s sessions.Lost moment = refl
note_sent s sessions.TurnedAway moment = refl

pub note_epoch : (s : ClientState) (session : ClientStanding) (moment : ℕ) → (note_in session s moment).epoch ≡ s.epoch
note_epoch s sessions.Unstarted moment = refl
note_epoch s sessions.Live moment = refl
note_epoch s sessions.Lost moment = refl
note_epoch s sessions.TurnedAway moment = refl

pub note_processed : (s : ClientState) (session : ClientStanding) (moment : ℕ) → (note_in session s moment).processed ≡ s.processed
note_processed s sessions.Unstarted moment = refl
note_processed s sessions.Live moment = refl
note_processed s sessions.Lost moment = refl
note_processed s sessions.TurnedAway moment = refl

pub note_outstanding : (s : ClientState) (session : ClientStanding) (moment : ℕ) → (note_in session s moment).outstanding ≡ s.outstanding
note_outstanding s sessions.Unstarted moment = refl
note_outstanding s sessions.Live moment = refl
note_outstanding s sessions.Lost moment = refl
note_outstanding s sessions.TurnedAway moment = refl

pub note_opened : (s : ClientState) (session : ClientStanding) (moment : ℕ) → (note_in session s moment).opened ≡ s.opened
note_opened s sessions.Unstarted moment = refl
note_opened s sessions.Live moment = refl
note_opened s sessions.Lost moment = refl
note_opened s sessions.TurnedAway moment = refl

pub note_lease : (s : ClientState) (session : ClientStanding) (moment : ℕ) → (note_in session s moment).cache.lease ≡ s.cache.lease
note_lease s sessions.Unstarted moment = refl
note_lease s sessions.Live moment = noted_lease s.cache moment
note_lease s sessions.Lost moment = refl
note_lease s sessions.TurnedAway moment = refl

note_session_in : (s : ClientState) (session : ClientStanding) (moment : ℕ) → s.session ≡ session → (note_in session s moment).session ≡ session_in session s moment
note_session_in s sessions.Unstarted moment is = is
note_session_in s sessions.Live moment is = refl
note_session_in s sessions.Lost moment is = is
note_session_in s sessions.TurnedAway moment is = is

-- the session is the one that is tested
pub note_session : (s : ClientState) (moment : ℕ) → (note s moment).session ≡ session_then s moment
note_session s moment = note_session_in s s.session moment refl
