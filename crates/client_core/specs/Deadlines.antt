-- When a client has something to do next, in milliseconds of its own clock.
use Rattle.std.specs.Prelude.{◌≡◌, ℕ, ◌+◌, ◌<◌, ◌≤◌, Bool, true, false, not, max, nat_lt, List, [], ◌∷◌, Option, Some, None, is_some, Result, Ok, Err, ◌||◌, if◌then◌else◌}
use Rattle.lease_core.specs.Lease.{LeaseTerms, IsMoment, moment_limit}
use Rattle.node_core.specs.Limits.{number_end}
use Rattle.node_core.specs.declared.lines.Line.{Line}
use Rattle.node_core.specs.declared.refusals.Fault.{Fault}
use Rattle.cache_core.specs.Caches.{is_leased}
use Rattle.cache_core.specs.Standings.{grace_period}
use Rattle.cache_core.specs.declared.standings.SessionTrust.{SessionTrust}
use Rattle.cache_core.specs.declared.standings.SessionTrust.TheVariants as standings
use Rattle.client_core.specs.declared.parts.steps.Beaten.{Beaten}
use Rattle.client_core.specs.State.{ClientState, note_lines}
use Rattle.client_core.specs.Beats.{beat_step}

-- ---- the first moment of all at which a test holds

-- from this moment on it holds, and from the other up to it it doesn't
pub record IsFrom (test : ℕ → Bool) (from moment : ℕ) : Type 0 where
  pub is : IsMoment moment
  pub later : from ≤ moment
  pub before : (t : ℕ) → from ≤ t → t < moment → test t ≡ false
  pub after : (t : ℕ) → moment ≤ t → IsMoment t → test t ≡ true

-- none, where it holds at no moment from the other on
abbrev pub IsFirst : (ℕ → Bool) → ℕ → Option ℕ → Type 0
IsFirst test from None = (t : ℕ) → from ≤ t → IsMoment t → test t ≡ false
IsFirst test from (Some moment) = IsFrom test from moment

-- ---- what a client does at a moment

-- something is printed
abbrev pub prints : List Line → Bool
prints [] = false
prints (line ∷ rest) = true

-- a beat sends a message, or prints a line
abbrev pub acts : Result Beaten Fault → Bool
acts (Ok beaten) = prints beaten.lines || is_some beaten.request
acts (Err fault) = false

abbrev pub beats_at : ClientState → ℕ → Bool
beats_at s now = acts (beat_step s now).1

-- how it stands is turned by the time alone, of which a line is printed. An earlier moment counts as the last one
abbrev pub turns_at : ClientState → ℕ → Bool
turns_at s now = prints (note_lines s (max s.clock now))

-- ---- the next moments

abbrev pub IsNextBeat : ClientState → Option ℕ → Type 0
IsNextBeat s moment = IsFirst (beats_at s) s.clock moment

abbrev pub IsNextTurn : ClientState → Option ℕ → Type 0
IsNextTurn s moment = IsFirst (turns_at s) s.clock moment

-- ---- how they are found

-- moments have an end
abbrev pub until : ℕ → Option ℕ
until moment = if nat_lt moment moment_limit then Some moment else None

-- when a jeopardy loses the session
abbrev pub loss_at : ℕ → ℕ → ℕ
loss_at clock since = max clock (since + grace_period)

abbrev pub is_unleased : Option LeaseTerms → ℕ → Bool
is_unleased lease now = not (is_leased lease now)

-- there is a number for one more Start or Beat
abbrev pub has_number : ℕ → Bool
has_number beats = nat_lt (beats + 1) number_end

abbrev pub now_or_never : Bool → ℕ → Option ℕ
now_or_never numbered clock = if numbered then until clock else None

-- in a session
abbrev pub in_session : SessionTrust → Bool → ℕ → Option ℕ
in_session standings.Safe numbered clock = now_or_never numbered clock
in_session (standings.Jeopardy since) numbered clock = if numbered then until clock else until (loss_at clock since)
in_session standings.Lost numbered clock = None
