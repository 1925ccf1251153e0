-- What is known of all sessions at once, so that none has to be looked for.
use Rattle.std.specs.Prelude.{◌≡◌, ℕ, Bool, true, not, ◌&&◌, ◌≤◌, ◌+◌, ◌-◌, ◌/◌, List, All, Some, min, if◌then◌else◌}
use Rattle.std.specs.Option.{option_map_or}
use Rattle.std.specs.Map.{values_of, lookup}
use Rattle.std.specs.BTreeMap.{is_at}
use Rattle.std.specs.Ordering.{nat_cmp}
use Rattle.collections.specs.Timers.{TimerState, never, wakes}
use Rattle.session_core.specs.declared.bounds.Moments.{Moments}
use Rattle.session_core.specs.declared.records.Session.{Session}
use Rattle.event_core.specs.Queue.{count_of}
use Rattle.session_core.specs.Session.{owes, has_heard, events_of, is_given_up}

-- from this moment on the master may end the session
abbrev pub end_moment : {K : Type 0} → Session K → ℕ
end_moment session = if session.live then session.timeout else never

-- from this moment on a Beat of it is to be answered
abbrev pub due_moment : {K : Type 0} → ℕ → Session K → ℕ
due_moment lease session = if owes session then 0 else min session.timeout session.lease_end - (3000 + lease / 16)

-- from this moment on its parked Beat is to be answered
abbrev pub answer_moment : {K : Type 0} → ℕ → Session K → ℕ
answer_moment lease session =
    option_map_or (λ beat. if session.live && not (is_given_up lease beat session) then due_moment lease session else never) session.parked never

abbrev pub moments_of : {K : Type 0} → ℕ → Session K → Moments
moments_of lease session = record { end = end_moment session; answer = answer_moment lease session }

-- the client is looked at from its moments on
abbrev pub IsNoted : TimerState → TimerState → ℕ → Moments → Type 0
IsNoted ends answers client moments = (wakes ends client moments.end ≡ true) × (wakes answers client moments.answer ≡ true)

-- each session is looked at from its moments on
pub record AreNoted (K : Type 0) (lease : ℕ) (ends answers : TimerState) (entries : List (ℕ × Session K)) : Type 0 where
  pub each : (client : ℕ) (session : Session K) → lookup (is_at (nat_cmp client)) entries ≡ Some session → IsNoted ends answers client (moments_of lease session)

-- no session has more events than this
pub record HaveAtMost (K : Type 0) (most : ℕ) (entries : List (ℕ × Session K)) : Type 0 where
  pub all : All (λ session. count_of (events_of session) ≤ most) (values_of entries)

-- a live session that hasn't acknowledged its first event
abbrev pub is_client_unheard : {K : Type 0} → ℕ → Session K → Bool
is_client_unheard client session = not (has_heard session)
