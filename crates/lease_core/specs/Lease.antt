-- How long a client may rely on a lease. Moments and spans are whole milliseconds; the moments are of the client's own clock.
use Rattle.std.specs.Prelude.{ℕ, ◌+◌, ◌-◌, ◌*◌, ◌^◌, ◌<◌, ◌≤◌, Bool, nat_lt}

-- what a lease says: when the client sent the request that it answers, and how long it runs from then on by the master's clock
pub record LeaseTerms : Type 0 where
  pub sent : ℕ
  pub span : ℕ

-- where moments and spans end, in milliseconds
abbrev pub moment_limit : ℕ
moment_limit = 2 ^ 53

-- the shortest and the longest lease of a master, in milliseconds
abbrev pub least_lease : ℕ
least_lease = 1000

abbrev pub longest_lease : ℕ
longest_lease = 60000

-- how long from its coming up on a new master lets every session live that the rows hold, in milliseconds
abbrev pub recovery_timeout : ℕ
recovery_timeout = 60002

-- a number of milliseconds that a moment or a span may be
abbrev pub IsMoment : ℕ → Type 0
IsMoment moment = moment < moment_limit

-- the most that a fair master's clock has gone on since the request was sent, in sixteenths of a millisecond: it gains at most one
-- part in sixteen on the client's clock, which may have stood a millisecond further than it shows. A moment before `sent` counts as `sent`
abbrev pub most_elapsed : ℕ → ℕ → ℕ
most_elapsed sent now = 17 * ((now - sent) + 1)

-- the master's clock is still within the span
abbrev pub IsUnexpired : ℕ → ℕ → ℕ → Type 0
IsUnexpired sent span now = most_elapsed sent now < 16 * span

-- the same as a test
abbrev pub is_unexpired : ℕ → ℕ → ℕ → Bool
is_unexpired sent span now = nat_lt (most_elapsed sent now) (16 * span)

-- where a lease ends by the client's clock, in seventeenths of a millisecond
abbrev pub lease_end : LeaseTerms → ℕ
lease_end lease = 17 * lease.sent + 16 * lease.span

-- the first lease ends later than the second
abbrev pub IsBetter : LeaseTerms → LeaseTerms → Type 0
IsBetter lease other = lease_end other < lease_end lease

-- the same as a test
abbrev pub is_better : LeaseTerms → LeaseTerms → Bool
is_better lease other = nat_lt (lease_end other) (lease_end lease)

-- wherever a lease still runs, a better one does, once its own request has been sent
abbrev pub BetterLastsLonger : Type 0
BetterLastsLonger =
    (lease other : LeaseTerms) (now : ℕ) → IsBetter lease other → lease.sent ≤ now → IsUnexpired other.sent other.span now → IsUnexpired lease.sent lease.span now
