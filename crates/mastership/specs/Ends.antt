-- When a mastership ends by the clock of the server that renews it, and by the clock of those who keep it. It is a lease: the server counts from the sending of a renewal that was answered, they from its coming.
use Rattle.std.specs.Prelude.{ℕ, ◌*◌, ◌<◌, ◌≤◌, ◌↔◌}
use Rattle.lease_core.specs.Lease.{IsUnexpired, most_elapsed}

-- of all moments, the server still counts itself master at those before this one, and at no other
abbrev pub EndsAt : ℕ → ℕ → ℕ → Type 0
EndsAt sent span end = (now : ℕ) → IsUnexpired sent span now ↔ (now < end)

-- while it does, less than the span has passed by their clock since the sending, and so since the renewal came: `theirs` is what that clock has gone on by, which gains at most one part in sixteen on the server's
abbrev pub EndsBeforeTheirs : Type 0
EndsBeforeTheirs = (sent span end now theirs : ℕ) → EndsAt sent span end → now < end → 16 * theirs ≤ most_elapsed sent now → theirs < span
