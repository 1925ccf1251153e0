-- When a master has something to do next.
use Rattle.std.specs.Prelude.{◌≡◌, ℕ, ◌<◌, ◌≤◌, Bool, true, false, Option, Some, None, Ok}
use Rattle.lease_core.specs.Lease.{IsMoment}
use Rattle.master_state.specs.State.{MasterState}
use Rattle.master_state.specs.Lookups.{noted}
use Rattle.over_core.specs.Plans.{first_action}
use Rattle.over_core.specs.declared.swept.Swept.{Swept}
use Rattle.over_core.specs.Sweep.{is_quiet, sweep_step}

-- at this moment there is nothing to do
abbrev pub quiet_at : MasterState → ℕ → Bool
quiet_at s now = is_quiet (first_action (noted s now))

-- it is so exactly if a sweep is quiet
abbrev pub QuietTellsOfSweeps : Type 0
QuietTellsOfSweeps = (s new : MasterState) (now : ℕ) (swept : Swept) → sweep_step s now ≡ Ok (new, swept) → swept.quiet ≡ quiet_at s now

-- from this moment on there is something to do, and from the other up to it there isn't
pub record IsAfter (s : MasterState) (from moment : ℕ) : Type 0 where
  pub is : IsMoment moment
  pub later : from < moment
  pub before : (t : ℕ) → from ≤ t → t < moment → quiet_at s t ≡ true
  pub busy : (t : ℕ) → moment ≤ t → quiet_at s t ≡ false

-- a moment from another one on at which there is nothing to do
pub record IsQuietBy (s : MasterState) (from moment : ℕ) : Type 0 where
  pub is : IsMoment moment
  pub later : from ≤ moment
  pub quiet : quiet_at s moment ≡ true

-- a moment at which there is something to do; none where there isn't at the last moment of all
abbrev pub IsBusyBy : MasterState → Option ℕ → Type 0
IsBusyBy s None = quiet_at s 9007199254740991 ≡ true
IsBusyBy s (Some moment) = (IsMoment moment) × (quiet_at s moment ≡ false)

-- the earliest moment, from now on, at which there is something to do; none where there isn't any
abbrev pub IsDeadline : MasterState → Option ℕ → Type 0
IsDeadline s None = (t : ℕ) → IsMoment t → quiet_at s t ≡ true
IsDeadline s (Some moment) =
    (IsMoment moment) × (s.clock ≤ moment) × ((t : ℕ) → s.clock ≤ t → t < moment → quiet_at s t ≡ true) × ((t : ℕ) → moment ≤ t → quiet_at s t ≡ false)
