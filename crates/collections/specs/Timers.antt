-- Which keys may be due. Moments are whole milliseconds.
use Rattle.std.specs.Prelude.{ℕ, Bool, not, ◌||◌, ◌^◌, ◌-◌, nat_le, List}
use Rattle.std.specs.declared.cmp.Ordering.{Ordering}
use Rattle.std.specs.Ordering.{nat_cmp, ordering_then}
use Rattle.std.specs.List.{list_any}
use Rattle.std.specs.BTreeMap.{is_at}

-- soon: keys that may be due. later: others, by the moment from which they may be. lost: for want of memory some key may stand in neither
pub record TimerState : Type 0 where
  pub soon : List ℕ
  pub later : List (ℕ × ℕ)
  pub lost : Bool

-- by the moment, then by the key
abbrev pub by_moment : ℕ × ℕ → ℕ × ℕ → Ordering
by_moment x y = ordering_then (nat_cmp x.0 y.0) (nat_cmp x.1 y.1)

-- no moment is above this one, which so stands for never
abbrev pub never : ℕ
never = 2 ^ 64 - 1

abbrev pub has_key : List ℕ → ℕ → Bool
has_key keys key = list_any (is_at (nat_cmp key)) keys

abbrev pub has_moment : List (ℕ × ℕ) → ℕ → ℕ → Bool
has_moment later key moment = list_any (is_at (by_moment (moment, key))) later

-- the key is looked at from this moment on at the latest
abbrev pub wakes : TimerState → ℕ → ℕ → Bool
wakes timers key moment = timers.lost || (nat_le never moment || (has_key timers.soon key || has_moment timers.later key moment))

-- some key that isn't to be looked at yet may be due by now
abbrev pub has_come : List (ℕ × ℕ) → ℕ → Bool
has_come later now = list_any (λ entry. nat_le entry.0 now) later

-- all keys that may be due by now are known
abbrev pub are_known : TimerState → ℕ → Bool
are_known timers now = not (timers.lost || (nat_le never now || has_come timers.later now))
