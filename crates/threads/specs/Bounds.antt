-- How many clients and rounds a run may have.
use Rattle.std.specs.Prelude.{◌≡◌, ◌⊎◌, ℕ, Bool, ◌*◌, ◌&&◌, nat_lt}

-- 1 to 64 clients and 1 to 10,000 rounds, together at most 20,000
abbrev pub is_within : ℕ → ℕ → Bool
is_within clients rounds = nat_lt 0 clients && nat_lt clients 65 && nat_lt 0 rounds && nat_lt rounds 10001 && nat_lt (clients * rounds) 20001

-- how a run ends: its line is printed, it isn't within the bounds, or it is refused
abbrev pub IsStatus : ℕ → Type 0
IsStatus status = (status ≡ 0) ⊎ ((status ≡ 2) ⊎ (status ≡ 5))
