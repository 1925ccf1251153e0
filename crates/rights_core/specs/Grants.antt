-- What lines tell of the rights of an epoch.
use Rattle.std.specs.Prelude.{◌≡◌, ℕ, ◌+◌, ◌==◌, Bool, true, false, ◌&&◌, if◌then◌else◌, List, [], ◌∷◌, ◌++◌, length, map, count_by, Option, Some, None}
use Rattle.std.specs.List.{list_any}
use Rattle.std.specs.Option.{option_and_then}
use Rattle.node_core.specs.declared.lines.Line.{Line}
use Rattle.node_core.specs.declared.lines.Line.TheVariants as lines
use Rattle.rights_core.specs.declared.cache_rights.CacheRight.{CacheRight}
use Rattle.rights_core.specs.declared.cache_rights.RightStatus.{RightStatus}
use Rattle.rights_core.specs.declared.cache_rights.RightStatus.TheVariants as statuses
use Rattle.rights_core.specs.declared.totals.Totals.{Totals}
use Rattle.rights_core.specs.Rights.{stands, was_acknowledged, has_expired, is_acknowledged, is_expired}

-- a right as lines tell of it
pub record Told : Type 0 where
  pub number : ℕ
  pub client : ℕ
  pub name : List ℕ
  pub status : RightStatus

abbrev pub is_held_as : ℕ → Told → Bool
is_held_as number right = stands right.status && right.number == number

abbrev pub with_status : ℕ → RightStatus → Told → Told
with_status number status right = if right.number == number then record right { status = status } else right

-- a new right has the next number
abbrev pub told_more : List Told → ℕ → ℕ → List ℕ → Option (List Told)
told_more rights number client name =
    if number == length rights + 1 then Some (rights ++ record { number = number; client = client; name = name; status = statuses.Held } ∷ []) else None

-- one that ends was held
abbrev pub told_ended : List Told → ℕ → RightStatus → Option (List Told)
told_ended rights number status = if list_any (is_held_as number) rights then Some (map (with_status number status) rights) else None

-- what a line makes of the rights of an epoch; None where it tells of one out of its turn
abbrev pub rights_by : List Told → Line → Option (List Told)
rights_by rights (lines.Up epoch) = Some []
rights_by rights lines.Down = Some []
rights_by rights (lines.Granted number client name) = told_more rights number client name
rights_by rights (lines.Acked number) = told_ended rights number statuses.Acknowledged
rights_by rights (lines.Expired number) = told_ended rights number statuses.Expired
rights_by rights _ = Some rights

-- the rights of the last epoch, by the lines: numbered from 1 in order, each ended at most once, later than itself
abbrev pub rights_at : List Told → List Line → Option (List Told)
rights_at rights [] = Some rights
rights_at rights (line ∷ rest) = option_and_then (λ next. rights_at next rest) (rights_by rights line)

abbrev pub told_of : CacheRight → Told
told_of right = record { number = right.number; client = right.client; name = right.name; status = right.status }

abbrev pub is_held_told : Told → Bool
is_held_told right = stands right.status

abbrev pub is_acknowledged_told : Told → Bool
is_acknowledged_told right = was_acknowledged right.status

abbrev pub is_expired_told : Told → Bool
is_expired_told right = has_expired right.status

-- all, and those of each status
abbrev pub totals_by : List Told → Totals
totals_by rights = record {
  issued = length rights;
  held = count_by is_held_told rights;
  acknowledged = count_by is_acknowledged_told rights;
  expired = count_by is_expired_told rights;
}

-- ---- how many of some lines tell that a right was granted, and that one ended

abbrev pub is_granted_line : Line → Bool
is_granted_line (lines.Granted number client name) = true
is_granted_line _ = false

abbrev pub is_acked_line : Line → Bool
is_acked_line (lines.Acked number) = true
is_acked_line _ = false

abbrev pub is_expired_line : Line → Bool
is_expired_line (lines.Expired number) = true
is_expired_line _ = false

-- ---- what the lines of a step tell of a master's rights

-- each right is recorded once, the new rights are what the lines make of the old ones, and the totals rise by what the lines tell
pub record Tells (old : List CacheRight) (printed : List Line) (new : List CacheRight) : Type 0 where
  pub rights : rights_at (map told_of old) printed ≡ Some (map told_of new)
  pub issued : length new ≡ length old + count_by is_granted_line printed
  pub acknowledged : count_by is_acknowledged new ≡ count_by is_acknowledged old + count_by is_acked_line printed
  pub expired : count_by is_expired new ≡ count_by is_expired old + count_by is_expired_line printed
