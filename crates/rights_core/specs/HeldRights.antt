-- A right that is held, as it stands in memory.
use Rattle.std.specs.Prelude.{ℕ, ◌==◌, List, Option, Some, None, if◌then◌else◌}
use Rattle.rights_core.specs.declared.cache_rights.CacheRight.{CacheRight}
use Rattle.rights_core.specs.declared.cache_rights.RightStatus.TheVariants as statuses

-- no invalidation is kept as 0
abbrev pub kept_call : ℕ → Option ℕ
kept_call invalidation = if invalidation == 0 then None else Some invalidation

abbrev pub kept_right : ℕ → ℕ → List ℕ → ℕ → CacheRight
kept_right number client name invalidation = record { number = number; client = client; name = name; invalidation = kept_call invalidation; status = statuses.Held }
