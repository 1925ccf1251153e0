-- Which locks a client may hold or wait for, so that none has to be looked for.
use Rattle.std.specs.Prelude.{◌≡◌, ℕ, Bool, true, ◌||◌, List, [], ◌∷◌, ◌++◌, Option, Some, None, if◌then◌else◌}
use Rattle.std.specs.declared.cmp.Ordering.{Ordering}
use Rattle.std.specs.Ordering.{nat_cmp, ordering_then}
use Rattle.std.specs.List.{list_any}
use Rattle.std.specs.Option.{option_map_or}
use Rattle.std.specs.Map.{lookup}
use Rattle.std.specs.BTreeMap.{is_at}
use Rattle.collections.specs.Timers.{has_key}
use Rattle.lock_core.specs.declared.partings.Parting.{Parting}
use Rattle.lock_core.specs.declared.turns.Lapse.{Lapse}
use Rattle.lock_core.specs.State.{LockState}
use Rattle.lock_core.specs.Turns.{lapsed, concerns}
use Rattle.lock_core.specs.Locks.{LockTable, lock_at}

-- own: clients, each with the instance of a lock that may concern it. crowded: the instances of locks that may concern any. lost: for want of
-- memory some lock may stand in neither
pub record ClaimantState : Type 0 where
  pub own : List (ℕ × ℕ)
  pub crowded : List ℕ
  pub lost : Bool

-- by the client, then by the instance
abbrev pub by_client : ℕ × ℕ → ℕ × ℕ → Ordering
by_client x y = ordering_then (nat_cmp x.0 y.0) (nat_cmp x.1 y.1)

abbrev pub is_noted : List (ℕ × ℕ) → ℕ → ℕ → Bool
is_noted own client instance = list_any (is_at (by_client (client, instance))) own

-- the lock of the instance is looked at for the client
abbrev pub has : ClaimantState → ℕ → ℕ → Bool
has c client instance = c.lost || (has_key c.crowded instance || is_noted c.own client instance)

-- each lock that concerns a client is looked at for it
pub record AreListed (c : ClaimantState) (locks : LockTable) : Type 0 where
  pub each : (client instance : ℕ) → concerns client (lock_at locks instance) ≡ true → has c client instance ≡ true

-- what becomes of the lock of an instance at the end of the client's session, where it concerns the client
abbrev pub lapses_at : Parting → LockTable → ℕ → ℕ → ℕ → List Lapse
lapses_at parting locks client now instance =
    option_map_or (λ lock. if concerns client lock then lapsed parting instance lock client now ∷ [] else []) (lookup (is_at (nat_cmp instance)) locks) []

-- and of the locks of these instances
abbrev pub lapses_among : Parting → LockTable → ℕ → ℕ → List ℕ → List Lapse
lapses_among parting locks client now [] = []
lapses_among parting locks client now (instance ∷ instances) = lapses_at parting locks client now instance ++ lapses_among parting locks client now instances
