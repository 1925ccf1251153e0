-- What a cache holds, as it keeps it: a slot for each name, and the names by their turns.
use Rattle.std.specs.Prelude.{◌≡◌, ℕ, ◌≤◌, List, map, Option, None}
use Rattle.std.specs.Option.{option_map, option_map_or}
use Rattle.std.specs.List.{AllByRecursion, IsDistinct}
use Rattle.std.specs.Map.{keys_of, lookup}
use Rattle.node_core.specs.declared.views.View.{View}
use Rattle.cache_core.specs.declared.held.Slot.{Slot}
use Rattle.cache_core.specs.Caches.{Entries, same_name}

abbrev pub Slots : Type 0
Slots = List (List ℕ × Slot)

-- what stands in the slot of a name
abbrev pub held_in : Slots → List ℕ → Option View
held_in slots name = option_map_or (λ slot. slot.entry) (lookup (same_name name) slots) None

-- the entries in the order of their turns, which is that of installing
abbrev pub entries_of : List (ℕ × List ℕ) → Slots → Entries
entries_of order slots = map (λ place. (place.1, held_in slots place.1)) order

-- the turn of each name
abbrev pub turns_of : List (ℕ × List ℕ) → List (List ℕ × ℕ)
turns_of order = map (λ place. (place.1, place.0)) order

-- each name has one slot and one place, under the same turn, and no turn is above the last one
pub record IsHeld (order : List (ℕ × List ℕ)) (slots : Slots) (turns : ℕ) : Type 0 where
  pub turned : (name : List ℕ) → option_map (λ slot. slot.turn) (lookup (same_name name) slots) ≡ lookup (same_name name) (turns_of order)
  pub below : AllByRecursion (λ turn. turn ≤ turns) (keys_of order)
  pub distinct : IsDistinct same_name (keys_of (turns_of order))
