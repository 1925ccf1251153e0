use Rattle.std.proofs.Common.{◌≡◌, ℕ, List, Some, ap, subst, ◌∙◌}
use Rattle.std.specs.Prelude.{drop, slice_get}
use Rattle.std.specs.Ordering.{nat_cmp}
use Rattle.std.specs.List.Sorted.{IsStrictlySortedBy}
use Rattle.std.specs.Map.{keys_of}
use Rattle.cache_core.proofs.Turns.{turn_first, oldest_gone, less_entries, less_held}
use Rattle.cache_core.proofs.held.CacheEntries.remove_oldest.Goals as goal

pub invariant_of-self : goal.invariant_of-self
invariant_of-self c =
    let P : List (ℕ × List ℕ) → Type 0 = λ l. IsStrictlySortedBy nat_cmp (keys_of l) in
    let Q : List (ℕ × List ℕ) → Type 0 = λ l. slice_get l 0 ≡ Some (c.in-Some.turn.now, c.in-Some.name.now) in
    less_held c.self.inside.order c.remove.new.self c.self.inside.slots.entries c.swap_remove.new.self.entries c.self.inside.turns c.in-Some.turn.now c.in-Some.name.now c.remove.ensures.removed c.swap_remove.ensures.updates.0 (subst P c.as_map.ensures c.len-count.ensures.ordered) c.self.invariant (turn_first c.self.inside.order c.in-Some.turn.now c.in-Some.name.now (subst Q c.as_map-2.ensures c.in-Some.ensures.first))

pub returns : goal.returns
returns c =
    let P : List (ℕ × List ℕ) → Type 0 = λ l. IsStrictlySortedBy nat_cmp (keys_of l) in
    let Q : List (ℕ × List ℕ) → Type 0 = λ l. slice_get l 0 ≡ Some (c.in-Some.turn.now, c.in-Some.name.now) in
    let first : Q c.self.inside.order = subst Q c.as_map-2.ensures c.in-Some.ensures.first in
    less_entries c.self.inside.order c.remove.new.self c.self.inside.slots.entries c.swap_remove.new.self.entries c.self.inside.turns c.in-Some.turn.now c.in-Some.name.now c.remove.ensures.removed c.swap_remove.ensures.updates.0 (subst P c.as_map.ensures c.len-count.ensures.ordered) c.self.invariant (turn_first c.self.inside.order c.in-Some.turn.now c.in-Some.name.now first)
    ∙ oldest_gone c.self.inside.order c.self.inside.slots.entries c.in-Some.turn.now c.in-Some.name.now first
    ∙ ap (drop 1) c.self.view_is
