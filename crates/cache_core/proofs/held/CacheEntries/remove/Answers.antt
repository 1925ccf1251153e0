use Rattle.std.proofs.Common.{ℕ, List, ap, sym, subst, ◌∙◌}
use Rattle.std.specs.Ordering.{nat_cmp}
use Rattle.std.specs.List.Sorted.{IsStrictlySortedBy}
use Rattle.std.specs.Map.{keys_of}
use Rattle.cache_core.specs.Caches.{entry_of, flushed}
use Rattle.cache_core.proofs.Turns.{not_held, none_gone, turn_known, less_entries, less_held}
use Rattle.cache_core.proofs.held.CacheEntries.remove.Goals as goal

pub returns-in_default : goal.returns-in_default
returns-in_default c =
    none_gone c.args.self.now c.args.name.now
    (ap (λ es. entry_of es c.args.name.now) (sym c.self.view_is)
    ∙ not_held c.self.inside.order c.self.inside.slots.entries c.self.inside.turns c.args.name.now c.self.invariant (sym c.in_default.ensures))

pub invariant_of-self : goal.invariant_of-self
invariant_of-self c =
    let P : List (ℕ × List ℕ) → Type 0 = λ l. IsStrictlySortedBy nat_cmp (keys_of l) in
    less_held c.self.inside.order c.remove.new.self c.self.inside.slots.entries c.swap_remove.new.self.entries c.self.inside.turns c.in-Some.turn c.args.name.now c.remove.ensures.removed c.swap_remove.ensures.updates.0 (subst P c.as_map.ensures c.len-count.ensures.ordered) c.self.invariant (turn_known c.self.inside.order c.self.inside.slots.entries c.self.inside.turns c.in-Some.turn c.args.name.now c.self.invariant c.in-Some.ensures)

pub returns : goal.returns
returns c =
    let P : List (ℕ × List ℕ) → Type 0 = λ l. IsStrictlySortedBy nat_cmp (keys_of l) in
    less_entries c.self.inside.order c.remove.new.self c.self.inside.slots.entries c.swap_remove.new.self.entries c.self.inside.turns c.in-Some.turn c.args.name.now c.remove.ensures.removed c.swap_remove.ensures.updates.0 (subst P c.as_map.ensures c.len-count.ensures.ordered) c.self.invariant (turn_known c.self.inside.order c.self.inside.slots.entries c.self.inside.turns c.in-Some.turn c.args.name.now c.self.invariant c.in-Some.ensures)
    ∙ ap (λ es. flushed es c.args.name.now) c.self.view_is
