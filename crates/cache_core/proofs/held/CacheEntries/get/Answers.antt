use Rattle.std.proofs.Common.{ap, sym, ◌∙◌}
use Rattle.std.specs.Option.{option_map}
use Rattle.cache_core.specs.Caches.{entry_of}
use Rattle.cache_core.proofs.Turns.{found_in}
use Rattle.cache_core.proofs.held.CacheEntries.get.Goals as goal

pub returns-in-Some : goal.returns-in-Some
returns-in-Some c =
    ap (option_map (λ slot. slot.entry)) c.in-Some.ensures.value
    ∙ sym (found_in c.self.inside.order c.self.inside.slots.entries c.self.inside.turns c.args.name.now c.self.invariant)
    ∙ ap (λ es. entry_of es c.args.name.now) c.self.view_is

pub returns-in-None : goal.returns-in-None
returns-in-None c =
    ap (option_map (λ slot. slot.entry)) c.in-None.ensures.value
    ∙ sym (found_in c.self.inside.order c.self.inside.slots.entries c.self.inside.turns c.args.name.now c.self.invariant)
    ∙ ap (λ es. entry_of es c.args.name.now) c.self.view_is
