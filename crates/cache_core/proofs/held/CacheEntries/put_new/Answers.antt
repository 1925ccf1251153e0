use Rattle.std.proofs.Common.{◌+◌, refl, ap, ◌∙◌}
use Rattle.indexmap.specs.IndexMap.{insert_entry}
use Rattle.cache_core.specs.Caches.{same_name, entry_of}
use Rattle.cache_core.proofs.Turns.{new_entries, new_held, back_held, back_entries}
use Rattle.cache_core.proofs.held.CacheEntries.put_new.Goals as goal

pub invariant_of-self-in-Ok-insert : goal.invariant_of-self-in-Ok-insert
invariant_of-self-in-Ok-insert c =
    new_held c.self.inside.order c.place.new.order c.self.inside.slots.entries c.insert.new.self.entries c.self.inside.turns (c.self.inside.turns + 1) c.args.name c.args.entry c.in-Ok.ensures.ok c.in-Ok-insert.ensures.updates.0 refl c.self.invariant (ap (λ es. entry_of es c.args.name) c.self.view_is ∙ c.requires)

pub invariant_of-self-in-Err : goal.invariant_of-self-in-Err
invariant_of-self-in-Err c =
    back_held c.self.inside.order c.place.new.order c.remove.new.self c.self.inside.slots.entries c.insert.new.self.entries c.self.inside.turns (c.self.inside.turns + 1) c.args.name c.in-Ok.ensures.ok c.remove.ensures.removed c.in-Err.ensures.err refl c.self.invariant

pub returns-in-Ok-insert-clause-ok : goal.returns-in-Ok-insert-clause-ok
returns-in-Ok-insert-clause-ok c =
    new_entries c.self.inside.order c.place.new.order c.self.inside.slots.entries c.insert.new.self.entries c.self.inside.turns (c.self.inside.turns + 1) c.args.name c.args.entry c.in-Ok.ensures.ok c.in-Ok-insert.ensures.updates.0 refl c.self.invariant (ap (λ es. entry_of es c.args.name) c.self.view_is ∙ c.requires)
    ∙ ap (λ es. insert_entry same_name es c.args.name c.args.entry) c.self.view_is

pub returns-in-Err-clause-err : goal.returns-in-Err-clause-err
returns-in-Err-clause-err c = (
  ap (λ v. (v.0, v.1.entry)) c.in-Err.ensures.value_returned,
  back_entries c.self.inside.order c.place.new.order c.remove.new.self c.self.inside.slots.entries c.insert.new.self.entries c.self.inside.turns (c.self.inside.turns + 1) c.args.name c.in-Ok.ensures.ok c.remove.ensures.removed c.in-Err.ensures.err refl c.self.invariant
      ∙ c.self.view_is,
)
