use Rattle.std.proofs.Common.{◌≡◌, None, ap, sym, ◌∙◌}
use Rattle.indexmap.specs.IndexMap.{insert_entry}
use Rattle.cache_core.specs.Caches.{same_name, entry_of}
use Rattle.cache_core.proofs.Turns.{not_held, again_entries, always_err, always_ok, never_ok}
use Rattle.cache_core.proofs.held.CacheEntries.put.Goals as goal
use Rattle.cache_core.proofs.held.CacheEntries.put.Goals.{in-Ok, in-Err}

pub put_new-requires : goal.put_new-requires
put_new-requires c =
    ap (λ es. entry_of es c.args.name) (sym c.self.view_is)
    ∙ not_held c.self.inside.order c.self.inside.slots.entries c.self.inside.turns c.args.name c.self.invariant (sym c.in_default.ensures)

pub returns-in_default-clause-only_new : goal.returns-in_default-clause-only_new
returns-in_default-clause-only_new c =
    always_err c.put_new.result (entry_of c.args.self.now c.args.name ≡ None)
    (ap (λ es. entry_of es c.args.name) (sym c.self.view_is)
    ∙ not_held c.self.inside.order c.self.inside.slots.entries c.self.inside.turns c.args.name c.self.invariant (sym c.in_default.ensures))

pub returns-clause-ok : goal.returns-clause-ok
returns-clause-ok c = elim c.match-insert.branch [
  | in-Ok w ↦ always_ok c.match-insert.result _
      (again_entries c.self.inside.order c.self.inside.slots.entries c.insert.new.self.entries c.self.inside.turns c.in-Some.turn c.args.name c.args.entry w.in-Ok.ensures.updates.0 c.self.invariant c.in-Some.ensures
      ∙ ap (λ es. insert_entry same_name es c.args.name c.args.entry) c.self.view_is)
  | in-Err w ↦ never_ok c.match-insert.result _ _ w.result-is
]
