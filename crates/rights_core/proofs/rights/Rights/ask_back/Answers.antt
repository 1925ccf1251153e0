use Rattle.std.proofs.Common.{List, sym, subst, ap, ◌∙◌}
use Rattle.std.specs.Prelude.{fold}
use Rattle.rights_core.specs.declared.cache_rights.CacheRight.{CacheRight}
use Rattle.rights_core.specs.Rights.{clients_to_ask}
use Rattle.rights_core.specs.Indexes.{IsKept}
use Rattle.rights_core.proofs.Asks.{kept_asked, few_issued, asks_are}
use Rattle.rights_core.proofs.rights.Rights.ask_back.Goals as goal

pub ask_keepers-requires : goal.ask_keepers-requires
ask_keepers-requires g c = few_issued c.self.inside.history.rights c.self.inside.keepers c.self.inside.holdings c.self.inside.totals c.self.invariant

pub invariant_of-self : goal.invariant_of-self
invariant_of-self g c =
    let P : List CacheRight → Type 0 = λ l. IsKept l c.self.inside.keepers c.ask_keepers.new.holdings c.self.inside.totals in
    subst P (sym c.then-self-inside.ensures)
    (kept_asked c.self.inside.history.rights c.self.inside.keepers c.self.inside.holdings c.ask_keepers.new.holdings c.self.inside.totals c.args.name.now c.self.invariant c.ask_keepers.ensures.holdings)

pub returns-clause-issued : goal.returns-clause-issued
returns-clause-issued g c =
    c.ask_keepers.ensures.issued
    ∙ ap (λ l. fold g.I.Issues.issued c.args.issues.now l)
    (asks_are c.args.name.now c.self.inside.history.rights c.self.inside.keepers c.self.inside.holdings c.self.inside.totals c.self.invariant c.ask_keepers.ensures.ordered ∙ ap (clients_to_ask c.args.name.now) c.self.view_is)
