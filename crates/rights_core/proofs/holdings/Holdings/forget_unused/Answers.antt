use Rattle.std.proofs.Common.{◌∙◌, ℕ, List, ap, sym, subst}
use Rattle.std.specs.Ordering.{nat_cmp}
use Rattle.std.specs.List.Sorted.{IsStrictlySortedBy}
use Rattle.std.specs.Map.{keys_of}
use Rattle.rights_core.specs.declared.holdings.Holding.{Holding}
use Rattle.rights_core.specs.Indexes.{holding_in}
use Rattle.rights_core.proofs.Unused.{holding_unused}
use Rattle.rights_core.proofs.holdings.Holdings.forget_unused.Goals as goal

pub returns-then-is_unused : goal.returns-then-is_unused
returns-then-is_unused c = λ other.
    let P : List (ℕ × Holding) → Type 0 = λ es. IsStrictlySortedBy nat_cmp (keys_of es) in
    let sorted : P c.self.inside.map = subst P c.as_map.ensures c.len-clients.ensures.ordered in
    holding_unused c.self.inside.map c.remove.new.self c.args.client c.in-Some.holding.now (sym c.in-Some.ensures) (sym c.is_unused.ensures ∙ c.if-is_unused.true) sorted c.remove.ensures.removed other
    ∙ ap (holding_in other) c.self.view_is
