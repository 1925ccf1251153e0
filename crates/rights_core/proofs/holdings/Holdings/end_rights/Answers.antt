use Rattle.std.proofs.Common.{◌≡◌, length, sym, ap, ◌∙◌, cond, arith}
use Rattle.std.specs.Prelude.{◌==◌}
use Rattle.std.specs.Ordering.{nat_cmp}
use Rattle.std.specs.Map.{set_value}
use Rattle.std.specs.BTreeMap.{is_at}
use Rattle.rights_core.specs.declared.holdings.Holding.{Holding}
use Rattle.rights_core.specs.Indexes.{or_empty, holding_in, left_by}
use Rattle.rights_core.proofs.Places.{holding_set, holding_now}
use Rattle.rights_core.proofs.holdings.Holdings.end_rights.Goals as goal

pub returns-clause-left : goal.returns-clause-left
returns-clause-left c = λ other.
    holding_set c.self.inside.map c.args.client c.in-Some.holding.now c.end.new.self (sym c.in-Some.ensures.value) (left_by c.args.ending) c.end.ensures.left other
    ∙ ap (λ es. cond (other == c.args.client) (left_by c.args.ending (holding_in other es)) (holding_in other es)) c.self.view_is

pub returns-clause-count : goal.returns-clause-count
returns-clause-count c =
    let now : length (holding_in c.args.client (set_value (is_at (nat_cmp c.args.client)) c.self.inside.map c.end.new.self)).rights ≡ length c.end.new.self.rights =
    ap (λ (h : Holding). length h.rights) (holding_now c.self.inside.map c.args.client c.in-Some.holding.now c.end.new.self (sym c.in-Some.ensures.value)) in
    let before : length (holding_in c.args.client c.args.self.now).rights ≡ length c.in-Some.holding.now.rights =
    ap (λ es. length (holding_in c.args.client es).rights) (sym c.self.view_is) ∙ ap (λ o. length (or_empty o).rights) (sym c.in-Some.ensures.value) in
    omega (arith, now, before, c.end.ensures.count)
