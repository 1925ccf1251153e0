use Rattle.std.proofs.Common.{ℕ, [], get_or, sym, ap, ◌∙◌}
use Rattle.std.proofs.lemmas.List.Sums.{fold_more}
use Rattle.rights_core.specs.Holds.{Holds, with_name_of, with_name}
use Rattle.rights_core.proofs.holdings.Holding.names.Goals as goal

pub loop-number-preserved : goal.loop-number-preserved
loop-number-preserved c =
    let number : ℕ = get_or c.args.numbers.now c.loop-number.number-index 0 in
    c.in_ok-add_name.ensures.ok
    ∙ (ap (with_name_of c.loop-number.names) c.get.ensures
    ∙ (ap {A = Holds} (λ h. with_name h.rights c.loop-number.names number) c.self.view_is
    ∙ (ap (λ l. with_name c.args.self.now.rights l number) c.loop-number.invariant ∙ sym (fold_more (with_name c.args.self.now.rights) [] c.args.numbers.now c.loop-number.number-index 0 c.loop-number-test.true))))
