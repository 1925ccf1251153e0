use Rattle.std.proofs.Common.{ℕ, List, cond, subst, sym, ap, ◌∙◌}
use Rattle.std.specs.Prelude.{◌-◌}
use Rattle.std.specs.Ordering.{nat_cmp}
use Rattle.std.specs.List.Sorted.{IsStrictlySortedBy}
use Rattle.std.specs.Map.{keys_of}
use Rattle.master_parts.specs.Tasks.{is_tidied, count_listed}
use Rattle.master_parts.proofs.Tidied.{listed_less}
use Rattle.master_parts.proofs.tasks.unlist.Goals as goal

pub returns-in-Some : goal.returns-in-Some
returns-in-Some c = λ i.
    let P : List (ℕ × Unit {0}) → Type 0 = λ l. IsStrictlySortedBy nat_cmp (keys_of l) in
    let sorted : P c.args.instances.now = subst P c.as_map.ensures c.len-count.ensures.ordered in
    listed_less c.in-Some.instance c.args.instances.now c.remove.new.self sorted c.remove.ensures.removed i
    ∙ ap (λ o. count_listed i c.args.instances.now - cond (is_tidied i o) 1 0) (sym c.in-Some.is)
