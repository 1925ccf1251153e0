use Rattle.std.proofs.Common.{◌≡◌, ◌∙◌, rules}
use Rattle.std.specs.Prelude.{filter}
use Rattle.std.specs.BTreeMap.{is_at}
use Rattle.std.specs.BTreeMap.Range.{range_contains}
use Rattle.std.specs.declared.ops.Bound.TheVariants.{Included, Excluded}
use Rattle.lock_core.specs.Claimants.{by_client}
use Rattle.lock_core.proofs.Listed.{found_first, first_of_client}
use Rattle.lock_core.proofs.claimants.add_noted.Goals as goal

pub loop-entry-init : goal.loop-entry-init
loop-entry-init c =
    let between : c.range-entry-items.result ≡ filter (range_contains by_client (Included (c.args.client, 0)) (Excluded (c.args.next, 0))) c.args.own.now.keys = search rules in
    found_first (λ i e. is_at (by_client (c.args.client, i)) e) c.args.found.now.keys c.into_iter-entry-iterator.result c.args.own.now.keys
    (first_of_client c.args.client c.args.next c.args.own.now.keys c.into_iter-entry-iterator.result c.requires (c.into_iter-entry-iterator.ensures.into_iter_gives ∙ between))
