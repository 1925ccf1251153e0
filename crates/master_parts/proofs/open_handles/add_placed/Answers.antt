use Rattle.std.proofs.Common.{◌≡◌, List, rules}
use Rattle.std.specs.List.Sorted.{IsStrictlySortedBy}
use Rattle.std.specs.Map.{keys_of}
use Rattle.std.specs.declared.ops.Bound.TheVariants.{Included, Excluded}
use Rattle.std.specs.BTreeMap.Range.{entries_between}
use Rattle.master_parts.specs.declared.handles.HandleKey.{HandleKey}
use Rattle.master_parts.specs.declared.open_handles.PlaceOnNode.{PlaceOnNode}
use Rattle.master_parts.specs.OpenHandles.{place_order}
use Rattle.master_parts.proofs.PlacedHandles.{exact_place, places_on, collect_first, collect_more, collect_last, range_on, placed_on}
use Rattle.master_parts.proofs.open_handles.add_placed.Goals as goal

pub loop-key-init : goal.loop-key-init
loop-key-init c =
    let between : c.range-key-items.result ≡ entries_between place_order (Included c.first-first.result) (Excluded c.first-end.result) c.as_map.result.now.entries = search rules in
    collect_first place_order (λ e. e.1) (places_on c.args.instance c.args.places.now) c.into_iter-key-iterator.result c.args.keys.now
    (range_on c.args.instance c.args.next c.first-first.result c.first-end.result c.args.places.now _ c.range-key-items.result c.into_iter-key-iterator.result c.into_iter-key-iterator.ensures.into_iter_gives between c.as_map.ensures c.first-first.ensures c.first-end.ensures c.requires)

pub loop-key-preserved : goal.loop-key-preserved
loop-key-preserved c =
    collect_more place_order exact_place (λ e. e.1) (places_on c.args.instance c.args.places.now) c.loop-key.key-iterator c.next.new.self (c.in-Some.field-0-0.now, c.in-Some.key.now) c.args.keys.now c.loop-key.keys c.put.new.self tt c.in-Some.ensures.steps c.in_ok-put.ensures.ok c.loop-key.invariant

pub returns-clause-found : goal.returns-clause-found
returns-clause-found c =
    let P : List (PlaceOnNode × HandleKey) → Type 0 = λ l. IsStrictlySortedBy place_order (keys_of l) in
    let sorted : P c.args.places.now = search rules in
    placed_on c.args.instance c.args.places.now c.loop-key.keys sorted
    (collect_last place_order (λ e. e.1) (places_on c.args.instance c.args.places.now) c.loop-key.key-iterator c.args.keys.now c.loop-key.keys c.in-None.ensures.steps.0 c.loop-key.invariant)
