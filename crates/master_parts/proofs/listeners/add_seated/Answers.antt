use Rattle.std.proofs.Common.{◌≡◌, List, refl, rules}
use Rattle.std.specs.List.Sorted.{IsStrictlySortedBy}
use Rattle.std.specs.Map.{keys_of}
use Rattle.std.specs.declared.ops.Bound.TheVariants.{Included, Excluded}
use Rattle.std.specs.BTreeMap.Range.{entries_between}
use Rattle.master_parts.specs.declared.handles.HandleKey.{HandleKey}
use Rattle.master_parts.specs.declared.listeners.ListenerPlace.{ListenerPlace}
use Rattle.master_parts.specs.Listeners.{seat_order}
use Rattle.master_parts.proofs.PlacedHandles.{collect_first, collect_more, collect_last}
use Rattle.master_parts.proofs.Seats.{exact_seat, seats_on, range_on_seats, seated_on}
use Rattle.master_parts.proofs.listeners.add_seated.Goals as goal

pub loop-key-init : goal.loop-key-init
loop-key-init c =
    let between : c.range-key-items.result ≡ entries_between seat_order (Included c.first-first.result) (Excluded c.first-end.result) c.as_map.result.now.entries = search rules in
    collect_first seat_order (λ e. e.1) (seats_on c.args.instance c.args.subject c.args.seats.now) c.into_iter-key-iterator.result c.args.keys.now
    (range_on_seats c.args.instance c.args.rank _ c.args.subject c.first-first.result c.first-end.result c.args.seats.now _ c.range-key-items.result c.into_iter-key-iterator.result c.into_iter-key-iterator.ensures.into_iter_gives between c.as_map.ensures c.first-first.ensures c.first-end.ensures refl c.requires.value)

pub loop-key-preserved : goal.loop-key-preserved
loop-key-preserved c =
    collect_more seat_order exact_seat (λ e. e.1) (seats_on c.args.instance c.args.subject c.args.seats.now) c.loop-key.key-iterator c.next.new.self (c.in-Some.field-0-0.now, c.in-Some.key.now) c.args.keys.now c.loop-key.keys c.put.new.self tt c.in-Some.ensures.steps c.in_ok-put.ensures.ok c.loop-key.invariant

pub returns-clause-found : goal.returns-clause-found
returns-clause-found c =
    let P : List (ListenerPlace × HandleKey) → Type 0 = λ l. IsStrictlySortedBy seat_order (keys_of l) in
    let sorted : P c.args.seats.now = search rules in
    seated_on c.args.instance c.args.subject c.args.seats.now c.loop-key.keys sorted
    (collect_last seat_order (λ e. e.1) (seats_on c.args.instance c.args.subject c.args.seats.now) c.loop-key.key-iterator c.args.keys.now c.loop-key.keys c.in-None.ensures.steps.0 c.loop-key.invariant)
