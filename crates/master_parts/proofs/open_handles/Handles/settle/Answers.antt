use Rattle.std.proofs.Common.{◌≡◌, List, rules}
use Rattle.std.specs.List.Sorted.{IsStrictlySortedBy}
use Rattle.std.specs.Map.{keys_of, remove_entry}
use Rattle.std.specs.BTreeMap.{is_at}
use Rattle.master_parts.specs.declared.handles.HandleKey.{HandleKey}
use Rattle.master_parts.specs.declared.open_handles.PlaceOnNode.{PlaceOnNode}
use Rattle.master_parts.specs.OpenHandles.{place_order}
use Rattle.master_parts.proofs.PlacedHandles.{placed_settled}
use Rattle.master_parts.proofs.Seats.{seated_settled}
use Rattle.master_parts.proofs.open_handles.Handles.settle.Goals as goal

pub invariant_of-self : goal.invariant_of-self
invariant_of-self c =
    let P : List (PlaceOnNode × HandleKey) → Type 0 = λ l. IsStrictlySortedBy place_order (keys_of l) in
    let sorted : P c.self.inside.places = search rules in
    let removed : c.remove.new.self ≡ remove_entry (is_at (place_order c.of.result)) c.self.inside.places = search rules in
    let other = c.is_open_on.ensures c.if-is_open_on.false in (
      (λ t.
          let both = c.self.invariant.0 t in (
            placed_settled c.self.inside.states c.self.inside.places c.remove.new.self c.args.key.now c.instance-instance.result c.of.result _ removed c.of.ensures c.get.ensures other sorted both.0,
            seated_settled c.self.inside.states c.self.inside.listeners c.remove-2.new.self c.args.key.now c.instance-instance.result _ c.remove-2.ensures c.get.ensures other both.1,
          )),
      c.self.invariant.1,
    )
