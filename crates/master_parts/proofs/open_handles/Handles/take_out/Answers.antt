use Rattle.std.proofs.Common.{◌≡◌, List, None, refl, subst}
use Rattle.std.specs.List.Sorted.{IsStrictlySortedBy}
use Rattle.std.specs.Map.{keys_of, remove_entry}
use Rattle.std.specs.BTreeMap.{is_at}
use Rattle.master_parts.specs.declared.handles.HandleKey.{HandleKey}
use Rattle.master_parts.specs.declared.handles.HandleState.{HandleState}
use Rattle.master_parts.specs.Keys.{handle_order}
use Rattle.master_parts.proofs.PlacedHandles.{placed_again}
use Rattle.master_parts.proofs.OwnedHandles.{own_again}
use Rattle.master_parts.proofs.Seats.{seated_again}
use Rattle.master_parts.proofs.open_handles.Handles.take_out.Goals as goal

pub invariant_of-self : goal.invariant_of-self
invariant_of-self c =
    let P : List (HandleKey × HandleState) → Type 0 = λ l. IsStrictlySortedBy handle_order (keys_of l) in
    let sorted : P c.self.inside.states = subst P c.as_map.ensures c.len-count.ensures.ordered in
    let removed : c.remove.new.self ≡ remove_entry (is_at (handle_order c.args.key.now)) c.self.inside.states = c.remove.ensures.removed in (
      λ t.
          let both = c.self.invariant.0 t in (
            placed_again c.self.inside.states c.self.inside.states c.remove.new.self c.self.inside.places c.self.inside.places c.args.key.now None refl refl removed sorted (λ noted is. absurd (cc)) both.0,
            seated_again c.self.inside.states c.self.inside.states c.remove.new.self c.self.inside.listeners c.self.inside.listeners c.args.key.now None refl refl removed sorted (λ there is. absurd (cc)) both.1,
          ),
      λ t. own_again c.self.inside.states c.self.inside.states c.remove.new.self c.args.key.now None refl removed sorted (λ noted is. absurd (cc)) (c.self.invariant.1 t),
    )
