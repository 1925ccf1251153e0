use Rattle.std.proofs.Common.{List, sym, ap, subst, ◌∙◌}
use Rattle.std.specs.List.Sorted.{IsStrictlySortedBy}
use Rattle.std.specs.Map.{keys_of}
use Rattle.master_parts.specs.declared.handles.HandleKey.{HandleKey}
use Rattle.master_parts.specs.declared.handles.HandleState.{HandleState}
use Rattle.master_parts.specs.Keys.{handle_order}
use Rattle.master_parts.proofs.PlacedHandles.{placed_again}
use Rattle.master_parts.proofs.OwnedHandles.{own_again}
use Rattle.master_parts.proofs.Seats.{seated_again}
use Rattle.master_parts.proofs.open_handles.Handles.restore.Goals as goal
use Rattle.master_parts.proofs.open_handles.Handles.restore.Goals.{then-not-is_found, else-not-is_found}

pub invariant_of-self : goal.invariant_of-self
invariant_of-self c =
    let P : List (HandleKey × HandleState) → Type 0 = λ l. IsStrictlySortedBy handle_order (keys_of l) in
    let sorted : P c.self.inside.states = subst P c.as_map.ensures c.len-count.ensures.ordered in
    elim c.if-not-is_found.branch [
      | then-not-is_found w ↦ (
        λ t. let e = ap (λ x. x.complete) w.self-inside-is in absurd (cc),
        λ t.
            let own = c.stays_own_again-self-inside.ensures t in
            own_again c.self.inside.states c.if-not-is_found.self-inside.states c.restore.new.self c.args.key.now c.args.former (ap (λ x. x.states) w.self-inside-is) c.restore.ensures sorted own.1 (c.self.invariant.1 (sym (ap (λ x. x.own_keys) w.self-inside-is) ∙ own.0)),
      )
      | else-not-is_found w ↦ (
        λ t.
            let there = c.is_found.ensures w.if-not-is_found.false in
            let both = c.self.invariant.0 (sym (ap (λ x. x.complete) w.self-inside-is) ∙ t) in (
              placed_again c.self.inside.states c.if-not-is_found.self-inside.states c.restore.new.self c.self.inside.places c.if-not-is_found.self-inside.places c.args.key.now c.args.former (ap (λ x. x.states) w.self-inside-is) (ap (λ x. x.places) w.self-inside-is) c.restore.ensures sorted there.0 both.0,
              seated_again c.self.inside.states c.if-not-is_found.self-inside.states c.restore.new.self c.self.inside.listeners c.if-not-is_found.self-inside.listeners c.args.key.now c.args.former (ap (λ x. x.states) w.self-inside-is) (ap (λ x. x.listeners) w.self-inside-is) c.restore.ensures sorted there.1 both.1,
            ),
        λ t.
            let own = c.stays_own_again-self-inside.ensures t in
            own_again c.self.inside.states c.if-not-is_found.self-inside.states c.restore.new.self c.args.key.now c.args.former (ap (λ x. x.states) w.self-inside-is) c.restore.ensures sorted own.1 (c.self.invariant.1 (sym (ap (λ x. x.own_keys) w.self-inside-is) ∙ own.0)),
      )
    ]
