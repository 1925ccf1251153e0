use Rattle.std.proofs.Common.{◌≡◌, List, subst}
use Rattle.std.specs.Prelude.{IfOk}
use Rattle.master_parts.specs.declared.handles.HandleKey.{HandleKey}
use Rattle.master_parts.specs.declared.handles.HandleState.{HandleState}
use Rattle.master_parts.specs.OpenHandles.{state_at}
use Rattle.master_parts.proofs.PlacedHandles.{placed_after, placed_kept}
use Rattle.master_parts.proofs.OwnedHandles.{own_after}
use Rattle.master_parts.proofs.Seats.{seated_after, seated_still}
use Rattle.master_parts.proofs.open_handles.Handles.put.Goals as goal

pub invariant_of-self-in_err-add : goal.invariant_of-self-in_err-add
invariant_of-self-in_err-add c = (
  λ t.
      let both = c.self.invariant.0 t in (
        placed_kept c.self.inside.states c.self.inside.places c.add_place.new.places c.args.key c.args.state c.in_ok-add_place.ensures.ok both.0,
        seated_still c.self.inside.states c.self.inside.listeners c.add.new.self c.add.ensures.kept both.1,
      ),
  c.self.invariant.1,
)

pub invariant_of-self-2 : goal.invariant_of-self-2
invariant_of-self-2 c = (
  λ t.
      let both = c.self.invariant.0 t in (
        placed_after c.put.result c.self.inside.states c.put.new.self c.self.inside.places c.add_place.new.places c.args.key c.args.state c.in_ok-add_place.ensures.ok c.put.ensures.ok c.put.ensures.err both.0,
        seated_after c.put.result c.self.inside.states c.put.new.self c.self.inside.listeners c.add.new.self c.args.key c.args.state c.in_ok-add.ensures.own c.add.ensures.kept c.put.ensures.ok c.put.ensures.err both.1,
      ),
  λ t.
      let own = c.stays_own-self-inside.ensures t in
      own_after c.put.result c.self.inside.states c.put.new.self c.args.key c.args.state c.put.ensures.ok c.put.ensures.err own.1 (c.self.invariant.1 own.0),
)

pub returns-clause-former : goal.returns-clause-former
returns-clause-former c =
    let P : List (HandleKey × HandleState) → Type 0 = λ l. IfOk c.put.result (λ former. former ≡ state_at l c.args.key) in
    subst P c.self.view_is c.put.ensures.former
