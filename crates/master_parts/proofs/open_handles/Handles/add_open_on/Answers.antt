use Rattle.master_parts.proofs.PlacedHandles.{open_if}
use Rattle.master_parts.proofs.open_handles.Handles.add_open_on.Goals as goal

pub returns-then-self-clause-found : goal.returns-then-self-clause-found
returns-then-self-clause-found c =
    open_if c.add_placed.result c.self.inside.states c.args.self.now c.self.inside.places c.args.instance c.add_placed.new.keys c.self.view_is (c.self.invariant.0 c.if-self.true).0 c.add_placed.ensures.found
