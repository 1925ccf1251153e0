use Rattle.master_parts.proofs.Seats.{asking_if}
use Rattle.master_parts.proofs.open_handles.Handles.add_asking.Goals as goal

pub returns-then-self-clause-found : goal.returns-then-self-clause-found
returns-then-self-clause-found c =
    asking_if c.add_keys.result c.self.inside.states c.args.self.now c.self.inside.listeners c.args.subject c.args.instance c.add_keys.new.keys c.self.view_is (c.self.invariant.0 c.if-self.true).1 c.add_keys.ensures.found
