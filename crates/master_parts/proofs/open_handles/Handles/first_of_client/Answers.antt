use Rattle.std.proofs.Common.{sym, ◌∙◌}
use Rattle.master_parts.specs.OpenHandles.{goes_with}
use Rattle.master_parts.proofs.Parted.{walked_here, walked_on, walked_out}
use Rattle.master_parts.proofs.open_handles.Handles.first_of_client.Goals as goal

pub returns-then-goes_with-clause-found : goal.returns-then-goes_with-clause-found
returns-then-goes_with-clause-found c =
    walked_here (goes_with c.args.client) c.args.self.now c.loop-key.key-iterator c.loop-key.invariant c.next.new.self c.in-Some.key.now c.in-Some.state.now c.in-Some.ensures.steps (sym c.goes_with.ensures ∙ c.if-goes_with.true)

pub loop-key-preserved : goal.loop-key-preserved
loop-key-preserved c =
    walked_on (goes_with c.args.client) c.args.self.now c.loop-key.key-iterator c.loop-key.invariant c.next.new.self c.in-Some.key.now c.in-Some.state.now c.in-Some.ensures.steps (sym c.goes_with.ensures ∙ c.if-goes_with.false)

pub returns-clause-found : goal.returns-clause-found
returns-clause-found c = walked_out (goes_with c.args.client) c.args.self.now c.loop-key.key-iterator c.loop-key.invariant c.in-None.ensures.steps.0
