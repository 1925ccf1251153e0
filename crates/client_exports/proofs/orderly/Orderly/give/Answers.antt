use Rattle.client_exports.proofs.Closing.{give_off}
use Rattle.client_exports.proofs.orderly.Orderly.give.Goals as goal

pub invariant_of-self : goal.invariant_of-self
invariant_of-self c = give_off c.self.inside.client c.give.new.self c.args.now c.args.out.now c.give.result c.self.invariant c.give.ensures
