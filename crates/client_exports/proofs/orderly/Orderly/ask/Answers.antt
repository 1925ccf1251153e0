use Rattle.client_exports.proofs.Closing.{ask_off}
use Rattle.client_exports.proofs.orderly.Orderly.ask.Goals as goal

pub invariant_of-self : goal.invariant_of-self
invariant_of-self c = ask_off c.self.inside.client c.ask.new.self c.args.now c.args.asked.now c.ask.result c.self.invariant c.ask.ensures
