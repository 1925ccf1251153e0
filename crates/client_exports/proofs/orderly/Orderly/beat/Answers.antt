use Rattle.client_exports.proofs.Closing.{beat_off}
use Rattle.client_exports.proofs.orderly.Orderly.beat.Goals as goal

pub invariant_of-self : goal.invariant_of-self
invariant_of-self c = beat_off c.self.inside.client c.beat.new.self c.args.now c.beat.result c.self.invariant c.beat.ensures
