use Rattle.gate_core.proofs.Woken.{woken_granted}
use Rattle.gate_core.proofs.queue.Queue.grant.Goals as goal

pub invariant_of-self : goal.invariant_of-self
invariant_of-self g c =
    woken_granted c.grant.result _ _ c.self.inside.rights c.grant.new.self c.self.inside.gate.waiting c.self.inside.free c.self.inside.complete c.self.inside.leads c.grant.ensures.ok c.grant.ensures.err c.self.invariant
