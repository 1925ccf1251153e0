use Rattle.gate_core.proofs.Woken.{woken_asked}
use Rattle.gate_core.proofs.queue.Queue.ask_back.Goals as goal

pub invariant_of-self : goal.invariant_of-self
invariant_of-self g c =
    woken_asked _ c.self.inside.rights c.ask_back.new.self c.self.inside.gate.waiting c.self.inside.free c.self.inside.complete c.self.inside.leads c.ask_back.ensures.asked c.self.invariant
