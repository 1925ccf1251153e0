use Rattle.gate_core.proofs.Woken.{woken_left, woken_take}
use Rattle.gate_core.proofs.queue.Queue.take.Goals as goal

pub invariant_of-self : goal.invariant_of-self
invariant_of-self g c = woken_left c.self.inside.rights c.self.inside.gate c.take.new.self _ c.self.inside.free c.self.inside.complete c.self.inside.leads c.len-count.ensures.orderly c.take.ensures.others c.self.invariant

pub invariant_of-self-2 : goal.invariant_of-self-2
invariant_of-self-2 g c =
    woken_take c.self.inside.rights c.self.inside.gate c.take.new.self _ c.as_slice.result.now c.self.inside.free c.forget.new.free c.self.inside.complete c.self.inside.leads c.forget.new.by_name c.len-count.ensures.orderly c.take.ensures.others c.forget.ensures.led c.forget.ensures.listed c.self.invariant
