use Rattle.std.proofs.Common.{◌∙◌}
use Rattle.gate_core.proofs.Woken.{woken_ended}
use Rattle.gate_core.proofs.queue.Queue.end.Goals as goal

pub invariant_of-self-2 : goal.invariant_of-self-2
invariant_of-self-2 g c =
    woken_ended c.wake.result _ _ c.self.inside.rights c.end-2.new.self c.as_slice.result.now c.self.inside.gate.waiting c.self.inside.free c.wake.new.free c.self.inside.complete c.is_ok-self-inside.result c.self.inside.leads
    c.end-2.ensures (c.as_slice.ensures ∙ c.in-Ok.ensures) c.if-not-self.false c.is_ok-self-inside.ensures.value c.wake.ensures c.self.invariant
