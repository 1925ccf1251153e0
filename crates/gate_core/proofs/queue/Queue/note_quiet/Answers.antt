use Rattle.gate_core.proofs.Woken.{woken_quiet}
use Rattle.gate_core.proofs.queue.Queue.note_quiet.Goals as goal

pub invariant_of-self : goal.invariant_of-self
invariant_of-self g c =
    woken_quiet c.args.self.now c.self.inside.rights c.self.inside.gate c.ready.result c.self.inside.free c.retain.new.self c.self.inside.complete _ c.self.inside.leads c.self.view_is c.ready.ensures c.if-is_none.ensures c.self.invariant
