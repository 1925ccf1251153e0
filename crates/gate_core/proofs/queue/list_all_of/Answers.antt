use Rattle.std.proofs.Common.{◌∙◌}
use Rattle.gate_core.proofs.Leading.{listed_more}
use Rattle.gate_core.proofs.queue.list_all_of.Goals as goal

pub loop-number-preserved : goal.loop-number-preserved
loop-number-preserved c = λ n.
    listed_more c.loop-number.number-iterator c.next.new.self c.loop-number.free c.put.new.self c.in-Some.number.now c.in-Some.field-0-1.now c.in-Some.ensures.steps c.in_ok-put.ensures.ok n ∙ c.loop-number.invariant n
