use Rattle.std.proofs.Common.{cond, sym, ap, ◌∙◌}
use Rattle.std.specs.Prelude.{◌-◌}
use Rattle.master_parts.specs.Candidates.{instance_tidied}
use Rattle.master_parts.specs.Tasks.{is_tidied, count_listed}
use Rattle.master_parts.proofs.Tidied.{tidied_take, tidied_none}
use Rattle.master_parts.proofs.tasks.Tasks.take.Goals as goal
use Rattle.master_parts.proofs.tasks.Tasks.take.Goals.{then-self, else-self}

pub invariant_of-self : goal.invariant_of-self
invariant_of-self c =
    elim c.if-self.branch [
      | then-self w ↦ (λ t.
          tidied_take c.self.inside.queue.gate.waiting c.take-taken.new.self.gate.waiting c.args.number c.take-taken.result c.self.inside.instances c.unlist.new.instances (ap (λ q. q.gate.waiting) c.take-taken.ensures.others) c.take-taken.ensures.taken
          (λ i. c.unlist.ensures i ∙ ap (λ o. count_listed i c.self.inside.instances - cond (is_tidied i o) 1 0) (c.instance_tidied.ensures ∙ ap instance_tidied c.as_ref.ensures.value))
          (c.self.invariant w.if-self.true))
      | else-self w ↦ (λ t.
          let both = w.is_empty-self-inside.ensures (sym w.self-is ∙ t) in
          tidied_none c.unlist.new.instances c.take-taken.new.self.gate.waiting both.0 both.1)
    ]
