use Rattle.std.proofs.Common.{sym, ◌∙◌, ap}
use Rattle.master_parts.proofs.Tidied.{tidied_push}
use Rattle.master_parts.proofs.tasks.Tasks.push.Goals as goal
use Rattle.master_parts.proofs.tasks.Tasks.push.Goals.{then-self, else-self}

pub invariant_of-self-2 : goal.invariant_of-self-2
invariant_of-self-2 c =
    elim c.if-self.branch [
      | then-self w ↦ (λ t.
          tidied_push c.self.inside.queue.gate c.push.new.self.gate c.args.change c.self.inside.instances c.list-listed.new.instances c.instance_tidied-tidied.result (ap (λ q. q.gate) c.in_ok-number.ensures.ok) c.instance_tidied-tidied.ensures
          (c.list-listed.ensures (sym w.self-is ∙ t)) (c.self.invariant w.if-self.true))
      | else-self w ↦ (λ t. absurd (let e = sym w.self-is ∙ t in cc))
    ]
