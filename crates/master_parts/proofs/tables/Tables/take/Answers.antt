use Rattle.std.proofs.Common.{ap, ◌∙◌}
use Rattle.master_parts.specs.Candidates.{instance_tidied}
use Rattle.master_parts.proofs.Moved.{by_take}
use Rattle.master_parts.proofs.tables.Tables.take.Goals as goal

pub invariant_of-self : goal.invariant_of-self
invariant_of-self c = by_take c.self.inside.nodes c.self.inside.handles c.self.inside.sessions c.self.inside.queue c.take-taken.new.self c.self.inside.candidates c.wake_tidied.new.candidates c.args.number c.take-taken.result c.take-taken.ensures.others c.take-taken.ensures.taken (λ i q mine led. c.wake_tidied.ensures.own i q (ap instance_tidied c.as_ref.ensures.value ∙ mine) led) c.wake_tidied.ensures.leads c.wake_tidied.ensures.kept c.self.invariant
