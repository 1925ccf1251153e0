use Rattle.master_parts.proofs.Kept.{by_loss}
use Rattle.master_parts.proofs.tables.Tables.take_back.Goals as goal

pub invariant_of-self : goal.invariant_of-self
invariant_of-self c = by_loss c.self.inside.nodes c.self.inside.handles c.self.inside.sessions c.take_back.new.self c.self.inside.queue c.self.inside.candidates c.lose.new.self c.lose.ensures.has c.lose.ensures.leads c.self.invariant
