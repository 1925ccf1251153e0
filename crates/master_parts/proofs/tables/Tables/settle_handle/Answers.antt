use Rattle.master_parts.proofs.Moved.{by_settle}
use Rattle.master_parts.proofs.tables.Tables.settle_handle.Goals as goal

pub invariant_of-self : goal.invariant_of-self
invariant_of-self c = by_settle c.self.inside.nodes c.self.inside.sessions c.self.inside.queue c.self.inside.handles c.settle.new.self c.self.inside.candidates c.settle.ensures c.self.invariant
