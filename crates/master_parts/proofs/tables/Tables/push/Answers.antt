use Rattle.master_parts.proofs.Kept.{by_push}
use Rattle.master_parts.proofs.tables.Tables.push.Goals as goal

pub invariant_of-self : goal.invariant_of-self
invariant_of-self c = by_push c.self.inside.nodes c.self.inside.handles c.push.result c.self.inside.sessions c.self.inside.queue c.push.new.self c.self.inside.candidates c.args.change c.push.ensures.ok c.push.ensures.err c.self.invariant
