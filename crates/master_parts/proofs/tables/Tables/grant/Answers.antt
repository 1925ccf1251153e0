use Rattle.rights_core.specs.Rights.{granted}
use Rattle.master_parts.proofs.Kept.{by_grant}
use Rattle.master_parts.proofs.tables.Tables.grant.Goals as goal

pub invariant_of-self : goal.invariant_of-self
invariant_of-self c = by_grant c.self.inside.nodes c.self.inside.handles c.grant.result c.self.inside.sessions c.self.inside.queue c.grant.new.self c.self.inside.candidates (granted c.args.client c.args.name.now c.self.inside.queue.rights) c.grant.ensures.ok c.grant.ensures.err c.self.invariant
