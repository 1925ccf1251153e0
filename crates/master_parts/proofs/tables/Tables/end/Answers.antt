use Rattle.rights_core.specs.Rights.{ended}
use Rattle.master_parts.proofs.Kept.{by_rights}
use Rattle.master_parts.proofs.tables.Tables.end.Goals as goal

pub invariant_of-self : goal.invariant_of-self
invariant_of-self c = by_rights c.self.inside.nodes c.self.inside.handles c.self.inside.sessions c.self.inside.queue c.end.new.self c.self.inside.candidates (ended c.args.client c.args.ending c.self.inside.queue.rights) c.end.ensures c.self.invariant
