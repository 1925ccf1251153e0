use Rattle.master_parts.proofs.Kept.{by_same_sessions}
use Rattle.master_parts.proofs.tables.Tables.note_moment.Goals as goal

pub invariant_of-self : goal.invariant_of-self
invariant_of-self c = by_same_sessions c.self.inside.nodes c.self.inside.handles c.self.inside.sessions c.note_moment.new.self c.self.inside.queue c.self.inside.candidates c.note_moment.ensures c.self.invariant
