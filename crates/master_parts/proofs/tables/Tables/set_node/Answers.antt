use Rattle.master_parts.proofs.Moved.{by_set}
use Rattle.master_parts.proofs.tables.Tables.set_node.Goals as goal

pub invariant_of-self : goal.invariant_of-self
invariant_of-self c = by_set c.self.inside.handles c.self.inside.sessions c.self.inside.queue c.set.result c.self.inside.nodes c.set.new.self c.self.inside.candidates c.note_node.new.candidates c.args.name c.args.node c.note_node.ensures.has c.note_node.ensures.found c.note_node.ensures.leads c.note_node.ensures.kept c.set.ensures.ok c.set.ensures.err c.self.invariant
