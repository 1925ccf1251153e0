use Rattle.rights_core.specs.Rights.{clients_to_ask, asked_back}
use Rattle.master_parts.proofs.Kept.{by_rights, by_issues}
use Rattle.master_parts.proofs.tables.Tables.ask_back.Goals as goal

pub invariant_of-self : goal.invariant_of-self
invariant_of-self c =
    by_issues c.self.inside.nodes c.self.inside.handles c.self.inside.sessions c.ask_back.new.issues c.ask_back.new.self c.self.inside.candidates (clients_to_ask c.args.name.now c.self.inside.queue.rights) c.ask_back.ensures.issued
    (by_rights c.self.inside.nodes c.self.inside.handles c.self.inside.sessions c.self.inside.queue c.ask_back.new.self c.self.inside.candidates (asked_back c.args.name.now c.self.inside.queue.rights) c.ask_back.ensures.asked c.self.invariant)
