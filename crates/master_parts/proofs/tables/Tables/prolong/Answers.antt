use Rattle.std.proofs.Common.{refl}
use Rattle.session_core.specs.Session.{prolonged}
use Rattle.master_parts.proofs.Kept.{by_step}
use Rattle.master_parts.proofs.tables.Tables.prolong.Goals as goal

pub invariant_of-self : goal.invariant_of-self
invariant_of-self c = by_step c.self.inside.nodes c.self.inside.handles c.self.inside.sessions c.prolong.new.self c.self.inside.queue c.self.inside.candidates c.args.client (prolonged c.args.moment) (λ session. refl) c.prolong.ensures.prolonged c.self.invariant
