use Rattle.std.proofs.Common.{refl}
use Rattle.session_core.specs.Session.{beaten}
use Rattle.master_parts.proofs.Kept.{by_try}
use Rattle.master_parts.proofs.tables.Tables.beat.Goals as goal

pub invariant_of-self : goal.invariant_of-self
invariant_of-self c = by_try c.self.inside.nodes c.self.inside.handles c.beat.result c.self.inside.sessions c.beat.new.self c.self.inside.queue c.self.inside.candidates c.args.beat.now.client (beaten c.args.beat.now c.args.received) (λ session. refl) c.beat.ensures.ok c.beat.ensures.err c.self.invariant
