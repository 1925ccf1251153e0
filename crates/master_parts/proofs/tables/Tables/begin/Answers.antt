use Rattle.std.proofs.Common.{true, ◌+◌, ap, ◌∙◌}
use Rattle.session_core.specs.Sessions.{session_of}
use Rattle.session_core.specs.Session.{session_until}
use Rattle.master_parts.proofs.Kept.{by_begin}
use Rattle.master_parts.proofs.tables.Tables.begin.Goals as goal

pub invariant_of-self : goal.invariant_of-self
invariant_of-self c = by_begin c.self.inside.nodes c.self.inside.handles c.begin.result c.self.inside.sessions c.begin.new.self c.self.inside.queue c.self.inside.candidates c.args.client (session_until c.args.principal true (c.args.now + c.self.inside.sessions.lease)) (ap (λ t. session_of t.sessions c.args.client) c.self.view_is ∙ c.requires.absent) c.begin.ensures.ok c.begin.ensures.err c.self.invariant
