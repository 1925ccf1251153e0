use Rattle.std.proofs.Common.{◌∙◌, sym, ap}
use Rattle.session_core.specs.Sessions.{is_live}
use Rattle.master_parts.proofs.Kept.{by_forget}
use Rattle.master_parts.proofs.tables.Tables.forget_session.Goals as goal

pub invariant_of-self : goal.invariant_of-self
invariant_of-self c = by_forget c.self.inside.nodes c.self.inside.handles c.self.inside.sessions c.forget_in.new.sessions c.self.inside.queue c.self.inside.candidates c.args.client (sym (ap (λ q. is_live c.self.inside.sessions q) c.get.ensures.value) ∙ (sym c.is_live.ensures ∙ c.if-is_live.false)) c.forget_in.ensures c.self.invariant
