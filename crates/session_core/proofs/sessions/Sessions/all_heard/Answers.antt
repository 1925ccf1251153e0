use Rattle.std.proofs.Common.{sym, ◌∙◌}
use Rattle.session_core.proofs.Quiet.{one_unheard}
use Rattle.session_core.proofs.sessions.Sessions.all_heard.Goals as goal

pub returns-then-is_unheard : goal.returns-then-is_unheard
returns-then-is_unheard g c = sym (one_unheard c.args.self.now c.self.inside.unheard (sym c.is_unheard.ensures ∙ c.if-is_unheard.true))
