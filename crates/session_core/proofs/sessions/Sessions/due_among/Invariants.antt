use Rattle.session_core.specs.Session.{is_client_due_by}
use Rattle.session_core.proofs.Among.{AreLeft}
use Rattle.session_core.proofs.sessions.Sessions.due_among.Given as goal

abbrev pub invariant-loop-number : goal.invariant-loop-number
invariant-loop-number g l = AreLeft l.self (is_client_due_by l.spares l.self.lease l.now) l.number-iterator
