use Rattle.session_core.specs.Session.{is_client_expired}
use Rattle.session_core.proofs.Among.{AreLeft}
use Rattle.session_core.proofs.sessions.Sessions.expired_among.Given as goal

abbrev pub invariant-loop-client : goal.invariant-loop-client
invariant-loop-client g l = AreLeft l.self (is_client_expired l.now) l.client-iterator
