use Rattle.session_core.specs.Quiet.{is_client_unheard}
use Rattle.session_core.proofs.Lowest.{IsLeft}
use Rattle.session_core.proofs.sessions.Sessions.first_unheard.Given as goal

abbrev pub invariant-loop-client : goal.invariant-loop-client
invariant-loop-client g l = IsLeft is_client_unheard l.self l.client-iterator
