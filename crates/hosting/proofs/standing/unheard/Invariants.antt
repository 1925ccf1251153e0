use Rattle.std.proofs.Common.{◌≡◌, ◌++◌}
use Rattle.hosting.specs.Standing.{unheard}
use Rattle.hosting.proofs.standing.unheard.Given as goal

abbrev pub invariant-loop-client : goal.invariant-loop-client
invariant-loop-client l = l.clients ++ unheard l.client-iterator ≡ unheard l.sessions.sessions
