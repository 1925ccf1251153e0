use Rattle.std.proofs.Common.{◌≡◌}
use Rattle.session_core.proofs.sessions.Sessions.put_ends_off.Given as goal

abbrev pub invariant-loop : goal.invariant-loop
invariant-loop g l = l.self ≡ l.fn.self
