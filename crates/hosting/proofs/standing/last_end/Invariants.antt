use Rattle.std.proofs.Common.{◌≡◌}
use Rattle.std.specs.Prelude.{fold}
use Rattle.hosting.specs.Standing.{later_end, last_end}
use Rattle.hosting.proofs.standing.last_end.Given as goal

abbrev pub invariant-loop-session : goal.invariant-loop-session
invariant-loop-session l = fold later_end l.latest l.session-iterator ≡ last_end l.sessions.sessions l.clock
