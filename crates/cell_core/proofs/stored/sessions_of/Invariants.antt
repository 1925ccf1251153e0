use Rattle.cell_core.proofs.TakenOver.{IsTaken}
use Rattle.cell_core.proofs.stored.sessions_of.Given as goal

abbrev pub invariant-loop-client : goal.invariant-loop-client
invariant-loop-client l = IsTaken l.lease l.now l.rows.sessions l.client-iterator l.sessions
