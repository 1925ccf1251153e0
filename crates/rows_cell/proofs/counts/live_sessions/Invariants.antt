use Rattle.rows_cell.proofs.LiveCounts.{IsCounted}
use Rattle.rows_cell.proofs.counts.live_sessions.Given as goal

abbrev pub invariant-loop-client : goal.invariant-loop-client
invariant-loop-client l = IsCounted l.sessions l._client-iterator l.live
