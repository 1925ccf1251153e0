use Rattle.std.proofs.Common.{◌≡◌, ◌++◌, drop, map}
use Rattle.master_state.specs.Replies.{locked_line, locked_lines}
use Rattle.master_state.proofs.replies.locked_lines.Given as goal

abbrev pub invariant-loop-claim : goal.invariant-loop-claim
invariant-loop-claim l = l.printed ++ map (locked_line l.instance l.generation) (drop l.claim-index l.claim-items) ≡ locked_lines l.instance l.turn
