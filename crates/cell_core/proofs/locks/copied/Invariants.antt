use Rattle.std.proofs.Common.{◌≡◌, ◌++◌, drop}
use Rattle.cell_core.proofs.locks.copied.Given as goal

abbrev pub invariant-loop-claim : goal.invariant-loop-claim
invariant-loop-claim l = l.copies ++ drop l.claim-index l.claims ≡ l.claims
