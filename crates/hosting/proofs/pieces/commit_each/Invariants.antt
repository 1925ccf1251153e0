use Rattle.std.proofs.Common.{take}
use Rattle.hosting.specs.Pieces.{CommitsEach}
use Rattle.hosting.proofs.pieces.commit_each.Given as goal

abbrev pub invariant-loop-piece : goal.invariant-loop-piece
invariant-loop-piece g l = CommitsEach (take l.piece-index l.pieces) (g.R.Records.store l.fn.records) (g.R.Records.store l.records)
