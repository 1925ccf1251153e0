use Rattle.hosting.proofs.PieceLaws.{commit_more, cut_at, sound_next}
use Rattle.hosting.proofs.pieces.commit_each.Goals as goal

pub commit_one-requires : goal.commit_one-requires
commit_one-requires g c = sound_next c.args.pieces.now c.loop-piece.piece-index c.piece-item.result _ _ c.loop-piece-test.true c.piece-item.is c.requires c.loop-piece.invariant

pub loop-piece-preserved : goal.loop-piece-preserved
loop-piece-preserved g c = commit_more c.args.pieces.now c.loop-piece.piece-index c.piece-item.result _ _ _ c.loop-piece-test.true c.piece-item.is c.loop-piece.invariant c.in-Ok.ensures.ok

pub returns-in-Err-clause-err : goal.returns-in-Err-clause-err
returns-in-Err-clause-err g c = cut_at _ c.args.pieces.now c.loop-piece.piece-index c.piece-item.result _ _ _ c.loop-piece-test.true c.piece-item.is c.loop-piece.invariant c.in-Err.ensures.err
