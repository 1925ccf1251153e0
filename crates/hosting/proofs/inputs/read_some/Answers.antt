use Rattle.std.proofs.KnownBytes.{Keeps-refl, Keeps-trans}
use Rattle.hosting.proofs.Passages.{kept_then}
use Rattle.hosting.proofs.inputs.read_some.Goals as goal

pub loop-turn-init : goal.loop-turn-init
loop-turn-init g c = Keeps-refl _

pub loop-turn-preserved : goal.loop-turn-preserved
loop-turn-preserved g c = Keeps-trans _ _ _ c.loop-turn.invariant c.in-Err.ensures.bytes

pub returns-in-Ok-clause-bytes : goal.returns-in-Ok-clause-bytes
returns-in-Ok-clause-bytes g c = kept_then _ _ _ _ c.loop-turn.invariant c.in-Ok.ensures.bytes.0
