use Rattle.output.proofs.Fronts.{front_kept}
use Rattle.output.proofs.writes.write_bytes.Goals as goal

pub returns-in-Err-clause-front : goal.returns-in-Err-clause-front
returns-in-Err-clause-front g c = front_kept _ _ _ c.args.bytes.now c.in_ok-write_whole.ensures.all c.flush.ensures.bytes
