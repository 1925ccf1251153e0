use Rattle.std.proofs.Common.{rules}
use Rattle.output.proofs.Fronts.{front_at, front_stops, front_more}
use Rattle.output.proofs.writes.write_whole.Goals as goal

pub loop-turn-preserved : goal.loop-turn-preserved
loop-turn-preserved g c = record {
  within = search rules;
  bytes = front_more _ _ _ c.args.bytes.now _ _ c.loop-turn.invariant.bytes c.in-Ok.ensures.bytes;
}

pub returns-in-Err-clause-front : goal.returns-in-Err-clause-front
returns-in-Err-clause-front g c = front_stops _ _ _ c.args.bytes.now _ c.loop-turn.invariant.bytes c.in-Err.ensures.none

pub returns-clause-front : goal.returns-clause-front
returns-clause-front g c = front_at _ _ c.args.bytes.now _ c.loop-turn.invariant.bytes
