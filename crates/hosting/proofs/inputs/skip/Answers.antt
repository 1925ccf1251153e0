use Rattle.std.proofs.Common.{◌≡◌, length, arith, rules}
use Rattle.hosting.proofs.Passages.{all_found, passed_more}
use Rattle.hosting.proofs.inputs.skip.Goals as goal

pub loop-left-preserved : goal.loop-left-preserved
loop-left-preserved g c =
    let part : length c.fill.new.buffer ≡ c.min-part.result = search rules in
    passed_more _ _ _ _ _ _ _ c.loop-left.invariant c.in_ok-found.ensures.bytes
    (all_found c.in_ok-found.found c.min-part.result c.loop-left.left c.fill.new.buffer c.in_ok-found.ensures.bound part c.if-found-part.false (omega (arith, c.min-part.ensures)))
