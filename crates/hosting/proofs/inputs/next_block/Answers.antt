use Rattle.std.proofs.Common.{ℕ, take, ap, arith, rules, length-take}
use Rattle.hosting.proofs.Passages.{none_left, head_cut, head_read}
use Rattle.hosting.proofs.inputs.next_block.Goals as goal

pub returns-then-found-eq0-clause-found : goal.returns-then-found-eq0-clause-found
returns-then-found-eq0-clause-found g c =
    none_left _ _ _ c.in_ok-found.ensures.bytes (ap (λ (n : ℕ). take n c.fill.new.buffer) c.if-found-eq0.true) (c.in_ok-found.ensures.end (omega arith))

pub returns-then-found-lt4-clause-found : goal.returns-then-found-lt4-clause-found
returns-then-found-lt4-clause-found g c = (
  tt,
  head_cut _ _ _ c.in_ok-found.ensures.bytes (omega (arith, length-take c.in_ok-found.found c.fill.new.buffer, c.in_ok-found.ensures.bound))
      (omega (arith, length-take c.in_ok-found.found c.fill.new.buffer)) (c.in_ok-found.ensures.end c.if-found-lt4.true),
)

pub returns-clause-found : goal.returns-clause-found
returns-clause-found g c =
    (c.in_ok-block.ensures.found.0, head_read _ _ _ c.fill.new.buffer c.in_ok-found.found c.read_u32.result _ c.in_ok-found.ensures.bytes (search rules) c.if-found-lt4.false c.read_u32.ensures c.in_ok-block.ensures.found.1)
