use Rattle.std.proofs.Common.{◌∙◌, arith}
use Rattle.hosting.proofs.OneMore.{serves_more, begins_serving, ends_serving}
use Rattle.hosting.proofs.runs.serve.Goals as goal

pub loop-message-init : goal.loop-message-init
loop-message-init g c = record {
  served = begins_serving _ c.args.asked.now _ c.in_ok-answers.ensures.items;
  many = c.in_ok-answers.ensures.len;
  room = c.in_ok-answers.ensures.exact;
}

pub loop-message-preserved : goal.loop-message-preserved
loop-message-preserved g c = record {
  served =
      serves_more _ _ _ _ _ _ _ _ _ c.loop-message-test.true c.message-item.is c.loop-message.invariant.served c.answer.ensures c.push_reserved.ensures.items;
  many = omega (arith, c.push_reserved.ensures.len, c.loop-message.invariant.many);
  room = c.push_reserved.ensures.capacity ∙ c.loop-message.invariant.room;
}

pub returns-clause-served : goal.returns-clause-served
returns-clause-served g c = ends_serving _ _ _ _ _ _ c.loop-message-test.false c.loop-message.invariant.served c.from_vec.ensures
