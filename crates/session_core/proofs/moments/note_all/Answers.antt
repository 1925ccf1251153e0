use Rattle.std.proofs.Common.{refl, ◌∙◌, rules}
use Rattle.session_core.proofs.Quiet.{all_left, one_less, none_left}
use Rattle.session_core.proofs.moments.note_all.Goals as goal

pub loop-client-init : goal.loop-client-init
loop-client-init g c = (refl, all_left c.args.lease _ _ c.into_iter-client-iterator.result c.args.sessions.now.entries (search rules))

pub loop-client-preserved : goal.loop-client-preserved
loop-client-preserved g c = (
  c.note.ensures.events ∙ c.loop-client.invariant.0,
  one_less c.args.lease c.loop-client.bounds.ends c.loop-client.bounds.answers c.note.new.self.ends c.note.new.self.answers c.loop-client.client-iterator c.next.new.self c.args.sessions.now.entries c.in-Some.client.now c.in-Some.session.now c.moments.result c.loop-client.invariant.1 c.in-Some.ensures.steps c.moments.ensures c.note.ensures.own c.note.ensures.kept,
)

pub returns-clause-events : goal.returns-clause-events
returns-clause-events g c = c.loop-client.invariant.0

pub returns-clause-noted : goal.returns-clause-noted
returns-clause-noted g c = none_left c.args.lease c.loop-client.bounds.ends c.loop-client.bounds.answers c.loop-client.client-iterator c.args.sessions.now.entries c.loop-client.invariant.1 c.in-None.ensures.steps.0
