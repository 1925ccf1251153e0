use Rattle.std.proofs.Common.{sym, ap, ◌∙◌}
use Rattle.collections.specs.Timers.{has_moment, has_come}
use Rattle.collections.proofs.Wakes.{not_above, first_come, none_come}
use Rattle.collections.proofs.timers.Timers.first_until.Goals as goal

pub returns-then-first-now-clause-come : goal.returns-then-first-now-clause-come
returns-then-first-now-clause-come c = sym (ap (λ t. has_come t.later c.args.now) (sym c.self.view_is) ∙ first_come c.self.inside.later.keys c.in-Some.first.now c.args.now c.in-Some.ensures.first c.if-first-now.true)

pub returns-else-first-now-clause-later : goal.returns-else-first-now-clause-later
returns-else-first-now-clause-later c = λ k m there. not_above c.in-Some.first.now.0 c.in-Some.first.now.1 m k c.args.now c.if-first-now.false (c.in-Some.ensures.least (m, k) (ap (λ t. has_moment t.later k m) c.self.view_is ∙ there))

pub returns-else-first-now-clause-come : goal.returns-else-first-now-clause-come
returns-else-first-now-clause-come c = sym (ap (λ t. has_come t.later c.args.now) (sym c.self.view_is) ∙ none_come c.self.inside.later.keys c.in-Some.first.now c.args.now c.if-first-now.false c.in-Some.ensures.all_from)
