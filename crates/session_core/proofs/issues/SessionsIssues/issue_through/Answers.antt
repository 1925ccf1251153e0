use Rattle.std.proofs.Common.{rules}
use Rattle.session_core.proofs.Quiet.{kept_changed}
use Rattle.session_core.proofs.issues.SessionsIssues.issue_through.Goals as goal

pub invariant_of-self : goal.invariant_of-self
invariant_of-self g c =
    kept_changed c.self.inside.lease c.self.inside.bounds c.change.new.self c.args.client c.in-Some.session.now c.issue_through.new.self c.moments-before.result c.moments-after.result c.event_count.result c.self.inside.map.entries (c.get_mut.follows.lender c.issue_through.new.self).entries c.self.invariant
    (search rules) c.moments-before.ensures c.moments-after.ensures c.event_count.ensures c.change.ensures.events c.change.ensures.own c.change.ensures.others (search rules)
