use Rattle.lock_core.proofs.Firsts.{in_order, first_is_lowest}
use Rattle.lock_core.proofs.Openings.{all_among}
use Rattle.lock_core.proofs.tables.Locks.due.Goals as goal

pub returns-in-Some : goal.returns-in-Some
returns-in-Some c =
    first_is_lowest c.self.inside.locks c.args.self.now c.args.now c.in-Some.instances.now.keys c.due_among.result c.self.view_is (in_order _ _ c.as_map.ensures c.len-ordered.ensures.ordered) c.len-sorted.ensures.ordered
    (all_among c.self.inside.openings c.self.inside.locks c.args.self.now c.args.now c.in-Some.instances.now.keys c.self.view_is c.self.invariant.1 c.in-Some.ensures.due) c.due_among.ensures
