use Rattle.hosting.proofs.Grouped.{served_none, served_on, ends_over, ends_so, ends_late}
use Rattle.hosting.proofs.groups.serve_all.Goals as goal

pub loop-group-init : goal.loop-group-init
loop-group-init g c = served_none _ _ _ _

pub loop-group-preserved : goal.loop-group-preserved
loop-group-preserved g c = served_on _ _ _ _ _ _ _ _ _ _ _ c.in-On.is c.loop-group.invariant c.serve_some-next.ensures

pub returns-in-Over : goal.returns-in-Over
returns-in-Over g c = ends_over _ _ _ _ _ _ _ _ _ _ _ c.in-Over.is c.loop-group.invariant c.serve_some-next.ensures

pub returns-in-Ends : goal.returns-in-Ends
returns-in-Ends g c = ends_so _ c.in-Ends.stop _ _ _ _ _ _ _ _ _ _ c.in-Ends.is c.loop-group.invariant c.serve_some-next.ensures

pub returns : goal.returns
returns g c = ends_late _ _ _ _ _ _ _ c.loop-group.invariant
