use Rattle.hosting.proofs.Gathering.{so_far_none, so_far_on, so_far_ends, so_far_full}
use Rattle.hosting.proofs.gathers.gather.Goals as goal

pub loop-init : goal.loop-init
loop-init g c = so_far_none _ _ _ _

pub loop-preserved : goal.loop-preserved
loop-preserved g c = so_far_on c.loop.counter _ _ _ _ _ _ _ _ _ _ _ _ _ c.loop-test.true c.in-Next.is c.loop.invariant c.go_on.ensures

pub returns-in-Ends : goal.returns-in-Ends
returns-in-Ends g c = so_far_ends c.loop.counter _ _ _ _ _ _ _ _ _ _ _ _ _ c.loop-test.true c.in-Ends.is c.loop.invariant c.go_on.ensures

pub returns : goal.returns
returns g c = so_far_full c.loop.counter _ _ _ _ _ _ _ _ c.loop.invariant
