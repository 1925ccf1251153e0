use Rattle.std.proofs.Common.{refl}
use Rattle.hosting.specs.declared.gathers.Behind.TheVariants as behinds
use Rattle.hosting.specs.declared.gathers.Onward.TheVariants as onwards
use Rattle.hosting.proofs.Gathering.{done_on, alone_on, stopped_on}
use Rattle.hosting.proofs.gathers.go_on.Goals as goal

pub returns-then-ends_here : goal.returns-then-ends_here
returns-then-ends_here g c = done_on (onwards.Ends behinds.Nothing) _ _ _ _ _ _ _ _ c.in-Done.is c.do_held.ensures refl

pub returns-else-ends_here : goal.returns-else-ends_here
returns-else-ends_here g c = done_on _ _ _ _ _ _ _ _ _ c.in-Done.is c.do_held.ensures c.next_there.ensures

pub returns-in-Alone : goal.returns-in-Alone
returns-in-Alone g c = alone_on _ _ _ _ _ _ _ c.in-Alone.is c.do_held.ensures

pub returns-in-Stopped : goal.returns-in-Stopped
returns-in-Stopped g c = stopped_on _ c.in-Stopped.stop _ _ _ _ _ _ c.in-Stopped.is c.do_held.ensures
