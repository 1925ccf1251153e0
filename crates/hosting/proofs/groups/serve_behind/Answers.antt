use Rattle.hosting.proofs.Grouped.{behind_on, behind_over, behind_ends}
use Rattle.hosting.proofs.groups.serve_behind.Goals as goal

pub returns-in-On : goal.returns-in-On
returns-in-On g c = behind_on _ _ _ _ _ _ _ _ c.in-On.is c.serve_alone.ensures

pub returns-in-Over : goal.returns-in-Over
returns-in-Over g c = behind_over _ _ _ _ _ c.in-Over.is

pub returns-in-Ends : goal.returns-in-Ends
returns-in-Ends g c = behind_ends _ _ _ _ _ _ c.in-Ends.is
