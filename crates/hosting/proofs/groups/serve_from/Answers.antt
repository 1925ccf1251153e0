use Rattle.hosting.proofs.Grouped.{found_some, found_none}
use Rattle.hosting.proofs.groups.serve_from.Goals as goal

pub returns-in-Some : goal.returns-in-Some
returns-in-Some g c = found_some _ _ _ _ _ _ _ _ _ _ c.in-Some.is c.serve_sent.ensures

pub returns-in-None : goal.returns-in-None
returns-in-None g c = found_none _ _ _ _ _ _ _ _ _ c.in-None.is (c.serve_alone-in-None.ensures _)

pub returns-then-not-is_there : goal.returns-then-not-is_there
returns-then-not-is_there g c = c.serve_alone.ensures _
