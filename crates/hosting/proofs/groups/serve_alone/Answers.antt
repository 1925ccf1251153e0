use Rattle.hosting.proofs.Grouped.{alone_goes}
use Rattle.hosting.proofs.groups.serve_alone.Goals as goal

pub returns : goal.returns
returns g c here = alone_goes _ c.args.found _ _ here _ _ _ _ c.course_of.ensures c.serve_found-next.ensures
