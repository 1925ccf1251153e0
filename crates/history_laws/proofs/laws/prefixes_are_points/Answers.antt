use Rattle.history_laws.proofs.Points.{prefixes_are}
use Rattle.history_laws.proofs.laws.prefixes_are_points.Goals as goal

pub returns : goal.returns
returns c = prefixes_are
