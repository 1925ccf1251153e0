use Rattle.rows_sql.proofs.Carryings.{carrying_keeps as law}
use Rattle.rows_sql.proofs.laws.carrying_keeps.Goals as goal

pub returns : goal.returns
returns c = law
