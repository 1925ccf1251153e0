use Rattle.std.proofs.Common.{subst}
use Rattle.sqlite.specs.Held.{state}
use Rattle.rows_sql.specs.Versions.{IsVersionOf}
use Rattle.rows_sql.proofs.Adoptions.{foreign_none}
use Rattle.rows_sql.proofs.adoption.take_over.Goals as goal

pub returns-in-None-clause-why : goal.returns-in-None-clause-why
returns-in-None-clause-why g c clean is =
    foreign_none c.args.settings.now.cell (state g.S.Store c.args.conn.now).now c.schema.result.now (subst (IsVersionOf c.schema.result.now) c.in-None.is c.in_ok-version.ensures) c.schema.ensures.value (c.take_none.ensures.why clean is)
