use Rattle.std.proofs.Common.{refl}
use Rattle.rows_sql.proofs.Carryings.{becomes, remains}
use Rattle.rows_sql.proofs.carrying.carry.Goals as goal

pub returns-in-Ok-clause-ok : goal.returns-in-Ok-clause-ok
returns-in-Ok-clause-ok g c =
    (refl, becomes g.S.Store c.args.version c.args.rows c.args.epoch c.args.conn.now c.carry_over.new.conn c.carry_over.ensures.survives c.carry_over.ensures.ended c.in-Ok.ensures.ok)

pub returns-in-Err-clause-err : goal.returns-in-Err-clause-err
returns-in-Err-clause-err g c = remains g.S.Store c.args.version c.args.rows c.args.epoch c.args.conn.now c.carry_over.new.conn c.carry_over.ensures.survives
