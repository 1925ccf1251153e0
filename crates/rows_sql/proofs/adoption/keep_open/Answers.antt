use Rattle.rows_sql.proofs.KeptOpen.{given_back, kept}
use Rattle.rows_sql.proofs.adoption.keep_open.Goals as goal

pub returns-then-is_open-clause-ok : goal.returns-then-is_open-clause-ok
returns-then-is_open-clause-ok g c =
    kept g.S.Store c.args.conn c.is_open.new.conn c.is_open.ensures.survives (λ s. g.met.S.OrderedStore.in_order s) (c.is_open.ensures.mode c.requires.idle) c.schema-schema.ensures.live c.requires.settled
    (λ clean. c.is_open.ensures.unchanged clean c.if-is_open.true)

pub returns-clause-err : goal.returns-clause-err
returns-clause-err g c = given_back g.S.Store c.args.conn c.is_open.new.conn c.is_open.ensures.survives c.into_store.result c.into_store.ensures.quiet
