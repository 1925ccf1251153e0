use Rattle.rows_sql.proofs.KeptOpen.{unbegun, back_if_err}
use Rattle.rows_sql.proofs.adoption.last_committed.Goals as goal

pub keep_open-requires-clause-idle : goal.keep_open-requires-clause-idle
keep_open-requires-clause-idle g c = unbegun _ _ c.is_autocommit.ensures.value c.if-is_autocommit.true

pub keep_open-requires-clause-settled : goal.keep_open-requires-clause-settled
keep_open-requires-clause-settled g c = c.is_autocommit.ensures.settled c.if-is_autocommit.true

pub returns-clause-err : goal.returns-clause-err
returns-clause-err g c = back_if_err g.S.Store c.args.conn c.reopen.result c.reopen.ensures.err
