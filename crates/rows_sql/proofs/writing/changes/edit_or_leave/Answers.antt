use Rattle.std.proofs.Common.{sym, ◌∙◌}
use Rattle.sqlite.specs.Held.{state}
use Rattle.rows_sql.proofs.WriteSteps.{survives_itself}
use Rattle.rows_sql.proofs.Overtaking.{left_to_later, done_if_ok}
use Rattle.rows_sql.proofs.writing.changes.edit_or_leave.Goals as goal

pub returns-then-is_overtaken-clause-ok : goal.returns-then-is_overtaken-clause-ok
returns-then-is_overtaken-clause-ok g c clean = left_to_later c.args.it.now c.args.later.now (state g.S.Store c.args.tx.now.conn.now) (sym c.is_overtaken.ensures ∙ c.if-is_overtaken.true)

pub returns-then-is_overtaken-clause-survives : goal.returns-then-is_overtaken-clause-survives
returns-then-is_overtaken-clause-survives g c = survives_itself (state g.S.Store c.args.tx.now.conn.now) (λ _. ⊥)

pub returns-clause-ok : goal.returns-clause-ok
returns-clause-ok g c clean = done_if_ok c.edit.result c.args.it.now c.args.later.now (state g.S.Store c.args.tx.now.conn.now) (state g.S.Store c.edit.new.tx.conn.now) (c.edit.ensures.ok clean)
