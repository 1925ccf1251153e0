use Rattle.sqlite.specs.Held.{state}
use Rattle.rows_sql.proofs.WriteSteps.{ok_then, keeps_itself, survives_itself}
use Rattle.rows_sql.proofs.Carried.{first_has_four, now_is_left, fifth_dropped}
use Rattle.rows_sql.proofs.writing.carrying.leave_four.Goals as goal

pub returns-in-First-clause-ok : goal.returns-in-First-clause-ok
returns-in-First-clause-ok g c clean = first_has_four c.args.version (state g.S.Store c.args.tx.now.conn.now) c.in-First.is

pub returns-in-First-clause-stays : goal.returns-in-First-clause-stays
returns-in-First-clause-stays g c =
    let here = state g.S.Store c.args.tx.now.conn.now in
    record { kept = λ _. keeps_itself here; survives = survives_itself here (λ _. ⊥) }

pub returns-in-Third-clause-ok : goal.returns-in-Third-clause-ok
returns-in-Third-clause-ok g c clean = now_is_left c.args.version (state g.S.Store c.args.tx.now.conn.now) c.in-Third.is

pub returns-in-Third-clause-stays : goal.returns-in-Third-clause-stays
returns-in-Third-clause-stays g c =
    let here = state g.S.Store c.args.tx.now.conn.now in
    record { kept = λ _. keeps_itself here; survives = survives_itself here (λ _. ⊥) }

pub returns-in-Unindexed-clause-ok : goal.returns-in-Unindexed-clause-ok
returns-in-Unindexed-clause-ok g c clean =
    ok_then c.drop_children.result (fifth_dropped c.args.version (state g.S.Store c.args.tx.now.conn.now) (state g.S.Store c.drop_children.new.tx.conn.now) c.in-Unindexed.is) (c.drop_children.ensures.ok clean)
