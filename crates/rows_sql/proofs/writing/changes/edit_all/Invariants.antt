use Rattle.std.proofs.Common.{◌≡◌, drop}
use Rattle.sqlite.specs.Held.{state}
use Rattle.rows_sql.proofs.WriteSteps.{Along}
use Rattle.rows_sql.proofs.writing.changes.edit_all.Given as goal

abbrev pub invariant-loop-it : goal.invariant-loop-it
invariant-loop-it g l = record {
  same : l.tx.conn.ghost_name ≡ l.fn.tx.conn.ghost_name;
  later : l.later ≡ drop l.it-index l.change;
  along : Along l.change (drop l.it-index l.change) (state g.S.Store l.fn.tx.conn.now) (state g.S.Store l.tx.conn.now);
}
