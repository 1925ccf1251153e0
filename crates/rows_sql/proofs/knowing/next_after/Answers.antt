use Rattle.std.proofs.Common.{sym, ◌∙◌}
use Rattle.rows_sql.proofs.NextKnown.{next_kept, next_said}
use Rattle.rows_sql.proofs.knowing.next_after.Goals as goal

pub returns-then-not-any_sets_next : goal.returns-then-not-any_sets_next
returns-then-not-any_sets_next c = next_kept c.args.change.now c.args.next (sym c.any_sets_next.ensures ∙ c.if-not-any_sets_next.true)

pub returns : goal.returns
returns c rows has = next_said c.args.change.now c.in-Some._front.now c.in-Some.last.now c.said_by.result c.in-Some.ensures.cases.0 c.said_by.ensures rows
