use Rattle.std.proofs.Common.{sym, ◌∙◌}
use Rattle.rows_sql.proofs.NextKnown.{needed_same}
use Rattle.rows_sql.proofs.knowing.needed.Goals as goal

pub returns-then-not-any_sets_next : goal.returns-then-not-any_sets_next
returns-then-not-any_sets_next c =
    needed_same c.args.change.now c.in-Some.front.now c.in-Some.last.now c.args.next c.in-Some.ensures.cases.0 (c.says_known.ensures c.if-says_known.true) (sym c.any_sets_next.ensures ∙ c.if-not-any_sets_next.true)
