use Rattle.std.proofs.Common.{◌≡◌}
use Rattle.master_parts.proofs.tables.Tables.pass_stale.Given as goal

abbrev pub invariant-loop : goal.invariant-loop
invariant-loop l = l.self ≡ l.initial.self
