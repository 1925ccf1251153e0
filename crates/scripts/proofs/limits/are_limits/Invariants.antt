use Rattle.std.proofs.Common.{◌≡◌}
use Rattle.toml.specs.View.{members_view}
use Rattle.scripts.specs.Said.{are_limits}
use Rattle.scripts.proofs.limits.are_limits.Given as goal

abbrev pub invariant-loop-key : goal.invariant-loop-key
invariant-loop-key l = are_limits (members_view l.key-iterator) ≡ are_limits (members_view l.table.entries)
