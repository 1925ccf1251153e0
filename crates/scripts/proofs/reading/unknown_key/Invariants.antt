use Rattle.std.proofs.Common.{◌≡◌}
use Rattle.toml.specs.View.{members_view}
use Rattle.scripts.specs.Said.{unknown_key}
use Rattle.scripts.proofs.reading.unknown_key.Given as goal

abbrev pub invariant-loop-key : goal.invariant-loop-key
invariant-loop-key l = unknown_key (members_view l.key-iterator) ≡ unknown_key (members_view l.table.entries)
