use Rattle.std.proofs.Common.{◌≡◌, drop}
use Rattle.toml.specs.View.{items_view}
use Rattle.scripts.specs.Said.{principals_of}
use Rattle.scripts.proofs.Gathered.{together}
use Rattle.scripts.proofs.values.principals_of.Given as goal

abbrev pub invariant-loop-value : goal.invariant-loop-value
invariant-loop-value l = together l.principals (principals_of (items_view (drop l.value-index l.values))) ≡ principals_of (items_view l.values)
