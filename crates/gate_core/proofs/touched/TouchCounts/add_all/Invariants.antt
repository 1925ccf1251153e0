use Rattle.std.proofs.Common.{◌≡◌, ◌+◌, ℕ, List, take}
use Rattle.std.specs.Prelude.{count_by}
use Rattle.std.specs.Str.{bytes_eq}
use Rattle.gate_core.specs.Filing.{count_in}
use Rattle.gate_core.proofs.touched.TouchCounts.add_all.Given as goal

abbrev pub invariant-loop-index : goal.invariant-loop-index
invariant-loop-index l = (x : List ℕ) → count_in x l.self ≡ count_in x l.fn.self + count_by (bytes_eq x) (take l.index l.names)
