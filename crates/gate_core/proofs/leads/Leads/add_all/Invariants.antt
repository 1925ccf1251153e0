use Rattle.std.proofs.Common.{◌≡◌, ℕ, List, take}
use Rattle.std.specs.Prelude.{◌==◌, ◌&&◌, ◌||◌}
use Rattle.std.specs.List.{list_any}
use Rattle.std.specs.Str.{bytes_eq}
use Rattle.gate_core.specs.Waking.{leads}
use Rattle.gate_core.proofs.leads.Leads.add_all.Given as goal

abbrev pub invariant-loop-index : goal.invariant-loop-index
invariant-loop-index l = (x : List ℕ) (n : ℕ) → leads x n l.self ≡ ((list_any (bytes_eq x) (take l.index l.names) && (n == l.number)) || leads x n l.fn.self)
