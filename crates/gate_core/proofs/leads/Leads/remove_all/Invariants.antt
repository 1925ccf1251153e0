use Rattle.std.proofs.Common.{◌≡◌, ℕ, List, not, take}
use Rattle.std.specs.Prelude.{◌==◌, ◌&&◌}
use Rattle.std.specs.List.{list_any}
use Rattle.std.specs.Str.{bytes_eq}
use Rattle.gate_core.specs.Waking.{leads}
use Rattle.gate_core.proofs.leads.Leads.remove_all.Given as goal

abbrev pub invariant-loop-name : goal.invariant-loop-name
invariant-loop-name l = (x : List ℕ) (n : ℕ) → leads x n l.self ≡ (not (list_any (bytes_eq x) (take l.name-index l.names) && (n == l.number)) && leads x n l.fn.self)
