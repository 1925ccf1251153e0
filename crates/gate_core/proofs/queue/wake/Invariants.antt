use Rattle.std.proofs.Common.{◌≡◌, ℕ, take}
use Rattle.std.specs.Prelude.{◌||◌}
use Rattle.std.specs.List.{list_any}
use Rattle.gate_core.specs.Waking.{is_listed, wakes}
use Rattle.gate_core.proofs.queue.wake.Given as goal

abbrev pub invariant-loop-name : goal.invariant-loop-name
invariant-loop-name l = (n : ℕ) → is_listed n l.free ≡ (list_any (wakes l.rights l.by_name n) (take l.name-index l.names) || is_listed n l.fn.free)
