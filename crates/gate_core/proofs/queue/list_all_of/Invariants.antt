use Rattle.std.proofs.Common.{◌≡◌, ℕ}
use Rattle.std.specs.Prelude.{◌||◌}
use Rattle.gate_core.specs.Waking.{is_listed}
use Rattle.gate_core.proofs.queue.list_all_of.Given as goal

abbrev pub invariant-loop-number : goal.invariant-loop-number
invariant-loop-number l = (n : ℕ) → (is_listed n l.number-iterator || is_listed n l.free) ≡ (is_listed n l.numbers || is_listed n l.fn.free)
