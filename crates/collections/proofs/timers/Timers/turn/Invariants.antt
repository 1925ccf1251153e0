use Rattle.std.proofs.Common.{◌≡◌, ◌+◌, ℕ, true, length}
use Rattle.collections.specs.Timers.{wakes}
use Rattle.collections.proofs.timers.Timers.turn.Given as goal

abbrev pub invariant-loop : goal.invariant-loop
invariant-loop l = ((k m : ℕ) → wakes l.fn.self k m ≡ true → wakes l.self k m ≡ true) × (length l.self.later + l.counter ≡ length l.fn.self.later)
