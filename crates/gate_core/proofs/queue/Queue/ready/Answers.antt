use Rattle.std.proofs.Common.{ℕ, List, subst, ap, ◌∙◌}
use Rattle.std.specs.Ordering.{nat_cmp}
use Rattle.std.specs.List.Sorted.{IsStrictlySortedBy}
use Rattle.std.specs.Map.{keys_of}
use Rattle.gate_core.specs.Gate.{ready}
use Rattle.gate_core.specs.Queue.{QueueState}
use Rattle.gate_core.proofs.Woken.{first_ready}
use Rattle.gate_core.proofs.queue.Queue.ready.Goals as goal

pub returns : goal.returns
returns g c =
    let P : List (ℕ × Unit {0}) → Type 0 = λ l. IsStrictlySortedBy nat_cmp (keys_of l) in
    let sorted : P c.self.inside.free = subst P c.as_map.ensures c.len-listed.ensures.ordered in
    c.copied.ensures
    ∙ (c.first_free.ensures
    ∙ (first_ready c.self.inside.rights c.self.inside.free c.self.inside.gate.waiting 0 c.self.inside.gate.pushed c.len-count.ensures.orderly.rising sorted (c.self.invariant.listed c.if-not-self.false)
    ∙ ap {A = QueueState _} (λ s. ready s.rights s.gate.waiting) c.self.view_is))
