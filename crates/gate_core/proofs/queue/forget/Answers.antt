use Rattle.std.proofs.Common.{ℕ, List, subst}
use Rattle.std.specs.Ordering.{nat_cmp}
use Rattle.std.specs.List.Sorted.{IsStrictlySortedBy}
use Rattle.std.specs.Map.{keys_of}
use Rattle.gate_core.proofs.Leading.{listed_removed}
use Rattle.gate_core.proofs.queue.forget.Goals as goal

pub returns-clause-listed : goal.returns-clause-listed
returns-clause-listed c =
    let P : List (ℕ × Unit {0}) → Type 0 = λ l. IsStrictlySortedBy nat_cmp (keys_of l) in
    let sorted : P c.args.free.now = subst P c.as_map.ensures c.len-listed.ensures.ordered in
    listed_removed c.args.number c.args.free.now c.remove-former.new.self sorted c.remove-former.ensures.removed
