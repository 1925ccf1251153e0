use Rattle.std.proofs.Common.{◌≤◌, ℕ, List, rules, subst}
use Rattle.std.specs.List.Sorted.{IsStrictlySortedBy}
use Rattle.std.specs.Map.{keys_of}
use Rattle.master_parts.specs.declared.handles.HandleKey.{HandleKey}
use Rattle.master_parts.specs.declared.handles.HandleState.{HandleState}
use Rattle.master_parts.specs.Keys.{handle_order}
use Rattle.master_parts.proofs.Moved.{by_former}
use Rattle.master_parts.proofs.tables.Tables.restore_handle.Goals as goal

pub invariant_of-self : goal.invariant_of-self
invariant_of-self c =
    let P : List (HandleKey × HandleState) → Type 0 = λ l. IsStrictlySortedBy handle_order (keys_of l) in
    let N : ℕ → Type 0 = λ n. 1 ≤ n in
    let sorted : P c.self.inside.handles = search rules in
    by_former c.self.inside.nodes c.self.inside.sessions c.self.inside.queue c.self.inside.handles c.restore.new.self c.self.inside.candidates c.lose.new.self c.args.key.now c.args.former sorted (subst N c.get-number.ensures.value c.get-number.ensures.range.0) c.restore.ensures c.lose.ensures.has c.lose.ensures.leads c.self.invariant
