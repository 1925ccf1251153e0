use Rattle.std.proofs.Common.{List, rules}
use Rattle.std.specs.List.Sorted.{IsStrictlySortedBy}
use Rattle.std.specs.Map.{keys_of}
use Rattle.master_parts.specs.declared.handles.HandleKey.{HandleKey}
use Rattle.master_parts.specs.declared.handles.HandleState.{HandleState}
use Rattle.master_parts.specs.Keys.{handle_order}
use Rattle.master_parts.proofs.Moved.{by_end}
use Rattle.master_parts.proofs.tables.Tables.expire.Goals as goal

pub invariant_of-self : goal.invariant_of-self
invariant_of-self c =
    let P : List (HandleKey × HandleState) → Type 0 = λ l. IsStrictlySortedBy handle_order (keys_of l) in
    let sorted : P c.self.inside.handles = search rules in
    by_end c.self.inside.nodes c.self.inside.handles c.forget_client.new.self c.self.inside.queue c.self.inside.sessions c.expire.new.self c.self.inside.candidates c.wake_held.new.candidates c.args.client sorted c.forget_client.ensures c.expire.ensures c.wake_held.ensures.own c.wake_held.ensures.leads c.wake_held.ensures.kept c.self.invariant
