use Rattle.std.proofs.Common.{◌≤◌, ℕ, List, rules, subst, ap, ◌∙◌}
use Rattle.std.specs.List.Sorted.{IsStrictlySortedBy}
use Rattle.std.specs.Map.{keys_of}
use Rattle.master_parts.specs.declared.handles.HandleKey.{HandleKey}
use Rattle.master_parts.specs.declared.handles.HandleState.{HandleState}
use Rattle.master_parts.specs.Keys.{handle_order}
use Rattle.master_parts.specs.Candidates.{instance_open}
use Rattle.master_parts.proofs.Moved.{by_put}
use Rattle.master_parts.proofs.tables.Tables.put_handle.Goals as goal

pub invariant_of-self : goal.invariant_of-self
invariant_of-self c =
    let P : List (HandleKey × HandleState) → Type 0 = λ l. IsStrictlySortedBy handle_order (keys_of l) in
    let N : ℕ → Type 0 = λ n. 1 ≤ n in
    let sorted : P c.self.inside.handles = search rules in
    by_put c.self.inside.nodes c.self.inside.sessions c.self.inside.queue c.put.result c.self.inside.handles c.put.new.self c.self.inside.candidates c.wake_open.new.candidates c.args.key c.args.state sorted (subst N c.get-number.ensures.value c.get-number.ensures.range.0) (λ i q mine led. c.wake_open.ensures.own i q (ap instance_open c.get.ensures ∙ mine) led) c.wake_open.ensures.leads c.wake_open.ensures.kept c.put.ensures.ok c.put.ensures.err c.self.invariant
