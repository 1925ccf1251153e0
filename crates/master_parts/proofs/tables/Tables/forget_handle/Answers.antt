use Rattle.std.proofs.Common.{List, rules, ap, ◌∙◌}
use Rattle.std.specs.List.Sorted.{IsStrictlySortedBy}
use Rattle.std.specs.Map.{keys_of}
use Rattle.master_parts.specs.declared.handles.HandleKey.{HandleKey}
use Rattle.master_parts.specs.declared.handles.HandleState.{HandleState}
use Rattle.master_parts.specs.Keys.{handle_order}
use Rattle.master_parts.specs.Candidates.{instance_open}
use Rattle.master_parts.proofs.Moved.{by_forget}
use Rattle.master_parts.proofs.tables.Tables.forget_handle.Goals as goal

pub invariant_of-self : goal.invariant_of-self
invariant_of-self c =
    let P : List (HandleKey × HandleState) → Type 0 = λ l. IsStrictlySortedBy handle_order (keys_of l) in
    let sorted : P c.self.inside.handles = search rules in
    by_forget c.self.inside.nodes c.self.inside.sessions c.self.inside.queue c.self.inside.handles c.forget.new.self c.self.inside.candidates c.wake_open.new.candidates c.args.key.now sorted c.forget.ensures (λ i q mine led. c.wake_open.ensures.own i q (ap instance_open c.get.ensures ∙ mine) led) c.wake_open.ensures.leads c.wake_open.ensures.kept c.self.invariant
