use Rattle.std.proofs.Common.{◌≡◌, rules, ℕ, List, Some, ap, ◌∙◌}
use Rattle.std.specs.List.Sorted.{IsStrictlySortedBy}
use Rattle.std.specs.Map.{keys_of, lookup}
use Rattle.std.specs.BTreeMap.{is_at}
use Rattle.std.specs.Ordering.{nat_cmp}
use Rattle.master_parts.proofs.Noted.{of_leads, other_place}
use Rattle.master_parts.proofs.candidates.Candidates.unplace.Goals as goal

pub returns-clause-leads : goal.returns-clause-leads
returns-clause-leads c = λ i q apart h k.
    let P : List (ℕ × List ℕ) → Type 0 = λ l. IsStrictlySortedBy nat_cmp (keys_of l) in
    let sorted : P c.self.inside.instances = search rules in
    other_place c.self.inside.instances c.remove.new.self c.args.instance c.args.name.now i q sorted c.remove.ensures.removed (ap (λ s. lookup (is_at (nat_cmp c.args.instance)) s.instances) c.self.view_is ∙ c.requires) apart
    (of_leads (record { names = c.self.inside.names; known = c.self.inside.known; instances = c.self.inside.instances; placed = c.self.inside.placed }) c.args.self.now i q c.self.view_is h k)
