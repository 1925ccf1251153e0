use Rattle.std.proofs.Common.{ap, ◌∙◌}
use Rattle.std.specs.Map.{lookup}
use Rattle.std.specs.BTreeMap.{is_at}
use Rattle.std.specs.Ordering.{nat_cmp}
use Rattle.master_parts.proofs.Noted.{of_leads, own_place, kept_place}
use Rattle.master_parts.proofs.candidates.Candidates.put_place.Goals as goal

pub returns-clause-own : goal.returns-clause-own
returns-clause-own c = λ k. own_place c.self.inside.instances c.put.new.self c.args.instance c.args.name c.in-Ok.ensures.ok

pub returns-clause-leads : goal.returns-clause-leads
returns-clause-leads c = λ i q h k.
    kept_place c.self.inside.instances c.put.new.self c.args.instance c.args.name i q c.in-Ok.ensures.ok (ap (λ s. lookup (is_at (nat_cmp c.args.instance)) s.instances) c.self.view_is ∙ c.requires)
    (of_leads (record { names = c.self.inside.names; known = c.self.inside.known; instances = c.self.inside.instances; placed = c.self.inside.placed }) c.args.self.now i q c.self.view_is h k)
