use Rattle.std.proofs.Common.{◌∙◌}
use Rattle.collections.proofs.Entries.{same_entries}
use Rattle.collections.proofs.tables.TableClone.clone.Goals as goal

pub returns : goal.returns
returns g c = record {
  cases = same_entries g.K.Clone.is_clone g.V.Clone.is_clone g.met.K.Same.exact g.met.V.Same.exact c.self.inside.map.entries c.in_ok-clone.field-0.entries c.in_ok-clone.ensures.cases ∙ c.self.view_is;
}
