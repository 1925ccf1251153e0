use Rattle.std.proofs.Common.{◌≡◌, ◌-◌, ℕ, List, None, cond, subst, ap, ◌∙◌}
use Rattle.std.specs.Prelude.{min, ◌==◌, ◌&&◌}
use Rattle.std.specs.Ordering.{nat_cmp}
use Rattle.std.specs.List.Sorted.{IsStrictlySortedBy}
use Rattle.std.specs.Map.{keys_of}
use Rattle.rights_core.specs.declared.cache_rights.CacheRight.{CacheRight}
use Rattle.rights_core.specs.declared.endings.Ending.TheVariants as endings
use Rattle.rights_core.specs.Holds.{Holds}
use Rattle.rights_core.specs.Indexes.{number_in, freed}
use Rattle.rights_core.proofs.ByCall.{first_names}
use Rattle.rights_core.proofs.holdings.Holding.free_acknowledged.Goals as goal

pub returns : goal.returns
returns c = λ other theirs.
    let P : List (ℕ × CacheRight) → Type 0 = λ l. IsStrictlySortedBy nat_cmp (keys_of l) in
    let sorted : P c.self.inside.rights = subst P c.as_map.ensures c.len-held.ensures.ordered in
    let count : c.count_to-count.result ≡ min c.args.upto c.self.inside.invalidations - c.self.inside.recalls.ended = c.count_to-count.ensures ∙ ap (λ m. m - c.self.inside.recalls.ended) c.min.ensures in
    c.free_first.ensures other theirs
    ∙ (ap (λ b. cond ((other == c.args.client) && b) None (number_in other theirs c.args.keepers.now))
    (first_names c.args.upto c.self.inside.invalidations c.self.inside.recalls.ended c.count_to-count.result theirs c.self.inside.rights c.self.inside.recalls.numbers.items count c.self.invariant.0 sorted)
    ∙ ap {A = Holds} (λ h. freed c.args.client (endings.Acknowledgement c.args.upto) h.rights other theirs (number_in other theirs c.args.keepers.now)) c.self.view_is)
