use Rattle.std.proofs.Common.{◌≡◌, ◌-◌, ℕ, List, subst, ap, ◌∙◌}
use Rattle.std.specs.Prelude.{min, map, filter, IfOk}
use Rattle.std.specs.Ordering.{nat_cmp}
use Rattle.std.specs.List.Sorted.{IsStrictlySortedBy}
use Rattle.std.specs.Map.{keys_of}
use Rattle.rights_core.specs.declared.cache_rights.CacheRight.{CacheRight}
use Rattle.rights_core.specs.declared.endings.Ending.TheVariants as endings
use Rattle.rights_core.specs.Rights.{is_ended_by}
use Rattle.rights_core.specs.Holds.{Holds}
use Rattle.rights_core.proofs.ByCall.{first_numbers}
use Rattle.rights_core.proofs.holdings.Holding.acknowledged.Goals as goal

pub returns : goal.returns
returns c =
    let P : List (ℕ × CacheRight) → Type 0 = λ l. IsStrictlySortedBy nat_cmp (keys_of l) in
    let sorted : P c.self.inside.rights = subst P c.as_map.ensures c.len-held.ensures.ordered in
    let count : c.count_to-count.result ≡ min c.args.upto c.self.inside.invalidations - c.self.inside.recalls.ended = c.count_to-count.ensures ∙ ap (λ m. m - c.self.inside.recalls.ended) c.min.ensures in
    let Q : List ℕ → Type 0 = λ l. IfOk c.first.result (λ numbers. numbers.items ≡ l) in
    subst Q
    (first_numbers c.args.upto c.self.inside.invalidations c.self.inside.recalls.ended c.count_to-count.result c.self.inside.rights c.self.inside.recalls.numbers.items count c.self.invariant.0 sorted
    ∙ ap {A = Holds} (λ h. map (λ (e : ℕ × CacheRight). e.0) (filter (λ (e : ℕ × CacheRight). is_ended_by (endings.Acknowledgement c.args.upto) e.1.invalidation) h.rights)) c.self.view_is)
    c.first.ensures
