use Rattle.std.proofs.Common.{◌≡◌, ◌+◌, ◌-◌, ℕ, List, length, not, subst, ap, ◌∙◌, arith}
use Rattle.std.specs.Prelude.{min, filter}
use Rattle.std.specs.VecDeque.{deque_capacity}
use Rattle.std.specs.Ordering.{nat_cmp}
use Rattle.std.specs.List.Sorted.{IsStrictlySortedBy}
use Rattle.std.specs.Map.{keys_of}
use Rattle.rights_core.specs.declared.cache_rights.CacheRight.{CacheRight}
use Rattle.rights_core.specs.declared.endings.Ending.TheVariants as endings
use Rattle.rights_core.specs.Rights.{is_ended_by}
use Rattle.rights_core.specs.Holds.{Holds}
use Rattle.rights_core.specs.Indexes.{left_by}
use Rattle.rights_core.proofs.Queued.{all_ended, ended_called}
use Rattle.rights_core.proofs.holdings.Holding.acknowledge.Goals as goal

pub invariant_of-self : goal.invariant_of-self
invariant_of-self c =
    let P : List (ℕ × CacheRight) → Type 0 = λ l. IsStrictlySortedBy nat_cmp (keys_of l) in
    let sorted : P c.self.inside.rights = subst P c.as_map.ensures c.len-held.ensures.ordered in
    let count : c.count_to-count.result ≡ min c.args.upto c.self.inside.invalidations - c.self.inside.recalls.ended = c.count_to-count.ensures ∙ ap (λ m. m - c.self.inside.recalls.ended) c.min.ensures in
    ended_called c.args.upto c.self.inside.invalidations c.self.inside.recalls.ended c.end_first.new.self.ended c.count_to-count.result (deque_capacity c.self.inside.recalls.numbers) (deque_capacity c.end_first.new.self.numbers) c.self.inside.rights c.end_first.new.rights c.self.inside.recalls.numbers.items c.end_first.new.self.numbers.items
    count c.self.invariant sorted c.end_first.ensures.rights c.end_first.ensures.numbers c.end_first.ensures.ended c.end_first.ensures.capacity

pub returns-clause-left : goal.returns-clause-left
returns-clause-left c =
    let P : List (ℕ × CacheRight) → Type 0 = λ l. IsStrictlySortedBy nat_cmp (keys_of l) in
    let sorted : P c.self.inside.rights = subst P c.as_map.ensures c.len-held.ensures.ordered in
    let count : c.count_to-count.result ≡ min c.args.upto c.self.inside.invalidations - c.self.inside.recalls.ended = c.count_to-count.ensures ∙ ap (λ m. m - c.self.inside.recalls.ended) c.min.ensures in
    let all = all_ended c.args.upto c.self.inside.invalidations c.self.inside.recalls.ended c.count_to-count.result c.self.inside.rights c.self.inside.recalls.numbers.items count c.self.invariant.0 sorted in
    let now : ◌≡◌ {A = Holds} (record { invalidations = c.self.inside.invalidations; rights = c.end_first.new.rights }) (record { invalidations = c.self.inside.invalidations; rights = filter (λ e. not (is_ended_by (endings.Acknowledgement c.args.upto) e.1.invalidation)) c.self.inside.rights }) =
    ap (λ rs. record { invalidations = c.self.inside.invalidations; rights = rs }) (c.end_first.ensures.rights ∙ all.0) in
    now ∙ ap (left_by (endings.Acknowledgement c.args.upto)) c.self.view_is

pub returns-clause-count : goal.returns-clause-count
returns-clause-count c =
    let P : List (ℕ × CacheRight) → Type 0 = λ l. IsStrictlySortedBy nat_cmp (keys_of l) in
    let sorted : P c.self.inside.rights = subst P c.as_map.ensures c.len-held.ensures.ordered in
    let count : c.count_to-count.result ≡ min c.args.upto c.self.inside.invalidations - c.self.inside.recalls.ended = c.count_to-count.ensures ∙ ap (λ m. m - c.self.inside.recalls.ended) c.min.ensures in
    let all = all_ended c.args.upto c.self.inside.invalidations c.self.inside.recalls.ended c.count_to-count.result c.self.inside.rights c.self.inside.recalls.numbers.items count c.self.invariant.0 sorted in
    ap (λ l. c.count_to-count.result + length l) c.end_first.ensures.rights ∙ (all.1 ∙ ap {A = Holds} (λ h. length h.rights) c.self.view_is)
