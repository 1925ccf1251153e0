use Rattle.std.proofs.Common.{◌≡◌, ℕ, List, [], subst, ap, ◌∙◌}
use Rattle.std.specs.Prelude.{fold, IfOk}
use Rattle.std.specs.Ordering.{nat_cmp}
use Rattle.std.specs.List.Sorted.{IsStrictlySortedBy}
use Rattle.std.specs.Map.{keys_of}
use Rattle.rights_core.specs.declared.cache_rights.CacheRight.{CacheRight}
use Rattle.rights_core.specs.Rights.{is_ended_by}
use Rattle.rights_core.specs.Holds.{Holds, with_name}
use Rattle.rights_core.proofs.Named.{names_by_number}
use Rattle.rights_core.proofs.holdings.Holding.names_ending.Goals as goal

pub returns : goal.returns
returns c =
    let P : List (ℕ × CacheRight) → Type 0 = λ l. IsStrictlySortedBy nat_cmp (keys_of l) in
    let inside : P c.self.inside.rights = subst P c.as_map.ensures c.len-held.ensures.ordered in
    let sorted : P c.args.self.now.rights = subst P (ap {A = Holds} (λ h. h.rights) c.self.view_is) inside in
    let Q : List (List ℕ) → Type 0 = λ l. IfOk c.names.result (λ names. names ≡ l) in
    subst Q
    (ap (fold (with_name c.args.self.now.rights) []) (c.as_slice.ensures.value ∙ c.in_ok-numbers.ensures)
    ∙ names_by_number (λ r. is_ended_by c.args.ending r.invalidation) c.args.self.now.rights sorted)
    c.names.ensures
