use Rattle.std.proofs.Common.{ℕ, List, sym, subst, ap, ◌∙◌}
use Rattle.std.specs.Ordering.{nat_cmp}
use Rattle.std.specs.List.Sorted.{IsStrictlySortedBy}
use Rattle.std.specs.Map.{keys_of}
use Rattle.rights_core.specs.Clients.{listed}
use Rattle.rights_core.proofs.OneName.{nothing_sorted}
use Rattle.rights_core.proofs.Places.{alone_sorted}
use Rattle.rights_core.proofs.clients.Clients.len.Goals as goal

pub returns-in-Nobody-clause-ordered : goal.returns-in-Nobody-clause-ordered
returns-in-Nobody-clause-ordered c =
    let P : List (ℕ × ℕ) → Type 0 = λ l. IsStrictlySortedBy nat_cmp (keys_of l) in
    subst P (ap listed (sym c.in-Nobody.is) ∙ c.self.view_is) nothing_sorted

pub returns-in-One-clause-ordered : goal.returns-in-One-clause-ordered
returns-in-One-clause-ordered c =
    let P : List (ℕ × ℕ) → Type 0 = λ l. IsStrictlySortedBy nat_cmp (keys_of l) in
    subst P c.self.view_is (alone_sorted c.self.inside.holders c.in-One.field-0 c.in-One.field-1 c.in-One.is)
