use Rattle.std.proofs.Common.{◌≡◌, ℕ, List, length, None, cond, not, ◌∙◌, ap, sym, subst}
use Rattle.std.specs.Prelude.{◌==◌, ◌&&◌}
use Rattle.std.specs.Str.{bytes_eq}
use Rattle.std.specs.Ordering.{nat_cmp}
use Rattle.std.specs.List.Sorted.{IsStrictlySortedBy}
use Rattle.std.specs.Map.{keys_of, lookup, set_value}
use Rattle.indexmap.specs.IndexMap.{IndexMap}
use Rattle.gate_core.specs.Waking.{leads}
use Rattle.gate_core.proofs.Leading.{leads_none, leads_taken, leads_last}
use Rattle.gate_core.proofs.leads.Leads.remove.Goals as goal

pub returns-in_default : goal.returns-in_default
returns-in_default c = λ x n.
    ap {A = IndexMap (List ℕ) (List (ℕ × Unit {0})) _} (λ m. leads x n m.entries) c.get_mut.follows.holds-at-none
    ∙ (leads_none c.self.inside.map.entries c.args.name.now c.args.number (sym c.in_default.ensures.value) x n
    ∙ ap (λ es. not (bytes_eq x c.args.name.now && (n == c.args.number)) && leads x n es) c.self.view_is)

pub returns-then-len-eq0 : goal.returns-then-len-eq0
returns-then-len-eq0 c = λ x n.
    let P : List (ℕ × Unit {0}) → Type 0 = λ l. IsStrictlySortedBy nat_cmp (keys_of l) in
    let ordered : P c.in-Some.numbers.now = subst P c.as_map.ensures c.len-count.ensures.ordered in
    let gone : (q : List ℕ) → lookup (bytes_eq q) c.swap_remove.new.self.entries ≡ cond (bytes_eq c.args.name.now q) None (lookup (bytes_eq q) (set_value (bytes_eq c.args.name.now) c.self.inside.map.entries c.remove-former.new.self)) = λ q.
    c.swap_remove.ensures.updates.0 q ∙ ap (λ es. cond (bytes_eq c.args.name.now q) None (lookup (bytes_eq q) es)) (c.get_mut.follows.holds c.remove-former.new.self).0 in
    let empty : length c.remove-former.new.self ≡ 0 = ap length (sym c.as_map-2.ensures) ∙ (sym c.len.ensures.len ∙ c.if-len-eq0.true) in
    leads_last c.self.inside.map.entries c.swap_remove.new.self.entries c.args.name.now c.in-Some.numbers.now c.remove-former.new.self c.args.number (sym c.in-Some.ensures.value) ordered c.remove-former.ensures.removed empty gone x n
    ∙ ap (λ es. not (bytes_eq x c.args.name.now && (n == c.args.number)) && leads x n es) c.self.view_is

pub returns-else-len-eq0 : goal.returns-else-len-eq0
returns-else-len-eq0 c = λ x n.
    let P : List (ℕ × Unit {0}) → Type 0 = λ l. IsStrictlySortedBy nat_cmp (keys_of l) in
    let ordered : P c.in-Some.numbers.now = subst P c.as_map.ensures c.len-count.ensures.ordered in
    ap (leads x n) (c.get_mut.follows.holds c.remove-former.new.self).0
    ∙ (leads_taken c.self.inside.map.entries c.args.name.now c.in-Some.numbers.now c.remove-former.new.self c.args.number (sym c.in-Some.ensures.value) ordered c.remove-former.ensures.removed x n
    ∙ ap (λ es. not (bytes_eq x c.args.name.now && (n == c.args.number)) && leads x n es) c.self.view_is)
