use Rattle.std.proofs.Common.{◌≡◌, ℕ, List, Some, cond, ◌∙◌, ap, sym, rules}
use Rattle.std.specs.Prelude.{◌==◌, ◌&&◌, ◌||◌}
use Rattle.std.specs.Str.{bytes_eq}
use Rattle.std.specs.Map.{lookup, set_value}
use Rattle.indexmap.specs.IndexMap.{IndexMap}
use Rattle.std.proofs.lemmas.Map.Steps.{set_value_same}
use Rattle.gate_core.specs.Waking.{leads}
use Rattle.gate_core.proofs.Leading.{leads_more, leads_first}
use Rattle.gate_core.proofs.leads.Leads.add.Goals as goal

pub returns-in_err-put-clause-err : goal.returns-in_err-put-clause-err
returns-in_err-put-clause-err c =
    let same : (c.get_mut.follows.lender c.put.new.self).entries ≡ c.args.self.now =
    (c.get_mut.follows.holds c.put.new.self).0
    ∙ (ap (set_value (bytes_eq c.args.name.now) c.self.inside.map.entries) c.in_err-put.ensures.err
    ∙ (set_value_same (bytes_eq c.args.name.now) c.self.inside.map.entries c.in-Some.numbers.now (sym c.in-Some.ensures.value) ∙ c.self.view_is)) in
    search rules

pub returns-in-Some-clause-ok : goal.returns-in-Some-clause-ok
returns-in-Some-clause-ok c = λ x n.
    ap (leads x n) (c.get_mut.follows.holds c.put.new.self).0
    ∙ (leads_more c.self.inside.map.entries c.args.name.now c.in-Some.numbers.now c.put.new.self c.args.number (sym c.in-Some.ensures.value) c.in_ok-put.ensures.ok x n
    ∙ ap (λ es. (bytes_eq x c.args.name.now && (n == c.args.number)) || leads x n es) c.self.view_is)

pub returns-clause-ok : goal.returns-clause-ok
returns-clause-ok c = λ x n.
    let put : (q : List ℕ) → lookup (bytes_eq q) c.insert.new.self.entries ≡ cond (bytes_eq c.args.name.now q) (Some c.in_ok-numbers.numbers) (lookup (bytes_eq q) c.self.inside.map.entries) = λ q.
    c.in_ok-insert.ensures.updates.0 q
    ∙ (ap (λ m. cond (bytes_eq m q) (Some c.in_ok-numbers.numbers) (lookup (bytes_eq q) c.get_mut.follows.lender-at-none.entries)) c.in_ok-clone.ensures.cases
    ∙ ap {A = IndexMap (List ℕ) (List (ℕ × Unit {0})) _} (λ m. cond (bytes_eq c.args.name.now q) (Some c.in_ok-numbers.numbers) (lookup (bytes_eq q) m.entries)) c.get_mut.follows.holds-at-none) in
    leads_first c.self.inside.map.entries c.insert.new.self.entries c.args.name.now c.args.number c.in_ok-numbers.numbers (sym c.in_default.ensures.value) c.in_ok-numbers.ensures put x n
    ∙ ap (λ es. (bytes_eq x c.args.name.now && (n == c.args.number)) || leads x n es) c.self.view_is
