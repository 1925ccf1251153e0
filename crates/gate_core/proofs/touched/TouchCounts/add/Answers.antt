use Rattle.std.proofs.Common.{◌≡◌, ◌+◌, ℕ, List, Some, cond, ◌∙◌, ap, sym}
use Rattle.std.specs.Str.{bytes_eq}
use Rattle.std.specs.Map.{lookup}
use Rattle.gate_core.specs.Filing.{count_in}
use Rattle.gate_core.proofs.Filed.{counted_more}
use Rattle.gate_core.proofs.touched.TouchCounts.add.Goals as goal

pub returns-clause-ok : goal.returns-clause-ok
returns-clause-ok c = λ x.
    let put : (q : List ℕ) → lookup (bytes_eq q) c.insert.new.self.entries ≡ cond (bytes_eq c.args.name.now q) (Some (c.count-before.result + 1)) (lookup (bytes_eq q) c.self.inside.map.entries) = λ q.
    c.in_ok-insert.ensures.updates.0 q ∙ ap (λ n. cond (bytes_eq n q) (Some (c.count-before.result + 1)) (lookup (bytes_eq q) c.self.inside.map.entries)) c.in_ok-clone.ensures.cases in
    counted_more c.self.inside.map.entries c.insert.new.self.entries c.args.name.now c.count-before.result (c.count-before.ensures ∙ ap (count_in c.args.name.now) (sym c.self.view_is)) put x
    ∙ ap (λ es. count_in x es + cond (bytes_eq x c.args.name.now) 1 0) c.self.view_is
