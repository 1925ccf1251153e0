use Rattle.std.proofs.Common.{◌-◌, ℕ, List, cond, ◌∙◌, ap, sym, arith}
use Rattle.std.specs.Str.{bytes_eq}
use Rattle.indexmap.specs.IndexMap.{IndexMap}
use Rattle.gate_core.specs.Filing.{count_in}
use Rattle.gate_core.proofs.Filed.{counted_less, counted_none}
use Rattle.gate_core.proofs.touched.TouchCounts.remove.Goals as goal

pub returns-in_default : goal.returns-in_default
returns-in_default c = λ x.
    counted_none c.self.inside.map.entries c.get_mut.follows.lender-at-none.entries c.args.name.now (ap {A = IndexMap (List ℕ) ℕ _} (λ m. m.entries) c.get_mut.follows.holds-at-none) (sym c.in_default.ensures.value) x
    ∙ ap (λ es. count_in x es - cond (bytes_eq x c.args.name.now) 1 0) c.self.view_is

pub returns : goal.returns
returns c = λ x.
    counted_less c.self.inside.map.entries (c.get_mut.follows.lender (c.count-before.result - 1)).entries c.args.name.now c.count-before.result c.in-Some.count.now (c.count-before.result - 1) (c.count-before.ensures ∙ ap (count_in c.args.name.now) (sym c.self.view_is)) (sym c.in-Some.ensures.value) (omega arith) (c.get_mut.follows.holds (c.count-before.result - 1)).0 x
    ∙ ap (λ es. count_in x es - cond (bytes_eq x c.args.name.now) 1 0) c.self.view_is
