use Rattle.std.proofs.Common.{◌≡◌, length, ap, subst, ◌∙◌, arith}
use Rattle.std.specs.Map.{values_of}
use Rattle.std.proofs.lemmas.Map.Entries.{length-values_of}
use Rattle.gate_core.specs.Gate.{GateState, IsOrderly}
use Rattle.gate_core.proofs.gate.Gate.len.Goals as goal

pub returns-clause-value : goal.returns-clause-value
returns-clause-value g c =
    let long : c.len.result ≡ length c.self.inside.waiting = c.len.ensures.len ∙ ap length c.as_map.ensures in
    let same : length (values_of c.self.inside.waiting) ≡ length c.args.self.now.waiting = ap {A = GateState _} (λ s. length s.waiting) c.self.view_is in
    omega (arith, long, same, length-values_of c.self.inside.waiting)

pub returns-clause-orderly : goal.returns-clause-orderly
returns-clause-orderly g c = subst IsOrderly c.self.view_is c.self.invariant.orderly
