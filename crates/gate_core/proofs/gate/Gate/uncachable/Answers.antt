use Rattle.std.proofs.Common.{ap, sym, ◌∙◌}
use Rattle.std.specs.Prelude.{nat_lt}
use Rattle.std.specs.Map.{values_of}
use Rattle.gate_core.specs.Gate.{GateState, uncachable}
use Rattle.gate_core.proofs.Filed.{uncachable_counted}
use Rattle.gate_core.proofs.gate.Gate.uncachable.Goals as goal

pub returns : goal.returns
returns g c =
    ap (nat_lt 0) (c.count.ensures ∙ c.self.invariant.counted c.args.name.now)
    ∙ (sym (uncachable_counted c.args.name.now (values_of c.self.inside.waiting)) ∙ ap {A = GateState _} (λ s. uncachable c.args.name.now s.waiting) c.self.view_is)
