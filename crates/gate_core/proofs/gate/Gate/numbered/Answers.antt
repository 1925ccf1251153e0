use Rattle.std.proofs.Common.{ap, ◌∙◌}
use Rattle.std.specs.Prelude.{find}
use Rattle.gate_core.specs.Gate.{GateState, is_numbered}
use Rattle.gate_core.proofs.Filed.{at_number}
use Rattle.gate_core.proofs.gate.Gate.numbered.Goals as goal

pub returns : goal.returns
returns g c =
    c.get.ensures ∙ (at_number c.args.number c.self.inside.waiting c.self.invariant.keyed ∙ ap {A = GateState _} (λ s. find (is_numbered c.args.number) s.waiting) c.self.view_is)
