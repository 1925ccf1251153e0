use Rattle.std.proofs.Common.{ap}
use Rattle.gate_core.specs.Gate.{GateState}
use Rattle.gate_core.proofs.gate.Gate.changes.Goals as goal

pub returns : goal.returns
returns g c = ap {A = GateState _} (λ s. s.waiting) c.self.view_is
