use Rattle.std.proofs.Common.{rules}
use Rattle.scripts.proofs.Lifts.{plain}
use Rattle.scripts.proofs.Ticks.{tick_out}
use Rattle.scripts.proofs.steps.step_of.Goals as goal

pub returns-in_err-ticks-in-tick : goal.returns-in_err-ticks-in-tick
returns-in_err-ticks-in-tick c =
    plain _ c.from_residual-in_err-ticks-in-tick.result c.in_err-ticks-in-tick.field-0.0 c.from_residual-in_err-ticks-in-tick.ensures (tick_out _ _ c.in-tick.is) c.in_err-ticks-in-tick.ensures

pub returns-in_ok-only_number-in-take : goal.returns-in_ok-only_number-in-take
returns-in_ok-only_number-in-take c = search rules
