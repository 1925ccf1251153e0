use Rattle.std.proofs.Common.{◌≡◌}
use Rattle.watch_cell.proofs.Settling.{other_half}
use Rattle.watch_cell.proofs.watches.Watch.close.Goals as goal

pub returns-clause-passes : goal.returns-clause-passes
returns-clause-passes g c = other_half (λ e. e.1 ≡ c.into_inner.result) (λ e. e.2 ≡ c.args.passes) c.settle.result c.settle.ensures.back
