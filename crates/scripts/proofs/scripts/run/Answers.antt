use Rattle.std.proofs.Common.{refl, ap}
use Rattle.scripts.specs.Texts.{Reading}
use Rattle.scripts.proofs.RunsOf.{exit_unbegun, exit_unflushed}
use Rattle.scripts.proofs.scripts.run.Goals as goal

pub returns-in_err-lines : goal.returns-in_err-lines
returns-in_err-lines g c = exit_unbegun _ _ _ _ c.from_residual.result c.in_err-lines.field-0.0 refl c.from_residual.ensures c.in_err-lines.ensures.only

pub returns-in_err-flush : goal.returns-in_err-flush
returns-in_err-flush g c = exit_unflushed _ _ _ _ _ _ _ c.run_lines-ended.result c.from_residual-in_err-flush.result (ap (λ (r : Reading). r.rest) c.in_ok-lines.ensures.new) c.from_residual-in_err-flush.ensures c.run_lines-ended.ensures c.flush.ensures.bytes
