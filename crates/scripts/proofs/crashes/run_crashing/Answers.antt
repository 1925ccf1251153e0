use Rattle.std.proofs.Common.{refl, ap, subst}
use Rattle.world_steps.specs.World.{WorldView}
use Rattle.scripts.specs.Texts.{Reading}
use Rattle.scripts.specs.Ran.{EndsAs}
use Rattle.scripts.specs.Crashing.{IsOfCrashes, Between}
use Rattle.scripts.proofs.Crashings.{exit_unbegun, exit_unflushed, ends_kept}
use Rattle.scripts.proofs.crashes.run_crashing.Goals as goal

pub returns-in_err-lines : goal.returns-in_err-lines
returns-in_err-lines g c = exit_unbegun _ _ _ _ c.from_residual.result c.in_err-lines.field-0.0 refl c.from_residual.ensures c.in_err-lines.ensures.only

pub returns-in_err-flush : goal.returns-in_err-flush
returns-in_err-flush g c =
    exit_unflushed _ _ _ _ _ _ c.crashing_lines-ended.result c.from_residual-in_err-flush.result c.from_residual-in_err-flush.ensures
    (subst (λ text. EndsAs c.crashing_lines-ended.result (λ _ printed. IsOfCrashes text c.args.world.now c.crashing_lines-ended.new.world printed) (λ _ printed. Between c.args.world.now c.crashing_lines-ended.new.world printed) (g.W.Write.contents c.args.writer.now) (g.W.Write.contents c.crashing_lines-ended.new.output)) (ap (λ (r : Reading). r.rest) c.in_ok-lines.ensures.new) c.crashing_lines-ended.ensures) c.flush.ensures.bytes
