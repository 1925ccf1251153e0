use Rattle.std.proofs.Common.{subst}
use Rattle.scripts.specs.Settling.{played}
use Rattle.scripts.specs.Crashing.{WritesCrash}
use Rattle.scripts.proofs.Crashings.{crash_line, plain_line}
use Rattle.scripts.proofs.crashes.run_or_crash.Goals as goal

pub returns-in-Some : goal.returns-in-Some
returns-in-Some g c =
    crash_line c.args.lines.now.line c.in-Some.number c.args.world.now c.crash.new.world c.args.delivered.now _ _ c.crash.result (subst (λ text. WritesCrash text c.in-Some.number) c.line.ensures c.in-Some.ensures) c.crash.ensures

pub returns-in-None : goal.returns-in-None
returns-in-None g c =
    plain_line c.args.lines.now.line c.args.lines.now.number (played c.args.world.now c.args.delivered.now) (played c.run_line.new.world c.run_line.new.delivered) _ _ c.run_line.result c.run_line.ensures
