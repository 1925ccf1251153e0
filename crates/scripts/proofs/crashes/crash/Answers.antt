use Rattle.scripts.proofs.Crashings.{crash_written}
use Rattle.scripts.proofs.crashes.crash.Goals as goal

pub returns : goal.returns
returns g c =
    crash_written c.args.number c.args.world.now c.crash.new.self c.crash.result _ _ c.write_answer.result c.crash.ensures.ok c.crash.ensures.refused c.write_answer.ensures
