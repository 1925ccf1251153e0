use Rattle.std.proofs.Common.{◌≡◌}
use Rattle.scripts.proofs.Crashings.{ends_through, stops_through}
use Rattle.scripts.proofs.crashes.script_with_crashes.Goals as goal

pub returns-in-Ok-clause-written : goal.returns-in-Ok-clause-written
returns-in-Ok-clause-written g c = λ none. c.in-Ok.ensures

pub returns-in-Ok-clause-ran : goal.returns-in-Ok-clause-ran
returns-in-Ok-clause-ran g c = ends_through _ c.args.world.now _ c.crashes_hold.ensures _ _ c.in-Ok.ensures

pub returns-clause-ran : goal.returns-clause-ran
returns-clause-ran g c = stops_through _ c.args.world.now _ c.crashes_hold.ensures _ _ c.status.result c.in-Err.stop c.status.ensures c.in-Err.ensures
