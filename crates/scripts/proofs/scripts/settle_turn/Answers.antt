use Rattle.std.proofs.Common.{◌≡◌, None, rules}
use Rattle.scripts.specs.Settling.{first_waiting}
use Rattle.scripts.proofs.Turns.{swept_made, swept_refused}
use Rattle.scripts.proofs.scripts.settle_turn.Goals as goal

pub returns-in_default-clause-made : goal.returns-in_default-clause-made
returns-in_default-clause-made g c =
    let none : first_waiting c.args.world.now.world.messages c.args.delivered.now 1 ≡ None = search rules in
    swept_made c.args.world.now _ c.args.delivered.now c.sweep.result none c.sweep.ensures.ok c.sweep.ensures.stored

pub returns-in_default-clause-refused : goal.returns-in_default-clause-refused
returns-in_default-clause-refused g c =
    let none : first_waiting c.args.world.now.world.messages c.args.delivered.now 1 ≡ None = search rules in
    swept_refused c.args.world.now _ c.args.delivered.now c.sweep.result none c.sweep.ensures.fault c.sweep.ensures.left
