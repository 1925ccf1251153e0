use Rattle.mastership.proofs.Ended.{settles_ended}
use Rattle.mastership.proofs.keepers.settled.Goals as goal

pub returns-then-read_turn-turn-eq1 : goal.returns-then-read_turn-turn-eq1
returns-then-read_turn-turn-eq1 c =
    settles_ended c.args.keeper c.args.turn c.args.over c.args.read_keeper c.args.read_turn c.args.read_revision
    c.if-read_keeper-keeper-2.true c.if-read_turn-turn-2.true c.if-read_turn-turn-eq1.true
