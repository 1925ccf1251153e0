use Rattle.collections.proofs.Wakes.{among}
use Rattle.collections.proofs.timers.Timers.soon.Goals as goal

pub returns-in-None-clause-due : goal.returns-in-None-clause-due
returns-in-None-clause-due c =
    among c.self.inside.lost c.self.inside.soon.keys c.self.inside.later.keys c.args.self.now c.args.now c.self.view_is c.if-self.false c.ranges.now.fits c.if-now-eq18446744073709551615.false c.in-None.ensures.later
