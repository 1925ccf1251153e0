use Rattle.std.proofs.Common.{rules}
use Rattle.scripts.proofs.Turns.{still_delivered}
use Rattle.scripts.proofs.deliveries.Deliveries.deliver.Goals as goal

pub first_unmarked-self-inside-requires : goal.first_unmarked-self-inside-requires
first_unmarked-self-inside-requires g c = still_delivered c.self.inside.marks.items _ c.self.inside.first c.args.place c.self.invariant.before (search rules)
