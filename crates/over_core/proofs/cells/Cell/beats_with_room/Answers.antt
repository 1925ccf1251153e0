use Rattle.std.proofs.Common.{rules}
use Rattle.over_core.proofs.KeptBySweeps.{beats_kept}
use Rattle.over_core.proofs.cells.Cell.beats_with_room.Goals as goal

pub invariant_of-self : goal.invariant_of-self
invariant_of-self g c = beats_kept _ _ c.self.inside.master c.beats_by.new.cell c.args.now c.beats_by.result c.self.invariant c.beats_by.ensures.ok c.beats_by.ensures.err

pub returns-clause-ok : goal.returns-clause-ok
returns-clause-ok g c = search rules
