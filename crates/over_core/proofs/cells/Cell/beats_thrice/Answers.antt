use Rattle.std.proofs.Common.{rules}
use Rattle.over_core.proofs.KeptThrice.{beats_kept_thrice}
use Rattle.over_core.proofs.cells.Cell.beats_thrice.Goals as goal

pub invariant_of-self : goal.invariant_of-self
invariant_of-self g c = beats_kept_thrice _ _ c.self.inside.master c.beats_thrice_by.new.cell c.args.now c.beats_thrice_by.result c.self.invariant c.beats_thrice_by.ensures.ok c.beats_thrice_by.ensures.err

pub returns-clause-ok : goal.returns-clause-ok
returns-clause-ok g c = search rules
