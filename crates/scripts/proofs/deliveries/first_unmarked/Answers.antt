use Rattle.std.proofs.Common.{◌≡◌, true, Some, arith}
use Rattle.std.specs.List.{slice_get}
use Rattle.std.proofs.lemmas.Grind.{common_steps}
use Rattle.std.proofs.lemmas.Option.{gets}
use Rattle.scripts.proofs.Turns.{delivered_more, all_first}
use Rattle.scripts.proofs.deliveries.first_unmarked.Goals as goal

pub loop-place-preserved : goal.loop-place-preserved
loop-place-preserved c =
    let is : slice_get c.args.marks.now c.loop-place.place ≡ Some true = grind (arith, common_steps, gets) in
    delivered_more c.args.marks.now c.loop-place.place c.loop-place.invariant is

pub returns : goal.returns
returns c = all_first c.args.marks.now c.loop-place.place c.loop-place.invariant (omega arith)
