use Rattle.watch_cell.proofs.Flaws.{of_all}
use Rattle.watch_cell.proofs.closing.lowest_flaw.Goals as goal

pub returns-clause-lowest : goal.returns-clause-lowest
returns-clause-lowest g c =
    of_all c.args.trail.now c.in_ok-marks.marks.items c.as_slice.result.now c.as_slice-2.result.now c.args.retired.now c.args.passes.now c.flaw_of-first.result c.flaw_of-second.result c.lower.result c.in_ok-marks.ensures.marked c.as_slice.ensures.value c.as_slice-2.ensures.value c.lower.ensures.lower c.flaw_of-first.ensures.lowest c.flaw_of-second.ensures.lowest

pub returns-clause-place : goal.returns-clause-place
returns-clause-place g c = c.lower.ensures.place c.flaw_of-first.ensures.place c.flaw_of-second.ensures.place
