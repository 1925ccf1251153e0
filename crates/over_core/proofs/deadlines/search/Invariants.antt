use Rattle.std.proofs.Common.{◌≡◌, ◌≤◌, ◌-◌, true, false}
use Rattle.over_core.specs.Deadlines.{quiet_at}
use Rattle.over_core.proofs.deadlines.search.Given as goal

abbrev pub invariant-loop-quiet : goal.invariant-loop-quiet
invariant-loop-quiet l = record {
  from : l.fn.now ≤ l.quiet;
  order : l.quiet ≤ l.busy;
  most : l.busy ≤ 9007199254740991;
  before : quiet_at l.fn.cell l.quiet ≡ true;
  behind : quiet_at l.fn.cell l.busy ≡ false;
  same : l.cell ≡ l.fn.cell;
}

abbrev pub decreases-loop-quiet : goal.decreases-loop-quiet
decreases-loop-quiet l = l.busy - l.quiet
