use Rattle.std.proofs.Common.{◌≡◌, ◌≤◌, ◌-◌, true, false}
use Rattle.cache_core.specs.Caches.{is_leased}
use Rattle.client_core.proofs.deadline.moments.search.Given as goal

abbrev pub invariant-loop-runs : goal.invariant-loop-runs
invariant-loop-runs l = record {
  from : l.fn.from ≤ l.runs;
  order : l.runs ≤ l.over;
  most : l.over ≤ 9007199254740991;
  before : is_leased l.fn.cache.lease l.runs ≡ true;
  behind : is_leased l.fn.cache.lease l.over ≡ false;
}

abbrev pub decreases-loop-runs : goal.decreases-loop-runs
decreases-loop-runs l = l.over - l.runs
