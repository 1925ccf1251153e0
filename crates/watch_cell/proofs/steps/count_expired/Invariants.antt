use Rattle.std.proofs.Common.{◌≡◌, ◌≤◌, ◌+◌, drop}
use Rattle.std.specs.Prelude.{count_by}
use Rattle.rights_core.specs.Grants.{is_expired_line}
use Rattle.watch_cell.proofs.steps.count_expired.Given as goal

abbrev pub invariant-loop-line : goal.invariant-loop-line
invariant-loop-line l = record { low : l.count ≤ l.line-index; done : l.count + count_by is_expired_line (drop l.line-index l.lines) ≡ count_by is_expired_line l.lines }
