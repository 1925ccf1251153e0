use Rattle.std.proofs.Common.{◌≡◌, ◌≤◌, ◌+◌, drop}
use Rattle.std.specs.Prelude.{count_by}
use Rattle.rights_core.specs.Grants.{is_acked_line}
use Rattle.watch_cell.proofs.steps.count_acked.Given as goal

abbrev pub invariant-loop-line : goal.invariant-loop-line
invariant-loop-line l = record { low : l.count ≤ l.line-index; done : l.count + count_by is_acked_line (drop l.line-index l.lines) ≡ count_by is_acked_line l.lines }
