use Rattle.std.proofs.Common.{◌≡◌, take}
use Rattle.client_exports.specs.Shows.{lines_bytes}
use Rattle.client_exports.proofs.shows.lines_bytes.Given as goal

abbrev pub invariant-loop-line : goal.invariant-loop-line
invariant-loop-line l = l.out.items ≡ lines_bytes (take l.line-index l.lines)
