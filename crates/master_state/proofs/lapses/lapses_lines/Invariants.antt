use Rattle.std.proofs.Common.{◌≡◌, ◌++◌, drop}
use Rattle.master_state.specs.Lapses.{lapses_lines}
use Rattle.master_state.proofs.lapses.lapses_lines.Given as goal

abbrev pub invariant-loop-lapse : goal.invariant-loop-lapse
invariant-loop-lapse l = l.printed ++ lapses_lines l.parting l.client (drop l.lapse-index l.ended) ≡ lapses_lines l.parting l.client l.ended
