use Rattle.std.proofs.Common.{◌≡◌, ◌++◌, drop}
use Rattle.master_state.specs.Lapses.{lapses_replies}
use Rattle.master_state.proofs.lapses.lapses_replies.Given as goal

abbrev pub invariant-loop-lapse : goal.invariant-loop-lapse
invariant-loop-lapse l = l.replies ++ lapses_replies l.master (drop l.lapse-index l.ended) ≡ lapses_replies l.master l.ended
