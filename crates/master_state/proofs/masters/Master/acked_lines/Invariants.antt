use Rattle.std.proofs.Common.{◌≡◌, ◌++◌, map, drop}
use Rattle.node_core.specs.declared.lines.Line.TheVariants as lines
use Rattle.rights_core.specs.Rights.{numbers_ending}
use Rattle.master_state.specs.Lookups.{acknowledgement}
use Rattle.master_state.proofs.masters.Master.acked_lines.Given as goal

abbrev pub invariant-loop-number : goal.invariant-loop-number
invariant-loop-number l = l.lines ++ map lines.Acked (drop l.number-index l.number-items) ≡ map lines.Acked (numbers_ending l.beat.client (acknowledgement l.beat) l.self.rights)
