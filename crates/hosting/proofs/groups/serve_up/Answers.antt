use Rattle.std.proofs.Common.{Some, refl, sym, subst}
use Rattle.std.specs.Io.Buffered.{reader_remaining}
use Rattle.hosting.proofs.Grouped.{seat_up}
use Rattle.hosting.specs.Held.{GroupState}
use Rattle.over_core.specs.Sweep.{IsSettled}
use Rattle.hosting.proofs.groups.serve_up.Goals as goal

pub returns-then-is_settled : goal.returns-then-is_settled
returns-then-is_settled g c =
    seat_up _ c.args.cell _ (Some c.args.sent) c.args.terms (reader_remaining g.I.Read.remaining c.args.reader.now) _ _ _ _ _ c.of-group.ensures refl c.serve_together.ensures
