use Rattle.rows_cell.specs.Settings.{terms_of}
use Rattle.hosting.specs.Seats.{hosted}
use Rattle.cellctl.proofs.Buffers.{remaining_of}
use Rattle.cellctl.proofs.Overs.{ends_serving, ends_roomless, same_terms, served_terms}
use Rattle.cellctl.proofs.serves.serve_seat.Goals as goal

pub returns-clause-served : goal.returns-clause-served
returns-clause-served g c =
    let limits = c.args.frames.limits in
    ends_serving (served_terms limits (terms_of c.args.settings.now)) (served_terms limits c.terms.result) (g.I.Read.remaining c.args.frames.reader) _ _ _ _ _ _ _ (same_terms limits c.terms.result (terms_of c.args.settings.now) c.terms.ensures.terms)
    (remaining_of g.I.Read.remaining c.in-Ok.input _ c.in-Ok.ensures.inner c.in-Ok.ensures.empty c.in-Ok.ensures.capacity) c.ended_status.ensures.status c.serve_groups-seat.ensures

pub returns-in_default-clause-served : goal.returns-in_default-clause-served
returns-in_default-clause-served g c =
    ends_roomless (served_terms c.args.frames.limits (terms_of c.args.settings.now)) (g.I.Read.remaining c.args.frames.reader) (g.W.Write.contents c.args.writer.now) (hosted g.R.Records.store c.args.seat)
