use Rattle.std.proofs.Common.{◌≡◌, rules}
use Rattle.rows_cell.specs.Settings.{terms_of}
use Rattle.rows_remote.specs.Asking.{Framed}
use Rattle.cellctl.specs.Taken.{IsOpenedIn}
use Rattle.cellctl.proofs.Overs.{opened_in, frames_ended}
use Rattle.cellctl.proofs.pipes.serve_pipes.Goals as goal

pub returns-in-Ok-clause-served : goal.returns-in-Ok-clause-served
returns-in-Ok-clause-served g c =
    let asked = g.A.Write.contents c.args.pipes.0 in
    let answered = g.B.Read.remaining c.args.pipes.1 in
    let same : c.in_ok-cell.cell ≡ c.args.settings.now.cell = search rules in
    frames_ended (λ (framed : Framed). framed.store) (IsOpenedIn asked answered c.args.settings.now) (record { master = terms_of c.args.settings.now; limits = c.args.limits }) (g.I.Read.remaining c.args.reader) (g.W.Write.contents c.args.writer.now) (g.W.Write.contents c.serve_seat-seat.new.writer)
    c.serve_seat-seat.result.1 c.in-Ok.records c.serve_seat-seat.result.0 (opened_in asked answered c.args.settings.now _ c.in-Ok.records same c.in-Ok.ensures) c.serve_seat-seat.ensures.served
