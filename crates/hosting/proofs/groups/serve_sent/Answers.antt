use Rattle.std.proofs.Common.{ap, Some}
use Rattle.std.specs.Io.Buffered.{reader_remaining}
use Rattle.hosting.specs.Seats.{hosted}
use Rattle.hosting.proofs.Grouped.{seat_as}
use Rattle.hosting.proofs.groups.serve_sent.Goals as goal

pub returns-in-Up : goal.returns-in-Up
returns-in-Up g c = seat_as _ _ (Some c.args.sent) _ (reader_remaining g.I.Read.remaining c.args.reader.now) _ _ _ _ _ (ap (hosted g.R.Records.store) c.in-Up.is) c.serve_up.ensures

pub returns-in-Down : goal.returns-in-Down
returns-in-Down g c = seat_as _ _ (Some c.args.sent) _ (reader_remaining g.I.Read.remaining c.args.reader.now) _ _ _ _ _ (ap (hosted g.R.Records.store) c.in-Down.is) (c.serve_alone.ensures _)
