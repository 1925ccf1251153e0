use Rattle.std.specs.Io.Buffered.{reader_remaining}
use Rattle.hosting.specs.Seats.{hosted}
use Rattle.hosting.proofs.Grouped.{ends_roomless}
use Rattle.hosting.proofs.groups.serve_groups.Goals as goal

pub returns-in-Err : goal.returns-in-Err
returns-in-Err g c = ends_roomless c.args.terms (reader_remaining g.I.Read.remaining c.args.reader.now) (hosted g.R.Records.store c.args.seat) (g.W.Write.contents c.args.writer.now)
