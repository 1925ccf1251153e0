use Rattle.hosting.specs.Seats.{hosted}
use Rattle.hosting.proofs.Served.{ends_roomless}
use Rattle.hosting.proofs.streams.serve_on.Goals as goal

pub returns-in-Err : goal.returns-in-Err
returns-in-Err g c = ends_roomless c.args.terms (g.I.Read.remaining c.args.reader.now) (hosted g.R.Records.store c.args.seat) (g.W.Write.contents c.args.writer.now)
