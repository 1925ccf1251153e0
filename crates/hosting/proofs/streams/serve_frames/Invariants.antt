use Rattle.hosting.specs.Seats.{hosted}
use Rattle.hosting.specs.Streams.{Served}
use Rattle.hosting.proofs.streams.serve_frames.Given as goal

abbrev pub invariant-loop-turn : goal.invariant-loop-turn
invariant-loop-turn g l =
    Served l.terms (g.I.Read.remaining l.fn.reader) (hosted g.R.Records.store l.fn.first) (hosted g.R.Records.store l.seat) (g.I.Read.remaining l.reader) (g.W.Write.contents l.fn.writer) (g.W.Write.contents l.writer)
