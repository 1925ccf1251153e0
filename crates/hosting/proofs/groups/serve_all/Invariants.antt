use Rattle.std.specs.Io.Buffered.{reader_remaining}
use Rattle.hosting.specs.Seats.{hosted}
use Rattle.hosting.specs.Groups.{ServedGroups}
use Rattle.hosting.proofs.groups.serve_all.Given as goal

abbrev pub invariant-loop-group : goal.invariant-loop-group
invariant-loop-group g l =
    ServedGroups l.terms (reader_remaining g.I.Read.remaining l.fn.reader) (hosted g.R.Records.store l.fn.first) (hosted g.R.Records.store l.seat) (reader_remaining g.I.Read.remaining l.reader) (g.W.Write.contents l.fn.writer) (g.W.Write.contents l.writer)
