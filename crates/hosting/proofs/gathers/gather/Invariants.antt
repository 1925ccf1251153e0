use Rattle.std.specs.Prelude.{◌≤◌}
use Rattle.std.specs.Io.Buffered.{reader_remaining}
use Rattle.hosting.proofs.Gathering.{SoFar}
use Rattle.hosting.proofs.gathers.gather.Given as goal

abbrev pub invariant-loop : goal.invariant-loop
invariant-loop g l =
    (l.counter ≤ 256) × SoFar l.counter l.fn.begun (reader_remaining g.I.Read.remaining l.fn.reader) l.fn.first l.sent l.group (reader_remaining g.I.Read.remaining l.reader) l.fn.told.items l.told.items
