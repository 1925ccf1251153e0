use Rattle.std.specs.Io.KnownBytes.{Keeps}
use Rattle.rows_remote.proofs.streams.read_some.Given as goal

abbrev pub invariant-loop-turn : goal.invariant-loop-turn
invariant-loop-turn g l = Keeps (g.I.Read.remaining l.fn.reader) (g.I.Read.remaining l.reader)
