use Rattle.std.proofs.Common.{◌≡◌, ◌≤◌, length, take}
use Rattle.std.specs.Io.KnownBytes.{Consumes}
use Rattle.rows_remote.proofs.streams.fill.Given as goal

abbrev pub invariant-loop-turn : goal.invariant-loop-turn
invariant-loop-turn g l = record {
  within : l.at ≤ length l.buffer;
  room : length l.buffer ≡ length l.fn.buffer;
  bytes : Consumes (g.I.Read.remaining l.fn.reader) (g.I.Read.remaining l.reader) (take l.at l.buffer);
}
