use Rattle.std.proofs.Common.{◌≤◌, length, take}
use Rattle.std.specs.Io.KnownBytes.{Consumes}
use Rattle.hosting.proofs.inputs.fill.Given as goal

abbrev pub invariant-loop-turn : goal.invariant-loop-turn
invariant-loop-turn g l = record {
  within : l.at ≤ length l.buffer;
  bytes : Consumes (g.I.Read.remaining l.fn.reader) (g.I.Read.remaining l.reader) (take l.at l.buffer);
}
