use Rattle.std.proofs.Common.{◌≡◌, ◌≤◌, ◌-◌, length}
use Rattle.std.specs.Io.KnownBytes.{Consumes}
use Rattle.rows_remote.proofs.streams.read_bytes.Given as goal

abbrev pub invariant-loop-room : goal.invariant-loop-room
invariant-loop-room g l = record {
  within : length l.bytes.items ≤ l.count;
  room : length l.room ≡ 4096;
  bytes : Consumes (g.I.Read.remaining l.fn.reader) (g.I.Read.remaining l.reader) l.bytes.items;
}

abbrev pub decreases-loop-room : goal.decreases-loop-room
decreases-loop-room g l = l.count - length l.bytes.items
