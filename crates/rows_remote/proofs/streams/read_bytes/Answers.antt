use Rattle.std.proofs.Common.{take}
use Rattle.rows_remote.proofs.Hearing.{loses_more}
use Rattle.rows_remote.proofs.streams.read_bytes.Goals as goal

pub returns-then-fill-part-clause-none : goal.returns-then-fill-part-clause-none
returns-then-fill-part-clause-none g c = loses_more _ _ _ c.loop-room.bytes.items (take c.fill.result c.fill.new.buffer) c.loop-room.invariant.bytes c.fill.ensures.bytes

pub returns-then-is_err-clause-none : goal.returns-then-is_err-clause-none
returns-then-is_err-clause-none g c = loses_more _ _ _ c.loop-room.bytes.items (take c.fill.result c.fill.new.buffer) c.loop-room.invariant.bytes c.fill.ensures.bytes
