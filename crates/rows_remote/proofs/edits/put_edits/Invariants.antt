use Rattle.std.proofs.Common.{◌++◌, length}
use Rattle.byteorder.specs.Endian.{big_bytes}
use Rattle.rows_remote.specs.Forms.{edit}
use Rattle.codec.proofs.Loops.{WritesFirst}
use Rattle.rows_remote.proofs.edits.put_edits.Given as goal

abbrev pub invariant-loop-item : goal.invariant-loop-item
invariant-loop-item l = WritesFirst edit l.edits l.item-index (l.fn.out.items ++ big_bytes 4 (length l.edits)) l.out.items
