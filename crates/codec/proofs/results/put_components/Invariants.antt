use Rattle.std.proofs.Common.{◌++◌, length}
use Rattle.byteorder.specs.Endian.{big_bytes}
use Rattle.codec.specs.Fields.{component}
use Rattle.codec.proofs.Loops.{WritesFirst}
use Rattle.codec.proofs.results.put_components.Given as goal

abbrev pub invariant-loop-item : goal.invariant-loop-item
invariant-loop-item l = WritesFirst component l.items l.item-index (l.fn.out.items ++ big_bytes 4 (length l.items)) l.out.items
