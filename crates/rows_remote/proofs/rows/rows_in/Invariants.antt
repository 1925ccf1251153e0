use Rattle.std.proofs.Common.{◌≡◌, ◌-◌}
use Rattle.codec.specs.Forms.{read_all}
use Rattle.rows_remote.specs.Forms.{row}
use Rattle.codec.proofs.Loops.{with_front}
use Rattle.rows_remote.proofs.rows.rows_in.Given as goal

abbrev pub invariant-loop : goal.invariant-loop
invariant-loop l = with_front l.items.items (read_all row.read (l.count - l.counter) l.input) ≡ read_all row.read l.count l.fn.input
