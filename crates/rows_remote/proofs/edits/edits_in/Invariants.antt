use Rattle.std.proofs.Common.{◌≡◌, ◌-◌}
use Rattle.codec.specs.Forms.{read_all}
use Rattle.rows_remote.specs.Forms.{edit}
use Rattle.codec.proofs.Loops.{with_front}
use Rattle.rows_remote.proofs.edits.edits_in.Given as goal

abbrev pub invariant-loop : goal.invariant-loop
invariant-loop l = with_front l.items.items (read_all edit.read (l.count - l.counter) l.input) ≡ read_all edit.read l.count l.fn.input
