use Rattle.std.proofs.Common.{◌≡◌, ◌-◌}
use Rattle.codec.specs.Forms.{read_all}
use Rattle.codec.specs.Fields.{component}
use Rattle.codec.proofs.Loops.{with_front}
use Rattle.codec.proofs.results.components_of.Given as goal

abbrev pub invariant-loop : goal.invariant-loop
invariant-loop l = with_front l.items.items (read_all component.read (l.count - l.counter) l.input) ≡ read_all component.read l.count l.fn.input
