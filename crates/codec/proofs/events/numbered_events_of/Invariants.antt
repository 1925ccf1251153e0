use Rattle.std.proofs.Common.{◌≡◌, ◌-◌}
use Rattle.codec.specs.Forms.{read_all}
use Rattle.codec.specs.Beats.{numbered_event}
use Rattle.codec.proofs.Loops.{with_front}
use Rattle.codec.proofs.events.numbered_events_of.Given as goal

abbrev pub invariant-loop : goal.invariant-loop
invariant-loop l = with_front l.items.items (read_all numbered_event.read (l.count - l.counter) l.input) ≡ read_all numbered_event.read l.count l.fn.input
