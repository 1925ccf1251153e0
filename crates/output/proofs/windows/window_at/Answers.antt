use Rattle.std.proofs.Common.{ap, take}
use Rattle.output.specs.declared.windows.Window.{Window}
use Rattle.output.proofs.Rooms.{window_of}
use Rattle.output.proofs.windows.window_at.Goals as goal

pub returns : goal.returns
returns g c =
    let first = c.new-window.result in
    window_of (λ (w : Window). w.skip) (λ (w : Window). take w.count w.room) c.args.at first c.write.new.self (g.D.Display.output c.args.value.now) c.new-window.ensures.skip (ap (λ n. take n first.room) c.new-window.ensures.count) c.in_ok-write.ensures.writes
