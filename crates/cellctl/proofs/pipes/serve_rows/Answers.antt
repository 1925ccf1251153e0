use Rattle.std.proofs.Common.{None}
use Rattle.cellctl.specs.Taken.{IsOpenedIn}
use Rattle.cellctl.proofs.Overs.{any_frames}
use Rattle.cellctl.proofs.pipes.serve_rows.Goals as goal

pub returns-in-Ok-clause-served : goal.returns-in-Ok-clause-served
returns-in-Ok-clause-served g c =
    any_frames (IsOpenedIn None None) c.in-Ok.chosen.settings c.args.limits (g.I.Read.remaining c.args.reader) (g.W.Write.contents c.args.writer.now) (g.W.Write.contents c.serve_folder.new.writer) c.serve_folder.result c.in-Ok.ensures.lease c.serve_folder.ensures.served
