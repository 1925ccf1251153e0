use Rattle.sqlite_wal.specs.Files.{image_at}
use Rattle.cellctl.specs.Taken.{IsTakenFrom}
use Rattle.cellctl.proofs.Overs.{any_frames}
use Rattle.cellctl.proofs.serves.serve_path.Goals as goal

pub returns-in-Ok-clause-served : goal.returns-in-Ok-clause-served
returns-in-Ok-clause-served g c =
    any_frames (λ settings. IsTakenFrom settings (image_at g.S.Start)) c.in-Ok.chosen.settings c.args.limits (g.I.Read.remaining c.args.reader) (g.W.Write.contents c.args.writer.now) (g.W.Write.contents c.serve_at.new.writer) c.serve_at.result c.in-Ok.ensures.lease c.serve_at.ensures.served
