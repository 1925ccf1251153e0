use Rattle.std.proofs.Common.{◌⊎◌, inl, inr, None}
use Rattle.sqlite_wal.specs.Files.{image_at}
use Rattle.rows_cell.specs.Settings.{Settled}
use Rattle.rows_cell.specs.Stores.{Store}
use Rattle.cellctl.specs.Taken.{IsTakenFrom, IsOpenedIn}
use Rattle.cellctl.proofs.Overs.{some_frames}
use Rattle.cellctl.proofs.commands.serve.Goals as goal

pub returns-in-Some-clause-served : goal.returns-in-Some-clause-served
returns-in-Some-clause-served g c =
    some_frames (IsOpenedIn None None) (λ (settings : Settled) (first : Store). IsTakenFrom settings (image_at g.S.Start) first ⊎ IsOpenedIn None None settings first) c.limits_of-limits.result (g.I.Read.remaining c.args.reader) (g.W.Write.contents c.args.writer.now)
    (g.W.Write.contents c.serve_rows.new.writer) c.serve_rows.result (λ settings first h. inr h) c.serve_rows.ensures.served

pub returns-in-None-clause-served : goal.returns-in-None-clause-served
returns-in-None-clause-served g c =
    some_frames (λ settings. IsTakenFrom settings (image_at g.S.Start)) (λ (settings : Settled) (first : Store). IsTakenFrom settings (image_at g.S.Start) first ⊎ IsOpenedIn None None settings first) c.limits_of-limits.result (g.I.Read.remaining c.args.reader)
    (g.W.Write.contents c.args.writer.now) (g.W.Write.contents c.serve_path.new.writer) c.serve_path.result (λ settings first h. inl h) c.serve_path.ensures.served
