use Rattle.rows_cell.specs.Settings.{terms_of}
use Rattle.std.proofs.Common.{ℕ, Bool, true, false, cond, List, refl, ap₂}
use Rattle.sqlite_disk.specs.Events.{Event, replay}
use Rattle.sqlite_wal.specs.Recovery.{Image}
use Rattle.sqlite_wal.specs.Files.{image_at}
use Rattle.sqlite_std_file.specs.File.{IsFresh}
use Rattle.cellctl.specs.Led.{FramesLead}
use Rattle.sqlite.specs.Files.{file_state}
use Rattle.cellctl.proofs.Overs.{ok_led_at}
use Rattle.cellctl.proofs.Lefts.{cant_open, left_at, closed_from}
use Rattle.cellctl.proofs.serves.serve_file.Goals as goal

pub returns-in-Ok-clause-closed : goal.returns-in-Ok-clause-closed
returns-in-Ok-clause-closed g c =
    closed_from c.args.chosen.now.settings (image_at g.S.Start) c.in-Ok.conn
    (FramesLead (record { master = terms_of c.args.chosen.now.settings; limits = c.args.frames.limits }) (g.I.Read.remaining c.args.frames.reader) (g.W.Write.contents c.args.writer.now) (g.W.Write.contents c.serve_store.new.writer)) c.serve_store.result
    c.in-Ok.ensures.found c.serve_store.ensures.closed

pub returns-in-Ok-clause-served : goal.returns-in-Ok-clause-served
returns-in-Ok-clause-served g c =
    ok_led_at c.args.chosen.now.settings (file_state c.in-Ok.conn) (image_at g.S.Start)
    (FramesLead (record { master = terms_of c.args.chosen.now.settings; limits = c.args.frames.limits }) (g.I.Read.remaining c.args.frames.reader) (g.W.Write.contents c.args.writer.now) (g.W.Write.contents c.serve_store.new.writer)) c.serve_store.result
    c.in-Ok.ensures.found c.serve_store.ensures.served

pub returns-in-Ok-clause-left : goal.returns-in-Ok-clause-left
returns-in-Ok-clause-left g c =
    left_at c.args.chosen.now.settings (image_at g.S.Start) c.in-Ok.conn
    (FramesLead (record { master = terms_of c.args.chosen.now.settings; limits = c.args.frames.limits }) (g.I.Read.remaining c.args.frames.reader) (g.W.Write.contents c.args.writer.now) (g.W.Write.contents c.serve_store.new.writer))
    (g.W.Write.contents c.args.writer.now) (g.W.Write.contents c.serve_store.new.writer) c.serve_store.result c.in-Ok.ensures.found c.serve_store.ensures.left

abbrev image : List ℕ → List ℕ → Image
image log db = record { log = log; db = db }

abbrev seen : List ℕ → List ℕ → Bool → List Event → List ℕ
seen log db is_log history = (replay (cond is_log log db) history).seen

pub returns-in-Err-clause-left : goal.returns-in-Err-clause-left
returns-in-Err-clause-left g c = (
  cant_open (λ files. IsFresh true files.log) (λ files. IsFresh false files.db) (image_at g.S.Start) c.in-Err.error c.in-Err.left
      (λ files log db. ap₂ image (ap₂ (seen g.S.Start.log g.S.Start.db) log.0 log.1) (ap₂ (seen g.S.Start.log g.S.Start.db) db.0 db.1)) c.in-Err.ensures.cause,
  refl,
)
