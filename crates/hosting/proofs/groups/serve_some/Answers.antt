use Rattle.std.specs.Io.Buffered.{reader_remaining}
use Rattle.hosting.proofs.Grouped.{unread_goes}
use Rattle.hosting.proofs.groups.serve_some.Goals as goal

pub returns-in-Ok : goal.returns-in-Ok
returns-in-Ok g c = c.serve_from.ensures _ c.in-Ok.ensures.found

pub returns-in-Err : goal.returns-in-Err
returns-in-Err g c = unread_goes _ _ _ (reader_remaining g.I.Read.remaining c.args.reader.now) _ _ c.in-Err.ensures.only
