use Rattle.rows_cell.specs.Settings.{terms_of}
use Rattle.std.proofs.Common.{inl}
use Rattle.cellctl.specs.Led.{FramesLead}
use Rattle.cellctl.proofs.Lefts.{ends_left}
use Rattle.cellctl.proofs.serves.serve_real.Goals as goal

pub returns-in-Ok-clause-served : goal.returns-in-Ok-clause-served
returns-in-Ok-clause-served g c = inl c.in-Ok.ensures.served

pub returns-clause-served : goal.returns-clause-served
returns-clause-served g c =
    ends_left c.args.chosen.now.settings _ (FramesLead (record { master = terms_of c.args.chosen.now.settings; limits = c.args.limits }) (g.I.Read.remaining c.args.reader) (g.W.Write.contents c.args.writer.now) (g.W.Write.contents c.serve_file.new.writer))
    (g.W.Write.contents c.args.writer.now) (g.W.Write.contents c.serve_file.new.writer) c.in-Err.unclosed c.left_open.result c.left_open.ensures.shut c.in-Err.ensures.left
