use Rattle.hosting.proofs.Writings.{gives_line, line_too_long}
use Rattle.hosting.proofs.tellings.write_line.Goals as goal

pub returns-in-Ok : goal.returns-in-Ok
returns-in-Ok c = gives_line c.args.printed.now _ _ _ c.in-Ok.ensures.bytes c.as_slice.ensures c.write_framed.ensures

pub returns-in-Err : goal.returns-in-Err
returns-in-Err c = λ other. line_too_long c.args.printed.now _ (c.in-Err.ensures.bytes other)
