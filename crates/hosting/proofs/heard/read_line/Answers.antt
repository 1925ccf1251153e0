use Rattle.hosting.proofs.Hearings.{line_reads, line_refuses}
use Rattle.hosting.proofs.heard.read_line.Goals as goal

pub returns-in-Ok : goal.returns-in-Ok
returns-in-Ok c = line_reads c.args.bytes.now _ c.requires c.in-Ok.ensures.line

pub returns-in-Err : goal.returns-in-Err
returns-in-Err c = λ other. line_refuses c.args.bytes.now _ c.requires (c.in-Err.ensures.line other)
