use Rattle.codec.specs.Lines.{line}
use Rattle.codec.proofs.Wholes.{gives_written, reads_back}
use Rattle.codec.proofs.LineLaws.{line_form}
use Rattle.codec.proofs.messages.write_line.Goals as goal

pub returns-clause-back : goal.returns-clause-back
returns-clause-back c =
    reads_back line_form _ _ c.in_ok-put_line_body.ensures.0
    (gives_written line _ _ _ _ _ c.new-out.ensures.items c.in_ok-put_byte.ensures c.in_ok-put_line_body.ensures c.whole.ensures)
