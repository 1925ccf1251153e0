use Rattle.codec.specs.Outs.{out_message}
use Rattle.codec.proofs.Wholes.{gives_written, reads_back}
use Rattle.codec.proofs.OutLaws.{out_message_form}
use Rattle.codec.proofs.messages.write_out.Goals as goal

pub returns-clause-back : goal.returns-clause-back
returns-clause-back c =
    reads_back out_message_form _ _ c.in_ok-put_out_body.ensures.0
    (gives_written out_message _ _ _ _ _ c.new-out.ensures.items c.in_ok-put_byte.ensures c.in_ok-put_out_body.ensures c.whole.ensures)
