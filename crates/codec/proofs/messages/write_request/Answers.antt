use Rattle.codec.specs.Requests.{request}
use Rattle.codec.proofs.Wholes.{gives_written, reads_back}
use Rattle.codec.proofs.RequestLaws.{request_form}
use Rattle.codec.proofs.messages.write_request.Goals as goal

pub returns-clause-back : goal.returns-clause-back
returns-clause-back c =
    reads_back request_form _ _ c.in_ok-put_request_body.ensures.0
    (gives_written request _ _ _ _ _ c.new-out.ensures.items c.in_ok-put_byte.ensures c.in_ok-put_request_body.ensures c.whole.ensures)
