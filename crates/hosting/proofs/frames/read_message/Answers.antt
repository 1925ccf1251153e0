use Rattle.hosting.proofs.Readings.{message_cut, reads_message, refuses_message}
use Rattle.hosting.proofs.frames.read_message.Goals as goal

pub returns-then-bytes-lt8 : goal.returns-then-bytes-lt8
returns-then-bytes-lt8 c = λ other. message_cut c.args.bytes.now c.if-bytes-lt8.true

pub returns-in-Ok : goal.returns-in-Ok
returns-in-Ok c =
    reads_message c.args.bytes.now _ _ _ _ c.requires c.if-bytes-lt8.false c.split_at.ensures.front c.split_at.ensures.back c.read_u64-now.ensures c.in-Ok.ensures.message

pub returns-in-Err : goal.returns-in-Err
returns-in-Err c = λ other. refuses_message c.args.bytes.now _ _ c.requires c.if-bytes-lt8.false c.split_at.ensures.back (c.in-Err.ensures.message other)
