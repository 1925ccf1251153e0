use Rattle.hosting.proofs.Writings.{gives_carried}
use Rattle.hosting.proofs.frames.carry_message.Goals as goal

pub returns : goal.returns
returns c = gives_carried _ _ _ _ c.bytes_of.ensures c.write_framed.ensures
