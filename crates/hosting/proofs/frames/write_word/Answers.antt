use Rattle.hosting.proofs.Writings.{moment_framed}
use Rattle.hosting.proofs.frames.write_word.Goals as goal

pub returns : goal.returns
returns c = moment_framed _ _ _ _ c.bytes_of.ensures c.write_framed.ensures
