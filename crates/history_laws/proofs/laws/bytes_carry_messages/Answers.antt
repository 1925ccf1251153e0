use Rattle.history_laws.proofs.Hosted.{bytes_carry}
use Rattle.history_laws.proofs.laws.bytes_carry_messages.Goals as goal

pub returns : goal.returns
returns c = bytes_carry
