use Rattle.std.proofs.Common.{List, ℕ, Ok, sym, ap, ◌∙◌}
use Rattle.hosting.proofs.Writings.{gives_message, message_too_long}
use Rattle.hosting.proofs.frames.write_message.Goals as goal

pub returns-in-Ok : goal.returns-in-Ok
returns-in-Ok c = gives_message _ _ _ _ _ c.bytes_of-moment.ensures (c.in-Ok.ensures.bytes ∙ ap (λ (u : List ℕ). Ok u) (sym c.as_slice.ensures)) c.write_framed.ensures

pub returns-in-Err : goal.returns-in-Err
returns-in-Err c = λ other. message_too_long _ _ _ (c.in-Err.ensures.bytes other)
