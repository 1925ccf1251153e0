use Rattle.std.proofs.Common.{List, ℕ, Ok, sym, ap, ◌∙◌}
use Rattle.byteorder.specs.Endian.{big_bytes}
use Rattle.hosting.proofs.Writings.{gives_framed, not_framed, framed_if}
use Rattle.hosting.proofs.tellings.write_message.Goals as goal

pub returns-in-Ok-clause-bytes : goal.returns-in-Ok-clause-bytes
returns-in-Ok-clause-bytes c =
    gives_framed c.args.message.now _ _ _ (c.bytes_of-client.ensures ∙ ap (λ (n : ℕ). big_bytes 8 n) (c.get.ensures.value ∙ c.client.ensures)) (c.in-Ok.ensures.bytes ∙ ap (λ (u : List ℕ). Ok u) (sym c.as_slice.ensures)) c.write_framed.ensures

pub returns-in-Ok-clause-frame : goal.returns-in-Ok-clause-frame
returns-in-Ok-clause-frame c = framed_if c.args.message.now _ (returns-in-Ok-clause-bytes c)

pub returns-in-Err-clause-bytes : goal.returns-in-Err-clause-bytes
returns-in-Err-clause-bytes c = λ other. not_framed c.args.message.now _ (c.in-Err.ensures.bytes other)
