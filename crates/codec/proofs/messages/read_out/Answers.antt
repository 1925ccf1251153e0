use Rattle.std.proofs.Common.{sym, ◌∙◌, arith}
use Rattle.codec.specs.Outs.{out_message}
use Rattle.codec.proofs.Wholes.{all_read}
use Rattle.codec.proofs.OutLaws.{read_out_was_written}
use Rattle.codec.proofs.messages.read_out.Goals as goal

pub returns-clause-back : goal.returns-clause-back
returns-clause-back c =
    (read_out_was_written c.args.bytes.now _ (λ i. omega (arith, c.type_inv.bytes i))
    (all_read out_message c.args.bytes.now _ _ _ c.in_ok-fields.ensures c.in_ok-message.ensures (sym c.is_empty.ensures ∙ c.if-not-is_empty.false))).1
