use Rattle.std.proofs.Common.{sym, ◌∙◌, arith}
use Rattle.codec.proofs.Wholes.{all_read, writes_back}
use Rattle.rows_remote.specs.Frames.{asked}
use Rattle.rows_remote.proofs.FrameForms.{asked_form}
use Rattle.rows_remote.proofs.asked.read_asked.Goals as goal

pub returns-clause-back : goal.returns-clause-back
returns-clause-back c =
    writes_back asked_form c.args.bytes.now _ (λ i. omega (arith, c.type_inv.bytes i))
    (all_read asked c.args.bytes.now _ _ _ c.in_ok-input.ensures c.in_ok-question.ensures (sym c.is_empty.ensures ∙ c.if-not-is_empty.false))
