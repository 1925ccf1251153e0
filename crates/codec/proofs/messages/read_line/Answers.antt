use Rattle.std.proofs.Common.{sym, ◌∙◌, arith}
use Rattle.codec.specs.Lines.{line}
use Rattle.codec.proofs.Wholes.{all_read, writes_back}
use Rattle.codec.proofs.LineLaws.{line_form}
use Rattle.codec.proofs.messages.read_line.Goals as goal

pub returns-clause-back : goal.returns-clause-back
returns-clause-back c =
    writes_back line_form c.args.bytes.now _ (λ i. omega (arith, c.type_inv.bytes i))
    (all_read line c.args.bytes.now _ _ _ c.in_ok-input.ensures c.in_ok-printed.ensures (sym c.is_empty.ensures ∙ c.if-not-is_empty.false))
