use Rattle.std.proofs.Common.{◌≡◌, ◌++◌, codes, sym, ap, ◌∙◌}
use Rattle.scripts.proofs.Contents.{fill_read, bytes_read}
use Rattle.scripts.proofs.Decimals.{unlike}
use Rattle.scripts.proofs.words.content.Goals as goal

pub returns-in-Some : goal.returns-in-Some
returns-in-Some c =
    let found = c.in-Some.ensures.cases in
    let here : c.args.word.now ≡ codes "fill:" ++ c.in-Some.rest.now = found.1.1 ∙ ap (λ t. codes "fill:" ++ t) (sym found.2) in
    fill_read c.args.word.now c.in-Some.rest.now c.filled.result here c.filled.ensures

pub returns-in-None : goal.returns-in-None
returns-in-None c = bytes_read c.args.word.now c.written.result (unlike c.args.word.now (codes "-") c.eq.result c.eq.ensures c.if-eq.false) c.in-None.ensures.cases c.written.ensures
