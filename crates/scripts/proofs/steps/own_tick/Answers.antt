use Rattle.std.proofs.Common.{sym, lit<}
use Rattle.std.proofs.lemmas.Str.Pattern.{split_parts}
use Rattle.scripts.proofs.Lifts.{plain}
use Rattle.scripts.proofs.Ticks.{own_parts, own_written}
use Rattle.scripts.proofs.steps.own_tick.Goals as goal

pub returns-in_default : goal.returns-in_default
returns-in_default c = λ own w. rw c.in_default.is at (own_parts c.args.word.now c.split_once.result c.split_once.ensures.cases own w)

pub returns-in_err-number_of : goal.returns-in_err-number_of
returns-in_err-number_of c =
    plain _ c.from_residual.result c.in_err-number_of.field-0.0 c.from_residual.ensures
    (λ own w. let parts = rw c.in-Some.is at (own_parts c.args.word.now c.split_once.result c.split_once.ensures.cases own w) in (own.0, (sym parts.0, w.1.0))) c.in_err-number_of.ensures

pub returns-in_err-number_of-2 : goal.returns-in_err-number_of-2
returns-in_err-number_of-2 c =
    plain _ c.from_residual-in_err-number_of-2.result c.in_err-number_of-2.field-0.0 c.from_residual-in_err-number_of-2.ensures
    (λ own w. let parts = rw c.in-Some.is at (own_parts c.args.word.now c.split_once.result c.split_once.ensures.cases own w) in (own.1, (sym parts.1, w.1.1))) c.in_err-number_of-2.ensures

pub returns : goal.returns
returns c =
    let cut = rw c.in-Some.is at (split_parts 58 c.args.word.now c.split_once.result c.split_once.ensures.cases (lit< tt)) in
    (own_written _ _ _ _ _ cut.0 c.in_ok-number_of.ensures.0 c.in_ok-number_of-2.ensures.0, c.in_ok-number_of-2.ensures.1)
