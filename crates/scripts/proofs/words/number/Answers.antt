use Rattle.std.proofs.Common.{◌≡◌, ◌≢◌, get_or, codes, lit<, sym, ◌∙◌}
use Rattle.std.proofs.lemmas.Bool.{true≢false}
use Rattle.std.proofs.lemmas.Str.Pattern.{starts_char}
use Rattle.scripts.proofs.Decimals.{some_number, no_number, no_sign, no_zero, same_text, other_text}
use Rattle.scripts.proofs.words.number.Goals as goal
use Rattle.scripts.proofs.words.number.Goals.{else-starts_with-2-via-then-starts_with-2+else-ne, else-starts_with-2-via-else-starts_with-2}

pub returns-then-starts_with-clause-none : goal.returns-then-starts_with-clause-none
returns-then-starts_with-clause-none c =
    let begins = starts_char 43 c.args.word.now c.starts_with.result c.starts_with.ensures.cases (lit< tt) (lit< tt) in
    λ n small same. no_sign n c.args.word.now small same (begins.0 c.if-starts_with.true)

pub returns-then-ne-clause-none : goal.returns-then-ne-clause-none
returns-then-ne-clause-none c =
    let begins = starts_char 48 c.args.word.now c.starts_with-2.result c.starts_with-2.ensures.cases (lit< tt) (lit< tt) in
    λ n small same.
    let zero : c.args.word.now ≡ codes "0" = no_zero n c.args.word.now small same (begins.0 c.if-starts_with-2.true) in
    other_text c.args.word.now (codes "0") c.ne.result c.ne.ensures c.if-ne.true zero

pub returns-clause-some : goal.returns-clause-some
returns-clause-some c =
    let bs = c.args.word.now in
    let sign = starts_char 43 bs c.starts_with.result c.starts_with.ensures.cases (lit< tt) (lit< tt) in
    let zero = starts_char 48 bs c.starts_with-2.result c.starts_with-2.ensures.cases (lit< tt) (lit< tt) in
    let signless : get_or bs 0 0 ≢ 43 = λ e. absurd (true≢false (sym (sign.1 e) ∙ c.if-starts_with.false)) in
    let lead : get_or bs 0 0 ≡ 48 → bs ≡ codes "0" =
    elim c.else-starts_with-2.branch [
      | else-starts_with-2-via-then-starts_with-2+else-ne w ↦ λ _. same_text bs (codes "0") w.ne.result w.ne.ensures w.if-ne.false
      | else-starts_with-2-via-else-starts_with-2 w ↦ λ e. absurd (true≢false (sym (zero.1 e) ∙ w.if-starts_with-2.false))
    ] in
    some_number bs c.parse.result c.ok.result c.ok.ensures.value c.parse.ensures.value.0 signless lead

pub returns-clause-none : goal.returns-clause-none
returns-clause-none c =
    no_number c.args.word.now c.parse.result c.ok.result c.ok.ensures.value c.parse.ensures.value.0
