use Rattle.std.proofs.Common.{◌<◌, ◌^◌, length, [], ◌∷◌, rules, arith, sym, ap, ◌∙◌}
use Rattle.std.proofs.lemmas.Fmt.{decimal_injective}
use Rattle.scripts.proofs.Contents.{filled_parts, one_byte, length_of_one}
use Rattle.scripts.proofs.words.filled.Goals as goal

pub returns-in_default : goal.returns-in_default
returns-in_default c = λ bytes h w.
    rw c.in_default.is at (filled_parts c.args.word.now bytes w c.split_once.result c.split_once.ensures.cases)

pub returns-in_default-number : goal.returns-in_default-number
returns-in_default-number c = λ bytes h w.
    let parts = rw c.in-Some.is at (filled_parts c.args.word.now bytes w c.split_once.result c.split_once.ensures.cases) in
    c.in_default-number.ensures.none w.count (omega (arith, w.few)) (sym parts.0)

pub returns-then-count-gt-FILL_LIMIT : goal.returns-then-count-gt-FILL_LIMIT
returns-then-count-gt-FILL_LIMIT c = λ bytes h w.
    let parts = rw c.in-Some.is at (filled_parts c.args.word.now bytes w c.split_once.result c.split_once.ensures.cases) in
    let range : c.in-Some-number.count < 2 ^ 64 = search rules in
    let same = decimal_injective c.in-Some-number.count w.count range (omega (arith, w.few)) (c.in-Some-number.ensures.some ∙ parts.0) in
    omega (arith, same, w.few, c.if-count-gt-FILL_LIMIT.true)

pub returns-in_default-2 : goal.returns-in_default-2
returns-in_default-2 c = λ bytes h w.
    let parts = rw c.in-Some.is at (filled_parts c.args.word.now bytes w c.split_once.result c.split_once.ensures.cases) in
    let none = rw c.in_default-2.is at c.in_ok-byte.ensures in
    none (w.byte ∷ []) (one_byte w.byte w.small) (parts.1, λ e. cc)

pub returns-then-byte-ne1 : goal.returns-then-byte-ne1
returns-then-byte-ne1 c = λ bytes h w.
    let parts = rw c.in-Some.is at (filled_parts c.args.word.now bytes w c.split_once.result c.split_once.ensures.cases) in
    let written = rw c.in-Some-2.is at c.in_ok-byte.ensures in
    c.if-byte-ne1.true (ap length c.as_slice-byte.ensures ∙ length_of_one c.in-Some.byte.now c.in-Some-2.byte w.byte written.0.0 parts.1)
