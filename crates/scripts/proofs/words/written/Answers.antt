use Rattle.std.proofs.Common.{rules, sym, ◌∙◌}
use Rattle.scripts.proofs.Contents.{decoded, undecoded, none_found, written_anew, are_bytes}
use Rattle.scripts.proofs.Decimals.{other_text}
use Rattle.scripts.proofs.words.written.Goals as goal

pub returns-in_default : goal.returns-in_default
returns-in_default c = λ bytes h w. undecoded c.args.word.now bytes c.in-Err.fault h w c.in-Err.ensures.err c.in_default.not-OutOfMemory

pub returns-then-is_empty : goal.returns-then-is_empty
returns-then-is_empty c = λ bytes h w.
    let same = decoded c.args.word.now bytes c.in-Ok.bytes.items h w c.in-Ok.ensures.ok in
    w.1 (none_found c.in-Ok.bytes.items bytes _ (search rules) (sym c.is_empty.ensures ∙ c.if-is_empty.true) same)

pub returns-then-ne : goal.returns-then-ne
returns-then-ne c = λ bytes h w.
    let same = decoded c.args.word.now bytes c.in-Ok.bytes.items h w c.in-Ok.ensures.ok in
    other_text c.as_str.result.now c.args.word.now c.ne.result c.ne.ensures c.if-ne.true
    (written_anew c.args.word.now bytes c.in-Ok.bytes.items c.as_slice.result.now _ c.as_str.result.now w same c.as_slice.ensures.value c.in_ok-text.ensures c.as_str.ensures.value)

pub returns : goal.returns
returns c = ((search rules, search rules), are_bytes c.args.word.now c.in-Ok.bytes.items c.in_ok-from_vec.field-0 (search rules) c.in-Ok.ensures.ok)
