use Rattle.std.proofs.Common.{◌≡◌, length, rules, tests, lit<, sym, ap, ◌∙◌}
use Rattle.std.specs.Prelude.{◌==◌}
use Rattle.std.specs.List.{list_any, slice_split}
use Rattle.std.proofs.lemmas.Iterator.{YieldsList-from_slice}
use Rattle.std.proofs.lemmas.Iterator.Consumers.{map_from_collect}
use Rattle.std.proofs.lemmas.Iterator.Search.{any_from_yields_List}
use Rattle.std.proofs.lemmas.Iterator.Splits.{YieldsList-from_str_split}
use Rattle.scripts.specs.Steps.{texts, is_blank, is_space}
use Rattle.scripts.proofs.Lifts.{after_one}
use Rattle.scripts.proofs.LineWords.{any_blank, blank_line, line_read}
use Rattle.scripts.proofs.steps.step_of_line.Goals as goal

pub returns-then-any : goal.returns-then-any
returns-then-any c =
    let words : texts c.in_ok-words.words.items ≡ slice_split is_space c.args.line.now =
    rw c.in_ok-words.was at (map_from_collect c.collect.result c.collect.ensures.ran (YieldsList-from_str_split 32 c.args.line.now (lit< tt) c.split.ensures.text c.split.ensures.has_more c.split.ensures.pattern)) in
    let any : c.any.result ≡ list_any (λ word. length word.now == 0) c.deref.result.now =
    any_from_yields_List (λ word. length word.now == 0) _ _ _ c.any.ensures.ran (YieldsList-from_slice c.deref.result.now c.iter.ensures.rest) (λ x b q k. search (rules, tests)) in
    blank_line c.args.line.now (texts c.in_ok-words.words.items) words (sym (any ∙ any_blank c.deref.result.now ∙ ap (λ x. list_any is_blank (texts x)) c.deref.ensures.value) ∙ c.if-any.true)

pub returns-in-len1-up : goal.returns-in-len1-up
returns-in-len1-up c =
    let words : texts c.in_ok-words.words.items ≡ slice_split is_space c.args.line.now =
    rw c.in_ok-words.was at (map_from_collect c.collect.result c.collect.ensures.ran (YieldsList-from_str_split 32 c.args.line.now (lit< tt) c.split.ensures.text c.split.ensures.has_more c.split.ensures.pattern)) in
    let any : c.any.result ≡ list_any (λ word. length word.now == 0) c.deref.result.now =
    any_from_yields_List (λ word. length word.now == 0) _ _ _ c.any.ensures.ran (YieldsList-from_slice c.deref.result.now c.iter.ensures.rest) (λ x b q k. search (rules, tests)) in
    let shape = sym (ap texts c.as_slice.ensures.value) ∙ after_one c.as_slice.result.now c.in-len1-up.len_at_least in
    line_read c.args.line.now (texts c.in_ok-words.words.items) _ _ words shape (sym (any ∙ any_blank c.deref.result.now ∙ ap (λ x. list_any is_blank (texts x)) c.deref.ensures.value) ∙ c.if-any.false) c.step_of.result c.step_of.ensures
