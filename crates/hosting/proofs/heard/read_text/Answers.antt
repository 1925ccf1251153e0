use Rattle.std.proofs.Common.{ℕ, sym, ap, ◌∙◌, arith, Ok}
use Rattle.std.specs.Prelude.{List}
use Rattle.hosting.proofs.Hearings.{text_unbegun, text_cut, text_over, text_whole}
use Rattle.hosting.proofs.heard.read_text.Goals as goal

pub returns-then-bytes-lt4 : goal.returns-then-bytes-lt4
returns-then-bytes-lt4 c = λ other. text_unbegun c.args.bytes.now c.if-bytes-lt4.true

pub returns-then-text-count : goal.returns-then-text-count
returns-then-text-count c = λ other. text_cut _ _ _ _ c.if-bytes-lt4.false c.split_at.ensures.front c.split_at.ensures.back c.read_u32-count.ensures c.if-text-count.true

pub returns-then-text-count-2 : goal.returns-then-text-count-2
returns-then-text-count-2 c = λ other. text_over _ _ _ _ c.if-bytes-lt4.false c.split_at.ensures.front c.split_at.ensures.back c.read_u32-count.ensures c.if-text-count-2.true

pub returns : goal.returns
returns c =
    text_whole _ _ _ _ c.if-bytes-lt4.false c.split_at.ensures.front c.split_at.ensures.back c.read_u32-count.ensures (omega (arith, c.if-text-count.false, c.if-text-count-2.false))
    ∙ ap (λ (u : List ℕ). Ok u) (sym c.in_ok-copy_of.ensures)
