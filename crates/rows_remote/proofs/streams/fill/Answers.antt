use Rattle.std.proofs.Common.{◌+◌, ◌-◌, ◌++◌, arith, rules, length, take, sym, ap, ◌∙◌, subst, le_refl}
use Rattle.std.proofs.lemmas.Slice.{take-put_mid_below}
use Rattle.std.specs.Io.KnownBytes.{Consumes}
use Rattle.std.proofs.KnownBytes.{Consumes-trans}
use borrow.Rule.Slice.PartMut.{put_mid}
use Rattle.rows_remote.proofs.Hearing.{take_split, slice_range-put_mid}
use Rattle.rows_remote.proofs.streams.fill.Goals as goal

pub loop-turn-preserved : goal.loop-turn-preserved
loop-turn-preserved g c =
    let from = c.loop-turn.at in
    let room = length c.loop-turn.buffer - from in
    let within = c.loop-turn.invariant.within in
    let count = c.read_some.result in
    let part = slice_range-put_mid from room count c.loop-turn.buffer c.read_some.new.buffer within c.read_some.ensures.bound in
    let joined = take_split from (from + count) c.loop-turn.buffer (put_mid from room c.loop-turn.buffer c.read_some.new.buffer) (omega arith) (take-put_mid_below _ _ _ _ _ (le_refl _) within) in
    record {
      within = search rules;
      room = search rules;
      bytes = subst (Consumes _ _) (ap (λ l. take from c.loop-turn.buffer ++ l) (sym part) ∙ joined) (Consumes-trans _ _ _ _ _ c.loop-turn.invariant.bytes c.read_some.ensures.bytes);
    }
