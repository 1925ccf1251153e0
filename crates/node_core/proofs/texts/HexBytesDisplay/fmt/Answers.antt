use Rattle.std.proofs.Common.{rules, arith, ◌≡◌, ℕ, ◌+◌, ◌<◌, length, take, List, ◌++◌, get_or, ap, sym, ◌∙◌, false, [], ◌^◌, ◌-◌}
use Rattle.std.specs.List.{flat_map}
use Rattle.std.specs.Fmt.{HasWritten, padded_integral, format_spec, digits}
use Rattle.std.proofs.lemmas.List.{take_more, flat_map_more}
use Rattle.std.proofs.lemmas.Grind.{put_two}
use Rattle.std.proofs.lemmas.Fmt.{hex_byte}
use Rattle.node_core.specs.Texts.{hex_pair}
use Rattle.node_core.proofs.texts.HexBytesDisplay.fmt.Goals as goal

more : (xs : List ℕ) (i : ℕ) → i < length xs → flat_map hex_pair (take i xs) ++ hex_pair (get_or xs i 0) ≡ flat_map hex_pair (take (i + 1) xs)
more xs i h = flat_map_more hex_pair [] (take i xs) (get_or xs i 0) ∙ ap (flat_map hex_pair) (sym (take_more xs i 0 h))

pub loop-b-preserved : goal.loop-b-preserved
loop-b-preserved g c = λ p.
    let xs : List ℕ = c.args.self.now.0.now in
    let i : ℕ = c.loop-b.b-index in
    let w : HasWritten g.W.Write.write_str_gives c.loop-b.f (padded_integral (format_spec 32 0 4 2 (2 ^ 64 - 1)) false [] (digits 16 false (get_or xs i 0))) c.write.new.self = search rules in
    let small : get_or xs i 0 < 256 = omega arith in
    let e = hex_byte false (get_or xs i 0) small in
    put_two _ _ _ _ _ (hex_pair (get_or xs i 0)) _ (c.loop-b.invariant p) (rw e at w) (more xs i (omega arith))
