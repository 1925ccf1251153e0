-- In a block that tells a message all bytes of it stand after the first ten.
use Rattle.std.proofs.Common.{◌≡◌, ℕ, ◌<◌, Bool, true, false, cond, List, ◌∷◌, ◌++◌, length, drop, Ok, Err, refl, sym, ap, ◌∙◌, arith}
use Rattle.std.specs.Prelude.{nat_lt}
use Rattle.std.proofs.Math.Seq.{drop-append_seam}
use Rattle.std.proofs.lemmas.Bool.{lt-ltb, ltb-true}
use Rattle.std.proofs.lemmas.List.{length-append}
use Rattle.byteorder.specs.Endian.{big_bytes}
use Rattle.byteorder.specs.Numbers.{length-bytes_high_first}
use Rattle.tags_cell.specs.declared.messages.outs.Out.{Out}
use Rattle.codec.specs.declared.faults.WireFault.TheVariants.{TooLong}
use Rattle.codec.specs.Forms.{version, length_end, read_whole}
use Rattle.codec.specs.Fields.{word, client}
use Rattle.codec.specs.Outs.{out_message, out_written}
use Rattle.codec.proofs.FormLaws.{IsBytes, read_was_written, written_begins}
use Rattle.codec.proofs.OutLaws.{has_bytes_form, form_written}
use Rattle.hosting.specs.declared.tellings.MasterFrame.TheVariants as tells
use Rattle.hosting.specs.Told.{told}
use Rattle.hosting.proofs.ToldLaws.{told_form}

behind_front : (front back : List ℕ) → length front ≡ 8 → drop 8 (front ++ back) ≡ back
behind_front front back e = ap (λ (n : ℕ). drop n (front ++ back)) (sym e) ∙ drop-append_seam front back

is_short : (b : Bool) (x y : List ℕ) → cond b (Ok x) (Err TooLong) ≡ Ok y → b ≡ true
is_short true x y e = refl
is_short false x y e = absurd cc

-- the bytes of a message are fewer than those of the block
fewer : (front back : List ℕ) → length (version ∷ (1 ∷ (front ++ back))) < length_end → length back < length_end
fewer front back short = omega (arith, short, length-append front back)

pub message_behind : (block : List ℕ) (number : ℕ) (message : Out) → IsBytes block → read_whole told block ≡ Ok (tells.Message number message) → out_written message ≡ Ok (drop 10 block)
unfolding told client word
message_behind block number message fits e =
    let w = read_was_written told_form block (tells.Message number message) fits e in
    let front : List ℕ = big_bytes 8 number in
    let bytes : List ℕ = version ∷ out_message.write message in
    let all : List ℕ = version ∷ (1 ∷ (front ++ bytes)) in
    let parts : block ≡ all = written_begins told (tells.Message number message) block w.1 in
    let whole : length all < length_end = ltb-true (length all) length_end (is_short (nat_lt (length all) length_end) all block w.1) in
    let short : nat_lt (length bytes) length_end ≡ true = lt-ltb (length bytes) length_end (fewer front bytes whole) in
    let behind : drop 10 block ≡ bytes = ap (λ (u : List ℕ). drop 10 u) parts ∙ behind_front front bytes (length-bytes_high_first 8 number) in
    form_written message (has_bytes_form message w.0.1)
    ∙ ap (λ (b : Bool). cond b (Ok bytes) (Err TooLong)) short
    ∙ ap (λ (u : List ℕ). Ok u) (sym behind)
