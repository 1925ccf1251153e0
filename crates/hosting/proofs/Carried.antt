-- Of bytes that are carried as they came is read what is read of them alone.
use Rattle.std.proofs.Common.{◌≡◌, ℕ, ◌^◌, ◌<◌, Bool, cond, List, [], ◌∷◌, ◌++◌, length, take, Ok, Err, refl, sym, ap, ◌∙◌, arith}
use Rattle.std.proofs.lemmas.Bool.{lt-ltb}
use Rattle.std.proofs.lemmas.List.{take_at, drop_at, length-append}
use Rattle.byteorder.specs.Endian.{big_bytes, big_number}
use Rattle.byteorder.specs.Numbers.{big_from-append, big_number-reads_back, length-bytes_high_first}
use Rattle.codec.specs.declared.faults.WireFault.TheVariants.{TooLong}
use Rattle.codec.specs.Forms.{◌>>=◌, Form, version, version_at, length_end, end_at, read_whole}
use Rattle.codec.specs.Fields.{word}
use Rattle.codec.specs.Requests.{request}
use Rattle.hosting.specs.declared.frames.Frame.TheVariants as frames
use Rattle.hosting.specs.declared.kinds.FrameKind.TheVariants as of
use Rattle.hosting.specs.Frames.{all_of, frame_behind, frame, carried_fields}
use Rattle.hosting.proofs.Readings.{message_whole}

-- the frame is read as its fields are
frame_fields : (fields : List ℕ) → length (version ∷ (1 ∷ fields)) < length_end → read_whole frame (version ∷ (1 ∷ fields)) ≡ all_of (frame_behind of.Message fields)
unfolding frame
frame_fields fields short =
    ap (λ (b : Bool). cond b (version_at (version ∷ (1 ∷ fields))) (Err TooLong) >>= λ rest. frame.read rest >>= λ x. end_at x.0 x.1) (lt-ltb (length (version ∷ (1 ∷ fields))) length_end short)

number_back : (x : ℕ) → x < 256 ^ 8 → big_number 8 (big_bytes 8 x) ≡ x
number_back x lt = sym (big_from-append 8 (big_bytes 8 x) [] (omega (arith, length-bytes_high_first 8 x))) ∙ big_number-reads_back 8 x [] lt

behind_moment : (moment : ℕ) (front bytes : List ℕ) → front ≡ big_bytes 8 moment → moment < 256 ^ 8 → length (front ++ bytes) < 2 ^ 32
    → all_of (frame_behind of.Message (front ++ bytes)) ≡ (read_whole request bytes >>= λ message. Ok (frames.Message moment message))
behind_moment moment front bytes e lt short =
    let eight : length front ≡ 8 = ap length e ∙ length-bytes_high_first 8 moment in
    message_whole (front ++ bytes) short (omega (arith, eight, length-append front bytes))
    ∙ ap (λ (u : List ℕ). read_whole request u >>= λ q. Ok (frames.Message (big_number 8 (take 8 (front ++ bytes))) q)) (drop_at front bytes 8 eight)
    ∙ ap (λ (u : List ℕ). read_whole request bytes >>= λ q. Ok (frames.Message (big_number 8 u) q)) (take_at front bytes 8 eight ∙ e)
    ∙ ap (λ (m : ℕ). read_whole request bytes >>= λ q. Ok (frames.Message m q)) (number_back moment lt)

pub carried_read : (moment : ℕ) (bytes : List ℕ) → word.is moment → length (version ∷ carried_fields moment bytes) < length_end
    → read_whole frame (version ∷ carried_fields moment bytes) ≡ (read_whole request bytes >>= λ message. Ok (frames.Message moment message))
unfolding word
carried_read moment bytes holds short =
    frame_fields (word.write moment ++ bytes) short ∙ behind_moment moment (word.write moment) bytes refl holds (omega (arith, short))
