-- What is asked and answered, piece by piece.
use Rattle.std.proofs.Common.{◌≡◌, ℕ, ◌+◌, ◌-◌, ◌<◌, Bool, true, false, cond, List, [], ◌∷◌, ◌++◌, length, drop, Ok, Err, refl, sym, ap, ◌∙◌, append_assoc, arith}
use Rattle.std.specs.Prelude.{nat_lt}
use Rattle.std.specs.List.{AllByRecursion}
use Rattle.std.proofs.Math.Seq.{drop-append_seam}
use Rattle.std.proofs.lemmas.Bool.{ltb-true}
use Rattle.std.proofs.lemmas.List.{length-append}
use Rattle.byteorder.specs.Endian.{big_bytes}
use Rattle.byteorder.specs.Numbers.{length-bytes_high_first}
use Rattle.rows_cell.specs.declared.tables.Edit.{Edit}
use Rattle.codec.specs.declared.faults.WireFault.TheVariants.{TooLong}
use Rattle.codec.specs.Forms.{◌>>=◌, version, length_end, write_all, short_of, read_whole, counted}
use Rattle.codec.specs.Fields.{word, component}
use Rattle.codec.proofs.FormLaws.{IsBytes, IsShort, bind_is, read_was_written, written_begins}
use Rattle.rows_remote.specs.declared.frames.KeeperQuestion.TheVariants as asks
use Rattle.rows_remote.specs.declared.frames.KeeperAnswer.TheVariants as answers
use Rattle.rows_remote.specs.declared.frames.Whole.{Whole}
use Rattle.rows_remote.specs.Forms.{edit, all_of_edits, row, all_of_rows, own, whole, secret}
use Rattle.rows_remote.specs.Frames.{asked, change, answer, framed, edit_at, edits_from, edits_place, own_of, framed_front, front_before, rows_front}
use Rattle.rows_remote.proofs.RowForms.{edit_form}
use Rattle.rows_remote.proofs.FrameForms.{asked_form}

-- ---- edits

own_part : (front back : List ℕ) → length (front ++ back) - length back ≡ length front
own_part front back = omega (arith, length-append front back)

edit_in_front : (x : Edit) (rest : List ℕ) → edit.is x → IsShort (edit.write x) → edit_at (edit.write x ++ rest) ≡ Ok (x, length (edit.write x))
edit_in_front x rest holds short =
    bind_is _ (λ (a : Edit × List ℕ). Ok (a.0, length (edit.write x ++ rest) - length a.1)) (x, rest) (edit_form.again x rest holds short)
    ∙ ap (λ (n : ℕ). Ok (x, n)) (own_part (edit.write x) rest)

all_in_front : (xs : List Edit) → AllByRecursion edit.is xs → IsShort (write_all edit.write xs) → edits_from (length xs) (write_all edit.write xs) ≡ Ok xs
all_in_front [] holds short = refl
all_in_front (x ∷ xs) holds short =
    let front : List ℕ = edit.write x in
    let back : List ℕ = write_all edit.write xs in
    let sum = length-append front back in
    bind_is _ (λ (a : Edit × ℕ). edits_from (length xs) (drop a.1 (front ++ back)) >>= λ others. Ok (a.0 ∷ others)) (x, length front)
    (edit_in_front x back holds.0 (omega (arith, short, sum)))
    ∙ ap (λ (u : List ℕ). edits_from (length xs) u >>= λ others. Ok (x ∷ others)) (drop-append_seam front back)
    ∙ bind_is _ (λ (others : List Edit). Ok (x ∷ others)) xs (all_in_front xs holds.1 (omega (arith, short, sum)))

is_short : (b : Bool) (x y : List ℕ) → cond b (Ok x) (Err TooLong) ≡ Ok y → b ≡ true
is_short true x y e = refl
is_short false x y e = absurd cc

behind_twelve : (one two back : List ℕ) → length one ≡ 8 → length two ≡ 4 → drop 12 (one ++ (two ++ back)) ≡ back
behind_twelve one two back eight four =
    let all : 12 ≡ length (one ++ two) = omega (arith, eight, four, length-append one two) in
    ap (λ (u : List ℕ). drop 12 u) (sym (append_assoc one two back)) ∙ ap (λ (n : ℕ). drop n ((one ++ two) ++ back)) all ∙ drop-append_seam (one ++ two) back

fewer : (one two back : List ℕ) → length (version ∷ (1 ∷ (one ++ (two ++ back)))) < length_end → IsShort back
fewer one two back short = omega (arith, short, length-append one (two ++ back), length-append two back)

pub edits_behind : (bytes : List ℕ) (number : ℕ) (edits : List Edit) → IsBytes bytes → read_whole asked bytes ≡ Ok (asks.Commit number edits)
    → edits_from (length edits) (drop edits_place bytes) ≡ Ok edits
unfolding asked change all_of_edits word
edits_behind bytes number edits fits e =
    let w = read_was_written asked_form bytes (asks.Commit number edits) fits e in
    let one : List ℕ = big_bytes 8 number in
    let two : List ℕ = big_bytes 4 (length edits) in
    let back : List ℕ = write_all edit.write edits in
    let all : List ℕ = version ∷ (1 ∷ (one ++ (two ++ back))) in
    let parts : bytes ≡ all = written_begins asked (asks.Commit number edits) bytes w.1 in
    let short : IsShort back = fewer one two back (ltb-true (length all) length_end (is_short (nat_lt (length all) length_end) all bytes w.1)) in
    let behind : drop 14 bytes ≡ back =
    ap (λ (u : List ℕ). drop 14 u) parts ∙ behind_twelve one two back (length-bytes_high_first 8 number) (length-bytes_high_first 4 (length edits)) in
    ap (λ (u : List ℕ). edits_from (length edits) u) behind ∙ all_in_front edits w.0.1 short

-- ---- rows

regroup : (n c s e x d k back : List ℕ) → ((n ++ (c ++ (s ++ (e ++ (x ++ d))))) ++ k) ++ back ≡ n ++ (c ++ (s ++ (e ++ (x ++ (d ++ (k ++ back))))))
regroup n c s e x d k back =
    append_assoc (n ++ (c ++ (s ++ (e ++ (x ++ d))))) k back
    ∙ append_assoc n (c ++ (s ++ (e ++ (x ++ d)))) (k ++ back)
    ∙ ap (λ (u : List ℕ). n ++ u) (append_assoc c (s ++ (e ++ (x ++ d))) (k ++ back)
    ∙ ap (λ (u : List ℕ). c ++ u) (append_assoc s (e ++ (x ++ d)) (k ++ back)
    ∙ ap (λ (u : List ℕ). s ++ u) (append_assoc e (x ++ d) (k ++ back) ∙ ap (λ (u : List ℕ). e ++ u) (append_assoc x d (k ++ back)))))

either : (b : Bool) (front back : List ℕ) (m n : ℕ) → m ≡ n
    → (cond b (Ok (front ++ back)) (Err TooLong) >>= λ bytes. Ok (big_bytes 4 m ++ (front ++ back))) ≡ (cond b (Ok (big_bytes 4 n ++ front)) (Err TooLong) >>= λ u. Ok (u ++ back))
either true front back m n same = ap (λ (k : ℕ). Ok (big_bytes 4 k ++ (front ++ back))) same ∙ ap (λ (u : List ℕ). Ok u) (sym (append_assoc (big_bytes 4 n) front back))
either false front back m n same = refl

counted_by : (b : Bool) (all : List ℕ) → (cond b (Ok all) (Err TooLong) >>= λ bytes. Ok (counted.write bytes)) ≡ (cond b (Ok all) (Err TooLong) >>= λ bytes. Ok (big_bytes 4 (length all) ++ all))
counted_by true all = refl
counted_by false all = refl

framed_pieces : (front back : List ℕ) → (short_of (front ++ back) >>= λ bytes. Ok (counted.write bytes)) ≡ (framed_front front (length back) >>= λ u. Ok (u ++ back))
framed_pieces front back =
    let sum : length (front ++ back) ≡ length front + length back = length-append front back in
    counted_by (nat_lt (length (front ++ back)) length_end) (front ++ back)
    ∙ either (nat_lt (length (front ++ back)) length_end) front back (length (front ++ back)) (length front + length back) sum
    ∙ ap (λ (n : ℕ). cond (nat_lt n length_end) (Ok (big_bytes 4 (length front + length back) ++ front)) (Err TooLong) >>= λ u. Ok (u ++ back)) sum

pub rows_behind : (all : Whole) → framed answer (answers.Rows all)
    ≡ (rows_front (own_of all) (length all.rows) (length (write_all row.write all.rows)) >>= λ front. Ok (front ++ write_all row.write all.rows))
unfolding answer whole own all_of_rows
rows_behind all =
    let back : List ℕ = write_all row.write all.rows in
    let same : (n c s e x d k : List ℕ) → version ∷ (0 ∷ (n ++ (c ++ (s ++ (e ++ (x ++ (d ++ (k ++ back)))))))) ≡ (version ∷ (0 ∷ ((n ++ (c ++ (s ++ (e ++ (x ++ d))))) ++ k))) ++ back =
    λ n c s e x d k. ap (λ (u : List ℕ). version ∷ (0 ∷ u)) (sym (regroup n c s e x d k back)) in
    ap (λ (u : List ℕ). short_of u >>= λ bytes. Ok (counted.write bytes))
    (same (word.write all.number) (component.write all.cell) (secret.write all.secret) (word.write all.epoch) (word.write all.next_instance) (word.write all.ended_below) (big_bytes 4 (length all.rows)))
    ∙ framed_pieces (front_before (own_of all) (length all.rows)) back
