-- Blocks in a stream, one after the other.
use Rattle.std.proofs.Common.{◌≡◌, ℕ, suc, ◌^◌, ◌<◌, ◌≤◌, Bool, true, false, cond, List, [], ◌∷◌, ◌++◌, length, take, drop, Some, Result, Ok, Err, refl, sym, ap, subst, ◌∙◌, append_assoc, arith}
use Rattle.std.specs.Prelude.{◌==◌, nat_lt}
use Rattle.std.proofs.lemmas.Bool.{le-ltb, lt-ltb, ltb-true, eqb-true}
use Rattle.std.proofs.lemmas.List.{take_at, drop_at, length-append}
use Rattle.byteorder.specs.Endian.{big_bytes, big_number}
use Rattle.byteorder.specs.Numbers.{big_from-append, big_number-reads_back, length-bytes_high_first}
use Rattle.codec.specs.declared.faults.WireFault.{WireFault}
use Rattle.codec.specs.declared.faults.WireFault.TheVariants.{TooLong, Cut, BadVersion}
use Rattle.codec.specs.Forms.{Form, counted, version, version_at, length_end, written}
use Rattle.codec.proofs.FormLaws.{IsBytes, IsForm, bind_ok}
use Rattle.hosting.specs.declared.blocks.TheConstants.{ANSWER_LIMIT}
use Rattle.hosting.specs.Blocks.{versioned, block_limit, block_within, block_at, next_within, next_block}

-- ---- the version in front

chosen : {A : Type 0} (b : Bool) (x y : A) → cond b (Ok x) (Err BadVersion) ≡ Ok y → (b ≡ true) × (x ≡ y)
chosen true x y e = (refl, cc)
chosen false x y e = absurd cc

version_read : (bytes rest : List ℕ) → version_at bytes ≡ Ok rest → bytes ≡ version ∷ rest
version_read [] rest e = absurd cc
version_read (b ∷ bytes) rest e =
    let g = chosen (b == version) bytes rest e in
    ap (λ (n : ℕ). n ∷ bytes) (eqb-true b version g.0) ∙ ap (λ (u : List ℕ). version ∷ u) g.1

IsBytes-rest : (b : ℕ) (bytes : List ℕ) → IsBytes (b ∷ bytes) → IsBytes bytes
IsBytes-rest b bytes h i = h (suc i)

pub versioned_form : {X : Type 0} {f : Form X} → IsForm f → IsForm (versioned f)
versioned_form {f = f} p = record {
  takes = λ bytes x rest fits e.
      let b = bind_ok (version_at bytes) (λ rest. f.read rest) (x, rest) e in
      let head = version_read bytes b.0 b.1 in
      let P : List ℕ → Type 0 = λ u. IsBytes u in
      let others : IsBytes b.0 = IsBytes-rest version b.0 (subst P head fits) in
      let s = p.takes b.0 x rest others b.2 in
      record { holds = s.holds; parts = head ∙ ap (λ (u : List ℕ). version ∷ u) s.parts; others = s.others };
  again = λ x rest holds short. p.again x rest holds (omega (arith, short));
}

-- ---- what stands at the front of a stream

next_long_in : (limit : ℕ) (xs : List ℕ) → 4 ≤ length xs → next_within limit xs ≡ Some (block_within limit (big_number 4 (take 4 xs)) (drop 4 xs))
next_long_in limit [] le = absurd (omega (arith, le))
next_long_in limit (x ∷ xs) le =
    ap (λ (b : Bool). Some (cond b (Err Cut, []) (block_within limit (big_number 4 (take 4 (x ∷ xs))) (drop 4 (x ∷ xs))))) (le-ltb (length (x ∷ xs)) 4 le)

pub next_short : (xs : List ℕ) → 0 < length xs → length xs < 4 → next_block xs ≡ Some (Err Cut, [])
next_short [] some lt = absurd (omega (arith, some))
next_short (x ∷ xs) some lt =
    ap (λ (b : Bool). Some (cond b (Err Cut, []) (block_at (big_number 4 (take 4 (x ∷ xs))) (drop 4 (x ∷ xs))))) (lt-ltb (length (x ∷ xs)) 4 lt)

-- the count stands in the first four bytes
next_counted_in : (limit : ℕ) (head rest text : List ℕ) → length head ≡ 4 → text ≡ head ++ rest → next_within limit text ≡ Some (block_within limit (big_number 4 head) rest)
next_counted_in limit head rest text four e =
    let long : 4 ≤ length (head ++ rest) = omega (arith, length-append head rest) in
    ap (λ (u : List ℕ). next_within limit u) e ∙ next_long_in limit (head ++ rest) long
    ∙ ap (λ (u : List ℕ). Some (block_within limit (big_number 4 u) (drop 4 (head ++ rest)))) (take_at head rest 4 four)
    ∙ ap (λ (u : List ℕ). Some (block_within limit (big_number 4 head) u)) (drop_at head rest 4 four)

pub next_counted : (head rest text : List ℕ) → length head ≡ 4 → text ≡ head ++ rest → next_block text ≡ Some (block_at (big_number 4 head) rest)
next_counted head rest text four e = next_counted_in block_limit head rest text four e

pub block_over : (count : ℕ) (bytes : List ℕ) → block_limit < count → block_at count bytes ≡ (Err TooLong, drop count bytes)
block_over count bytes lt = rw (lt-ltb block_limit count lt) refl

pub block_cut : (count : ℕ) (bytes : List ℕ) → count ≤ block_limit → length bytes < count → block_at count bytes ≡ (Err Cut, [])
block_cut count bytes le lt = rw (le-ltb block_limit count le, lt-ltb (length bytes) count lt) refl

block_whole_in : (limit count : ℕ) (bytes rest : List ℕ) → count ≤ limit → length bytes ≡ count → block_within limit count (bytes ++ rest) ≡ (Ok bytes, rest)
block_whole_in limit count bytes rest le len =
    let long : nat_lt (length (bytes ++ rest)) count ≡ false = le-ltb _ _ (omega (arith, length-append bytes rest)) in
    rw (le-ltb limit count le, long, take_at bytes rest count len, drop_at bytes rest count len) refl

pub block_whole : (count : ℕ) (bytes rest : List ℕ) → count ≤ block_limit → length bytes ≡ count → block_at count (bytes ++ rest) ≡ (Ok bytes, rest)
block_whole count bytes rest le len = block_whole_in block_limit count bytes rest le len

number_back : (x : ℕ) → x < 256 ^ 4 → big_number 4 (big_bytes 4 x) ≡ x
number_back x lt = sym (big_from-append 4 (big_bytes 4 x) [] (omega (arith, length-bytes_high_first 4 x))) ∙ big_number-reads_back 4 x [] lt

counted_next : (limit : ℕ) (bytes rest : List ℕ) → length bytes ≤ limit → length bytes < 256 ^ 4 → next_within limit (counted.write bytes ++ rest) ≡ Some (Ok bytes, rest)
counted_next limit bytes rest le fits =
    next_counted_in limit (big_bytes 4 (length bytes)) (bytes ++ rest) (counted.write bytes ++ rest) (length-bytes_high_first 4 (length bytes)) (append_assoc (big_bytes 4 (length bytes)) bytes rest)
    ∙ ap (λ (n : ℕ). Some (block_within limit n (bytes ++ rest))) (number_back (length bytes) fits)
    ∙ ap (λ (p : Result (List ℕ) WireFault × List ℕ). Some p) (block_whole_in limit (length bytes) bytes rest le refl)

pub framed_next : (bytes rest : List ℕ) → length bytes ≤ block_limit → next_block (counted.write bytes ++ rest) ≡ Some (Ok bytes, rest)
framed_next bytes rest le = counted_next block_limit bytes rest le (omega (arith, le))

-- ---- what is written is never above the limit of answers

short_is : (b : Bool) (all bytes : List ℕ) → cond b (Ok all) (Err TooLong) ≡ Ok bytes → (b ≡ true) × (all ≡ bytes)
short_is true all bytes e = (refl, cc)
short_is false all bytes e = absurd cc

pub written_next : {X : Type 0} (f : Form X) (x : X) (bytes rest : List ℕ) → written f x ≡ Ok bytes → next_within ANSWER_LIMIT (counted.write bytes ++ rest) ≡ Some (Ok bytes, rest)
written_next f x bytes rest e =
    let g = short_is (nat_lt (length (version ∷ f.write x)) length_end) (version ∷ f.write x) bytes e in
    let short : length bytes < length_end = subst (λ (u : List ℕ). length u < length_end) g.1 (ltb-true (length (version ∷ f.write x)) length_end g.0) in
    counted_next ANSWER_LIMIT bytes rest (omega (arith, short)) (omega (arith, short))
