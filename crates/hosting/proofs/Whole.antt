-- Whether a block stands whole in front.
use Rattle.std.proofs.Common.{◌≡◌, ℕ, ◌<◌, ◌≤◌, List, [], ◌∷◌, length, take, drop, Bool, true, false, Result, Ok, Err, refl, sym, ap, ◌∙◌, arith}
use Rattle.std.specs.Prelude.{nat_lt, nat_le, not, if◌then◌else◌}
use Rattle.std.proofs.lemmas.Bool.{lt-ltb, le-ltb}
use Rattle.std.proofs.lemmas.Bool.Decides.{nat_tests}
use Rattle.byteorder.specs.Endian.{big_number}
use Rattle.codec.specs.declared.faults.WireFault.{WireFault}
use Rattle.codec.specs.declared.faults.WireFault.TheVariants.{TooLong, Cut}
use Rattle.hosting.specs.Blocks.{block_at, is_block, stands_whole}

-- by whether there are fewer than four bytes
abbrev head_by : Bool → List ℕ → Result (List ℕ) WireFault × List ℕ
head_by short bytes = if short then (Err Cut, []) else block_at (big_number 4 (take 4 bytes)) (drop 4 bytes)

abbrev by_head : Bool → List ℕ → Bool
by_head short bytes = is_block (head_by short bytes).0

pub few : (bytes : List ℕ) → length bytes < 4 → false ≡ stands_whole bytes
few [] lt = refl
few (b ∷ bs) lt = sym (ap (λ (s : Bool). by_head s (b ∷ bs)) (lt-ltb (length (b ∷ bs)) 4 lt))

long : (bytes front text : List ℕ) (count : ℕ) → 4 ≤ length bytes → front ≡ take 4 bytes → text ≡ drop 4 bytes → count ≡ big_number 4 front → stands_whole bytes ≡ is_block (block_at count text).0
long [] front text count le f t n = let none : ⊥ = omega (arith, le) in absurd none
long (b ∷ bs) front text count le f t n =
    ap (λ (s : Bool). by_head s (b ∷ bs)) (le-ltb (length (b ∷ bs)) 4 le)
    ∙ ap (λ (k : ℕ). is_block (block_at k (drop 4 (b ∷ bs))).0) (sym (n ∙ ap (big_number 4) f))
    ∙ ap (λ (u : List ℕ). is_block (block_at count u).0) (sym t)

-- by whether they are too many, and more than there are
abbrev block_by : Bool → Bool → ℕ → List ℕ → Result (List ℕ) WireFault × List ℕ
block_by large short count text = if large then (Err TooLong, drop count text) else if short then (Err Cut, []) else (Ok (take count text), drop count text)

abbrev by_count : Bool → Bool → ℕ → List ℕ → Bool
by_count large short count text = is_block (block_by large short count text).0

pub over : (bytes front text : List ℕ) (count : ℕ) → 4 ≤ length bytes → front ≡ take 4 bytes → text ≡ drop 4 bytes → count ≡ big_number 4 front → 1048576 < count → false ≡ stands_whole bytes
over bytes front text count le f t n lt = sym (long bytes front text count le f t n ∙ ap (λ (l : Bool). by_count l (nat_lt (length text) count) count text) (lt-ltb 1048576 count lt))

within : (bytes front text : List ℕ) (count : ℕ) → 4 ≤ length bytes → front ≡ take 4 bytes → text ≡ drop 4 bytes → count ≡ big_number 4 front → count ≤ 1048576 → stands_whole bytes ≡ by_count false (nat_lt (length text) count) count text
within bytes front text count le f t n most = long bytes front text count le f t n ∙ ap (λ (l : Bool). by_count l (nat_lt (length text) count) count text) (le-ltb 1048576 count most)

at_least : (count n : ℕ) (short : Bool) → nat_lt n count ≡ short → nat_le count n ≡ not short
at_least count n true h = grind (arith, nat_tests)
at_least count n false h = grind (arith, nat_tests)

by_rest : (short : Bool) (count : ℕ) (text : List ℕ) → not short ≡ by_count false short count text
by_rest true count text = refl
by_rest false count text = refl

pub whole : (bytes front text : List ℕ) (count : ℕ) → 4 ≤ length bytes → front ≡ take 4 bytes → text ≡ drop 4 bytes → count ≡ big_number 4 front → count ≤ 1048576 → nat_le count (length text) ≡ stands_whole bytes
whole bytes front text count le f t n most =
    at_least count (length text) (nat_lt (length text) count) refl ∙ by_rest (nat_lt (length text) count) count text ∙ sym (within bytes front text count le f t n most)
