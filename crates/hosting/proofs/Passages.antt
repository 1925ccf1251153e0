-- What was read of a text, and what is left of it.
use Rattle.std.proofs.Common.{◌≡◌, ℕ, ◌+◌, ◌-◌, ◌<◌, ◌≤◌, List, [], ◌++◌, length, take, drop, Option, None, Some, Result, Ok, Err, sym, ap, subst, ◌∙◌, append-nil, drop_at, drop_of_length-le, length-append, length-take, length-take-le, take_all, arith}
use Rattle.std.specs.Prelude.{slice_range}
use Rattle.std.specs.Io.KnownBytes.{Consumes, Keeps, IsAtEnd}
use Rattle.std.proofs.KnownBytes.{Consumes-trans}
use Rattle.byteorder.specs.Endian.{big_number}
use Rattle.codec.specs.declared.faults.WireFault.{WireFault}
use Rattle.codec.specs.declared.faults.WireFault.TheVariants.{TooLong, Cut}
use Rattle.hosting.specs.Blocks.{block_limit, block_at, next_block}
use Rattle.hosting.proofs.BlockLaws.{next_short, next_counted, block_over, block_cut, block_whole}
use Rattle.collections.specs.Results.{Gives}
use Rattle.codec.specs.declared.faults.WireFault.TheVariants.{NoMemory}
use Rattle.hosting.specs.declared.frames.Frame.{Frame}
use Rattle.hosting.specs.Streams.{Drops, BlockIs, BehindIs, in_buffer, Fits, FoundBlock, frame_of, FrameIs}
use borrow.Rule.Slice.PartMut.{put_mid, post_of}
use lib.Seq.{take-add, take-append-le}

abbrev Block : Type 0
Block = Result (List ℕ) WireFault

-- ---- the number in front

-- nothing was there
pub none_left : (text rest : Option (List ℕ)) (bytes : List ℕ) → Consumes text rest bytes → bytes ≡ [] → IsAtEnd rest → IsAtEnd text
none_left None rest bytes c e a = tt
none_left (Some text) None bytes c e a = absurd c
none_left (Some text) (Some rest) bytes c e a = c ∙ ap (λ (u : List ℕ). u ++ rest) e ∙ a

pub head_cut : (text rest : Option (List ℕ)) (bytes : List ℕ) → Consumes text rest bytes → 0 < length bytes → length bytes < 4 → IsAtEnd rest → BlockIs text (Err Cut) rest
head_cut None rest bytes c some few a = tt
head_cut (Some text) None bytes c some few a = absurd c
head_cut (Some text) (Some rest) bytes c some few a =
    ap (λ (u : List ℕ). next_block u) (c ∙ ap (λ (u : List ℕ). bytes ++ u) a ∙ append-nil bytes) ∙ next_short bytes some few
    ∙ ap (λ (u : List ℕ). Some (Err Cut, u)) (sym a)

pub head_whole : (text mid rest : Option (List ℕ)) (head : List ℕ) (count : ℕ) (block : Block) → Consumes text mid head → length head ≡ 4 → count ≡ big_number 4 head
    → BehindIs count mid block rest → BlockIs text block rest
head_whole None mid rest head count block c four counts b = tt
head_whole (Some text) None rest head count block c four counts b = absurd c
head_whole (Some text) (Some mid) None head count block c four counts b = b
head_whole (Some text) (Some mid) (Some rest) head count block c four counts b =
    next_counted head mid text four c ∙ ap (λ (n : ℕ). Some (block_at n mid)) (sym counts) ∙ ap (λ (p : Block × List ℕ). Some p) b

-- ---- after it

pub behind_over : (text rest : Option (List ℕ)) (count : ℕ) → block_limit < count → Drops count text rest → BehindIs count text (Err TooLong) rest
behind_over None rest count over d = tt
behind_over (Some text) None count over d = absurd d
behind_over (Some text) (Some rest) count over d = block_over count text over ∙ ap (λ (u : List ℕ). (Err TooLong, u)) (sym d)

pub behind_cut : (text rest : Option (List ℕ)) (bytes : List ℕ) (count : ℕ) → count ≤ block_limit → Consumes text rest bytes → length bytes < count → IsAtEnd rest
    → BehindIs count text (Err Cut) rest
behind_cut None rest bytes count le c few a = tt
behind_cut (Some text) None bytes count le c few a = absurd c
behind_cut (Some text) (Some rest) bytes count le c few a =
    ap (λ (u : List ℕ). block_at count u) (c ∙ ap (λ (u : List ℕ). bytes ++ u) a ∙ append-nil bytes) ∙ block_cut count bytes le few
    ∙ ap (λ (u : List ℕ). (Err Cut, u)) (sym a)

pub behind_whole : (text rest : Option (List ℕ)) (bytes : List ℕ) (count : ℕ) → count ≤ block_limit → Consumes text rest bytes → length bytes ≡ count
    → BehindIs count text (Ok bytes) rest
behind_whole None rest bytes count le c len = tt
behind_whole (Some text) None bytes count le c len = absurd c
behind_whole (Some text) (Some rest) bytes count le c len = ap (λ (u : List ℕ). block_at count u) c ∙ block_whole count bytes rest le len

-- ---- what is passed over

pub record Passed (count left : ℕ) (text rest : Option (List ℕ)) : Type 0 where
  pub bytes : List ℕ
  pub gone : Consumes text rest bytes
  pub many : length bytes + left ≡ count

pub drops_all : (count : ℕ) (text rest : Option (List ℕ)) → Passed count 0 text rest → Drops count text rest
drops_all count None rest p = tt
drops_all count (Some text) None p = absurd p.gone
drops_all count (Some text) (Some rest) p = sym (ap (λ (u : List ℕ). drop count u) p.gone ∙ drop_at p.bytes rest count (omega (arith, p.many)))

drops_end : (count : ℕ) (text rest : Option (List ℕ)) (bytes : List ℕ) → Consumes text rest bytes → length bytes ≤ count → IsAtEnd rest → Drops count text rest
drops_end count None rest bytes c le a = tt
drops_end count (Some text) None bytes c le a = absurd c
drops_end count (Some text) (Some rest) bytes c le a =
    a ∙ sym (ap (λ (u : List ℕ). drop count u) (c ∙ ap (λ (u : List ℕ). bytes ++ u) a ∙ append-nil bytes) ∙ drop_of_length-le bytes le)

pub passed_end : (count left : ℕ) (text mid rest : Option (List ℕ)) (bytes : List ℕ) → Passed count left text mid → Consumes mid rest bytes → length bytes ≤ left → IsAtEnd rest
    → Drops count text rest
passed_end count left text mid rest bytes p c le a =
    drops_end count text rest (p.bytes ++ bytes) (Consumes-trans text mid rest p.bytes bytes p.gone c) (omega (arith, p.many, length-append p.bytes bytes)) a

pub passed_more : (count left after : ℕ) (text mid rest : Option (List ℕ)) (bytes : List ℕ) → Passed count left text mid → Consumes mid rest bytes → length bytes + after ≡ left
    → Passed count after text rest
passed_more count left after text mid rest bytes p c many = record {
  bytes = p.bytes ++ bytes;
  gone = Consumes-trans text mid rest p.bytes bytes p.gone c;
  many = omega (arith, p.many, many, length-append p.bytes bytes);
}

-- all that was asked for was found
pub all_found : (found part left : ℕ) (buffer : List ℕ) → found ≤ length buffer → length buffer ≡ part → part ≤ found → part ≤ left → length (take found buffer) + (left - part) ≡ left
all_found found part left buffer fits len more within = omega (arith, length-take found buffer)

-- ---- a buffer that is filled

pub kept_then : (a b c : Option (List ℕ)) (bytes : List ℕ) → Keeps a b → Consumes b c bytes → Consumes a c bytes
kept_then None b c bytes p q = tt
kept_then (Some x) None c bytes p q = absurd p
kept_then (Some x) (Some y) None bytes p q = absurd q
kept_then (Some x) (Some y) (Some z) bytes p q = sym p ∙ q

pub take_split : (a b : ℕ) (old new : List ℕ) → a ≤ b → take a new ≡ take a old → take a old ++ slice_range new a b ≡ take b new
take_split a b old new h front =
    let same : a + (b - a) ≡ b = omega arith in
    ap (λ (l : List ℕ). l ++ slice_range new a b) (sym front) ∙ sym (take-add a (b - a) new) ∙ ap (λ (n : ℕ). take n new) same

pub slice_range-put_mid : (a k n : ℕ) (xs ys : List ℕ) → a ≤ length xs → n ≤ length ys → slice_range (put_mid a k xs ys) a (a + n) ≡ take n ys
slice_range-put_mid a k n xs ys within fits =
    let same : (a + n) - a ≡ n = omega arith in
    let after = post_of a k xs in
    ap (λ (l : List ℕ). take ((a + n) - a) l) (drop_at (take a xs) (ys ++ after) a (length-take-le a xs within)) ∙ ap (λ (m : ℕ). take m (ys ++ after)) same ∙ take-append-le n ys after fits

-- ---- what was found

pub head_read : (text mid rest : Option (List ℕ)) (head : List ℕ) (found count : ℕ) (block : Block) → Consumes text mid (take found head) → length head ≡ 4 → 4 ≤ found
    → count ≡ big_number 4 head → BehindIs count mid block rest → BlockIs text block rest
head_read text mid rest head found count block c four all counts b =
    let P : List ℕ → Type 0 = λ u. Consumes text mid u in
    head_whole text mid rest head count block (subst P (take_all found head (omega (arith, four, all))) c) four counts b

pub fits_of : (found : Option (Result ℕ WireFault)) (block : Result ℕ WireFault) (buffer : List ℕ) (text rest : Option (List ℕ)) → found ≡ Some block → FoundBlock found buffer text rest
    → Fits block buffer
fits_of found block buffer text rest e f = let P : Option (Result ℕ WireFault) → Type 0 = λ o. FoundBlock o buffer text rest in (subst P e f).0

pub frame_found : (found : Option (Result ℕ WireFault)) (block : Result ℕ WireFault) (buffer : List ℕ) (sent : Result Frame WireFault) (text rest : Option (List ℕ)) → found ≡ Some block
    → FoundBlock found buffer text rest → Gives NoMemory sent (frame_of (in_buffer block buffer)) → FrameIs text sent rest
frame_found found block buffer sent text rest e f given =
    let P : Option (Result ℕ WireFault) → Type 0 = λ o. FoundBlock o buffer text rest in
    record { block = in_buffer block buffer; next = (subst P e f).1; read = given }
