-- What was taken of an answer, and what was told by it.
use Rattle.std.proofs.Common.{◌≡◌, ◌≢◌, ◌⊎◌, inl, inr, ℕ, ◌+◌, ◌-◌, ◌<◌, ◌≤◌, Bool, true, false, cond, List, [], ◌∷◌, ◌++◌, length, take, drop, Option, None, Some, Result, Ok, refl, sym, ap, subst, ◌∙◌, length-append, length-take, length-take-le, take_all, arith}
use Rattle.std.specs.Prelude.{IfSome, IfNone, nat_lt, ◌==◌, if◌then◌else◌, slice_range}
use Rattle.std.specs.Io.KnownBytes.{Consumes, Keeps}
use Rattle.std.proofs.KnownBytes.{Consumes-trans}
use Rattle.std.proofs.lemmas.Bool.{le-ltb, eqb-true}
use Rattle.std.proofs.lemmas.List.{take_at, drop_at}
use borrow.Rule.Slice.PartMut.{put_mid, post_of}
use lib.Seq.{take-add, take-append-le}
use Rattle.byteorder.specs.Endian.{big_number}
use Rattle.codec.specs.declared.faults.WireFault.{WireFault}
use Rattle.codec.specs.Forms.{◌>>=◌, next_at, version, written, read_whole}
use Rattle.rows_remote.specs.declared.frames.KeeperAnswer.{KeeperAnswer}
use Rattle.rows_remote.specs.declared.frames.KeeperAnswer.TheVariants as answers
use Rattle.rows_remote.specs.Frames.{answer, framed, answer_at}
use Rattle.rows_remote.specs.Asking.{Hears, HearsIn, IsUnheard, LosesSome, LosesShort, LosesCounted, kind_told, short_told}

-- ---- a buffer that is filled

pub kept_then : (a b c : Option (List ℕ)) (bytes : List ℕ) → Keeps a b → Consumes b c bytes → Consumes a c bytes
kept_then None b c bytes p q = tt
kept_then (Some x) None c bytes p q = absurd p
kept_then (Some x) (Some y) None bytes p q = absurd q
kept_then (Some x) (Some y) (Some z) bytes p q = sym p ∙ q

pub take_split : (a b : ℕ) (old new : List ℕ) → a ≤ b → take a new ≡ take a old → take a old ++ slice_range new a b ≡ take b new
take_split a b old new h front =
    let same : a + (b - a) ≡ b = omega arith in
    ap (λ (l : List ℕ). l ++ slice_range new a b) (sym front) ∙ sym (take-add a (b - a) new) ∙ ap (λ (n : ℕ). take n new) same

pub slice_range-put_mid : (a k n : ℕ) (xs ys : List ℕ) → a ≤ length xs → n ≤ length ys → slice_range (put_mid a k xs ys) a (a + n) ≡ take n ys
slice_range-put_mid a k n xs ys within fits =
    let same : (a + n) - a ≡ n = omega arith in
    let after = post_of a k xs in
    ap (λ (l : List ℕ). take ((a + n) - a) l) (drop_at (take a xs) (ys ++ after) a (length-take-le a xs within)) ∙ ap (λ (m : ℕ). take m (ys ++ after)) same ∙ take-append-le n ys after fits

-- ---- the two answers that have no rows

pub kept_written : written answer answers.Kept ≡ Ok (version ∷ (1 ∷ []))
unfolding answer
kept_written = refl

pub refused_written : written answer answers.Refused ≡ Ok (version ∷ (2 ∷ []))
unfolding answer
refused_written = refl

pub kept_framed : framed answer answers.Kept ≡ Ok (0 ∷ (0 ∷ (0 ∷ (2 ∷ (version ∷ (1 ∷ []))))))
unfolding answer
kept_framed = refl

pub refused_framed : framed answer answers.Refused ≡ Ok (0 ∷ (0 ∷ (0 ∷ (2 ∷ (version ∷ (2 ∷ []))))))
unfolding answer
refused_framed = refl

pub kept_read : read_whole answer (version ∷ (1 ∷ [])) ≡ Ok answers.Kept
unfolding answer
kept_read = refl

pub refused_read : read_whole answer (version ∷ (2 ∷ [])) ≡ Ok answers.Refused
unfolding answer
refused_read = refl

-- ---- an answer that was heard

next_again : (n : ℕ) (front rest : List ℕ) → length front ≡ n → next_at n (front ++ rest) ≡ Ok (front, rest)
next_again n front rest len =
    let long : nat_lt (length (front ++ rest)) n ≡ false = le-ltb _ _ (omega (arith, length-append front rest)) in
    rw (long, take_at front rest n len, drop_at front rest n len) refl

answered : (head block rest : List ℕ) (count : ℕ) (told : KeeperAnswer) → length head ≡ 4 → count ≡ big_number 4 head → length block ≡ count → read_whole answer block ≡ Ok told
    → answer_at (head ++ (block ++ rest)) ≡ Ok (told, rest)
answered head block rest count told four counts len is =
    ap (λ (r : Result (List ℕ × List ℕ) WireFault). (r >>= λ front. next_at (big_number 4 front.0) front.1) >>= λ block. read_whole answer block.0 >>= λ told. Ok (told, block.1))
    (next_again 4 head (block ++ rest) four)
    ∙ ap (λ (n : ℕ). next_at n (block ++ rest) >>= λ block. read_whole answer block.0 >>= λ told. Ok (told, block.1)) (sym counts)
    ∙ ap (λ (r : Result (List ℕ × List ℕ) WireFault). r >>= λ block. read_whole answer block.0 >>= λ told. Ok (told, block.1)) (next_again count block rest len)
    ∙ ap (λ (r : Result KeeperAnswer WireFault). r >>= λ told. Ok (told, rest)) is

heard : (text mid after : Option (List ℕ)) (head : List ℕ) (count : ℕ) (told : KeeperAnswer) → Consumes text mid head → length head ≡ 4 → count ≡ big_number 4 head → HearsIn count mid told after
    → Hears text told after
heard None mid after head count told c four counts h = tt
heard (Some text) None after head count told c four counts h = absurd c
heard (Some text) (Some mid) None head count told c four counts h = absurd h.1
heard (Some text) (Some mid) (Some after) head count told c four counts h =
    let parts : text ≡ head ++ (h.0 ++ after) = c ∙ ap (λ (u : List ℕ). head ++ u) h.1 in
    ap answer_at parts ∙ answered head h.0 after count told four counts h.2 h.3

-- so many bytes of a front are all of it
front_whole : (before after : Option (List ℕ)) (n size : ℕ) (front : List ℕ) → Consumes before after (take n front) → length front ≡ size → size ≤ n → Consumes before after front
front_whole before after n size front c len all = subst (λ (u : List ℕ). Consumes before after u) (take_all n front (omega (arith, len, all))) c

pub heard_so : (text mid after : Option (List ℕ)) (n : ℕ) (head : List ℕ) (count : ℕ) (result : Option KeeperAnswer) → Consumes text mid (take n head) → length head ≡ 4 → 4 ≤ n → count ≡ big_number 4 head
    → IfSome result (λ told. HearsIn count mid told after) → IfSome result (λ told. Hears text told after)
heard_so text mid after n head count None c four all counts h = tt
heard_so text mid after n head count (Some told) c four all counts h = heard text mid after head count told (front_whole text mid n 4 head c four all) four counts h

-- ---- an answer that wasn't

head_two : (head taken back : List ℕ) → length head ≡ 4 → head ++ taken ≡ 0 ∷ (0 ∷ (0 ∷ (2 ∷ back))) → (head ≡ 0 ∷ (0 ∷ (0 ∷ (2 ∷ [])))) × (taken ≡ back)
head_two head taken back four e =
    (sym (take_at head taken 4 four) ∙ ap (λ (u : List ℕ). take 4 u) e, sym (drop_at head taken 4 four) ∙ ap (λ (u : List ℕ). drop 4 u) e)

ok_same : (x y : List ℕ) (r : Result (List ℕ) WireFault) → r ≡ Ok x → r ≡ Ok y → x ≡ y
ok_same x y r is also = cc

-- some were taken, and then more
pub loses_more : (before mid after : Option (List ℕ)) (bytes more : List ℕ) → Consumes before mid bytes → Consumes mid after more → LosesSome before after
loses_more before mid after bytes more c d = (bytes ++ more, Consumes-trans before mid after bytes more c d)

-- fewer than two of the two bytes after the number
pub short_cut : (before after : Option (List ℕ)) (n : ℕ) (block : List ℕ) → Consumes before after (take n block) → n < 2 → LosesShort before after
short_cut before after n block c few =
    let fewer : length (take n block) < 2 = omega (arith, few, length-take n block) in
    (take n block, c, λ e. absurd (omega (arith, fewer, ap length (ok_same _ (take n block) _ kept_written e))), λ e. absurd (omega (arith, fewer, ap length (ok_same _ (take n block) _ refused_written e))))

-- both of them
one_of : (b : Bool) (x y : Option KeeperAnswer) (told : KeeperAnswer) → cond b x y ≡ Some told → ((b ≡ true) × (x ≡ Some told)) ⊎ ((b ≡ false) × (y ≡ Some told))
one_of true x y told h = inl (refl, h)
one_of false x y told h = inr (refl, h)

some_same : (x y : KeeperAnswer) → Some x ≡ Some y → x ≡ y
some_same x y e = cc

no_answer : (told : KeeperAnswer) → None ≡ Some told → ⊥
no_answer told h = cc

kind_is : (kind : ℕ) (told : KeeperAnswer) → kind_told kind ≡ Some told → read_whole answer (version ∷ (kind ∷ [])) ≡ Ok told
kind_is kind told h =
    elim (one_of (kind == 1) (Some answers.Kept) (if kind == 2 then Some answers.Refused else None) told h) as (λ _. read_whole answer (version ∷ (kind ∷ [])) ≡ Ok told) [
      | inl p ↦ ap (λ k. read_whole answer (version ∷ (k ∷ []))) (eqb-true kind 1 p.0) ∙ kept_read ∙ ap (λ a. Ok a) (some_same _ told p.1)
      | inr p ↦ elim (one_of (kind == 2) (Some answers.Refused) None told p.1) as (λ _. read_whole answer (version ∷ (kind ∷ [])) ≡ Ok told) [
        | inl q ↦ ap (λ k. read_whole answer (version ∷ (k ∷ []))) (eqb-true kind 2 q.0) ∙ refused_read ∙ ap (λ a. Ok a) (some_same _ told q.1)
        | inr q ↦ absurd (no_answer told q.1)
      ]
    ]

short_is : (bytes : List ℕ) (told : KeeperAnswer) → short_told bytes ≡ Some told → read_whole answer bytes ≡ Ok told
short_is [] told h = absurd (no_answer told h)
short_is (first ∷ []) told h = absurd (no_answer told h)
short_is (first ∷ (kind ∷ [])) told h =
    elim (one_of (first == version) (kind_told kind) None told h) as (λ _. read_whole answer (first ∷ (kind ∷ [])) ≡ Ok told) [
      | inl p ↦ ap (λ v. read_whole answer (v ∷ (kind ∷ []))) (eqb-true first version p.0) ∙ kind_is kind told p.1
      | inr p ↦ absurd (no_answer told p.1)
    ]
short_is (first ∷ (kind ∷ (other ∷ more))) told h = absurd (no_answer told h)

short_isnt : (bytes own : List ℕ) (told : KeeperAnswer) → short_told bytes ≡ None → short_told own ≡ Some told → bytes ≡ own → ⊥
short_isnt bytes own told none some e = let same : short_told bytes ≡ short_told own = ap short_told e in cc

pub short_heard : (before after : Option (List ℕ)) (n : ℕ) (block : List ℕ) (result : Option KeeperAnswer) → Consumes before after (take n block) → length block ≡ 2 → 2 ≤ n → result ≡ short_told block
    → IfSome result (λ told. HearsIn 2 before told after)
short_heard before after n block None c two all is = tt
short_heard before after n block (Some told) c two all is = (block, front_whole before after n 2 block c two all, two, short_is block told (sym is))

pub short_lost : (before after : Option (List ℕ)) (n : ℕ) (block : List ℕ) (result : Option KeeperAnswer) → Consumes before after (take n block) → length block ≡ 2 → 2 ≤ n → result ≡ short_told block
    → IfNone result (LosesShort before after)
short_lost before after n block (Some told) c two all is = tt
short_lost before after n block None c two all is = (
  block,
  front_whole before after n 2 block c two all,
  λ e. short_isnt block (version ∷ (1 ∷ [])) answers.Kept (sym is) refl (sym (ok_same _ block _ kept_written e)),
  λ e. short_isnt block (version ∷ (2 ∷ [])) answers.Refused (sym is) refl (sym (ok_same _ block _ refused_written e)),
)

-- fewer bytes than the number in front has
pub cut_unheard : (text after : Option (List ℕ)) (n : ℕ) (head : List ℕ) → Consumes text after (take n head) → n < 4 → IsUnheard text after
cut_unheard text after n head c few =
    let fewer : length (take n head) < 4 = omega (arith, few, length-take n head) in
    record {
      taken = take n head;
      gone = c;
      not_kept = λ e. absurd (omega (arith, fewer, ap length (ok_same _ (take n head) _ kept_framed e)));
      not_refused = λ e. absurd (omega (arith, fewer, ap length (ok_same _ (take n head) _ refused_framed e)));
    }

-- another number of bytes than those two have
long_unheard : (text mid after : Option (List ℕ)) (head : List ℕ) (count : ℕ) → Consumes text mid head → length head ≡ 4 → count ≡ big_number 4 head → count ≢ 2 → LosesSome mid after
    → IsUnheard text after
long_unheard text mid after head count c four counts other h =
    let not_two : (back : List ℕ) → 0 ∷ (0 ∷ (0 ∷ (2 ∷ back))) ≡ head ++ h.0 → ⊥ =
    λ back e. other (counts ∙ ap (big_number 4) (head_two head h.0 back four (sym e)).0) in
    record {
      taken = head ++ h.0;
      gone = Consumes-trans text mid after head h.0 c h.1;
      not_kept = λ e. not_two _ (ok_same _ _ _ kept_framed e);
      not_refused = λ e. not_two _ (ok_same _ _ _ refused_framed e);
    }

-- as many, but others
short_unheard : (text mid after : Option (List ℕ)) (head : List ℕ) → Consumes text mid head → length head ≡ 4 → LosesShort mid after → IsUnheard text after
short_unheard text mid after head c four h = record {
  taken = head ++ h.0;
  gone = Consumes-trans text mid after head h.0 c h.1;
  not_kept = λ e. h.2 (kept_written ∙ ap (λ (u : List ℕ). Ok u) (sym (head_two head h.0 _ four (sym (ok_same _ _ _ kept_framed e))).1));
  not_refused = λ e. h.3 (refused_written ∙ ap (λ (u : List ℕ). Ok u) (sym (head_two head h.0 _ four (sym (ok_same _ _ _ refused_framed e))).1));
}

pub counted_so : (text mid after : Option (List ℕ)) (n : ℕ) (head : List ℕ) (count : ℕ) (result : Option KeeperAnswer) → Consumes text mid (take n head) → length head ≡ 4 → 4 ≤ n → count ≡ big_number 4 head
    → IfNone result (LosesCounted count mid after) → IfNone result (IsUnheard text after)
counted_so text mid after n head count (Some told) c four all counts h = tt
counted_so text mid after n head count None c four all counts (inl h) = short_unheard text mid after head (front_whole text mid n 4 head c four all) four h.1
counted_so text mid after n head count None c four all counts (inr h) = long_unheard text mid after head count (front_whole text mid n 4 head c four all) four counts h.0 h.1
