-- Bytes and the texts that write them.
use Rattle.std.proofs.Common.{◌≡◌, ◌≢◌, ◌⊎◌, inl, inr, ℕ, ◌<◌, ◌^◌, ◌*◌, ◌==◌, zero, suc, lit<, List, [], ◌∷◌, ◌++◌, length, drop, true, Result, Ok, Err, sym, ap, subst, ◌∙◌, arith, codes}
use Rattle.std.proofs.lemmas.Bool.{eqb-true}
use Rattle.hex.specs.Hex.{IsBytes, decode_of, encode_lower, lower_digits, is_hex_digit}
use Rattle.hex.specs.declared.error.FromHexError.{FromHexError}
use Rattle.hex.specs.declared.error.FromHexError.TheVariants.{OutOfMemory}
use Rattle.hex.proofs.HexLemmas.{decode_of-encode_lower, decode_of-same, decode_of-ok, length-encode_with}
use Rattle.std.specs.Prelude.{decimal, Option, Some, None, MatchOption}
use denote.Ref.{Bor}
use Rattle.std.proofs.lemmas.Str.Pattern.{IsSplitOnceResult, split_after}
use Rattle.std.proofs.lemmas.Str.Parse.{not_in_digits}
use Rattle.std.proofs.lemmas.Fmt.{digits_decimal}
use Rattle.scripts.proofs.Decimals.{own}
use Rattle.scripts.specs.Words.{IsWritten, IsFilled, IsContent, FindsBytes}

-- bytes that were decoded are those of the text
pub decoded : (word bytes found : List ℕ) → IsBytes bytes → IsWritten word bytes → decode_of word ≡ Ok found → found ≡ bytes
decoded word bytes found h w e =
    decode_of-same word found bytes e (ap decode_of w.0 ∙ decode_of-encode_lower bytes h)

-- a text that isn't decoded is that of no bytes
pub undecoded : (word bytes : List ℕ) (fault : FromHexError) → IsBytes bytes → IsWritten word bytes → (fault ≡ OutOfMemory) ⊎ (decode_of word ≡ Err fault) → ¬ (fault ≡ OutOfMemory) → ⊥
undecoded word bytes fault h w (inl e) other = other e
undecoded word bytes fault h w (inr e) other =
    let both : decode_of word ≡ Ok bytes = ap decode_of w.0 ∙ decode_of-encode_lower bytes h in
    cc

pub are_bytes : (word found bytes : List ℕ) → bytes ≡ found → decode_of word ≡ Ok found → IsBytes bytes
are_bytes word found bytes same e = subst IsBytes (sym same) (decode_of-ok word found e).3

pub none_found : (found bytes : List ℕ) (count : ℕ) → count ≡ length found → (count == 0) ≡ true → found ≡ bytes → bytes ≡ []
none_found [] bytes count n e same = sym same
none_found (b ∷ rest) bytes count n e same =
    let zero : count ≡ 0 = eqb-true count 0 e in
    absurd (omega (arith, n, zero))

-- what was written anew from the bytes is the text
pub written_anew : (word bytes found slice text shown : List ℕ) → IsWritten word bytes → found ≡ bytes → slice ≡ found → text ≡ encode_lower slice → shown ≡ text → shown ≡ word
written_anew word bytes found slice text shown w f s t e = e ∙ t ∙ ap encode_lower (s ∙ f) ∙ sym w.0

-- where a text says how often a byte stands, it is cut at its colon
pub filled_parts : (word bytes : List ℕ) (w : IsFilled word bytes) (r : Option (Bor (List ℕ) × Bor (List ℕ))) → IsSplitOnceResult 58 word r → MatchOption r ⊥ (λ x. (x.0.now ≡ decimal w.count) × (x.1.now ≡ encode_lower (w.byte ∷ [])))
filled_parts word bytes w r split =
    let small : w.count < 2 ^ 64 = omega (arith, w.few) in
    let digits = digits_decimal own w.count small in
    split_after 58 word (decimal w.count) (encode_lower (w.byte ∷ [])) r split (lit< tt) w.text (not_in_digits own (decimal w.count) 58 digits (λ r. absurd (omega (arith, r.1))))

pub one_byte : (byte : ℕ) → byte < 256 → IsBytes (byte ∷ [])
one_byte byte small zero = small
one_byte byte small (suc i) = omega arith

-- a text that writes one byte writes no other number of bytes
pub length_of_one : (word bytes : List ℕ) (byte : ℕ) → word ≡ encode_lower bytes → word ≡ encode_lower (byte ∷ []) → length bytes ≡ 1
length_of_one word bytes byte e f =
    let long : length word ≡ 2 * length bytes = ap length e ∙ length-encode_with lower_digits bytes in
    let short : length word ≡ 2 * 1 = ap length f ∙ length-encode_with lower_digits (byte ∷ []) in
    omega (arith, long, short)

-- `fill:` begins with no two digits
not_digits : (word rest bytes : List ℕ) → IsBytes bytes → word ≡ encode_lower bytes → word ≡ codes "fill:" ++ rest → ⊥
not_digits word rest bytes h e f =
    let there : decode_of (codes "fill:" ++ rest) ≡ Ok bytes = ap decode_of (sym f ∙ e) ∙ decode_of-encode_lower bytes h in
    let digits = (decode_of-ok (codes "fill:" ++ rest) bytes there).1 in
    let second : is_hex_digit 105 ≡ true = digits 1 0 (omega arith) in
    cc

module _ {E : Type 0} where
  -- after `fill:`
  pub fill_read : (word rest : List ℕ) (r : Result (Option (List ℕ)) E) → word ≡ codes "fill:" ++ rest → FindsBytes (IsFilled rest) r → FindsBytes (IsContent word) r
  fill_read word rest (Err e) here h = tt
  fill_read word rest (Ok (Some bytes)) here h = (inr (inl (rest, here, h.0)), h.1)
  fill_read word rest (Ok None) here h = λ bytes b w.
      elim w [
        | inl dash ↦ let both : codes "-" ≡ codes "fill:" ++ rest = sym dash.0 ∙ here in cc
        | inr (inl fill) ↦ h bytes b (subst (λ t. IsFilled t bytes) (ap (λ t. drop 5 t) (sym fill.1 ∙ here)) fill.2)
        | inr (inr text) ↦ not_digits word rest bytes b text.0 here
      ]

  -- without
  pub bytes_read : (word : List ℕ) (r : Result (Option (List ℕ)) E) → word ≢ codes "-" → ((rest : List ℕ) → word ≡ codes "fill:" ++ rest → ⊥) → FindsBytes (IsWritten word) r → FindsBytes (IsContent word) r
  bytes_read word (Err e) dash fill h = tt
  bytes_read word (Ok (Some bytes)) dash fill h = (inr (inr h.0), h.1)
  bytes_read word (Ok None) dash fill h = λ bytes b w.
      elim w [
        | inl here ↦ dash here.0
        | inr (inl here) ↦ fill here.0 here.1
        | inr (inr text) ↦ h bytes b text
      ]
