-- A part of a text, from the calls that form it.
use Rattle.std.proofs.Common.{◌≡◌, ℕ, zero, suc, ◌+◌, ◌-◌, ◌≤◌, min, List, [], ◌∷◌, ◌++◌, length, take, drop, Option, None, Some, refl, sym, ap, subst, ◌∙◌, append-nil, take_all, arith}
use Rattle.std.specs.Prelude.{IfSome}
use Rattle.std.proofs.lemmas.List.{append_assoc, length-take, length-take-le, take_min}
use Rattle.std.proofs.Math.Seq.{take-append-add}
use Rattle.std.proofs.lemmas.Slice.{take-put_mid}
use borrow.Rule.Slice.PartMut.{put_mid}
use Rattle.std.specs.Fmt.{WritesText}
use Rattle.std.specs.List.{FoldsTo, concat}

-- ---- lists

take_front : (n : ℕ) (xs ys : List ℕ) → take n (take n xs ++ ys) ≡ take n (xs ++ ys)
take_front zero xs ys = refl
take_front (suc n) [] ys = refl
take_front (suc n) (x ∷ xs) ys = ap (λ (l : List ℕ). x ∷ l) (take_front n xs ys)

drop_none : (n : ℕ) → drop {A = ℕ} n [] ≡ []
drop_none zero = refl
drop_none (suc n) = refl

drop_both : (n : ℕ) (xs ys : List ℕ) → drop n (xs ++ ys) ≡ drop n xs ++ drop (n - length xs) ys
drop_both n [] ys =
    let same : n ≡ n - 0 = omega arith in
    ap (λ (l : List ℕ). l ++ drop n ys) (sym (drop_none n)) ∙ ap (λ k. drop {A = ℕ} n [] ++ drop k ys) same
drop_both zero (x ∷ xs) ys =
    let none : 0 ≡ 0 - length (x ∷ xs) = omega arith in
    ap (λ k. (x ∷ xs) ++ drop k ys) none
drop_both (suc n) (x ∷ xs) ys =
    let same : n - length xs ≡ suc n - length (x ∷ xs) = omega arith in
    drop_both n xs ys ∙ ap (λ k. drop n xs ++ drop k ys) same

-- as many bytes more as there is room for
pub kept_more : (limit count more : ℕ) (room bytes chunk : List ℕ) → count ≤ limit → length room ≡ limit → more ≡ min (length bytes) (limit - count) → chunk ≡ take more bytes
    → take (count + more) (put_mid count (count + more - count) room chunk) ≡ take limit (take count room ++ bytes)
kept_more limit count more room bytes chunk fits full is taken =
    let held : length (take count room) ≡ count = length-take-le count room (omega (arith, fits, full)) in
    let many : length chunk ≡ more = ap length taken ∙ length-take more bytes ∙ omega (arith, is) in
    let few : take more bytes ≡ take (limit - count) bytes = ap (λ n. take n bytes) (is ∙ omega arith) ∙ take_min (limit - count) bytes in
    let whole : length (take count room) + (limit - count) ≡ limit = omega (arith, held, fits) in
    take-put_mid count (count + more - count) room chunk (count + more) (omega (arith, many)) (omega (arith, fits, full))
    ∙ ap (λ (l : List ℕ). take count room ++ l) (taken ∙ few)
    ∙ sym (take-append-add (take count room) bytes (limit - count))
    ∙ ap (λ n. take n (take count room ++ bytes)) whole

-- ---- calls

module _ {W : Type 0} (skip : W → ℕ) (held : W → List ℕ) where
  abbrev pub Took : W → List ℕ → W → Type 0
  Took w bytes v = (skip v ≡ skip w - length bytes) × (held v ≡ take 4096 (held w ++ drop (skip w) bytes))

  after_calls : (w : W) (parts : List (List ℕ)) (v : W) → length (held w) ≤ 4096 → FoldsTo Took w parts v → held v ≡ take 4096 (held w ++ drop (skip w) (concat parts))
  after_calls w [] v short p =
      let none : held w ++ drop (skip w) [] ≡ held w = ap (λ (l : List ℕ). held w ++ l) (drop_none (skip w)) ∙ append-nil (held w) in
      ap held (sym p) ∙ sym (ap (take 4096) none ∙ take_all 4096 (held w) short)
  after_calls w (x ∷ xs) v short p =
      let mid = p.0 in
      let now : List ℕ = held w ++ drop (skip w) x in
      let rest : List ℕ = concat xs in
      let short_mid : length (held mid) ≤ 4096 = omega (arith, ap length p.1.1, length-take 4096 now) in
      let joined : now ++ drop (skip w - length x) rest ≡ held w ++ drop (skip w) (x ++ rest) =
      append_assoc (held w) (drop (skip w) x) (drop (skip w - length x) rest) ∙ ap (λ (l : List ℕ). held w ++ l) (sym (drop_both (skip w) x rest)) in
      after_calls mid xs v short_mid p.2
      ∙ ap (λ n. take 4096 (held mid ++ drop n rest)) p.1.0
      ∙ ap (λ (l : List ℕ). take 4096 (l ++ drop (skip w - length x) rest)) p.1.1
      ∙ take_front 4096 now (drop (skip w - length x) rest)
      ∙ ap (take 4096) joined

  -- what began with nothing behind so many bytes
  pub window_of : (at : ℕ) (w v : W) (o : Option (List ℕ)) → skip w ≡ at → held w ≡ [] → WritesText Took w o v → IfSome o (λ text. held v ≡ take 4096 (drop at text))
  window_of at w v None is none p = tt
  window_of at w v (Some text) is none p =
      let short : length (held w) ≤ 4096 = subst (λ (l : List ℕ). length l ≤ 4096) (sym none) (omega arith) in
      after_calls w p.parts v short p.calls
      ∙ ap (λ (l : List ℕ). take 4096 (l ++ drop (skip w) (concat p.parts))) none
      ∙ ap (λ n. take 4096 (drop n (concat p.parts))) is
      ∙ ap (λ (l : List ℕ). take 4096 (drop at l)) p.whole
