-- Decimal texts without leading zeros.
use Rattle.std.proofs.Common.{◌≡◌, ◌≢◌, ℕ, ◌<◌, ◌^◌, List, length, get_or, Result, Ok, Err, sym, ap, ◌∙◌, arith, codes, zero, suc, subst, Bool, true, false, not}
use Rattle.std.specs.Str.{bytes_eq}
use Rattle.std.proofs.lemmas.Bool.{not-false, not-true, true≢false}
use Rattle.std.proofs.lemmas.Slice.Eq.{bytes_eq-Decides}
use Rattle.std.specs.Prelude.{IfSome, IfNone, decimal, Option}
use Rattle.std.specs.Result.{result_ok}
use Rattle.std.specs.Str.Parse.{ParsesUnsigned, AllDigits, digits_value}
use Rattle.std.proofs.lemmas.Str.Parse.{IsNumeralModel, numerals_by_value, tells_digits, parse_plain, not_in_digits}
use Rattle.std.proofs.lemmas.Fmt.{decimal-digits_value, digits_decimal, digits_value-decimal, decimal_nonempty, first_decimal, decimal_digit}

-- what `!=` says of two texts
pub same_text : (xs ys : List ℕ) (r : Bool) → r ≡ not (bytes_eq xs ys) → r ≡ false → xs ≡ ys
same_text xs ys r is h = (bytes_eq-Decides xs ys).0 (not-false (bytes_eq xs ys) (sym is ∙ h))

pub other_text : (xs ys : List ℕ) (r : Bool) → r ≡ not (bytes_eq xs ys) → r ≡ true → xs ≢ ys
other_text xs ys r is h same = true≢false (sym ((bytes_eq-Decides xs ys).1 same) ∙ not-true (bytes_eq xs ys) (sym is ∙ h))

pub unlike : (xs ys : List ℕ) (r : Bool) → r ≡ bytes_eq xs ys → r ≡ false → xs ≢ ys
unlike xs ys r is h same = true≢false (sym ((bytes_eq-Decides xs ys).1 same) ∙ sym is ∙ h)

-- what `==` says of two texts
pub alike : (xs ys : List ℕ) (r : Bool) → r ≡ bytes_eq xs ys → r ≡ true → xs ≡ ys
alike xs ys r is h = (bytes_eq-Decides xs ys).0 (sym is ∙ h)

pub own : IsNumeralModel (AllDigits 10) (digits_value 10)
own = numerals_by_value (AllDigits 10) tells_digits

-- the text of a number begins with no sign
pub no_sign : (n : ℕ) (bs : List ℕ) → n < 2 ^ 64 → decimal n ≡ bs → get_or bs 0 0 ≢ 43
no_sign n bs small same =
    let digits : AllDigits 10 bs = subst (AllDigits 10) same (digits_decimal own n small) in
    let some : 0 < length bs = subst (λ t. 0 < length t) same (decimal_nonempty n small) in
    not_in_digits own bs 43 digits (λ r. absurd (omega (arith, r.0))) 0 some

-- and with a zero only where it is 0
pub no_zero : (n : ℕ) (bs : List ℕ) → n < 2 ^ 64 → decimal n ≡ bs → get_or bs 0 0 ≡ 48 → bs ≡ codes "0"
no_zero zero bs small same first = sym same ∙ decimal_digit 0 (omega arith)
no_zero (suc m) bs small same first =
    let above : 48 < get_or bs 0 0 = subst (λ t. 48 < get_or t 0 0) same (first_decimal (suc m) (omega arith) small) in
    absurd (omega arith)

module _ {E : Type 0} where
  -- what `parse` gives of a text without a sign and a leading zero is the number of that text
  pub some_number : (bs : List ℕ) (r : Result ℕ E) (o : Option ℕ) → o ≡ result_ok r → ParsesUnsigned 64 10 bs r → get_or bs 0 0 ≢ 43 → (get_or bs 0 0 ≡ 48 → bs ≡ codes "0") → IfSome o (λ n. decimal n ≡ bs)
  some_number bs (Ok n) o is h sign lead =
      let parts = parse_plain own {E = E} 64 bs (Ok n) h sign in
      let same = ap decimal parts.1 ∙ decimal-digits_value own bs parts.0.0 parts.0.1 (λ e. ap length (lead e)) parts.0.2 in
      rw is same
  some_number bs (Err e) o is h sign lead = rw is tt

  -- where it gives none, the text is that of no number
  pub no_number : (bs : List ℕ) (r : Result ℕ E) (o : Option ℕ) → o ≡ result_ok r → ParsesUnsigned 64 10 bs r → IfNone o ((n : ℕ) → n < 2 ^ 64 → decimal n ≢ bs)
  no_number bs (Ok n) o is h = rw is tt
  no_number bs (Err e) o is h =
      let none : (n : ℕ) → n < 2 ^ 64 → decimal n ≢ bs = λ n small same.
      let parts = parse_plain own {E = E} 64 bs (Err e) h (no_sign n bs small same) in
      let digits : AllDigits 10 bs = subst (AllDigits 10) same (digits_decimal own n small) in
      let some : 0 < length bs = subst (λ t. 0 < length t) same (decimal_nonempty n small) in
      let value : digits_value 10 bs ≡ n = ap (digits_value 10) (sym same) ∙ digits_value-decimal own n small in
      parts (digits, some, rw value small)
      in rw is none
