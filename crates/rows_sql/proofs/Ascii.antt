-- Names and components are ASCII, so they are UTF-8.
use Rattle.std.proofs.Common.{◌≡◌, ℕ, zero, suc, ◌<◌, Bool, true, false, ◌&&◌, cond, List, [], ◌∷◌, drop, refl, sym, ap, ◌∙◌, arith, inl, inr, codes, true≢false, subst, None}
use Rattle.std.specs.Prelude.{IsUtf8, nat_eq, nat_lt}
use Rattle.std.specs.Str.{IsAscii}
use Rattle.std.specs.List.{list_all, slice_split, onto_first, starts_with}
use Rattle.std.proofs.lemmas.Bool.{and_parts, and_from, cases_Bool}
use Rattle.std.proofs.lemmas.Bool.Decides.{nat_tests}
use Rattle.std.proofs.lemmas.Str.{IsUtf8-from_ascii}
use Rattle.sqlite_value.specs.declared.value.Value.{Value}
use Rattle.sqlite_value.specs.Order.{bytes}
use Rattle.names_cell.specs.Text.{is_component_byte, is_component, is_slash, is_name}
use Rattle.rows_sql.specs.Decode.{name_in, component_in}

abbrev is_low : ℕ → Bool
is_low b = nat_lt b 128

abbrev low_part : List ℕ → Bool
low_part = list_all is_low

byte_low : (b : ℕ) → is_component_byte b ≡ true → nat_lt b 128 ≡ true
byte_low b h = grind (arith, nat_tests)

slash_low : (b : ℕ) → is_slash b ≡ true → nat_lt b 128 ≡ true
slash_low b h = grind (arith, nat_tests)

letter_low : (b n : ℕ) → n < 128 → nat_eq n b ≡ true → nat_lt b 128 ≡ true
letter_low b n low h = grind (arith, nat_tests)

all_more : {X : Type 0} (p q : X → Bool) → ((x : X) → p x ≡ true → q x ≡ true) → (xs : List X) → list_all p xs ≡ true → list_all q xs ≡ true
all_more p q h [] all = refl
all_more p q h (x ∷ xs) all = let t = and_parts (p x) (list_all p xs) all in and_from (q x) (list_all q xs) (h x t.0) (all_more p q h xs t.1)

component_low : (text : List ℕ) → is_component text ≡ true → low_part text ≡ true
component_low text h = all_more is_component_byte is_low byte_low text (and_parts _ _ h).1

onto_low : (x : ℕ) (parts : List (List ℕ)) → list_all low_part (onto_first x parts) ≡ true → (is_low x ≡ true) × (list_all low_part parts ≡ true)
onto_low x [] h = ((and_parts (is_low x) true (and_parts (is_low x && true) true h).0).0, refl)
onto_low x (p ∷ ps) h =
    let a = and_parts (is_low x && low_part p) (list_all low_part ps) h in
    let b = and_parts (is_low x) (low_part p) a.0 in
    (b.0, and_from (low_part p) (list_all low_part ps) b.1 a.1)

split_low : (bs : List ℕ) → list_all low_part (slice_split is_slash bs) ≡ true → low_part bs ≡ true
split_low [] h = refl
split_low (x ∷ xs) h =
    let parts = slice_split is_slash xs in
    elim (cases_Bool (is_slash x)) [
      | inl t ↦ and_from (is_low x) (low_part xs) (slash_low x t) (split_low xs (ap (λ b. list_all low_part (cond b ([] ∷ parts) (onto_first x parts))) (sym t) ∙ h))
      | inr f ↦ let o = onto_low x parts (ap (λ b. list_all low_part (cond b ([] ∷ parts) (onto_first x parts))) (sym f) ∙ h) in and_from (is_low x) (low_part xs) o.0 (split_low xs o.1)
    ]

front_low : (text : List ℕ) → starts_with nat_eq text (codes "/ls/") ≡ true → low_part (drop 4 text) ≡ true → low_part text ≡ true
front_low [] s h = refl
front_low (a ∷ []) s h = absurd (true≢false (sym (and_parts (nat_eq 47 a) false s).1))
front_low (a ∷ b ∷ []) s h = absurd (true≢false (sym (and_parts (nat_eq 108 b) false (and_parts (nat_eq 47 a) (nat_eq 108 b && false) s).1).1))
front_low (a ∷ b ∷ c ∷ []) s h = absurd (true≢false (sym (and_parts (nat_eq 115 c) false (and_parts (nat_eq 108 b) (nat_eq 115 c && false) (and_parts (nat_eq 47 a) (nat_eq 108 b && (nat_eq 115 c && false)) s).1).1).1))
front_low (a ∷ b ∷ c ∷ d ∷ text) s h =
    let p = and_parts (nat_eq 47 a) (nat_eq 108 b && (nat_eq 115 c && (nat_eq 47 d && true))) s in
    let q = and_parts (nat_eq 108 b) (nat_eq 115 c && (nat_eq 47 d && true)) p.1 in
    let r = and_parts (nat_eq 115 c) (nat_eq 47 d && true) q.1 in
    let t = and_parts (nat_eq 47 d) true r.1 in
    and_from (is_low a) (is_low b && (is_low c && (is_low d && low_part text))) (letter_low a 47 (omega arith) p.0)
    (and_from (is_low b) (is_low c && (is_low d && low_part text)) (letter_low b 108 (omega arith) q.0)
    (and_from (is_low c) (is_low d && low_part text) (letter_low c 115 (omega arith) r.0) (and_from (is_low d) (low_part text) (letter_low d 47 (omega arith) t.0) h)))

name_low : (text : List ℕ) → is_name text ≡ true → low_part text ≡ true
name_low text h =
    let p = and_parts _ _ h in
    front_low text (and_parts _ _ p.0).0 (split_low (drop 4 text) (all_more is_component low_part component_low (slice_split is_slash (drop 4 text)) p.1))

under : (b : ℕ) → nat_lt b 128 ≡ true → b < 128
under b h = grind (arith, nat_tests)

ascii : (bs : List ℕ) → low_part bs ≡ true → IsAscii bs
ascii [] h i = omega arith
ascii (b ∷ bs) h zero = under b (and_parts (is_low b) (low_part bs) h).0
ascii (b ∷ bs) h (suc i) = ascii bs (and_parts (is_low b) (low_part bs) h).1 i

pub component_is_text : (text : List ℕ) → ¬ IsUtf8 text → is_component text ≡ false
component_is_text text h = elim (cases_Bool (is_component text)) [ inl t ↦ absurd (h (IsUtf8-from_ascii text (ascii text (component_low text t)))) | inr f ↦ f ]

pub name_is_text : (text : List ℕ) → ¬ IsUtf8 text → is_name text ≡ false
name_is_text text h = elim (cases_Bool (is_name text)) [ inl t ↦ absurd (h (IsUtf8-from_ascii text (ascii text (name_low text t)))) | inr f ↦ f ]

pub no_component : (v : Value) (bs : List ℕ) → bs ≡ bytes v → ¬ IsUtf8 bs → None ≡ component_in v
no_component v bs is none = rw (component_is_text (bytes v) (subst (λ b. ¬ IsUtf8 b) is none)) refl

pub no_name : (v : Value) (bs : List ℕ) → bs ≡ bytes v → ¬ IsUtf8 bs → None ≡ name_in v
no_name v bs is none = rw (name_is_text (bytes v) (subst (λ b. ¬ IsUtf8 b) is none)) refl
