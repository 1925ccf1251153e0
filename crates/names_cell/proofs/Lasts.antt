-- What stands behind the last slash.
use Rattle.std.proofs.Common.{◌≡◌, ℕ, ◌+◌, ◌-◌, ◌<◌, ◌≤◌, List, length, get_or, drop, true, false, eqb, refl, ap, ◌∙◌, arith}
use Rattle.std.specs.Prelude.{not, ◌≢◌}
use Rattle.std.specs.List.{after_last, suffix_len}
use Rattle.std.proofs.lemmas.List.Sums.{suffix_len_is}
use Rattle.std.proofs.lemmas.Bool.Decides.{nat_tests}
use Rattle.names_cell.specs.Text.{is_slash}

no_slash : (b : ℕ) → b ≢ 47 → not (is_slash b) ≡ true
no_slash b h = let e : eqb b 47 ≡ false = grind (arith, nat_tests) in rw e refl

a_slash : (b : ℕ) → b ≡ 47 → not (is_slash b) ≡ false
a_slash b h = let e : eqb b 47 ≡ true = grind (arith, nat_tests) in rw e refl

behind : (bs : List ℕ) (n k : ℕ) → n ≤ length bs → suffix_len (λ x. not (is_slash x)) bs ≡ length bs - n → k ≡ n → after_last is_slash bs ≡ drop k bs
behind bs n k h e q = let f : length bs - suffix_len (λ x. not (is_slash x)) bs ≡ k = rw e (omega arith) in ap (λ m. drop m bs) f

-- where the last slash is
pub last_at : (bs : List ℕ) (k : ℕ) → k < length bs → get_or bs k 0 ≡ 47 → ((i : ℕ) → k < i → i < length bs → get_or bs i 0 ≢ 47) → after_last is_slash bs ≡ drop (k + 1) bs
last_at bs k lt at none =
    let here : k + 1 - 1 ≡ k = omega arith in
    behind bs (k + 1) (k + 1) (omega arith)
    (suffix_len_is (λ x. not (is_slash x)) bs (k + 1) 0 (omega arith) (λ i l m. no_slash (get_or bs i 0) (none i (omega arith) m)) (λ _. a_slash (get_or bs (k + 1 - 1) 0) (ap (λ m. get_or bs m 0) here ∙ at)))
    refl

-- there is none
pub last_none : (bs : List ℕ) → ((i : ℕ) → i < length bs → get_or bs i 0 ≢ 47) → after_last is_slash bs ≡ bs
last_none bs none =
    behind bs 0 0 (omega arith)
    (suffix_len_is (λ x. not (is_slash x)) bs 0 0 (omega arith) (λ i l m. no_slash (get_or bs i 0) (none i m)) (λ h. absurd (omega arith)))
    refl
