-- Numbers in SQL, and when two of them are equal.
use Rattle.std.proofs.Common.{◌≡◌, ℕ, suc, cond, ℤ, pos, negsuc, true, false, Some, None, sym, ap, ap₂, ◌∙◌, arith}
use Rattle.std.specs.Prelude.{int_lt}
use Rattle.std.specs.Ordering.{int_eq, nat_cmp, is_eq}
use Rattle.std.proofs.lemmas.Bool.Decides.{nat_tests}
use Rattle.std.proofs.lemmas.Int.{ints}
use Rattle.sqlite_value.specs.declared.value.Value.TheVariants.{Int}
use Rattle.sqlite_value.specs.declared.keys.Collation.TheVariants.{Binary}
use Rattle.sqlite_schema.specs.Rules.{equal}
use Rattle.rows_sql.specs.Decode.{count_of}
use Rattle.rows_sql.proofs.Truths.{same_some}
use Rattle.rows_sql.proofs.Columns.{equal-Int}

below_none : (n : ℕ) → int_lt (pos n) (pos 0) ≡ false
below_none n = grind (arith, ints, nat_tests)

all_below : (n : ℕ) → int_lt (negsuc n) (pos 0) ≡ true
all_below n = grind (arith, ints, nat_tests)

no_count : {X : Type 0} (x y : X) → cond true None (Some y) ≡ Some x → ⊥
no_count x y e = cc

pub count_is : (n : ℤ) (x : ℕ) → count_of n ≡ Some x → n ≡ pos x
count_is (pos n) x h = ap pos (same_some (ap (λ b. cond b None (Some n)) (sym (below_none n)) ∙ h))
count_is (negsuc n) x h = absurd (no_count x (suc n) (ap (λ b. cond b None (Some (suc n))) (sym (all_below n)) ∙ h))

eq_nats : (x y : ℕ) → int_eq (pos x) (pos y) ≡ is_eq (nat_cmp y x)
eq_nats x y = grind (arith, ints, nat_tests)

-- two stored numbers are equal where they are read as equal ones
pub equal_counts : (a b : ℤ) (x y : ℕ) → count_of a ≡ Some x → count_of b ≡ Some y → equal Binary (Int a) (Int b) ≡ is_eq (nat_cmp y x)
equal_counts a b x y ca cb = equal-Int a b ∙ ap₂ int_eq (count_is a x ca) (count_is b y cb) ∙ eq_nats x y
