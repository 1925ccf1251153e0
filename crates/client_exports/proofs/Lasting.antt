-- A lease that is unexpired at a moment was so before: so its end is found by halving.
use Rattle.std.proofs.Common.{◌≡◌, ℕ, ◌+◌, ◌-◌, ◌*◌, ◌^◌, ◌<◌, ◌≤◌, Bool, true, false, Option, Some, None, refl, arith}
use Rattle.std.specs.Prelude.{nat_lt}
use Rattle.std.proofs.lemmas.Bool.Decides.{nat_tests}
use Rattle.lease_core.specs.Lease.{LeaseTerms, IsMoment}
use Rattle.cache_core.specs.Caches.{is_leased}
use Rattle.client_core.proofs.Noting.{less, not_less}
use Rattle.client_exports.specs.Leases.{EndsAt}

-- the moments before `low`, at which it is unexpired, and those from `high` on, at which it isn't
pub record Between (lease : Option LeaseTerms) (low high : ℕ) : Type 0 where
  pub below : (now : ℕ) → now < low → is_leased lease now ≡ true
  pub above : (now : ℕ) → IsMoment now → high ≤ now → is_leased lease now ≡ false
  pub order : low ≤ high
  pub limit : high ≤ 2 ^ 53

earlier : (sent span n m : ℕ) → n ≤ m → nat_lt (17 * ((m - sent) + 1)) (16 * span) ≡ true → nat_lt (17 * ((n - sent) + 1)) (16 * span) ≡ true
earlier sent span n m le h = grind (arith, nat_tests)

pub was_leased : (lease : Option LeaseTerms) (n m : ℕ) → n ≤ m → is_leased lease m ≡ true → is_leased lease n ≡ true
was_leased None n m le h = cc
was_leased (Some terms) n m le h = earlier terms.sent terms.span n m le h

isnt_both : (b : Bool) → b ≡ true → b ≡ false → ⊥
isnt_both b is isnt = cc

stays_ended : (lease : Option LeaseTerms) (n m : ℕ) (b : Bool) → n ≤ m → is_leased lease n ≡ false → is_leased lease m ≡ b → b ≡ false
stays_ended lease n m true le ended h = absurd (isnt_both (is_leased lease n) (was_leased lease n m le h) ended)
stays_ended lease n m false le ended h = refl

pub begins : (lease : Option LeaseTerms) → Between lease 0 (2 ^ 53)
begins lease = record {
  below = λ now h. absurd (omega (arith, h));
  above = λ now h le. absurd (omega (arith, h, le));
  order = omega arith;
  limit = omega arith;
}

pub higher : (lease : Option LeaseTerms) (low middle high : ℕ) → Between lease low high → middle < high → is_leased lease middle ≡ true → Between lease (middle + 1) high
higher lease low middle high b h leased = record {
  below = λ now before. was_leased lease now middle (omega (arith, before)) leased;
  above = b.above;
  order = omega (arith, h);
  limit = b.limit;
}

pub lower : (lease : Option LeaseTerms) (low middle high : ℕ) → Between lease low high → low ≤ middle → middle < high → is_leased lease middle ≡ false → Between lease low middle
lower lease low middle high b le h over = record {
  below = b.below;
  above = λ now is from. stays_ended lease middle now (is_leased lease now) from over refl;
  order = le;
  limit = omega (arith, h, b.limit);
}

before_end : (lease : Option LeaseTerms) (low high now : ℕ) (b : Bool) → Between lease low high → high ≤ low → IsMoment now → is_leased lease now ≡ true → nat_lt now low ≡ b → now < low
before_end lease low high now true between met is leased h = less now low h
before_end lease low high now false between met is leased h =
    let later : low ≤ now = not_less now low h in
    absurd (isnt_both (is_leased lease now) leased (between.above now is (omega (arith, met, later))))

pub ends : (lease : Option LeaseTerms) (low high : ℕ) → Between lease low high → high ≤ low → EndsAt lease low
ends lease low high between met = λ now is. (λ leased. before_end lease low high now (nat_lt now low) between met is leased refl, λ before. between.below now before)
