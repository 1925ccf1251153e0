-- Which changes a right holds up, once rights were granted, asked back or ended.
use Rattle.std.proofs.Common.{◌≡◌, ℕ, ◌≤◌, Bool, true, false, cond, List, [], ◌∷◌, Some, Result, Ok, Err, arith, refl, sym, ap, ◌∙◌}
use Rattle.std.specs.Prelude.{◌==◌, ◌&&◌, ◌||◌, filter, map}
use Rattle.std.specs.List.{list_any, list_all}
use Rattle.std.specs.Str.{bytes_eq}
use Rattle.std.proofs.lemmas.Bool.Decides.{nat_tests}
use Rattle.std.proofs.lemmas.List.Sums.{sum_by-cons, sum_by-append}
use Rattle.collections.proofs.Keys.{bytes_same, bytes_self}
use Rattle.node_core.specs.declared.refusals.Fault.{Fault}
use Rattle.rights_core.specs.declared.cache_rights.CacheRight.{CacheRight}
use Rattle.rights_core.specs.declared.endings.Ending.{Ending}
use Rattle.rights_core.specs.declared.endings.Ending.TheVariants as endings
use Rattle.rights_core.specs.declared.grants.Grant.{Grant}
use Rattle.rights_core.specs.declared.grants.Grant.TheVariants as grants
use Rattle.rights_core.specs.Rights.{stands, is_held, is_held_on, held_on, new_right, grant_answer, with_granted, granted, next_invalidation, is_to_ask, with_next, asked_back, ends, status_after, ended, names_ending}
use Rattle.rights_core.proofs.Recorded.{count_map}
use Rattle.gate_core.specs.declared.pending.Waiting.{Waiting}
use Rattle.gate_core.specs.Gate.{is_free}

-- ---- how many are held on a name

more_granted : (answer : Result Grant Fault) (c : ℕ) (x y : List ℕ) (rs : List CacheRight) → held_on y rs ≤ held_on y (with_granted answer c x rs)
more_granted (Ok (grants.Granted n)) c x y rs = omega (arith, sum_by-append (λ r. cond (is_held_on y r) 1 0) rs (new_right n c x ∷ []))
more_granted (Ok (grants.Already n)) c x y rs = omega arith
more_granted (Ok grants.Full) c x y rs = omega arith
more_granted (Err fault) c x y rs = omega arith

same_asked : (x y : List ℕ) (rs : List CacheRight) → held_on y (asked_back x rs) ≡ held_on y rs
same_asked x y rs =
    count_map (is_held_on y) (with_next x rs) (λ r. elim (is_to_ask x r) as (λ b. is_held_on y (cond b (record r { invalidation = Some (next_invalidation r.client rs) }) r) ≡ is_held_on y r) [ true ↦ refl | false ↦ refl ]) rs

over : (ending : Ending) → stands (status_after ending) ≡ false
over (endings.Acknowledgement upto) = refl
over endings.Expiry = refl
over endings.Leave = refl

-- a right on another name
other_name : (h b : Bool) → b ≡ false → (h && b) ≡ false
other_name true b e = e
other_name false b e = refl

or_parts : (a b : Bool) → (a || b) ≡ false → (a ≡ false) × (b ≡ false)
or_parts true b h = cc
or_parts false b h = (refl, h)

-- where no right on a name ends, as many are held on it as before
same_ended : (c : ℕ) (e : Ending) (y : List ℕ) (rs : List CacheRight) → list_any (bytes_eq y) (names_ending c e rs) ≡ false → held_on y (ended c e rs) ≡ held_on y rs
same_ended c e y [] h = refl
same_ended c e y (r ∷ rs) h =
    (elim (ends c e r) as (λ b. list_any (bytes_eq y) (map (λ (s : CacheRight). s.name) (cond b (r ∷ filter (ends c e) rs) (filter (ends c e) rs))) ≡ false → held_on y (cond b (record r { status = status_after e }) r ∷ ended c e rs) ≡ held_on y (r ∷ rs)) [
      | true ↦ (λ k.
          let parts : (bytes_eq y r.name ≡ false) × (list_any (bytes_eq y) (names_ending c e rs) ≡ false) = or_parts (bytes_eq y r.name) (list_any (bytes_eq y) (names_ending c e rs)) k in
          let before : ◌≡◌ {A = ℕ} (cond (is_held_on y r) 1 0) 0 = ap (λ b. cond b 1 0) (other_name (is_held r) (bytes_eq y r.name) parts.0) in
          let after : ◌≡◌ {A = ℕ} (cond (is_held_on y (record r { status = status_after e })) 1 0) 0 = ap (λ b. cond (b && bytes_eq y r.name) 1 0) (over e) in
          omega (arith, before, after, same_ended c e y rs parts.1, sum_by-cons (λ s. cond (is_held_on y s) 1 0) (record r { status = status_after e }) (ended c e rs), sum_by-cons (λ s. cond (is_held_on y s) 1 0) r rs))
      | false ↦ (λ k. omega (arith, same_ended c e y rs k, sum_by-cons (λ s. cond (is_held_on y s) 1 0) r (ended c e rs), sum_by-cons (λ s. cond (is_held_on y s) 1 0) r rs))
    ]) h

-- a name that was freed is among those of the rights that end
pub freed_named : (c : ℕ) (e : Ending) (y : List ℕ) (rs : List CacheRight) → (held_on y rs == 0) ≡ false → (held_on y (ended c e rs) == 0) ≡ true → list_any (bytes_eq y) (names_ending c e rs) ≡ true
freed_named c e y rs held free =
    (elim (list_any (bytes_eq y) (names_ending c e rs)) as (λ b. list_any (bytes_eq y) (names_ending c e rs) ≡ b → b ≡ true) [
      | true ↦ (λ h. refl)
      | false ↦ (λ h. let same : held_on y (ended c e rs) ≡ held_on y rs = same_ended c e y rs h in absurd (grind (arith, nat_tests, same, held, free)))
    ]) refl

-- ---- all names of a change

all_of : (a b : Bool) → (a && b) ≡ true → (a ≡ true) × (b ≡ true)
all_of true b h = (refl, h)
all_of false b h = cc

all_weaker : (p q : List ℕ → Bool) → ((y : List ℕ) → p y ≡ true → q y ≡ true) → (ys : List (List ℕ)) → list_all p ys ≡ true → list_all q ys ≡ true
all_weaker p q f [] h = refl
all_weaker p q f (y ∷ ys) h =
    let parts : (p y ≡ true) × (list_all p ys ≡ true) = all_of (p y) (list_all p ys) h in
    rw (f y parts.0) (all_weaker p q f ys parts.1)

pub all_at : (p : List ℕ → Bool) (y : List ℕ) (ys : List (List ℕ)) → list_all p ys ≡ true → list_any (bytes_eq y) ys ≡ true → p y ≡ true
all_at p y [] h k = cc
all_at p y (z ∷ zs) h k =
    let parts : (p z ≡ true) × (list_all p zs ≡ true) = all_of (p z) (list_all p zs) h in
    (elim (bytes_eq y z) as (λ b. bytes_eq y z ≡ b → (b || list_any (bytes_eq y) zs) ≡ true → p y ≡ true) [
      | true ↦ (λ e t. ap p (bytes_same y z e) ∙ parts.0)
      | false ↦ (λ e t. all_at p y zs parts.1 t)
    ]) refl k

pub not_all : (p : List ℕ → Bool) (ys : List (List ℕ)) → list_all p ys ≡ false → (y : List ℕ) × (list_any (bytes_eq y) ys ≡ true) × (p y ≡ false)
not_all p [] h = cc
not_all p (z ∷ zs) h =
    (elim (p z) as (λ b. p z ≡ b → (b && list_all p zs) ≡ false → (y : List ℕ) × (list_any (bytes_eq y) (z ∷ zs) ≡ true) × (p y ≡ false)) [
      | true ↦ (λ e k.
          let tail : (y : List ℕ) × (list_any (bytes_eq y) zs ≡ true) × (p y ≡ false) = not_all p zs k in
          (tail.0, either (bytes_eq tail.0 z) (list_any (bytes_eq tail.0) zs) tail.1, tail.2))
      | false ↦ (λ e k. (z, ap (λ b. b || list_any (bytes_eq z) zs) (bytes_self z), e))
    ]) refl h
  where
    either : (a b : Bool) → b ≡ true → (a || b) ≡ true
    either true b e = refl
    either false b e = e

pub any_at : (q : List ℕ → Bool) (y : List ℕ) (ys : List (List ℕ)) → list_any (bytes_eq y) ys ≡ true → q y ≡ true → list_any q ys ≡ true
any_at q y [] h t = cc
any_at q y (z ∷ zs) h t =
    (elim (bytes_eq y z) as (λ b. bytes_eq y z ≡ b → (b || list_any (bytes_eq y) zs) ≡ true → (q z || list_any q zs) ≡ true) [
      | true ↦ (λ e k. ap (λ b. b || list_any q zs) (sym (ap q (bytes_same y z e)) ∙ t))
      | false ↦ (λ e k. either (q z) (list_any q zs) (any_at q y zs k t))
    ]) refl h
  where
    either : (a b : Bool) → b ≡ true → (a || b) ≡ true
    either true b e = refl
    either false b e = e

-- ---- a change that is free later

zero_below : (n m : ℕ) → n ≤ m → (m == 0) ≡ true → (n == 0) ≡ true
zero_below n m h e = grind (arith, nat_tests, h, e)

pub free_granted : {T : Type 0} (c : ℕ) (x : List ℕ) (rs : List CacheRight) (w : Waiting T) → is_free (granted c x rs) w ≡ true → is_free rs w ≡ true
free_granted c x rs w = all_weaker (λ y. held_on y (granted c x rs) == 0) (λ y. held_on y rs == 0) (λ y. zero_below (held_on y rs) (held_on y (granted c x rs)) (more_granted (grant_answer c x rs) c x y rs)) w.change.touched

pub free_asked : {T : Type 0} (x : List ℕ) (rs : List CacheRight) (w : Waiting T) → is_free (asked_back x rs) w ≡ true → is_free rs w ≡ true
free_asked x rs w = all_weaker (λ y. held_on y (asked_back x rs) == 0) (λ y. held_on y rs == 0) (λ y e. ap (λ n. n == 0) (sym (same_asked x y rs)) ∙ e) w.change.touched
