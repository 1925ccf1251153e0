-- Lists of clients, entry by entry.
use Rattle.std.proofs.Common.{◌≡◌, ℕ, ◌+◌, ◌≤◌, List, [], ◌∷◌, Bool, true, false, cond, map, Option, Some, None, Less, Equal, Greater, refl, sym, ap, ◌∙◌, subst, arith}
use Rattle.std.specs.Prelude.{◌&&◌, ◌||◌, ◌==◌, is_some}
use Rattle.std.specs.List.{list_all, list_any, AllByRecursion}
use Rattle.std.specs.Map.{lookup, set_value}
use Rattle.std.specs.BTreeMap.{is_at, insert_entry}
use Rattle.std.specs.Ordering.{nat_cmp, match_ordering, is_eq}
use Rattle.collections.proofs.Keys.{same_key, at_itself, number_same}
use Rattle.world_steps.specs.declared.members.WorldClient.{WorldClient}
use Rattle.world_steps.specs.Members.{Clients, each_member, stepped}
use Rattle.world_cell.proofs.MembersFound.{member_at}

abbrev pub EachIs : (ℕ → WorldClient → Type 0) → Clients → Type 0
EachIs P clients = AllByRecursion (λ e. P e.0 e.1) clients

-- ---- each entry

pub each_so : (P Q : ℕ → WorldClient → Type 0) → ((n : ℕ) (m : WorldClient) → P n m → Q n m) → (clients : Clients) → EachIs P clients → EachIs Q clients
each_so P Q so [] all = tt
each_so P Q so (e ∷ es) all = (so e.0 e.1 all.0, each_so P Q so es all.1)

pub each_both : (P Q R : ℕ → WorldClient → Type 0) → ((n : ℕ) (m : WorldClient) → P n m → Q n m → R n m) → (clients : Clients) → EachIs P clients → EachIs Q clients → EachIs R clients
each_both P Q R so [] one two = tt
each_both P Q R so (e ∷ es) one two = (so e.0 e.1 one.0 two.0, each_both P Q R so es one.1 two.1)

pub each_moved : (P : ℕ → WorldClient → Type 0) (step : ℕ → WorldClient → WorldClient) (clients : Clients) → EachIs (λ n m. P n (step n m)) clients → EachIs P (each_member step clients)
each_moved P step [] all = tt
each_moved P step (e ∷ es) all = (all.0, each_moved P step es all.1)

pub each_set : (P : ℕ → WorldClient → Type 0) (n : ℕ) (v : WorldClient) (clients : Clients) → P n v → EachIs P clients → EachIs P (set_value (is_at (nat_cmp n)) clients v)
each_set P n v [] own all = tt
each_set P n v (e ∷ es) own all =
    (elim (is_at (nat_cmp n) e.0) as (λ b. is_at (nat_cmp n) e.0 ≡ b → EachIs P (cond b ((e.0, v) ∷ es) (e ∷ set_value (is_at (nat_cmp n)) es v))) [
      | true ↦ (λ h. (subst (λ q. P q v) (same_key n e.0 h) own, all.1))
      | false ↦ (λ h. (all.0, each_set P n v es own all.1))
    ]) refl

pub each_put : (P : ℕ → WorldClient → Type 0) (n : ℕ) (v : WorldClient) (clients : Clients) → P n v → EachIs P clients → EachIs P (insert_entry nat_cmp clients n v)
each_put P n v [] own all = (own, tt)
each_put P n v (e ∷ es) own all =
    (elim (nat_cmp n e.0) as (λ o. nat_cmp n e.0 ≡ o → EachIs P (match_ordering o ((n, v) ∷ e ∷ es) ((e.0, v) ∷ es) (e ∷ insert_entry nat_cmp es n v))) [
      | Less ↦ (λ h. (own, all))
      | Equal ↦ (λ h. (subst (λ q. P q v) (same_key n e.0 (ap is_eq h)) own, all.1))
      | Greater ↦ (λ h. (all.0, each_put P n v es own all.1))
    ]) refl

-- ---- tests of each entry

pub all_pass : (test : ℕ × WorldClient → Bool) (clients : Clients) → EachIs (λ n m. test (n, m) ≡ true) clients → list_all test clients ≡ true
all_pass test [] all = refl
all_pass test (e ∷ es) all = rw (all.0, all_pass test es all.1) refl

pub none_passes : (test : ℕ × WorldClient → Bool) (clients : Clients) → EachIs (λ n m. test (n, m) ≡ false) clients → list_any test clients ≡ false
none_passes test [] all = refl
none_passes test (e ∷ es) all = rw (all.0, none_passes test es all.1) refl

-- ---- each client of a list is found in it

present_more : (n : ℕ) (e : ℕ × WorldClient) (es : Clients) → is_some (member_at es n) ≡ true → is_some (member_at (e ∷ es) n) ≡ true
present_more n e es there = elim (is_at (nat_cmp n) e.0) as (λ b. is_some (cond b (Some e.1) (member_at es n)) ≡ true) [ true ↦ refl | false ↦ there ]

pub all_present : (clients : Clients) → EachIs (λ n m. is_some (member_at clients n) ≡ true) clients
all_present [] = tt
all_present (e ∷ es) =
    (rw (at_itself e.0) refl, each_so (λ n m. is_some (member_at es n) ≡ true) (λ n m. is_some (member_at (e ∷ es) n) ≡ true) (λ n m there. present_more n e es there) es (all_present es))

-- a step of each client, by its number
abbrev pub steps_of : (ℕ → ℕ) → Clients → List (ℕ × ℕ)
steps_of step clients = map (λ e. (e.0, step e.0)) clients

pub step_found : (step : ℕ → ℕ) (clients : Clients) (n : ℕ) → is_some (member_at clients n) ≡ true → lookup (is_at (nat_cmp n)) (steps_of step clients) ≡ Some (step n)
step_found step [] n there = cc
step_found step (e ∷ es) n there =
    (elim (is_at (nat_cmp n) e.0) as (λ b. is_at (nat_cmp n) e.0 ≡ b → is_some (cond b (Some e.1) (member_at es n)) ≡ true → cond b (Some (step e.0)) (lookup (is_at (nat_cmp n)) (steps_of step es)) ≡ Some (step n)) [
      | true ↦ (λ h k. ap (λ x. Some (step x)) (sym (same_key n e.0 h)))
      | false ↦ (λ h k. step_found step es n k)
    ]) refl there

steps_present : (step : ℕ → ℕ) (clients all : Clients) → EachIs (λ n m. is_some (member_at all n) ≡ true) clients → list_all (λ entry. is_some (member_at all entry.0)) (steps_of step clients) ≡ true
steps_present step [] all there = refl
steps_present step (e ∷ es) all there = rw (there.0, steps_present step es all there.1) refl

-- steps of clients are of clients that are there
pub steps_joined : (step : ℕ → ℕ) (clients : Clients) → list_all (λ entry. is_some (member_at clients entry.0)) (steps_of step clients) ≡ true
steps_joined step clients = steps_present step clients clients (all_present clients)

-- what is so of each is so of the client that is found
pub each_found_in : (P : ℕ → WorldClient → Type 0) (clients : Clients) (n : ℕ) (member : WorldClient) → EachIs P clients → member_at clients n ≡ Some member → P n member
each_found_in P [] n member all found = cc
each_found_in P (e ∷ es) n member all found =
    (elim (is_at (nat_cmp n) e.0) as (λ b. is_at (nat_cmp n) e.0 ≡ b → cond b (Some e.1) (member_at es n) ≡ Some member → P n member) [
      | true ↦ (λ h k. let is : e.1 ≡ member = cc in subst (λ m. P n m) is (subst (λ q. P q e.1) (sym (same_key n e.0 h)) all.0))
      | false ↦ (λ h k. each_found_in P es n member all.1 k)
    ]) refl found

-- where none of a number is found each is of another
other_number : (n q : ℕ) → is_at (nat_cmp n) q ≡ false → (q == n) ≡ false
other_number n q apart =
    (elim (q == n) as (λ b. (q == n) ≡ b → b ≡ false) [
      | true ↦ (λ h. let t : is_at (nat_cmp n) q ≡ true = subst (λ x. is_at (nat_cmp x) q ≡ true) (number_same q n h) (at_itself q) in cc)
      | false ↦ (λ h. refl)
    ]) refl

pub each_apart : (n : ℕ) (clients : Clients) → member_at clients n ≡ None → EachIs (λ q member. (q == n) ≡ false) clients
each_apart n [] free = tt
each_apart n (e ∷ es) free =
    (elim (is_at (nat_cmp n) e.0) as (λ b. is_at (nat_cmp n) e.0 ≡ b → cond b (Some e.1) (member_at es n) ≡ None → EachIs (λ q member. (q == n) ≡ false) (e ∷ es)) [
      | true ↦ (λ h k. cc)
      | false ↦ (λ h k. (other_number n e.0 h, each_apart n es k))
    ]) refl free
