-- Which locks may concern a client is known, as each lock changes.
use Rattle.std.proofs.Common.{◌≡◌, ◌≢◌, ℕ, nat_eq, ◌<◌, ◌≤◌, ◌+◌, Bool, true, false, cond, List, [], ◌∷◌, Option, Some, None, Ordering, Less, Equal, Greater, Result, Ok, Err, refl, sym, ap, subst, ◌∙◌, ◌⊎◌, ⊎_elim, inl, inr, arith}
use Rattle.std.specs.Prelude.{◌||◌, ◌&&◌, not, ◌==◌, nat_lt, filter, unwrap_or}
use Rattle.std.specs.List.{list_any}
use Rattle.std.specs.Map.{lookup, set_value, remove_entry}
use Rattle.std.specs.Ordering.{nat_cmp, is_eq, is_le, ordering_then}
use Rattle.std.specs.BTreeMap.{is_at, insert_entry}
use Rattle.std.specs.BTreeMap.Range.{range_contains}
use Rattle.std.specs.declared.ops.Bound.TheVariants.{Included, Excluded}
use Rattle.std.proofs.lemmas.Bool.Decides.{nat_tests}
use Rattle.collections.proofs.Keys.{same_key, number_same, at_itself, equal_itself}
use Rattle.collections.proofs.OneKey.{lookup_put_apart, lookup_set_apart, lookup_removed_apart}
use Rattle.collections.specs.Timers.{has_key}
use Rattle.collections.proofs.Wakes.{KeyUpdates, MomentUpdates, key_stays, key_left, moment_stays, moment_left}
use Rattle.lock_core.specs.State.{LockState, lock_of}
use Rattle.lock_core.specs.Turns.{concerns}
use Rattle.lock_core.specs.Locks.{LockTable, lock_at}
use Rattle.lock_core.specs.Claimants.{ClaimantState, by_client, is_noted, has, AreListed}

-- ---- one entry more, or less

-- where each way of before leads to one of now
more : (lost a b c d : Bool) → (a ≡ true → c ≡ true) → (b ≡ true → d ≡ true) → (lost || (a || b)) ≡ true → (lost || (c || d)) ≡ true
more true a b c d f g h = refl
more false true b true d f g h = refl
more false true b false d f g h = absurd (let e = f refl in cc)
more false false true true d f g h = refl
more false false true false d f g h = g refl
more false false false c d f g h = absurd (cc)

both : (lost : Bool) (own own' : List (ℕ × ℕ)) (crowded crowded' : List ℕ) (now : ClaimantState) → record { own = own; crowded = crowded; lost = lost } ≡ now → (c i : ℕ) → (has_key crowded i ≡ true → has_key crowded' i ≡ true) → (is_noted own c i ≡ true → is_noted own' c i ≡ true) → has now c i ≡ true → has (record { own = own'; crowded = crowded'; lost = lost }) c i ≡ true
both lost own own' crowded crowded' now same c i f g h =
    more lost (has_key crowded i) (is_noted own c i) (has_key crowded' i) (is_noted own' c i) f g (ap (λ s. has s c i) same ∙ h)

pub kept_with : (lost : Bool) (own own' : List (ℕ × ℕ)) (crowded : List ℕ) (now : ClaimantState) (entry : ℕ × ℕ) → record { own = own; crowded = crowded; lost = lost } ≡ now → MomentUpdates entry true own own' → (c i : ℕ) → has now c i ≡ true → has (record { own = own'; crowded = crowded; lost = lost }) c i ≡ true
kept_with lost own own' crowded now entry same h c i = both lost own own' crowded crowded now same c i (λ e. e) (moment_stays entry i c own own' h)

pub kept_crowded : (lost : Bool) (own : List (ℕ × ℕ)) (crowded crowded' : List ℕ) (now : ClaimantState) (instance : ℕ) → record { own = own; crowded = crowded; lost = lost } ≡ now → KeyUpdates instance true crowded crowded' → (c i : ℕ) → has now c i ≡ true → has (record { own = own; crowded = crowded'; lost = lost }) c i ≡ true
kept_crowded lost own crowded crowded' now instance same h c i = both lost own own crowded crowded' now same c i (key_stays instance i crowded crowded' h) (λ e. e)

pub kept_without : (lost : Bool) (own own' : List (ℕ × ℕ)) (crowded : List ℕ) (now : ClaimantState) (client instance : ℕ) → record { own = own; crowded = crowded; lost = lost } ≡ now → MomentUpdates (client, instance) false own own' → (c i : ℕ) → nat_eq i instance ≡ false → has now c i ≡ true → has (record { own = own'; crowded = crowded; lost = lost }) c i ≡ true
kept_without lost own own' crowded now client instance same h c i differs = both lost own own' crowded crowded now same c i (λ e. e) (moment_left instance client i c own own' h differs)

pub kept_uncrowded : (lost : Bool) (own : List (ℕ × ℕ)) (crowded crowded' : List ℕ) (now : ClaimantState) (instance : ℕ) → record { own = own; crowded = crowded; lost = lost } ≡ now → KeyUpdates instance false crowded crowded' → (c i : ℕ) → nat_eq i instance ≡ false → has now c i ≡ true → has (record { own = own; crowded = crowded'; lost = lost }) c i ≡ true
kept_uncrowded lost own crowded crowded' now instance same h c i differs = both lost own own crowded crowded' now same c i (key_left instance i crowded crowded' h differs) (λ e. e)

-- ---- all claims on a lock, one behind the other

abbrev pub Keeps : ClaimantState → ClaimantState → Type 0
Keeps old new = (c i : ℕ) → has old c i ≡ true → has new c i ≡ true

-- each client of these is noted with the instance, or is one of those that are left
pub record AreAdded {X : Type 0} (test : ℕ → X → Bool) (instance : ℕ) (old now : ClaimantState) (left all : List X) : Type 0 where
  pub kept : Keeps old now
  pub each : (c : ℕ) → list_any (test c) all ≡ true → (list_any (test c) left ≡ true) ⊎ (has now c instance ≡ true)

pub added_first : {X : Type 0} (test : ℕ → X → Bool) (instance : ℕ) (old : ClaimantState) (left all : List X) → left ≡ all → AreAdded test instance old old left all
added_first test instance old left all same = record { kept = λ c i h. h; each = λ c h. inl (ap (list_any (test c)) same ∙ h) }

pub added_more : {X : Type 0} (test : ℕ → X → Bool) (instance : ℕ) (old now new : ClaimantState) (x : X) (left next all : List X) → left ≡ x ∷ next → ((c : ℕ) → test c x ≡ true → has new c instance ≡ true) → Keeps now new → AreAdded test instance old now left all → AreAdded test instance old new next all
added_more {X} test instance old now new x left next all steps own kept h = record {
  kept = λ c i there. kept c i (h.kept c i there);
  each = λ c there.
      ⊎_elim
      (λ in_left.
      (elim (test c x) as (λ b. test c x ≡ b → (b || list_any (test c) next) ≡ true → (list_any (test c) next ≡ true) ⊎ (has new c instance ≡ true)) [
        | true ↦ (λ e k. inr (own c e))
        | false ↦ (λ e k. inl k)
      ]) refl (sym (ap (list_any (test c)) steps) ∙ in_left))
      (λ noted. inr (kept c instance noted))
      (h.each c there);
}

pub added_last : {X : Type 0} (test : ℕ → X → Bool) (instance : ℕ) (old now : ClaimantState) (left all : List X) → left ≡ [] → AreAdded test instance old now left all → (c : ℕ) → list_any (test c) all ≡ true → has now c instance ≡ true
added_last test instance old now left all steps h c there =
    ⊎_elim (λ in_left. let none : list_any (test c) left ≡ false = ap (list_any (test c)) steps in absurd (cc)) (λ noted. noted) (h.each c there)

-- the client of a claim
pub of_its_client : (new : ClaimantState) (client instance : ℕ) → has new client instance ≡ true → (c : ℕ) → (client == c) ≡ true → has new c instance ≡ true
of_its_client new client instance h c same = ap (λ n. has new n instance) (sym (number_same client c same)) ∙ h

-- ---- one lock changes

pub relisted : (old new : ClaimantState) (locks locks' : LockTable) (instance : ℕ) → AreListed old locks → ((q : ℕ) → q ≢ instance → lookup (is_at (nat_cmp q)) locks' ≡ lookup (is_at (nat_cmp q)) locks) → ((c : ℕ) → concerns c (lock_at locks' instance) ≡ true → has new c instance ≡ true) → ((c i : ℕ) → nat_eq i instance ≡ false → has old c i ≡ true → has new c i ≡ true) → AreListed new locks'
relisted old new locks locks' instance h rest own others = record {
  each = λ c q there.
      (elim (nat_eq q instance) as (λ b. nat_eq q instance ≡ b → has new c q ≡ true) [
        | true ↦ (λ e.
            let at : q ≡ instance = grind (arith, nat_tests) in
            ap (λ n. has new c n) at ∙ own c (ap (λ n. concerns c (lock_at locks' n)) (sym at) ∙ there))
        | false ↦ (λ e.
            let differs : q ≢ instance = λ same. absurd (grind (arith, nat_tests)) in
            others c q e (h.each c q (ap (λ o. concerns c (unwrap_or o (lock_of 0))) (sym (rest q differs)) ∙ there)))
      ]) refl;
}

-- who claims the lock of the instance is noted anew, and who claims another one stays
abbrev pub NotesAnew : ClaimantState → ClaimantState → LockTable → ℕ → Type 0
NotesAnew old new locks instance =
    ((c : ℕ) → concerns c (lock_at locks instance) ≡ true → has new c instance ≡ true)
    × ((c i : ℕ) → nat_eq i instance ≡ false → has old c i ≡ true → has new c i ≡ true)

pub set_listed : (old new : ClaimantState) (locks locks' : LockTable) (instance : ℕ) (lock : LockState) → AreListed old locks → locks' ≡ insert_entry nat_cmp locks instance lock → NotesAnew old new locks' instance → AreListed new locks'
set_listed old new locks locks' instance lock h put anew =
    relisted old new locks locks' instance h (λ q differs. ap (lookup (is_at (nat_cmp q))) put ∙ lookup_put_apart instance q differs locks lock) anew.0 anew.1

pub replaced_listed : (old new : ClaimantState) (locks locks' : LockTable) (instance : ℕ) (lock : LockState) → AreListed old locks → locks' ≡ set_value (is_at (nat_cmp instance)) locks lock → NotesAnew old new locks' instance → AreListed new locks'
replaced_listed old new locks locks' instance lock h put anew =
    relisted old new locks locks' instance h (λ q differs. ap (lookup (is_at (nat_cmp q))) put ∙ lookup_set_apart instance q differs locks lock) anew.0 anew.1

pub removed_listed : (old new : ClaimantState) (locks locks' : LockTable) (instance : ℕ) → AreListed old locks → locks' ≡ remove_entry (is_at (nat_cmp instance)) locks → NotesAnew old new locks' instance → AreListed new locks'
removed_listed old new locks locks' instance h removed anew =
    relisted old new locks locks' instance h (λ q differs. ap (lookup (is_at (nat_cmp q))) removed ∙ lookup_removed_apart instance q differs locks) anew.0 anew.1

pub none_listed : (c : ClaimantState) → AreListed c []
none_listed c = record { each = λ client instance h. absurd (cc) }

-- ---- all locks, one behind the other

-- each lock is noted, or is one of those that are left
pub record AreLeft (now : ClaimantState) (left locks : LockTable) : Type 0 where
  pub each : (c q : ℕ) → concerns c (lock_at locks q) ≡ true → (lookup (is_at (nat_cmp q)) left ≡ lookup (is_at (nat_cmp q)) locks) ⊎ (has now c q ≡ true)

pub all_left : (now : ClaimantState) (left locks : LockTable) → left ≡ locks → AreLeft now left locks
all_left now left locks same = record { each = λ c q h. inl (ap (lookup (is_at (nat_cmp q))) same) }

pub one_less : (now new : ClaimantState) (left next locks : LockTable) (instance : ℕ) (lock : LockState) → AreLeft now left locks → left ≡ (instance, lock) ∷ next → ((c : ℕ) → concerns c lock ≡ true → has new c instance ≡ true) → Keeps now new → AreLeft new next locks
one_less now new left next locks instance lock h steps own kept = record {
  each = λ c q there. ⊎_elim (λ e. here c q there (sym (ap (lookup (is_at (nat_cmp q))) steps) ∙ e)) (λ noted. inr (kept c q noted)) (h.each c q there);
}
  where
    here : (c q : ℕ) → concerns c (lock_at locks q) ≡ true → lookup (is_at (nat_cmp q)) ((instance, lock) ∷ next) ≡ lookup (is_at (nat_cmp q)) locks → (lookup (is_at (nat_cmp q)) next ≡ lookup (is_at (nat_cmp q)) locks) ⊎ (has new c q ≡ true)
    here c q there e =
        (elim (is_at (nat_cmp q) instance) as (λ b. is_at (nat_cmp q) instance ≡ b → cond b (Some lock) (lookup (is_at (nat_cmp q)) next) ≡ lookup (is_at (nat_cmp q)) locks → (lookup (is_at (nat_cmp q)) next ≡ lookup (is_at (nat_cmp q)) locks) ⊎ (has new c q ≡ true)) [
          | true ↦ (λ at found.
              let mine : concerns c lock ≡ true = ap (λ o. concerns c (unwrap_or o (lock_of 0))) found ∙ there in
              inr (ap (λ n. has new c n) (same_key q instance at) ∙ own c mine))
          | false ↦ (λ differs found. inl found)
        ]) refl e

pub none_left : (now : ClaimantState) (left locks : LockTable) → left ≡ [] → AreLeft now left locks → AreListed now locks
none_left now left locks steps h = record {
  each = λ c q there.
      ⊎_elim
      (λ e.
      let absent : None ≡ lookup (is_at (nat_cmp q)) locks = sym (ap (lookup (is_at (nat_cmp q))) steps) ∙ e in
      let nobody : concerns c (lock_of 0) ≡ true = ap (λ o. concerns c (unwrap_or o (lock_of 0))) absent ∙ there in
      absurd (cc))
      (λ noted. noted)
      (h.each c q there);
}

-- ---- the instances of a client are collected

-- each instance that passes the test of these entries is among those found, or is one of those that are left
pub record AreFound {X : Type 0} (test : ℕ → X → Bool) (old now : List ℕ) (left all : List X) : Type 0 where
  pub kept : (i : ℕ) → has_key old i ≡ true → has_key now i ≡ true
  pub each : (i : ℕ) → list_any (test i) all ≡ true → (list_any (test i) left ≡ true) ⊎ (has_key now i ≡ true)

pub found_first : {X : Type 0} (test : ℕ → X → Bool) (old : List ℕ) (left all : List X) → ((i : ℕ) → list_any (test i) all ≡ true → list_any (test i) left ≡ true) → AreFound test old old left all
found_first test old left all in_left = record { kept = λ i h. h; each = λ i h. inl (in_left i h) }

pub found_more : {X : Type 0} (test : ℕ → X → Bool) (old now new : List ℕ) (instance : ℕ) (x : X) (left next all : List X) → left ≡ x ∷ next → ((i : ℕ) → test i x ≡ true → i ≡ instance) → KeyUpdates instance true now new → AreFound test old now left all → AreFound test old new next all
found_more {X} test old now new instance x left next all steps own put h =
    let stays : (i : ℕ) → has_key now i ≡ true → has_key new i ≡ true = λ i there. key_stays instance i now new put there in
    let there : has_key new instance ≡ true = put instance ∙ ap (λ b. cond b true (has_key now instance)) (at_itself instance) in
    record {
      kept = λ i before. stays i (h.kept i before);
      each = λ i passes.
          ⊎_elim
          (λ in_left.
          (elim (test i x) as (λ b. test i x ≡ b → (b || list_any (test i) next) ≡ true → (list_any (test i) next ≡ true) ⊎ (has_key new i ≡ true)) [
            | true ↦ (λ e k. inr (ap (has_key new) (own i e) ∙ there))
            | false ↦ (λ e k. inl k)
          ]) refl (sym (ap (list_any (test i)) steps) ∙ in_left))
          (λ found. inr (stays i found))
          (h.each i passes);
    }

pub found_last : {X : Type 0} (test : ℕ → X → Bool) (old now : List ℕ) (left all : List X) → left ≡ [] → AreFound test old now left all → (i : ℕ) → list_any (test i) all ≡ true → has_key now i ≡ true
found_last test old now left all steps h i passes =
    ⊎_elim (λ in_left. let none : list_any (test i) left ≡ false = ap (list_any (test i)) steps in absurd (cc)) (λ found. found) (h.each i passes)

-- ---- the entries of a client

then_equal : (a b : Ordering) → is_eq (ordering_then a b) ≡ true → (is_eq a ≡ true) × (is_eq b ≡ true)
then_equal Less b h = absurd (cc)
then_equal Equal b h = (refl, h)
then_equal Greater b h = absurd (cc)

pub same_entry : (c i : ℕ) (e : ℕ × ℕ) → is_at (by_client (c, i)) e ≡ true → (c ≡ e.0) × (i ≡ e.1)
same_entry c i e h =
    let both = then_equal (nat_cmp c e.0) (nat_cmp i e.1) h in
    (same_key c e.0 both.0, same_key i e.1 both.1)

from_zero : (n : ℕ) → is_le (nat_cmp 0 n) ≡ true
from_zero n =
    (elim (nat_lt 0 n) as (λ b. nat_lt 0 n ≡ b → is_le (cond b Less (cond (nat_eq 0 n) Equal Greater)) ≡ true) [
      | true ↦ (λ e. refl)
      | false ↦ (λ e. let q : nat_eq 0 n ≡ true = grind (arith, nat_tests) in rw q refl)
    ]) refl

next_greater : (n : ℕ) → nat_cmp (n + 1) n ≡ Greater
next_greater n = grind (arith, nat_tests)

abbrev pub in_client : ℕ → ℕ × ℕ → Bool
in_client c = range_contains by_client (Included (c, 0)) (Excluded (c + 1, 0))

of_client : (c i : ℕ) → in_client c (c, i) ≡ true
of_client c i = rw (equal_itself c, next_greater c, from_zero i) refl

is_in : (c i : ℕ) (e : ℕ × ℕ) → c ≡ e.0 → i ≡ e.1 → in_client c e ≡ true
is_in c i e p q = let same : ◌≡◌ {A = ℕ × ℕ} (c, i) e = λ j. (p j, q j) in ap (in_client c) (sym same) ∙ of_client c i

or_right : (a b : Bool) → b ≡ true → (a || b) ≡ true
or_right true b h = refl
or_right false b h = h

among_client : (c i : ℕ) (own : List (ℕ × ℕ)) → is_noted own c i ≡ true → is_noted (filter (in_client c) own) c i ≡ true
among_client c i [] h = h
among_client c i (e ∷ es) h =
    (elim (is_at (by_client (c, i)) e) as (λ b. is_at (by_client (c, i)) e ≡ b → (b || is_noted es c i) ≡ true → is_noted (cond (in_client c e) (e ∷ filter (in_client c) es) (filter (in_client c) es)) c i ≡ true) [
      | true ↦ (λ at k.
          let same = same_entry c i e at in
          ap (λ b. is_noted (cond b (e ∷ filter (in_client c) es) (filter (in_client c) es)) c i) (is_in c i e same.0 same.1)
          ∙ ap (λ b. b || is_noted (filter (in_client c) es) c i) at)
      | false ↦ (λ at k.
          let rest = among_client c i es k in
          elim (in_client c e) as (λ b. is_noted (cond b (e ∷ filter (in_client c) es) (filter (in_client c) es)) c i ≡ true) [
            | true ↦ or_right (is_at (by_client (c, i)) e) (is_noted (filter (in_client c) es) c i) rest
            | false ↦ rest
          ])
    ]) refl h

-- those between a client's first entry and the next one's are its own
pub first_of_client : (c next : ℕ) (own left : List (ℕ × ℕ)) → next ≡ c + 1 → left ≡ filter (range_contains by_client (Included (c, 0)) (Excluded (next, 0))) own → (i : ℕ) → is_noted own c i ≡ true → is_noted left c i ≡ true
first_of_client c next own left is same i h =
    ap (λ l. is_noted l c i) (same ∙ ap (λ n. filter (range_contains by_client (Included (c, 0)) (Excluded (n, 0))) own) is) ∙ among_client c i own h
