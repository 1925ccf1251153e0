-- Each lock is looked at from the moment on at which it is due.
use Rattle.std.proofs.Common.{◌≡◌, ◌≢◌, ℕ, nat_eq, ◌≤◌, ◌+◌, ◌-◌, Bool, true, false, cond, List, [], ◌∷◌, Option, Some, None, refl, sym, ap, ◌∙◌, ◌⊎◌, ⊎_elim, inl, inr, arith}
use Rattle.std.specs.Prelude.{◌||◌, ◌==◌, min, unwrap_or, nat_le}
use Rattle.std.specs.Option.{option_map, option_map_or}
use Rattle.std.specs.Map.{lookup, keys_of, set_value, remove_entry}
use Rattle.std.specs.BTreeMap.{is_at, insert_entry}
use Rattle.std.specs.Ordering.{nat_cmp}
use Rattle.std.specs.List.Sorted.{IsStrictlySortedBy}
use Rattle.std.proofs.lemmas.Bool.Decides.{nat_tests}
use Rattle.collections.proofs.Keys.{same_key}
use Rattle.collections.proofs.OneKey.{lookup_put, lookup_put_apart, lookup_set, lookup_set_apart, lookup_removed, lookup_removed_apart}
use Rattle.collections.specs.Timers.{TimerState, never, has_key, wakes}
use Rattle.lock_core.specs.declared.claims.Closing.{Closing}
use Rattle.lock_core.specs.State.{LockState, lock_of}
use Rattle.lock_core.specs.Turns.{time_left}
use Rattle.lock_core.specs.Locks.{LockTable, lock_at, is_due, opens_at, AreNoted}

abbrev pub opening_of : Option LockState → ℕ
opening_of o = opens_at (unwrap_or o (lock_of 0)).closed

-- ---- one lock changes

same_number : (a b : ℕ) → nat_eq a b ≡ true → a ≡ b
same_number a b h = grind (arith, nat_tests)

other_number : (a b : ℕ) → nat_eq a b ≡ false → a ≢ b
other_number a b h = λ e. absurd (grind (arith, nat_tests))

abbrev pub KeepsOthers : ℕ → TimerState → TimerState → Type 0
KeepsOthers instance old new = (k m : ℕ) → nat_eq k instance ≡ false → wakes old k m ≡ true → wakes new k m ≡ true

changed : (timers timers' : TimerState) (old new : LockTable) (instance before after : ℕ) → AreNoted timers old → before ≡ opens_at (lock_at old instance).closed → after ≡ opens_at (lock_at new instance).closed → ((q : ℕ) → q ≢ instance → lookup (is_at (nat_cmp q)) new ≡ lookup (is_at (nat_cmp q)) old) → (wakes timers instance before ≡ true → wakes timers' instance after ≡ true) → KeepsOthers instance timers timers' → AreNoted timers' new
changed timers timers' old new instance before after h was is rest own others = record {
  each = λ q.
      (elim (nat_eq q instance) as (λ b. nat_eq q instance ≡ b → wakes timers' q (opens_at (lock_at new q).closed) ≡ true) [
        | true ↦ (λ e.
            let at : q ≡ instance = same_number q instance e in
            let mine : wakes timers' instance after ≡ true = own (ap (wakes timers instance) was ∙ h.each instance) in
            ap (λ n. wakes timers' n (opens_at (lock_at new n).closed)) at ∙ (ap (wakes timers' instance) (sym is) ∙ mine))
        | false ↦ (λ e.
            let same : lookup (is_at (nat_cmp q)) new ≡ lookup (is_at (nat_cmp q)) old = rest q (other_number q instance e) in
            others q (opens_at (lock_at new q).closed) e (ap (λ o. wakes timers q (opening_of o)) same ∙ h.each q))
      ]) refl;
}

pub set_noted : (timers timers' : TimerState) (old new : LockTable) (instance before after : ℕ) (lock : LockState) (former : Option LockState) → AreNoted timers old → new ≡ insert_entry nat_cmp old instance lock → former ≡ lookup (is_at (nat_cmp instance)) old → before ≡ opening_of former → after ≡ opens_at lock.closed → (wakes timers instance before ≡ true → wakes timers' instance after ≡ true) → KeepsOthers instance timers timers' → AreNoted timers' new
set_noted timers timers' old new instance before after lock former h put found was is own others =
    let there : lookup (is_at (nat_cmp instance)) new ≡ Some lock = ap (lookup (is_at (nat_cmp instance))) put ∙ lookup_put instance old lock in
    changed timers timers' old new instance before after h (was ∙ ap opening_of found) (is ∙ ap opening_of (sym there))
    (λ q differs. ap (lookup (is_at (nat_cmp q))) put ∙ lookup_put_apart instance q differs old lock) own others

pub replaced_noted : (timers timers' : TimerState) (old new : LockTable) (instance before after : ℕ) (lock former : LockState) → AreNoted timers old → new ≡ set_value (is_at (nat_cmp instance)) old lock → lookup (is_at (nat_cmp instance)) old ≡ Some former → before ≡ opens_at former.closed → after ≡ opens_at lock.closed → (wakes timers instance before ≡ true → wakes timers' instance after ≡ true) → KeepsOthers instance timers timers' → AreNoted timers' new
replaced_noted timers timers' old new instance before after lock former h put found was is own others =
    let there : lookup (is_at (nat_cmp instance)) new ≡ Some lock = ap (lookup (is_at (nat_cmp instance))) put ∙ (lookup_set instance old lock ∙ ap (option_map (λ (w : LockState). lock)) found) in
    changed timers timers' old new instance before after h (was ∙ ap opening_of (sym found)) (is ∙ ap opening_of (sym there))
    (λ q differs. ap (lookup (is_at (nat_cmp q))) put ∙ lookup_set_apart instance q differs old lock) own others

pub removed_noted : (timers timers' : TimerState) (old new : LockTable) (instance before : ℕ) (former : Option LockState) → AreNoted timers old → IsStrictlySortedBy nat_cmp (keys_of old) → new ≡ remove_entry (is_at (nat_cmp instance)) old → former ≡ lookup (is_at (nat_cmp instance)) old → before ≡ opening_of former → (wakes timers instance before ≡ true → wakes timers' instance never ≡ true) → KeepsOthers instance timers timers' → AreNoted timers' new
removed_noted timers timers' old new instance before former h sorted removed found was own others =
    let gone : lookup (is_at (nat_cmp instance)) new ≡ None = ap (lookup (is_at (nat_cmp instance))) removed ∙ lookup_removed instance old sorted in
    changed timers timers' old new instance before never h (was ∙ ap opening_of found) (ap opening_of (sym gone))
    (λ q differs. ap (lookup (is_at (nat_cmp q))) removed ∙ lookup_removed_apart instance q differs old) own others

pub turned_noted : (timers timers' : TimerState) (locks : LockTable) → AreNoted timers locks → ((k m : ℕ) → wakes timers k m ≡ true → wakes timers' k m ≡ true) → AreNoted timers' locks
turned_noted timers timers' locks h kept = record { each = λ q. kept q (opens_at (lock_at locks q).closed) (h.each q) }

-- ---- all are noted, one behind the other

always : (timers : TimerState) (key : ℕ) → wakes timers key never ≡ true
always timers key = elim timers.lost as (λ b. (b || (nat_le never never || (has_key timers.soon key || false))) ≡ true) [
  | true ↦ refl
  | false ↦ refl
]

-- each lock is noted, or is one of those that are left
pub record AreLeft (timers : TimerState) (left locks : LockTable) : Type 0 where
  pub each : (q : ℕ) → (lookup (is_at (nat_cmp q)) left ≡ lookup (is_at (nat_cmp q)) locks) ⊎ (wakes timers q (opens_at (lock_at locks q).closed) ≡ true)

pub all_left : (timers : TimerState) (locks : LockTable) → AreLeft timers locks locks
all_left timers locks = record { each = λ q. inl refl }

pub one_less : (timers timers' : TimerState) (left next locks : LockTable) (instance moment : ℕ) (lock : LockState) → AreLeft timers left locks → left ≡ (instance, lock) ∷ next → moment ≡ opens_at lock.closed → wakes timers' instance moment ≡ true → ((k m : ℕ) → wakes timers k m ≡ true → wakes timers' k m ≡ true) → AreLeft timers' next locks
one_less timers timers' left next locks instance moment lock h steps is own kept = record {
  each = λ q.
      ⊎_elim
      (λ e. here q (sym (ap (lookup (is_at (nat_cmp q))) steps) ∙ e))
      (λ noted. inr (kept q (opens_at (lock_at locks q).closed) noted))
      (h.each q);
}
  where
    here : (q : ℕ) → lookup (is_at (nat_cmp q)) ((instance, lock) ∷ next) ≡ lookup (is_at (nat_cmp q)) locks → (lookup (is_at (nat_cmp q)) next ≡ lookup (is_at (nat_cmp q)) locks) ⊎ (wakes timers' q (opens_at (lock_at locks q).closed) ≡ true)
    here q e =
        (elim (is_at (nat_cmp q) instance) as (λ b. is_at (nat_cmp q) instance ≡ b → cond b (Some lock) (lookup (is_at (nat_cmp q)) next) ≡ lookup (is_at (nat_cmp q)) locks → (lookup (is_at (nat_cmp q)) next ≡ lookup (is_at (nat_cmp q)) locks) ⊎ (wakes timers' q (opens_at (lock_at locks q).closed) ≡ true)) [
          | true ↦ (λ at found.
              let mine : wakes timers' q (opens_at lock.closed) ≡ true = ap (λ n. wakes timers' n (opens_at lock.closed)) (same_key q instance at) ∙ (ap (wakes timers' instance) (sym is) ∙ own) in
              inr (ap (λ o. wakes timers' q (opening_of o)) (sym found) ∙ mine))
          | false ↦ (λ differs found. inl found)
        ]) refl e

pub none_left : (timers : TimerState) (left locks : LockTable) → AreLeft timers left locks → left ≡ [] → AreNoted timers locks
none_left timers left locks h steps = record {
  each = λ q.
      ⊎_elim
      (λ e.
      let absent : None ≡ lookup (is_at (nat_cmp q)) locks = sym (ap (lookup (is_at (nat_cmp q))) steps) ∙ e in
      ap (λ o. wakes timers q (opening_of o)) (sym absent) ∙ always timers q)
      (λ noted. noted)
      (h.each q);
}

-- ---- who is due is looked at

due_by : (now : ℕ) (lock : LockState) → is_due now lock ≡ true → opens_at lock.closed ≤ now
due_by now lock h = by lock.closed h
  where
    over : (from delay : ℕ) (b : Bool) → (delay == 0) ≡ b → (delay - (now - from) == 0) ≡ true → cond b 0 (min (from + delay) never) ≤ now
    over from delay true e k = omega arith
    over from delay false e k =
        let some : delay ≢ 0 = grind (arith, nat_tests, e) in
        let gone : delay - (now - from) ≡ 0 = grind (arith, nat_tests, k) in
        let most : from + delay ≤ now = omega arith in
        omega arith

    by : (o : Option Closing) → option_map_or (λ closing. time_left closing now == 0) o false ≡ true → opens_at o ≤ now
    by None k = absurd (cc)
    by (Some closing) k = over closing.from closing.delay (closing.delay == 0) refl k

-- each that is due is one of these
abbrev pub AreAmong : LockTable → ℕ → List ℕ → Type 0
AreAmong locks now instances = (q : ℕ) → is_due now (lock_at locks q) ≡ true → has_key instances q ≡ true

pub all_among : (timers : TimerState) (view locks : LockTable) (now : ℕ) (instances : List ℕ) → view ≡ locks → AreNoted timers view → ((k m : ℕ) → wakes timers k m ≡ true → m ≤ now → has_key instances k ≡ true) → AreAmong locks now instances
all_among timers view locks now instances same h known = λ q due.
    known q (opens_at (lock_at view q).closed) (h.each q) (due_by now (lock_at view q) (ap (λ l. is_due now (lock_at l q)) same ∙ due))
