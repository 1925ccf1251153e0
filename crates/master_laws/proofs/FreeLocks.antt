-- What a lock that nobody holds waits for.
use Rattle.std.proofs.Common.{◌≡◌, ℕ, zero, suc, ◌+◌, ◌-◌, ◌<◌, ◌≤◌, List, [], ◌∷◌, Bool, true, false, cond, Option, Some, None, refl, sym, ap, subst, ◌∙◌, inl, inr, arith}
use Rattle.std.specs.Prelude.{◌⊎◌, ◌&&◌, ◌||◌, ◌==◌, not, max, nat_le, find, is_none, unwrap_or, Contains}
use Rattle.std.specs.Option.{option_map, option_map_or}
use Rattle.std.specs.List.{list_all}
use Rattle.std.specs.Map.{lookup}
use Rattle.std.specs.BTreeMap.{is_at}
use Rattle.std.specs.Ordering.{nat_cmp}
use Rattle.std.proofs.lemmas.Bool.{and_parts}
use Rattle.std.proofs.lemmas.Bool.Decides.{nat_tests}
use Rattle.node_core.specs.Limits.{lock_delay_limit}
use Rattle.tags_cell.specs.declared.messages.outs.Reply.{Reply}
use Rattle.session_core.specs.declared.records.Session.{Session}
use Rattle.session_core.specs.Sessions.{session_of, is_live}
use Rattle.lock_core.specs.declared.claims.Owner.{Owner}
use Rattle.lock_core.specs.declared.claims.Hold.{Hold}
use Rattle.lock_core.specs.declared.claims.Closing.{Closing}
use Rattle.lock_core.specs.State.{LockState, Holders, lock_of, mode_of, nobody_holds}
use Rattle.lock_core.specs.Turns.{is_nobody, time_left}
use Rattle.lock_core.specs.Locks.{LockTable, lock_at, is_due}
use Rattle.master_state.specs.State.{MasterState, master_of}
use Rattle.master_state.specs.Lookups.{noted}
use Rattle.rows_cell.specs.Sound.{is_number}
use Rattle.over_core.specs.Kept.{claim_fits, closing_fits}
use Rattle.cell_core.specs.Cases.{taken_by}
use Rattle.over_core.specs.Deadlines.{quiet_at}
use Rattle.over_core.specs.SweepCase.{swept_by}
use Rattle.master_laws.specs.Closed.{MasterStep}
use Rattle.master_laws.specs.Waits.{HasComeUp}
use Rattle.master_laws.specs.FreeLocks.{IsHeldYet, IsClosedYet, AwaitedLocksAreHeld}
use Rattle.master_laws.proofs.QuietParts.{quiet_has_nothing}
use Rattle.master_laws.proofs.Reached.{IsReached, up_reached, reached}
use Rattle.master_laws.proofs.HeldUp.{live_session, later_than}
use Rattle.master_laws.proofs.SessionSteps.{IsCarried}
use Rattle.master_laws.proofs.Timely.{clock_by_case, clock_by_sweep}
use Rattle.master_laws.proofs.Lasting.{IsLeft, IsLasting, Lasts, lasts}
use Rattle.master_laws.proofs.Unstarted.{Always, always_before}
use Rattle.master_laws.proofs.RecoveryEnds.{no_message, none_taken}
use Rattle.master_laws.proofs.Tended.{AreTended, later_tended}
use Rattle.master_laws.proofs.TendedSteps.{locks_by_case, tended_by_sweep, up_tended}

-- ---- over all steps

abbrev Tended : MasterState → Type 0
Tended s = AreTended s.clock s.locks

later_clock : (a b : ℕ) → a ≤ max a b
later_clock a b = omega arith

tended_left : (lease : ℕ) → IsLeft lease no_message Tended
tended_left lease = record {
  clock = λ s now h. later_tended s.clock (max s.clock now) s.locks (later_clock s.clock now) h;
  takes = λ s request c r other h. let C : ℕ → Type 0 = λ t. AreTended t (taken_by s request c).0.locks in subst C (sym (clock_by_case s request c)) (subst (AreTended s.clock) (sym (locks_by_case s request c)) h);
  sweeps = λ s c r h. let C : ℕ → Type 0 = λ t. AreTended t (swept_by s c).0.locks in subst C (sym (clock_by_sweep s c)) (tended_by_sweep r.cell r.rows s r.kept h c);
  tells = λ s tellings h. h;
}

abbrev Nothing : ℕ → ℕ → Session Reply → Type 0
Nothing clock q session = Unit {0}

nothing_carried : (clock : ℕ) → IsCarried (Nothing clock)
nothing_carried clock = record { keeps = λ q kept before h. tt; issues = λ q o before h. tt; tells = λ q event before h. tt }

tended_lasts : (lease : ℕ) → IsLasting lease no_message Nothing Tended Always
tended_lasts lease = record {
  later = λ from to q session le h. tt;
  left = tended_left lease;
  was = always_before;
  takes = λ s request r other. record { carried = nothing_carried s.clock; beats = λ beat before is found fits h. tt };
  sweeps = λ s r left always. record {
    carried = nothing_carried s.clock;
    ends = λ q before h. tt;
    answers = λ q session beat due timed h. tt;
    prolongs = λ front back asked principal received session turn work found h. tt;
    begins = λ front back asked principal received turn work none. tt;
  };
}

tended_since : (lease up : ℕ) (steps : List MasterStep) (s : MasterState) → HasComeUp lease up steps s → Tended s
tended_since lease up steps s h =
    let first = master_of h.rows (record { lease = lease; limits = h.limits }) up in
    let T : MasterState → Type 0 = Lasts lease Nothing Tended Always in
    let all : T s = subst T (sym h.is) (lasts lease no_message Nothing Tended Always (tended_lasts lease) first steps h.of_clients (none_taken steps) (record {
      reached = up_reached h.cell h.rows h.limits lease up h.is_lease h.kept;
      left = up_tended h.rows up;
      each = λ always client session found. tt;
    })) in
    all.left

-- ---- a lock that isn't due

none_due : (now instance : ℕ) (locks es : LockTable) → find (λ (e : ℕ × LockState). is_due now e.1) es ≡ None → is_due now (unwrap_or (lookup (is_at (nat_cmp instance)) es) (lock_of 0)) ≡ false
none_due now instance locks [] h = refl
none_due now instance locks (e ∷ es) h =
    (elim (is_due now e.1) as (λ b. is_due now e.1 ≡ b → cond b (Some e) (find (λ (d : ℕ × LockState). is_due now d.1) es) ≡ None → is_due now (unwrap_or (cond (is_at (nat_cmp instance) e.0) (Some e.1) (lookup (is_at (nat_cmp instance)) es)) (lock_of 0)) ≡ false) [
      | true ↦ (λ is k. absurd (cc))
      | false ↦ (λ is k. elim (is_at (nat_cmp instance) e.0) as (λ b. is_due now (unwrap_or (cond b (Some e.1) (lookup (is_at (nat_cmp instance)) es)) (lock_of 0)) ≡ false) [ true ↦ is | false ↦ none_due now instance locks es k ])
    ]) refl h

unmapped : {A B : Type 0} (f : A → B) (o : Option A) → option_map f o ≡ None → o ≡ None
unmapped f None e = refl
unmapped f (Some x) e = absurd (cc)

positive : (n : ℕ) → (n == 0) ≡ false → 1 ≤ n
positive zero h = absurd (cc)
positive (suc n) h = omega arith

closes_later : (from delay clock now : ℕ) → (delay - (max clock now - from) == 0) ≡ false → now < from + delay
closes_later from delay clock now h = let left = positive (delay - (max clock now - from)) h in omega (arith, left)

within : (from delay clock : ℕ) → from ≤ clock → nat_le delay 60000 ≡ true → from + delay ≤ clock + 60000
within from delay clock h k = grind (arith, nat_tests)

waits_held : (waits nobody unclosed : Bool) → (waits || not (nobody && unclosed)) ≡ true → waits ≡ false → nobody ≡ true → unclosed ≡ false
waits_held true nobody unclosed h k l = absurd (cc)
waits_held false true true h k l = absurd (cc)
waits_held false true false h k l = refl
waits_held false false unclosed h k l = absurd (cc)

a_closing : (o : Option Closing) → is_none o ≡ false → (closing : Closing) × (o ≡ Some closing)
a_closing None h = absurd (cc)
a_closing (Some closing) h = (closing, refl)

a_holder : (holders : Holders) → is_none (mode_of holders) ≡ false → (entry : Owner × Hold) × (rest : Holders) × (holders ≡ entry ∷ rest)
a_holder [] h = absurd (cc)
a_holder (entry ∷ rest) h = (entry, rest, refl)

first_in : (entry : Owner × Hold) (rest holders : Holders) → holders ≡ entry ∷ rest → Contains holders entry
first_in entry rest holders is = let P : Holders → Type 0 = λ hs. Contains hs entry in subst P (sym is) (0, omega arith, refl)

module _ (lease up now instance : ℕ) (steps : List MasterStep) (s : MasterState) (came : HasComeUp lease up steps s) (quiet : quiet_at s now ≡ true) (awaited : is_nobody (lock_at s.locks instance).waiters ≡ false) where
  abbrev lock : LockState
  lock = lock_at s.locks instance

  r : IsReached lease s
  r = reached lease up steps s came

  held : nobody_holds lock ≡ false → IsHeldYet s now lock
  held busy =
      let k = r.kept.locks.each instance in
      let t = a_holder lock.holders busy in
      let fits : list_all (λ (entry : Owner × Hold). claim_fits s.sessions entry.0 entry.1) (t.0 ∷ t.1) ≡ true = ap (λ (hs : Holders). list_all (λ (entry : Owner × Hold). claim_fits s.sessions entry.0 entry.1) hs) (sym t.2) ∙ k.holders in
      let first = (and_parts (claim_fits s.sessions t.0.0 t.0.1) (list_all (λ (entry : Owner × Hold). claim_fits s.sessions entry.0 entry.1) t.1) fits).0 in
      let alive : is_live s.sessions t.0.0.client ≡ true = (and_parts (is_live s.sessions t.0.0.client) (is_number t.0.0.handle) (and_parts (is_live s.sessions t.0.0.client && is_number t.0.0.handle) (nat_le t.0.1.delay lock_delay_limit) first).0).0 in
      let l = live_session (session_of s.sessions t.0.0.client) alive in
      record { owner = t.0.0; hold = t.0.1; session = l.0; holds = first_in t.0 t.1 lock.holders t.2; found = l.1; live = l.2; later = later_than lease now s r quiet t.0.0.client l.0 l.1 l.2 }

  closed : nobody_holds lock ≡ true → IsClosedYet s now lock
  closed free =
      let k = r.kept.locks.each instance in
      let tended = tended_since lease up steps s came instance in
      let t = a_closing lock.closed (waits_held (is_nobody lock.waiters) (nobody_holds lock) (is_none lock.closed) tended.awaited awaited free) in
      let nothing = quiet_has_nothing (noted s now) quiet in
      let undue : is_due (max s.clock now) lock ≡ false = none_due (max s.clock now) instance s.locks s.locks (unmapped (λ (e : ℕ × LockState). e.0) _ nothing.reopened) in
      let left : (time_left t.0 (max s.clock now) == 0) ≡ false = sym (ap (λ (o : Option Closing). option_map_or (λ closing. time_left closing (max s.clock now) == 0) o false) t.1) ∙ undue in
      let short : nat_le t.0.delay lock_delay_limit ≡ true = sym (ap closing_fits t.1) ∙ k.closing in
      record { closing = t.0; closed = t.1; later = closes_later t.0.from t.0.delay s.clock now left; soon = within t.0.from t.0.delay s.clock (tended.since t.0 t.1) short }

  either : (b : Bool) → nobody_holds lock ≡ b → IsHeldYet s now lock ⊎ IsClosedYet s now lock
  either true is = inr (closed is)
  either false is = inl (held is)

pub awaited_locks_are_held : AwaitedLocksAreHeld
awaited_locks_are_held lease up now instance steps s came quiet awaited = either lease up now instance steps s came quiet awaited (nobody_holds (lock_at s.locks instance)) refl
