-- What there is to do at a moment there is to do at each later one.
use Rattle.std.proofs.Common.{◌≡◌, ℕ, ◌+◌, ◌-◌, ◌<◌, ◌≤◌, Bool, true, false, cond, List, [], ◌∷◌, Option, Some, None, Ok, Err, refl, sym, ap, ◌∙◌, arith, inl, inr}
use Rattle.std.specs.Prelude.{max, min, nat_le, ◌==◌, ◌&&◌, ◌||◌, not, find, if◌then◌else◌}
use Rattle.std.specs.Option.{option_map, option_map_or}
use Rattle.std.proofs.lemmas.Bool.{eqb-true, cases_lt}
use Rattle.std.proofs.lemmas.Bool.Decides.{nat_tests}
use Rattle.names_cell.proofs.ComponentLemmas.{both}
use Rattle.tags_cell.specs.declared.messages.outs.Reply.{Reply}
use Rattle.session_core.specs.declared.records.Session.{Session}
use Rattle.session_core.specs.declared.records.Parked.{Parked}
use Rattle.session_core.specs.Session.{is_client_expired, owes, nears_end, is_given_up, is_due, is_client_due}
use Rattle.session_core.specs.Sessions.{all_heard, lowest, has_work}
use Rattle.lock_core.specs.declared.claims.Closing.{Closing}
use Rattle.lock_core.specs.State.{LockState}
use Rattle.lock_core.specs.Turns.{time_left}
use Rattle.lock_core.specs.Locks as locks
use Rattle.tags_cell.specs.Numbers.{is_client_number}
use Rattle.master_parts.specs.declared.pending.Orphan.{Orphan}
use Rattle.master_state.specs.State.{MasterState, next_change}
use Rattle.master_state.specs.Lookups.{noted}
use Rattle.master_parts.specs.Ephemerals.{idle_of}
use Rattle.cell_core.specs.Ephemerals.{next_idle, may_tidy, is_to_go, spared_for}
use Rattle.over_core.specs.declared.actions.Action.{Action}
use Rattle.over_core.specs.declared.actions.Action.TheVariants.{Recover, Expire, Apply, Reopen, Tidy, Answer, Quiet}
use Rattle.over_core.specs.Plans.{first_action}
use Rattle.node_core.specs.declared.refusals.Fault.{Fault}
use Rattle.node_core.specs.declared.refusals.Fault.TheVariants as faults
use Rattle.lease_core.specs.Lease.{IsMoment}
use Rattle.over_core.specs.declared.swept.Swept.{Swept}
use Rattle.over_core.specs.Sweep.{is_quiet, is_over, swept, sweep_step}
use Rattle.over_core.specs.Deadlines.{quiet_at, IsAfter, IsBusyBy, IsDeadline, QuietTellsOfSweeps}

-- ---- nothing to do, part by part

first_of_parts : Bool → Option ℕ → Option ℕ → Option ℕ → Option Orphan → Option ℕ → Action
first_of_parts recovered expired change reopened idle due =
    if recovered then Recover
    else option_map_or Expire expired (option_map_or Apply change (option_map_or Reopen reopened (option_map_or Tidy idle (option_map_or Answer due Quiet))))

record AreNone (recovered : Bool) (expired change reopened : Option ℕ) (idle : Option Orphan) (due : Option ℕ) : Type 0 where
  is_recovered : recovered ≡ false
  is_expired : expired ≡ None
  is_change : change ≡ None
  is_reopened : reopened ≡ None
  is_idle : idle ≡ None
  is_due : due ≡ None

none_of : (recovered : Bool) (expired change reopened : Option ℕ) (idle : Option Orphan) (due : Option ℕ) → is_quiet (first_of_parts recovered expired change reopened idle due) ≡ true
    → AreNone recovered expired change reopened idle due
unfolding first_of_parts
none_of true e a l i d h = absurd cc
none_of false (Some x) a l i d h = absurd cc
none_of false None (Some x) l i d h = absurd cc
none_of false None None (Some x) i d h = absurd cc
none_of false None None None (Some x) d h = absurd cc
none_of false None None None None (Some x) h = absurd cc
none_of false None None None None None h = record { is_recovered = refl; is_expired = refl; is_change = refl; is_reopened = refl; is_idle = refl; is_due = refl }

quiet_of : (recovered : Bool) (expired change reopened : Option ℕ) (idle : Option Orphan) (due : Option ℕ) → AreNone recovered expired change reopened idle due
    → is_quiet (first_of_parts recovered expired change reopened idle due) ≡ true
unfolding first_of_parts
quiet_of recovered expired change reopened idle due none =
    rw (none.is_recovered, none.is_expired, none.is_change, none.is_reopened, none.is_idle, none.is_due) refl

parts_of : (s : MasterState) → first_of_parts (s.recovering && all_heard s.sessions) (lowest s.sessions (is_client_expired s.clock)) (next_change s) (locks.due s.locks s.clock) (next_idle s) (lowest s.sessions (is_client_due s.sessions.lease s.clock)) ≡ first_action s
unfolding first_of_parts
parts_of s = refl

-- ---- who passes an earlier test passes the later one

one_passes : {A : Type 0} (b c : Bool) (x : A) (later rest : Option A) → (b ≡ true → c ≡ true) → (later ≡ None → rest ≡ None) → cond c (Some x) later ≡ None → cond b (Some x) rest ≡ None
one_passes b true x later rest k h e = absurd cc
one_passes true false x later rest k h e = let t = k refl in absurd cc
one_passes false false x later rest k h e = h e

none_passes : {A : Type 0} (p q : A → Bool) (xs : List A) → ((x : A) → p x ≡ true → q x ≡ true) → find q xs ≡ None → find p xs ≡ None
none_passes p q [] h e = refl
none_passes p q (x ∷ xs) h e = one_passes (p x) (q x) x (find q xs) (find p xs) (h x) (none_passes p q xs h) e

unmapped : {A B : Type 0} (f : A → B) (o : Option A) → option_map f o ≡ None → o ≡ None
unmapped f None e = refl
unmapped f (Some x) e = absurd cc

none_mapped : {A B : Type 0} (f : A → B) (p q : A → Bool) (xs : List A) → ((x : A) → p x ≡ true → q x ≡ true) → option_map f (find q xs) ≡ None → option_map f (find p xs) ≡ None
none_mapped f p q xs h e = ap (option_map f) (none_passes p q xs h (unmapped f (find q xs) e))

join : (a b : Bool) → a ≡ true → b ≡ true → (a && b) ≡ true
join a b h k = rw (h, k) refl

later_le : (n t u : ℕ) → t ≤ u → nat_le n t ≡ true → nat_le n u ≡ true
later_le n t u lt h = grind (arith, nat_tests)

later_near : (n c t u : ℕ) → t ≤ u → nat_le (n - t) c ≡ true → nat_le (n - u) c ≡ true
later_near n c t u lt h = grind (arith, nat_tests)

expired_later : (t u : ℕ) → t ≤ u → (entry : ℕ × Session Reply) → is_client_expired t entry.0 entry.1 ≡ true → is_client_expired u entry.0 entry.1 ≡ true
expired_later t u lt entry h =
    let b = both entry.1.live (nat_le entry.1.timeout t) h in
    join entry.1.live (nat_le entry.1.timeout u) b.0 (later_le entry.1.timeout t u lt b.1)

either_later : (a b c : Bool) → (b ≡ true → c ≡ true) → (a || b) ≡ true → (a || c) ≡ true
either_later true b c k h = refl
either_later false b c k h = k h

beat_later : (lease t u : ℕ) (session : Session Reply) (parked : Option Parked) → t ≤ u
    → option_map_or (λ beat. session.live && (not (is_given_up lease beat session) && (owes session || nears_end lease t session))) parked false ≡ true
    → option_map_or (λ beat. session.live && (not (is_given_up lease beat session) && (owes session || nears_end lease u session))) parked false ≡ true
beat_later lease t u session None lt h = absurd cc
beat_later lease t u session (Some beat) lt h =
    let b = both session.live (not (is_given_up lease beat session) && (owes session || nears_end lease t session)) h in
    let d = both (not (is_given_up lease beat session)) (owes session || nears_end lease t session) b.1 in
    join session.live (not (is_given_up lease beat session) && (owes session || nears_end lease u session)) b.0
    (join (not (is_given_up lease beat session)) (owes session || nears_end lease u session) d.0
    (either_later (owes session) (nears_end lease t session) (nears_end lease u session) (later_near (min session.timeout session.lease_end) _ t u lt) d.1))

due_later : (lease t u : ℕ) → t ≤ u → (entry : ℕ × Session Reply) → is_client_due lease t entry.0 entry.1 ≡ true → is_client_due lease u entry.0 entry.1 ≡ true
due_later lease t u lt entry h =
    let b = both (is_client_number entry.0) (is_due lease t entry.1) h in
    join (is_client_number entry.0) (is_due lease u entry.1) b.0 (beat_later lease t u entry.1 entry.1.parked lt b.1)

left_later : (delay from t u : ℕ) → t ≤ u → (delay - (t - from) == 0) ≡ true → (delay - (u - from) == 0) ≡ true
left_later delay from t u lt h =
    let e = eqb-true (delay - (t - from)) 0 h in
    let f : delay - (u - from) ≡ 0 = omega arith in
    rw f refl

closed_later : (t u : ℕ) (closed : Option Closing) → t ≤ u → option_map_or (λ closing. time_left closing t == 0) closed false ≡ true
    → option_map_or (λ closing. time_left closing u == 0) closed false ≡ true
closed_later t u None lt h = absurd cc
closed_later t u (Some closing) lt h = left_later closing.delay closing.from t u lt h

lock_later : (t u : ℕ) → t ≤ u → (entry : ℕ × LockState) → locks.is_due t entry.1 ≡ true → locks.is_due u entry.1 ≡ true
lock_later t u lt entry h = closed_later t u entry.1.closed lt h

-- ---- a node that goes

gated : {A : Type 0} (b c : Bool) (o : Option A) → (b ≡ true → c ≡ true) → (if c then o else None) ≡ None → (if b then o else None) ≡ None
gated true true o k e = e
gated true false o k e = let t = k refl in absurd cc
gated false c o k e = refl

tidy_later : (a c : Bool) (from t u : ℕ) → t ≤ u → (a && nat_le from t && c) ≡ true → (a && nat_le from u && c) ≡ true
tidy_later a c from t u lt h =
    let x = both (a && nat_le from t) c h in
    let y = both a (nat_le from t) x.0 in
    join (a && nat_le from u) c (join a (nat_le from u) y.0 (later_le from t u lt y.1)) x.1

idle_later : (s : MasterState) (t u : ℕ) → max s.clock t ≤ max s.clock u → next_idle (noted s u) ≡ None → next_idle (noted s t) ≡ None
idle_later s t u lt e =
    gated (may_tidy (noted s t)) (may_tidy (noted s u)) (option_map idle_of (find (is_to_go s) s.nodes))
    (tidy_later (not s.recovering) _ (s.serving_from + spared_for) (max s.clock t) (max s.clock u) lt) e

-- ---- all together

pub quiet_before : (s : MasterState) (t u : ℕ) → t ≤ u → quiet_at s u ≡ true → quiet_at s t ≡ true
quiet_before s t u le h =
    let lt : max s.clock t ≤ max s.clock u = omega arith in
    let none = none_of _ _ _ _ _ _ (ap is_quiet (parts_of (noted s u)) ∙ h) in
    sym (ap is_quiet (parts_of (noted s t))) ∙ quiet_of _ _ _ _ _ _ (record {
      is_recovered = none.is_recovered;
      is_expired = none_mapped _ (λ entry. is_client_expired (max s.clock t) entry.0 entry.1) (λ entry. is_client_expired (max s.clock u) entry.0 entry.1) s.sessions.sessions (expired_later (max s.clock t) (max s.clock u) lt) none.is_expired;
      is_change = none.is_change;
      is_reopened = none_mapped _ (λ entry. locks.is_due (max s.clock t) entry.1) (λ entry. locks.is_due (max s.clock u) entry.1) s.locks (lock_later (max s.clock t) (max s.clock u) lt) none.is_reopened;
      is_idle = idle_later s t u lt none.is_idle;
      is_due = none_mapped _ (λ entry. is_client_due s.sessions.lease (max s.clock t) entry.0 entry.1) (λ entry. is_client_due s.sessions.lease (max s.clock u) entry.0 entry.1) s.sessions.sessions (due_later s.sessions.lease (max s.clock t) (max s.clock u) lt) none.is_due;
    })

false_of : (b : Bool) → (b ≡ true → ⊥) → b ≡ false
false_of true h = absurd (h refl)
false_of false h = refl

nobody_works : (s : MasterState) (moment : ℕ) → lowest s.sessions (is_client_expired moment) ≡ None → lowest s.sessions (is_client_due s.sessions.lease moment) ≡ None → has_work s.sessions moment ≡ false
nobody_works s moment expired due = rw (expired, due) refl

-- where a session shows that there is something to do a sweep isn't quiet
pub work_shown : (s : MasterState) (moment : ℕ) → has_work s.sessions moment ≡ true → quiet_at s moment ≡ false
work_shown s moment shown =
    false_of (quiet_at s moment)
    (λ q.
    let lt : moment ≤ max s.clock moment = omega arith in
    let none = none_of _ _ _ _ _ _ (ap is_quiet (parts_of (noted s moment)) ∙ q) in
    let expired : lowest s.sessions (is_client_expired moment) ≡ None =
    none_mapped _ (λ entry. is_client_expired moment entry.0 entry.1) (λ entry. is_client_expired (max s.clock moment) entry.0 entry.1) s.sessions.sessions (expired_later moment (max s.clock moment) lt) none.is_expired in
    let due : lowest s.sessions (is_client_due s.sessions.lease moment) ≡ None =
    none_mapped _ (λ entry. is_client_due s.sessions.lease moment entry.0 entry.1) (λ entry. is_client_due s.sessions.lease (max s.clock moment) entry.0 entry.1) s.sessions.sessions (due_later s.sessions.lease moment (max s.clock moment) lt) none.is_due in
    let nothing = nobody_works s moment expired due in
    absurd cc)

-- what isn't quiet isn't quiet later
pub busy_later : (s : MasterState) (t u : ℕ) → t ≤ u → quiet_at s t ≡ false → quiet_at s u ≡ false
busy_later s t u le h = false_of (quiet_at s u) (λ q. let p = quiet_before s t u le q in absurd cc)

-- what is quiet isn't behind what isn't
pub ordered : (s : MasterState) (quiet busy : ℕ) → quiet_at s quiet ≡ true → quiet_at s busy ≡ false → quiet ≤ busy
ordered s quiet busy before behind = elim (cases_lt busy quiet) [
  | inl lt ↦ let late = busy_later s busy quiet (omega arith) behind in absurd cc
  | inr ge ↦ omega arith
]

-- ---- deadlines

-- what there is to do now
pub busy_now : (s : MasterState) (now : ℕ) → now ≡ s.clock → IsMoment now → quiet_at s now ≡ false → IsDeadline s (Some now)
busy_now s now same is h = (is, omega (arith, same), (λ t from lt. absurd (omega (arith, same))), λ t le. busy_later s now t le h)

-- nothing to do at the last moment of all
pub quiet_always : (s : MasterState) → quiet_at s 9007199254740991 ≡ true → IsDeadline s None
quiet_always s h = λ t is. quiet_before s t 9007199254740991 (omega (arith, is)) h

pub never_busy : (s t : MasterState) (moment : Option ℕ) → t ≡ s → moment ≡ None → IsBusyBy t moment → IsDeadline s None
never_busy s t None same none quiet = quiet_always s (sym (ap (λ m. quiet_at m 9007199254740991) same) ∙ quiet)
never_busy s t (Some moment) same none busy = absurd cc

-- the two moments between which it changes have met
pub after_of : (s : MasterState) (from quiet busy : ℕ) → from ≤ quiet → quiet ≤ busy → busy ≤ 9007199254740991 → quiet_at s quiet ≡ true → quiet_at s busy ≡ false → busy ≤ quiet + 1
    → IsAfter s from busy
after_of s from quiet busy le order most before behind met =
    let apart : quiet < busy = elim (cases_lt quiet busy) [
      | inl lt ↦ lt
      | inr ge ↦
          let same : quiet ≡ busy = omega arith in
          let both_ways : quiet_at s quiet ≡ false = ap (quiet_at s) same ∙ behind in
          absurd cc
    ] in
    record {
      is = omega arith;
      later = omega arith;
      before = λ t from_t lt. quiet_before s t quiet (omega arith) before;
      busy = λ t le_t. busy_later s busy t le_t behind;
    }

-- ---- what sweeps tell

sweep_ok : {A : Type 0} (b : Bool) (f : Fault) (x y : A) → cond b (Err f) (Ok x) ≡ Ok y → x ≡ y
sweep_ok true f x y e = absurd cc
sweep_ok false f x y e = cc

quiet_of_action : (s : MasterState) (a : Action) → (swept s a).1.quiet ≡ is_quiet a
quiet_of_action s Recover = refl
quiet_of_action s (Expire client) = refl
quiet_of_action s (Apply number) = refl
quiet_of_action s (Reopen instance) = refl
quiet_of_action s (Tidy idle) = refl
quiet_of_action s (Answer client) = refl
quiet_of_action s Quiet = refl

pub tells_of_sweeps : QuietTellsOfSweeps
unfolding sweep_step
tells_of_sweeps s new now done e =
    let same = sweep_ok (is_over s now) faults.Exhausted (swept (noted s now) (first_action (noted s now))) (new, done) e in
    ap (λ (p : MasterState × Swept). p.1.quiet) (sym same) ∙ quiet_of_action (noted s now) (first_action (noted s now))
