-- What there isn't where there is nothing to do.
use Rattle.std.proofs.Common.{◌≡◌, ℕ, ◌<◌, Bool, true, false, Option, Some, None, refl, sym, subst, arith}
use Rattle.std.specs.Prelude.{◌&&◌, nat_le, find, if◌then◌else◌}
use Rattle.std.specs.Option.{option_map, option_map_or}
use Rattle.std.proofs.lemmas.Bool.Decides.{nat_tests}
use Rattle.tags_cell.specs.declared.messages.outs.Reply.{Reply}
use Rattle.gate_core.specs.declared.pending.Waiting.{Waiting}
use Rattle.gate_core.specs.Gate.{is_free}
use Rattle.session_core.specs.declared.records.Session.{Session}
use Rattle.session_core.specs.Session.{is_client_expired, is_client_due}
use Rattle.session_core.specs.Sessions.{session_of, all_heard, lowest, IsLowest}
use Rattle.session_core.proofs.Lowest.{lowest_is}
use Rattle.lock_core.specs.Locks.{due}
use Rattle.master_parts.specs.declared.pending.Orphan.{Orphan}
use Rattle.master_parts.specs.declared.pending.Task.{Task}
use Rattle.master_state.specs.State.{MasterState, next_change}
use Rattle.cell_core.specs.Ephemerals.{next_idle}
use Rattle.over_core.specs.declared.actions.Action.{Action}
use Rattle.over_core.specs.declared.actions.Action.TheVariants.{Recover, Expire, Apply, Reopen, Tidy, Answer, Quiet}
use Rattle.over_core.specs.Plans.{first_action}
use Rattle.over_core.specs.Sweep.{is_quiet}
use Rattle.over_core.proofs.SweepCases.{HasSessionsInOrder}

abbrev first_of : Bool → Option ℕ → Option ℕ → Option ℕ → Option Orphan → Option ℕ → Action
first_of over expired change reopened idle parked =
    if over then Recover
    else option_map_or Expire expired (option_map_or Apply change (option_map_or Reopen reopened (option_map_or Tidy idle (option_map_or Answer parked Quiet))))

pub record HasNothing (s : MasterState) : Type 0 where
  pub over : (s.recovering && all_heard s.sessions) ≡ false
  pub expired : lowest s.sessions (is_client_expired s.clock) ≡ None
  pub change : next_change s ≡ None
  pub reopened : due s.locks s.clock ≡ None
  pub idle : next_idle s ≡ None
  pub parked : lowest s.sessions (is_client_due s.sessions.lease s.clock) ≡ None

record AreNone (over : Bool) (expired change reopened : Option ℕ) (idle : Option Orphan) (parked : Option ℕ) : Type 0 where
  is_over : over ≡ false
  is_expired : expired ≡ None
  is_change : change ≡ None
  is_reopened : reopened ≡ None
  is_idle : idle ≡ None
  is_parked : parked ≡ None

none_of : (over : Bool) (expired change reopened : Option ℕ) (idle : Option Orphan) (parked : Option ℕ) → is_quiet (first_of over expired change reopened idle parked) ≡ true → AreNone over expired change reopened idle parked
none_of true e a l i d h = absurd (cc)
none_of false (Some x) a l i d h = absurd (cc)
none_of false None (Some x) l i d h = absurd (cc)
none_of false None None (Some x) i d h = absurd (cc)
none_of false None None None (Some x) d h = absurd (cc)
none_of false None None None None (Some x) h = absurd (cc)
none_of false None None None None None h = record { is_over = refl; is_expired = refl; is_change = refl; is_reopened = refl; is_idle = refl; is_parked = refl }

pub quiet_has_nothing : (s : MasterState) → is_quiet (first_action s) ≡ true → HasNothing s
quiet_has_nothing s h =
    let t = none_of (s.recovering && all_heard s.sessions) (lowest s.sessions (is_client_expired s.clock)) (next_change s) (due s.locks s.clock) (next_idle s) (lowest s.sessions (is_client_due s.sessions.lease s.clock)) h in
    record { over = t.is_over; expired = t.is_expired; change = t.is_change; reopened = t.is_reopened; idle = t.is_idle; parked = t.is_parked }

-- ---- sessions

at_session : (o : Option (Session Reply)) (client : ℕ) (test : ℕ → Session Reply → Bool) (session : Session Reply) → o ≡ Some session → option_map_or (test client) o false ≡ false → test client session ≡ false
at_session None client test session is h = absurd (cc)
at_session (Some there) client test session is h = let same : there ≡ session = cc in let P : Session Reply → Type 0 = λ x. test client x ≡ false in subst P same h

-- nobody passes
pub none_passes : (s : MasterState) (test : ℕ → Session Reply → Bool) (client : ℕ) (session : Session Reply) → HasSessionsInOrder s → lowest s.sessions test ≡ None → session_of s.sessions client ≡ Some session → test client session ≡ false
none_passes s test client session order none found =
    let all : IsLowest s.sessions test None = lowest_is s.sessions s.sessions test None refl order (sym none) in
    at_session (session_of s.sessions client) client test session found (all client)

ends_later : (live : Bool) (timeout clock : ℕ) → (live && nat_le timeout clock) ≡ false → live ≡ true → clock < timeout
ends_later true timeout clock h is = grind (arith, nat_tests)
ends_later false timeout clock h is = absurd (cc)

-- a live session ends later
pub none_expired : (s : MasterState) (client : ℕ) (session : Session Reply) → HasSessionsInOrder s → lowest s.sessions (is_client_expired s.clock) ≡ None → session_of s.sessions client ≡ Some session → session.live ≡ true → s.clock < session.timeout
none_expired s client session order none found live = ends_later session.live session.timeout s.clock (none_passes s (is_client_expired s.clock) client session order none found) live

-- ---- changes

unmapped : {A B : Type 0} (f : A → B) (o : Option A) → option_map f o ≡ None → o ≡ None
unmapped f None e = refl
unmapped f (Some x) e = absurd (cc)

pub none_free : (s : MasterState) → next_change s ≡ None → find (is_free s.rights) s.gate.waiting ≡ None
none_free s none = unmapped (λ (w : Waiting Task). w.number) (find (is_free s.rights) s.gate.waiting) none
