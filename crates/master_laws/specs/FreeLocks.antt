-- What a lock that nobody holds waits for.
use Rattle.std.specs.Prelude.{◌≡◌, ◌⊎◌, ◌<◌, ◌≤◌, ◌+◌, ℕ, true, false, List, Some, Contains}
use Rattle.node_core.specs.Limits.{lock_delay_limit}
use Rattle.tags_cell.specs.declared.messages.outs.Reply.{Reply}
use Rattle.session_core.specs.declared.records.Session.{Session}
use Rattle.lock_core.specs.declared.claims.Owner.{Owner}
use Rattle.lock_core.specs.declared.claims.Hold.{Hold}
use Rattle.lock_core.specs.declared.claims.Closing.{Closing}
use Rattle.lock_core.specs.State.{LockState}
use Rattle.lock_core.specs.Turns.{is_nobody}
use Rattle.lock_core.specs.Locks.{lock_at}
use Rattle.master_state.specs.State.{MasterState}
use Rattle.master_state.specs.Lookups.{session_of}
use Rattle.over_core.specs.Deadlines.{quiet_at}
use Rattle.master_laws.specs.Closed.{MasterStep}
use Rattle.master_laws.specs.Waits.{HasComeUp}

-- a handle holds the lock, of a client whose session is live, and ends later
pub record IsHeldYet (s : MasterState) (now : ℕ) (lock : LockState) : Type 0 where
  pub owner : Owner
  pub hold : Hold
  pub session : Session Reply
  pub holds : Contains lock.holders (owner, hold)
  pub found : session_of s owner.client ≡ Some session
  pub live : session.live ≡ true
  pub later : now < session.timeout

-- it is closed for its delay, which ends later, and at most 60,000 ms after the last moment that the master was told
pub record IsClosedYet (s : MasterState) (now : ℕ) (lock : LockState) : Type 0 where
  pub closing : Closing
  pub closed : lock.closed ≡ Some closing
  pub later : now < closing.from + closing.delay
  pub soon : closing.from + closing.delay ≤ s.clock + lock_delay_limit

-- where there is nothing to do a lock that somebody waits for is held, or closed for its delay
abbrev pub AwaitedLocksAreHeld : Type 0
AwaitedLocksAreHeld =
    (lease up now instance : ℕ) (steps : List MasterStep) (s : MasterState) → HasComeUp lease up steps s → quiet_at s now ≡ true → is_nobody (lock_at s.locks instance).waiters ≡ false
    → IsHeldYet s now (lock_at s.locks instance) ⊎ IsClosedYet s now (lock_at s.locks instance)
