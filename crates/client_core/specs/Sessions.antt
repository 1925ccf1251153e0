-- What a client may do, by how it stands with its master.
use Rattle.std.specs.Prelude.{ℕ, nat_le, Option, Some, None, if◌then◌else◌}
use Rattle.cache_core.specs.declared.standings.SessionTrust.{SessionTrust}
use Rattle.cache_core.specs.declared.standings.SessionTrust.TheVariants as standings
use Rattle.node_core.specs.declared.refusals.Fault.{Fault}
use Rattle.node_core.specs.declared.refusals.Fault.TheVariants as faults
use Rattle.client_core.specs.declared.parts.sessions.ClientStanding.{ClientStanding}
use Rattle.client_core.specs.declared.parts.sessions.ClientStanding.TheVariants as sessions

-- why no call may be made
abbrev pub standing_fault : SessionTrust → Option Fault
standing_fault standings.Safe = None
standing_fault (standings.Jeopardy since) = Some faults.InJeopardy
standing_fault standings.Lost = Some faults.SessionExpired

-- nothing in a session that the client may rely on
abbrev pub session_fault : ClientStanding → SessionTrust → Option Fault
session_fault sessions.Unstarted standing = Some faults.NoSession
session_fault sessions.Live standing = standing_fault standing
session_fault sessions.Lost standing = Some faults.SessionExpired
session_fault sessions.TurnedAway standing = Some faults.NoSession

-- the session where a master of this epoch knows none, by the client's present epoch; nothing where it stays as it is
abbrev pub session_without : ClientStanding → ℕ → ℕ → Option ClientStanding
session_without sessions.Unstarted present epoch = Some sessions.TurnedAway
session_without sessions.Live present epoch = if nat_le present epoch then Some sessions.Lost else None
session_without sessions.Lost present epoch = None
session_without sessions.TurnedAway present epoch = None

-- of all refusals, that there is no session alone changes it
abbrev pub session_after : ClientStanding → ℕ → ℕ → Fault → Option ClientStanding
session_after session present epoch faults.NoSession = session_without session present epoch
session_after session present epoch _ = None
