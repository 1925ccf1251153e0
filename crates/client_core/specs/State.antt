-- What a client is, and when it is.
use Rattle.std.specs.Prelude.{◌≡◌, ◌≢◌, ℕ, ◌<◌, Bool, false, List, [], Option, Some, None, Result, Ok, Err, true}
use Rattle.std.specs.Option.{option_to_list}
use Rattle.lease_core.specs.Lease.{LeaseTerms, IsMoment}
use Rattle.cache_core.specs.Caches.{CacheState, new_cache, is_leased, noted}
use Rattle.cache_core.specs.Standings.{standing_at, turn_line}
use Rattle.cache_core.specs.declared.kept.SharedHandle.{SharedHandle}
use Rattle.cache_core.specs.declared.standings.SessionTrust.{SessionTrust}
use Rattle.cache_core.specs.declared.standings.SessionTrust.TheVariants as standings
use Rattle.node_core.specs.Limits.{number_end}
use Rattle.node_core.specs.declared.refusals.Fault.{Fault}
use Rattle.node_core.specs.declared.refusals.Fault.TheVariants as faults
use Rattle.node_core.specs.declared.lines.Line.{Line}
use Rattle.tags_cell.specs.declared.messages.outs.NewHandle.{NewHandle}
use Rattle.client_core.specs.declared.parts.handles.ClientHandle.{ClientHandle}
use Rattle.client_core.specs.declared.parts.targets.Outstanding.{Outstanding}
use Rattle.client_core.specs.declared.parts.sessions.ClientStanding.{ClientStanding}
use Rattle.client_core.specs.declared.parts.sessions.ClientStanding.TheVariants as sessions

pub record ClientState : Type 0 where
  pub number : ℕ
  pub principal : List ℕ
  -- the moment that it noted last, in milliseconds
  pub clock : ℕ
  -- the number of its newest Start or Beat, 0 before the first
  pub beats : ℕ
  -- the moment that it noted when it sent that one
  pub sent : ℕ
  pub session : ClientStanding
  -- the epoch of the master that gave it its session, also once that is lost; 0 before
  pub epoch : ℕ
  -- the number of the last invalidation that it has processed in its epoch, 0 before the first
  pub processed : ℕ
  -- the number of the last event that it has processed in its epoch, 0 before the first
  pub heard : ℕ
  -- what it holds of nodes, under the lease on its session
  pub cache : CacheState
  -- whether it may rely on its session
  pub standing : SessionTrust
  -- the number of its newest call, 0 before the first
  pub calls : ℕ
  -- the call that has no reply yet
  pub outstanding : Option Outstanding
  -- its open handles by its own numbers for them
  pub handles : List (ℕ × ClientHandle)
  -- the handles that its Opens share, as the master gave them
  pub kept : List (SharedHandle NewHandle)
  -- the newest of its handle numbers, 0 before the first
  pub opened : ℕ
  -- it has asked for the end of its session, and asks for nothing else any more
  pub leaving : Bool

-- the lease on the session; of span 0, which is never unexpired, before the first
abbrev pub lease_of : Option LeaseTerms → LeaseTerms
lease_of None = record { sent = 0; span = 0 }
lease_of (Some lease) = lease

-- a client that has done nothing yet
abbrev pub new_client : ℕ → List ℕ → ClientState
new_client number principal =
    record { number = number; principal = principal; clock = 0; beats = 0; sent = 0; session = sessions.Unstarted; epoch = 0; processed = 0; heard = 0; cache = new_cache; standing = standings.Safe; calls = 0; outstanding = None; handles = []; kept = []; opened = 0; leaving = false }

-- moments and numbers are within their limits
pub record IsWithin (clock sent beats calls opened : ℕ) : Type 0 where
  pub last_moment : IsMoment clock
  pub last_sending : IsMoment sent
  pub last_beat : beats < number_end
  pub last_call : calls < number_end
  pub last_handle : opened < number_end

-- one that ends its session serves nothing any more, and has begun it before
pub record IsOff (s : ClientState) : Type 0 where
  pub shuts : s.leaving ≡ true → s.cache.enabled ≡ false
  pub begun : s.leaving ≡ true → s.session ≢ sessions.Unstarted

-- the client at a moment
abbrev pub at_moment : ClientState → ℕ → ClientState
at_moment s noted = record s { clock = noted }

-- ---- the time is noted

-- in a session: how the client stands at a moment, by the lease that it has
abbrev pub standing_then : ClientState → ℕ → SessionTrust
standing_then s moment = standing_at s.standing (is_leased s.cache.lease moment) moment

-- a session that is given up is lost
abbrev pub session_behind : SessionTrust → ClientStanding
session_behind standings.Safe = sessions.Live
session_behind (standings.Jeopardy since) = sessions.Live
session_behind standings.Lost = sessions.Lost

abbrev pub session_in : ClientStanding → ClientState → ℕ → ClientStanding
session_in sessions.Live s moment = session_behind (standing_then s moment)
session_in session s moment = session

abbrev pub session_then : ClientState → ℕ → ClientStanding
session_then s moment = session_in s.session s moment

-- in a session a client looks at its lease: where that has ended it empties its cache, and is in jeopardy, until it gives the session up
abbrev pub note_live : ClientState → ℕ → ClientState
note_live s moment =
    record s { clock = moment; session = session_behind (standing_then s moment); cache = noted s.cache moment; standing = standing_then s moment }

abbrev pub note_in : ClientStanding → ClientState → ℕ → ClientState
note_in sessions.Live s moment = note_live s moment
note_in session s moment = at_moment s moment

abbrev pub note : ClientState → ℕ → ClientState
note s moment = note_in s.session s moment

-- what is printed then
abbrev pub note_lines_in : ClientStanding → ClientState → ℕ → List Line
note_lines_in sessions.Live s moment = option_to_list (turn_line s.number s.standing (standing_then s moment))
note_lines_in session s moment = []

abbrev pub note_lines : ClientState → ℕ → List Line
note_lines s moment = note_lines_in s.session s moment

-- ---- methods

-- a method does the step, with its new state and its answer; or memory ran out, and nothing changed
abbrev pub Does : {X : Type 0} → ClientState → ClientState → Result X Fault → ClientState × Result X Fault → Type 0
Does old new (Ok x) step = step ≡ (new, Ok x)
Does old new (Err fault) step = (fault ≢ faults.NoMemory → step ≡ (new, Err fault)) × (fault ≡ faults.NoMemory → new ≡ old)
