-- A client is asked for a Start or a Beat.
use Rattle.std.specs.Prelude.{ℕ, ◌+◌, nat_lt, List, Option, Some, None, Result, Ok, Err, if◌then◌else◌}
use Rattle.node_core.specs.Limits.{number_end}
use Rattle.node_core.specs.declared.refusals.Fault.{Fault}
use Rattle.node_core.specs.declared.refusals.Fault.TheVariants as faults
use Rattle.node_core.specs.declared.lines.Line.{Line}
use Rattle.tags_cell.specs.declared.messages.requests.Request.{Request}
use Rattle.tags_cell.specs.declared.messages.requests.Request.TheVariants as requests
use Rattle.client_core.specs.declared.parts.sessions.ClientStanding.{ClientStanding}
use Rattle.client_core.specs.declared.parts.sessions.ClientStanding.TheVariants as sessions
use Rattle.client_core.specs.declared.parts.steps.Beaten.{Beaten}
use Rattle.client_core.specs.Moments.{moment}
use Rattle.client_core.specs.State.{ClientState, session_then, note, note_lines}

abbrev pub start_message : ClientState → Request
start_message s = requests.Start (record { client = s.number; number = s.beats + 1; principal = s.principal })

-- what was processed is acknowledged
abbrev pub beat_message : ClientState → Request
beat_message s = requests.Beat (record { client = s.number; epoch = s.epoch; number = s.beats + 1; invalidations = s.processed; events = s.heard })

-- a lease that answers it counts from now on
abbrev pub with_beat : ClientState → ℕ → ClientState
with_beat s moment = record s { clock = moment; beats = s.beats + 1; sent = moment }

abbrev pub beaten : List Line → Option Request → Beaten
beaten lines request = record { lines = lines; request = request }

-- first the time is noted. It goes out under the next number; after the last number nothing changes
abbrev pub sends : ClientState → ℕ → Request → ClientState × Result Beaten Fault
sends s moment message =
    if nat_lt (s.beats + 1) number_end then (with_beat (note s moment) moment, Ok (beaten (note_lines s moment) (Some message))) else (s, Err faults.Exhausted)

-- a client asks for a session until it has one, and then for its being kept, or is told that it gets none
abbrev pub beat_by : ClientState → ℕ → ClientStanding → ClientState × Result Beaten Fault
beat_by s moment sessions.Unstarted = sends s moment (start_message s)
beat_by s moment sessions.Live = sends s moment (beat_message s)
beat_by s moment sessions.Lost = (note s moment, Ok (beaten (note_lines s moment) None))
beat_by s moment sessions.TurnedAway = (note s moment, Ok (beaten (note_lines s moment) None))

abbrev pub beat_at : ClientState → Result ℕ Fault → ClientState × Result Beaten Fault
beat_at s (Ok moment) = beat_by s moment (session_then s moment)
beat_at s (Err fault) = (s, Err fault)

unfoldable pub beat_step : ClientState → ℕ → ClientState × Result Beaten Fault
beat_step s now = beat_at s (moment s.clock now)
