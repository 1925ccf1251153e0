-- How a master stands.
use Rattle.std.specs.Prelude.{ℕ, Bool, not, max, List, length, take, map, filter, fold, Option, Some, None, if◌then◌else◌}
use Rattle.std.specs.List.{list_any}
use Rattle.std.specs.Map.{keys_of}
use Rattle.rights_core.specs.declared.cache_rights.CacheRight.{CacheRight}
use Rattle.rights_core.specs.Rights.{count_held, holds}
use Rattle.gate_core.specs.declared.pending.Waiting.{Waiting}
use Rattle.session_core.specs.declared.records.Session.{Session}
use Rattle.session_core.specs.Session.{has_heard}
use Rattle.tags_cell.specs.declared.messages.outs.Reply.{Reply}
use Rattle.master_parts.specs.declared.pending.Task.{Task}
use Rattle.master_state.specs.State.{MasterState}
use Rattle.hosting.specs.declared.standing.MasterCounts.{MasterCounts}
use Rattle.hosting.specs.declared.standing.Recovery.{Recovery}
use Rattle.hosting.specs.declared.standing.Delay.{Delay}
use Rattle.hosting.specs.declared.standing.MasterStanding.{MasterStanding}

-- sessions: those that have ended included. rights: those that are held
abbrev pub counts_of : MasterState → MasterCounts
counts_of s = record {
  epoch = s.epoch;
  sessions = length s.sessions.sessions;
  nodes = length s.nodes;
  rights = count_held s.rights;
  changes = length s.gate.waiting;
}

-- ---- a recovery

abbrev pub is_unheard : ℕ × Session Reply → Bool
is_unheard entry = not (has_heard entry.1)

-- the clients whose live sessions haven't acknowledged that this master is up, ascending
abbrev pub unheard : List (ℕ × Session Reply) → List ℕ
unheard sessions = map (λ entry. entry.0) (filter is_unheard sessions)

abbrev pub later_end : ℕ → ℕ × Session Reply → ℕ
later_end latest entry = if is_unheard entry then max latest entry.1.timeout else latest

-- by this moment the last of their sessions has ended, where none is heard from; never one that is past
abbrev pub last_end : List (ℕ × Session Reply) → ℕ → ℕ
last_end sessions clock = fold later_end clock sessions

abbrev pub recovery_of : MasterState → Option Recovery
recovery_of s = if s.recovering then Some (record { until = last_end s.sessions.sessions s.clock; awaited = unheard s.sessions.sessions }) else None

-- ---- changes that wait

-- the client holds a right on one of these names
abbrev pub holds_any : List CacheRight → List (List ℕ) → ℕ → Bool
holds_any rights names client = list_any (λ name. holds client name rights) names

-- the clients among these that hold up a change, in their order
abbrev pub awaited_by : List CacheRight → List ℕ → List (List ℕ) → List ℕ
awaited_by rights clients names = filter (holds_any rights names) clients

abbrev pub delay_of : MasterState → Waiting Task → Delay
delay_of s w = record {
  number = w.number;
  touched = w.change.touched;
  awaited = awaited_by s.rights (keys_of s.sessions.sessions) w.change.touched;
}

-- so many of the changes that wait are told of one by one
abbrev pub longest_limit : ℕ
longest_limit = 10

-- those that have waited longest, the first of them first
abbrev pub longest_of : MasterState → List Delay
longest_of s = take longest_limit (map (delay_of s) s.gate.waiting)

-- ---- all of it

abbrev pub standing_of : MasterState → MasterStanding
standing_of s = record { counts = counts_of s; recovery = recovery_of s; longest = longest_of s }
