-- What a reply teaches a client of a name.
use Rattle.std.specs.Prelude.{ℕ, ◌&&◌, nat_le, Bool, true, false, Option, Some, None, if◌then◌else◌}
use Rattle.cache_core.specs.declared.standings.SessionTrust.{SessionTrust}
use Rattle.cache_core.specs.declared.standings.SessionTrust.TheVariants as standings
use Rattle.node_core.specs.declared.refusals.Fault.{Fault}
use Rattle.node_core.specs.declared.refusals.Fault.TheVariants as faults
use Rattle.node_core.specs.declared.views.View.{View}
use Rattle.tags_cell.specs.declared.messages.outs.CallResult.{CallResult}
use Rattle.tags_cell.specs.declared.messages.outs.CallResult.TheVariants as results
use Rattle.tags_cell.specs.declared.messages.outs.Reply.{Reply}
use Rattle.client_core.specs.declared.parts.handles.ClientHandle.{ClientHandle}
use Rattle.client_core.specs.declared.parts.targets.Target.{Target}
use Rattle.client_core.specs.declared.parts.targets.Target.TheVariants as targets
use Rattle.client_core.specs.Targets.{opening_of}
use Rattle.client_core.specs.State.{ClientState, standing_then}
use Rattle.client_core.specs.Handles.{handle_of}
use Rattle.client_core.specs.Opens.{Lesson, absent}

-- ---- whether the cache takes it

abbrev pub is_safe : SessionTrust → Bool
is_safe standings.Safe = true
is_safe (standings.Jeopardy since) = false
is_safe standings.Lost = false

-- the master lets it be cached, and no invalidation was processed since that may be of the name
abbrev pub is_fresh : ℕ → Option ℕ → Bool
is_fresh processed None = false
is_fresh processed (Some stamp) = nat_le processed stamp

-- nothing is installed in jeopardy, nor in a cache that is disabled
abbrev pub may_install : ClientState → ℕ → Option ℕ → Bool
may_install s moment stamp = s.cache.enabled && (is_safe (standing_then s moment) && is_fresh s.processed stamp)

-- ---- what it is

-- a view of the node of the handle's name
abbrev pub viewed : Option ClientHandle → View → Option Lesson
viewed None view = None
viewed (Some handle) view = Some (handle.name, Some view)

-- a read or a ReadDir on a handle found this
abbrev pub view_taught : ClientState → View → Target → Option Lesson
view_taught s view (targets.Handle number) = viewed (handle_of s.handles number) view
view_taught s view _ = None

-- a plain Open found no node
abbrev pub absence_taught : ClientState → Fault → Option Lesson
absence_taught s faults.NotFound = absent (opening_of s.outstanding)
absence_taught s _ = None

abbrev pub taught : ClientState → Target → CallResult → Option Lesson
taught s target (results.Viewed view) = view_taught s view target
taught s target (results.Listed view) = view_taught s view target
taught s target (results.Refused fault) = absence_taught s fault
taught s target _ = None

-- the answer of a read, of a ReadDir or of a plain Open, where the cache takes it
abbrev pub lesson : ClientState → ℕ → Reply → Target → Option Lesson
lesson s moment message target = if may_install s moment message.stamp then taught s target message.result else None
