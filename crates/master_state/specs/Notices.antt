-- What the clients of open handles are told of a step.
use Rattle.std.specs.Prelude.{Bool, false, ◌&&◌, ◌==◌, List, [], ◌∷◌, fold, Option, Some, None, if◌then◌else◌}
use Rattle.std.specs.Option.{option_map, option_map_or, option_or}
use Rattle.std.specs.List.{filter_map}
use Rattle.node_core.specs.declared.events.Event.{Event}
use Rattle.tags_cell.specs.declared.handles.Handle.{Handle}
use Rattle.tags_cell.specs.declared.messages.outs.Reply.{Reply}
use Rattle.session_core.specs.Sessions.{SessionTable, with_session}
use Rattle.master_parts.specs.declared.handles.HandleKey.{HandleKey}
use Rattle.master_parts.specs.declared.handles.HandleState.{HandleState}
use Rattle.master_parts.specs.declared.handles.HandleNote.{HandleNote}
use Rattle.master_parts.specs.declared.notices.Notice.{Notice}
use Rattle.master_parts.specs.declared.notices.SessionEvent.{SessionEvent}
use Rattle.master_state.specs.NameSpace.{name_space}
use Rattle.master_state.specs.State.{MasterState}
use Rattle.master_state.specs.Lookups.{holds_lock}
use Rattle.master_parts.specs.Keys.{is_key}
use Rattle.master_parts.specs.Events.{instance_of}
use Rattle.node_core.specs.declared.events.Event.TheVariants as events
use Rattle.session_core.specs.Session as of_session
use Rattle.master_parts.specs.declared.handles.HandleState.TheVariants as states
use Rattle.master_parts.specs.declared.notices.Notice.TheVariants as notices

-- ---- who is told

abbrev pub event_if : Bool → Event → Option Event
event_if told event = if told then Some event else None

-- by what the handle was opened for; the end of a node is told to each, and a conflict to who holds the lock
abbrev pub event_here : MasterState → Handle → Notice → Option Event
event_here s handle (notices.Contents instance generation) = event_if handle.events.contents (events.Contents handle.number instance generation)
event_here s handle (notices.ChildAdded instance name) = event_if handle.events.children (events.ChildAdded handle.number name)
event_here s handle (notices.ChildRemoved instance name) = event_if handle.events.children (events.ChildRemoved handle.number name)
event_here s handle (notices.ChildModified instance name) = event_if handle.events.children (events.ChildModified handle.number name)
event_here s handle (notices.Invalid instance) = Some (events.Invalid handle.number)
event_here s handle (notices.Locked instance) = event_if handle.events.lock (events.Locked handle.number)
event_here s handle (notices.Conflict instance) = event_if (handle.events.conflict && holds_lock (name_space s) handle) (events.Conflict handle.number)

abbrev pub event_on : MasterState → Handle → Notice → Option Event
event_on s handle notice = if instance_of notice == handle.instance then event_here s handle notice else None

-- the first of these that concerns the handle
abbrev pub event_for : MasterState → Handle → List Notice → Option Event
event_for s handle [] = None
event_for s handle (notice ∷ rest) = option_or (event_on s handle notice) (event_for s handle rest)

-- the step notes something of this handle: that it is open, or closed
abbrev pub is_noted : Option HandleNote → HandleKey → Bool
is_noted note key = option_map_or (λ n. is_key n.key key) note false

abbrev pub telling_as : MasterState → List Notice → HandleKey → HandleState → Option SessionEvent
telling_as s notices key (states.Open noted) = option_map (λ event. record { client = key.client; event = event }) (event_for s noted.handle notices)
telling_as s notices key states.Closed = None

-- who opens or closes a handle by the step isn't told by that handle
abbrev pub telling_by : MasterState → Option HandleNote → List Notice → HandleKey × HandleState → Option SessionEvent
telling_by s note notices entry = if is_noted note entry.0 then None else telling_as s notices entry.0 entry.1

-- in the order of the handles: by client, and then by number
abbrev pub tellings_to : MasterState → Option HandleNote → List Notice → List SessionEvent
tellings_to s note notices = filter_map (telling_by s note notices) s.handles

-- ---- what is left of it

abbrev pub with_telling : SessionTable Reply → SessionEvent → SessionTable Reply
with_telling table telling = with_session table telling.client (of_session.told telling.event)

-- a client whose session has ended is told of nothing
abbrev pub with_tellings : MasterState → List SessionEvent → MasterState
with_tellings s tellings = record s { sessions = fold with_telling s.sessions tellings }
