-- What a handle hears of a notice.
use Rattle.std.specs.Prelude.{ℕ}
use Rattle.master_parts.specs.declared.notices.Notice.{Notice}
use Rattle.node_core.specs.declared.events.Event.{Event}
use Rattle.tags_cell.specs.declared.handles.Handle.{Handle}
use Rattle.master_parts.specs.declared.notices.Notice.TheVariants as notices
use Rattle.node_core.specs.declared.events.Event.TheVariants as events

-- whose handles a notice concerns
abbrev pub instance_of : Notice → ℕ
instance_of (notices.Contents instance generation) = instance
instance_of (notices.ChildAdded instance name) = instance
instance_of (notices.ChildRemoved instance name) = instance
instance_of (notices.ChildModified instance name) = instance
instance_of (notices.Invalid instance) = instance
instance_of (notices.Locked instance) = instance
instance_of (notices.Conflict instance) = instance

-- what a handle hears of a notice, if it is told
abbrev pub event_of : Handle → Notice → Event
event_of handle (notices.Contents instance generation) = events.Contents handle.number instance generation
event_of handle (notices.ChildAdded instance name) = events.ChildAdded handle.number name
event_of handle (notices.ChildRemoved instance name) = events.ChildRemoved handle.number name
event_of handle (notices.ChildModified instance name) = events.ChildModified handle.number name
event_of handle (notices.Invalid instance) = events.Invalid handle.number
event_of handle (notices.Locked instance) = events.Locked handle.number
event_of handle (notices.Conflict instance) = events.Conflict handle.number
