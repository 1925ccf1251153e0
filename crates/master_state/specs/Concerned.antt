-- Which handles the notices of a step are told to.
use Rattle.std.specs.Prelude.{◌≡◌, true, List, Option, Some, is_some}
use Rattle.std.specs.Option.{option_and_then}
use Rattle.master_parts.specs.declared.handles.HandleKey.{HandleKey}
use Rattle.master_parts.specs.declared.handles.HandleNote.{HandleNote}
use Rattle.master_parts.specs.declared.notices.Notice.{Notice}
use Rattle.master_parts.specs.declared.notices.SessionEvent.{SessionEvent}
use Rattle.master_parts.specs.Handles.{NotedHandle}
use Rattle.master_state.specs.Notices.{event_on, event_for, telling_by}
use Rattle.master_parts.specs.OpenHandles.{state_at, is_among}
use Rattle.master_state.specs.State.{MasterState}
use Rattle.master_parts.specs.declared.handles.HandleState.TheVariants as states

-- the key of each open handle that the notice is told to is among these
abbrev pub HasTold : MasterState → Notice → List (HandleKey × Unit {0}) → Type 0
HasTold s notice keys =
    (key : HandleKey) (noted : NotedHandle) → state_at s.handles key ≡ Some (states.Open noted) → is_some (event_on s noted.handle notice) ≡ true → is_among keys key ≡ true

-- the key of each open handle that one of the notices is told to is among these
abbrev pub HasConcerned : MasterState → List Notice → List (HandleKey × Unit {0}) → Type 0
HasConcerned s notices keys =
    (key : HandleKey) (noted : NotedHandle) → state_at s.handles key ≡ Some (states.Open noted) → is_some (event_for s noted.handle notices) ≡ true → is_among keys key ≡ true

-- what is told by the handle of a key, if it is known
abbrev pub telling_at : MasterState → Option HandleNote → List Notice → HandleKey → Option SessionEvent
telling_at s note notices key = option_and_then (λ state. telling_by s note notices (key, state)) (state_at s.handles key)
