-- Whom a master gives a handle.
use Rattle.std.specs.Prelude.{◌≡◌, ◌↔◌, ◌≤◌, ℕ, true, List, Some, None}
use Rattle.node_core.specs.Limits.{lock_delay_limit}
use Rattle.node_core.specs.Nodes.{get_node}
use Rattle.node_core.specs.declared.kinds.Right.{Right}
use Rattle.node_core.specs.declared.nodes.Node.{Node}
use Rattle.tags_cell.specs.Handles.{is_ordinal, handle_bytes}
use Rattle.tags_cell.specs.Modes.{Rights, has_right}
use Rattle.tags_cell.specs.declared.messages.calls.Call.TheVariants as calls
use Rattle.tags_cell.specs.declared.messages.calls.Open.{Open}
use Rattle.tags_cell.specs.declared.handles.Handle.{Handle}
use Rattle.tags_cell.specs.declared.messages.outs.CallResult.TheVariants as results
use Rattle.tags_cell.specs.declared.messages.outs.NewHandle.{NewHandle}
use Rattle.tags_cell.specs.declared.messages.requests.CallMessage.{CallMessage}
use Rattle.master_parts.specs.declared.handles.HandleState.TheVariants as states
use Rattle.master_parts.specs.declared.pending.Taken.{Taken}
use Rattle.master_state.specs.NameSpace.{name_space, caller}
use Rattle.master_state.specs.State.{MasterState}
use Rattle.master_state.specs.Lookups.{may, is_of_cell, handle_state_of}
use Rattle.master_parts.specs.Keys.{key_of}
use Rattle.master_laws.specs.Steps.{TakesCall, IsAnsweredBy}

-- ---- who may open

-- each right of the mode is permitted to the client's principal, by the ACL files that this view names
abbrev pub ArePermitted : MasterState → ℕ → Rights → Node → Type 0
ArePermitted s client mode view = (right : Right) → has_right mode right ≡ true → may (name_space s) (caller s client) view right ≡ true

-- the node is there, each right of the mode is permitted on it, and the lock-delay is within the limit
pub record MayOpen (s : MasterState) (client : ℕ) (opening : Open) : Type 0 where
  pub view : Node
  pub there : get_node s.nodes opening.name ≡ Some view
  pub permitted : ArePermitted s client opening.mode view
  pub delay : opening.delay ≤ lock_delay_limit

-- ---- an Open that makes nothing

-- a call is an Open of a name of this cell, which makes nothing, under no sequencer
pub record IsPlainOpen (s : MasterState) (message : CallMessage) (opening : Open) : Type 0 where
  pub is_open : message.call ≡ calls.Open opening
  pub makes_nothing : opening.create ≡ None
  pub under_none : message.sequencer ≡ None
  pub of_cell : is_of_cell (name_space s) opening.name ≡ true

-- a handle can carry the master's epoch, and the instance of the node of this name, where it is there
pub record AreCarried (s : MasterState) (name : List ℕ) : Type 0 where
  pub epoch : is_ordinal s.epoch ≡ true
  pub instance : (view : Node) → get_node s.nodes name ≡ Some view → is_ordinal view.instance ≡ true

-- a call is answered with a handle
abbrev pub IsGivenHandle : Taken → CallMessage → Type 0
IsGivenHandle taken message = (handle : NewHandle) × IsAnsweredBy taken message (results.Opened handle)

-- an Open that makes nothing is answered with a handle exactly if the client may open the node so
abbrev pub OpensWherePermitted : Type 0
OpensWherePermitted =
    (s new : MasterState) (now : ℕ) (message : CallMessage) (opening : Open) (taken : Taken) → TakesCall s now message new taken → IsPlainOpen s message opening → AreCarried s opening.name
    → IsGivenHandle taken message ↔ MayOpen s message.client opening

-- ---- the handle that is given

-- of the call's client and number, on the node of its name with this view, in the mode that it asks for
abbrev pub handle_for : MasterState → CallMessage → Open → Node → Handle
handle_for s message opening view = record {
  epoch = s.epoch;
  client = message.client;
  number = message.number;
  instance = view.instance;
  mode = opening.mode;
  life = view.life;
  events = opening.events;
  delay = opening.delay;
  name = opening.name;
}

-- the handle that a call was given is that one, and the master knows from then on that it is open
pub record IsOpened (s : MasterState) (message : CallMessage) (opening : Open) (new : MasterState) (given : NewHandle) : Type 0 where
  pub view : Node
  pub there : get_node s.nodes opening.name ≡ Some view
  pub bytes : given.bytes ≡ handle_bytes s.secret (handle_for s message opening view)
  pub instance : given.instance ≡ view.instance
  pub life : given.life ≡ view.life
  pub known : handle_state_of new (key_of (handle_for s message opening view)) ≡ Some (states.Open (record { handle = handle_for s message opening view; bytes = given.bytes }))

-- a handle that an Open gives is that of its call, on the node and in the mode, and it is open
abbrev pub GivenHandleIsOpen : Type 0
GivenHandleIsOpen =
    (s new : MasterState) (now : ℕ) (message : CallMessage) (opening : Open) (taken : Taken) (given : NewHandle) → TakesCall s now message new taken → IsPlainOpen s message opening
    → IsAnsweredBy taken message (results.Opened given)
    → IsOpened s message opening new given
