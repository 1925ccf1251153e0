-- What is looked up in a master, and in its name space.
use Rattle.std.specs.Prelude.{◌≡◌, ℕ, Bool, false, not, ◌&&◌, ◌||◌, ◌==◌, nat_lt, nat_le, max, List, [], ◌∷◌, length, Option, Some, None, Result, Ok, Err, if◌then◌else◌, is_none, is_some}
use Rattle.std.specs.Option.{option_map, option_map_or}
use Rattle.std.specs.Map.{lookup}
use Rattle.std.specs.BTreeMap.{is_at}
use Rattle.std.specs.Str.{bytes_eq}
use Rattle.names_cell.specs.Text.{cell_of}
use Rattle.node_core.specs.declared.refusals.Fault.{Fault}
use Rattle.node_core.specs.declared.lines.Line.{Line}
use Rattle.node_core.specs.declared.nodes.Node.{Node}
use Rattle.node_core.specs.declared.views.View.{View}
use Rattle.node_core.specs.declared.kinds.Kind.{Kind}
use Rattle.node_core.specs.declared.kinds.Right.{Right}
use Rattle.node_core.specs.declared.stats.Stat.{Stat}
use Rattle.node_core.specs.Limits.{number_limit}
use Rattle.node_core.specs.Nodes.{get_node, view_of}
use Rattle.node_core.specs.Access.{permitted}
use Rattle.rights_core.specs.declared.endings.Ending.{Ending}
use Rattle.rights_core.specs.declared.grants.Grant.{Grant}
use Rattle.gate_core.specs.Gate.{pending_limit}
use Rattle.tags_cell.specs.Numbers.{is_client_number}
use Rattle.tags_cell.specs.Modes.{Rights, has_right}
use Rattle.tags_cell.specs.Handles.{is_ordinal, handle_bytes, read_handle}
use Rattle.tags_cell.specs.Sequencers.{sequencer_bytes, read_sequencer}
use Rattle.tags_cell.specs.declared.sequencers.Sequencer.{Sequencer}
use Rattle.tags_cell.specs.declared.handles.Handle.{Handle}
use Rattle.tags_cell.specs.declared.messages.calls.Open.{Open}
use Rattle.tags_cell.specs.declared.messages.calls.Call.{Call}
use Rattle.tags_cell.specs.declared.messages.beats.Beat.{Beat}
use Rattle.tags_cell.specs.declared.messages.outs.CallResult.{CallResult}
use Rattle.tags_cell.specs.declared.messages.outs.Reply.{Reply}
use Rattle.master_parts.specs.declared.pending.Taken.{Taken}
use Rattle.session_core.specs.declared.records.LastCall.{LastCall}
use Rattle.session_core.specs.declared.records.Session.{Session}
use Rattle.session_core.specs.Sessions.{has_spent_events}
use Rattle.lock_core.specs.State.{LockState, hold_of}
use Rattle.lock_core.specs.Locks.{lock_at, sequencer_of, checked}
use Rattle.master_parts.specs.declared.handles.HandleState.{HandleState}
use Rattle.master_parts.specs.declared.handles.HandleKey.{HandleKey}
use Rattle.master_parts.specs.declared.handles.HandleNote.{HandleNote}
use Rattle.master_parts.specs.Keys.{handle_order, key_of}
use Rattle.master_parts.specs.Claims.{owner_of}
use Rattle.master_parts.specs.Ephemerals.{is_held_open, must_stay}
use Rattle.master_state.specs.Departed.{first_due}
use Rattle.master_state.specs.State.{MasterState, tables_of}
use Rattle.master_state.specs.CallsWaiting.{has_call}
use Rattle.master_state.specs.NameSpace.{NameSpace, Caller}
use Rattle.master_parts.specs.Notes.{open_note}
use Rattle.master_parts.specs.Calls.{is_too_long, write_fault, needing}
use Rattle.node_core.specs.declared.refusals.Fault.TheVariants as faults
use Rattle.node_core.specs.declared.lines.Line.TheVariants as lines
use Rattle.node_core.specs.declared.kinds.Kind.TheVariants as kinds
use Rattle.node_core.specs.declared.kinds.Right.TheVariants as rights
use Rattle.rights_core.specs.declared.endings.Ending.TheVariants as endings
use Rattle.rights_core.specs.declared.grants.Grant.TheVariants as grants
use Rattle.tags_cell.specs.declared.messages.calls.Call.TheVariants as calls
use Rattle.tags_cell.specs.declared.messages.outs.CallResult.TheVariants as results
use Rattle.tags_cell.specs.declared.messages.outs.Out.TheVariants as outs
use Rattle.session_core.specs.Sessions as of_sessions
use Rattle.master_parts.specs.declared.handles.HandleState.TheVariants as states

-- ---- what the master knows of a client

abbrev pub session_of : MasterState → ℕ → Option (Session Reply)
session_of s client = of_sessions.session_of s.sessions client

abbrev pub kept_of : MasterState → ℕ → Option (LastCall Reply)
kept_of s client = of_sessions.kept_of s.sessions client

abbrev pub is_live : MasterState → ℕ → Bool
is_live s client = of_sessions.is_live s.sessions client

-- a client without a session may start, unless its number had one that ended or comes too late; and one with a live session of the same principal
abbrev pub may_start : MasterState → ℕ → List ℕ → Bool
may_start s client principal =
    option_map_or (λ session. session.live && bytes_eq session.principal principal) (session_of s client) (not (nat_lt client s.ended_below))

-- the client has no session, and its number had none that ended
abbrev pub IsUnused : MasterState → ℕ → Type 0
IsUnused s client = (session_of s client ≡ None) × (nat_lt client s.ended_below ≡ false)

abbrev pub has_ended : MasterState → ℕ → Bool
has_ended s client = option_map_or (λ session. not session.live) (session_of s client) false

-- nothing is to be known of it any more: no client can be hurt, for its session has ended and no call of it waits for its turn
abbrev pub may_go : MasterState → ℕ → Bool
may_go s client = is_client_number client && has_ended s client && not (has_call client s.gate.waiting)

abbrev pub going : MasterState → Option ℕ → Option ℕ
going s None = None
going s (Some client) = if may_go s client then Some client else None

-- of whom nothing is known any more once another session begins: the first that has departed, where they are too many
abbrev pub retiring : MasterState → Option ℕ
retiring s = going s (first_due s.departed)

abbrev pub is_full : MasterState → Bool
is_full s = nat_le pending_limit (length s.gate.waiting)

-- ---- what is sent and printed

abbrev pub nothing : Taken
nothing = record { lines = []; outs = [] }

-- sent, and not recorded
abbrev pub turned_away : MasterState → ℕ → ℕ → Fault → Taken
turned_away s client number fault =
    record { lines = []; outs = outs.Refused (record { client = client; epoch = s.epoch; number = number; fault = fault }) ∷ [] }

-- the same, with its line
abbrev pub refusal : MasterState → ℕ → ℕ → Fault → Taken
refusal s client number fault =
    record { lines = lines.Refused fault ∷ []; outs = outs.Refused (record { client = client; epoch = s.epoch; number = number; fault = fault }) ∷ [] }

-- what is sent of a call's result, and kept of it: an answer that no client may keep in its cache
abbrev pub reply_of : MasterState → ℕ → ℕ → CallResult → Reply
reply_of s client number result = record { client = client; epoch = s.epoch; number = number; stamp = None; result = result }

-- how many invalidations were issued to a client's session
abbrev pub issued_to : MasterState → ℕ → ℕ
issued_to s client = option_map_or (λ session. session.invalidations.issued) (session_of s client) 0

-- an answer that its client may keep in its cache, unless it has processed an invalidation that is issued later
abbrev pub stamped_reply : MasterState → ℕ → ℕ → CallResult → Reply
stamped_reply s client number result = record (reply_of s client number result) { stamp = Some (issued_to s client) }

abbrev pub sends : Reply → Taken
sends reply = record { lines = []; outs = outs.Reply reply ∷ [] }

-- the last call again: its reply, or nothing while it waits
abbrev pub repeated_reply : Option Reply → Taken
repeated_reply None = nothing
repeated_reply (Some reply) = sends reply

abbrev pub repeated : LastCall Reply → Taken
repeated kept = repeated_reply kept.reply

-- ---- rights to keep a name in a cache

-- a new right is printed; one that the client holds already isn't
abbrev pub granted_lines : ℕ → List ℕ → Result Grant Fault → List Line
granted_lines client name (Ok (grants.Granted number)) = lines.Granted number client name ∷ []
granted_lines client name (Ok (grants.Already number)) = []
granted_lines client name (Ok grants.Full) = []
granted_lines client name (Err fault) = []

-- ---- Beats

-- it acknowledges invalidations
abbrev pub acknowledgement : Beat → Ending
acknowledgement beat = endings.Acknowledgement beat.invalidations

-- ---- access

-- the caller's principal is permitted the right to this node; without a session it isn't
abbrev pub may : NameSpace → Caller → Node → Right → Bool
may space caller node right = option_map_or (λ principal. permitted space.nodes principal node right) caller.principal false

abbrev pub lacks : NameSpace → Caller → Rights → Node → Right → Bool
lacks space caller mode node right = has_right mode right && not (may space caller node right)

-- the first right of the mode that isn't permitted
abbrev pub missing_right : NameSpace → Caller → Rights → Node → Option Right
missing_right space caller mode node =
    if lacks space caller mode node rights.Read then Some rights.Read
    else if lacks space caller mode node rights.Write then Some rights.Write
    else if lacks space caller mode node rights.Change then Some rights.Change
    else None

-- ---- handles

abbrev pub handle_state_of : MasterState → HandleKey → Option HandleState
handle_state_of s key = lookup (is_at (handle_order key)) s.handles

-- it is noted as open, by the epoch that gave it; or it is of an earlier epoch, and new to this master
abbrev pub is_usable : MasterState → Handle → Option HandleState → Bool
is_usable s handle (Some (states.Open noted)) = handle.epoch == noted.handle.epoch
is_usable s handle (Some states.Closed) = false
is_usable s handle None = nat_lt handle.epoch s.epoch

-- the handle that a client shows, where its bytes are right, it is the client's own, and it is usable
abbrev pub own_handle : MasterState → ℕ → Handle → Option Handle
own_handle s client handle =
    if handle.client == client && is_usable s handle (handle_state_of s (key_of handle)) then Some handle else None

abbrev pub shown_handle : MasterState → ℕ → List ℕ → Option Handle
shown_handle s client bytes = option_map_or (λ handle. own_handle s client handle) (read_handle s.secret bytes) None

-- the node of a handle, where its instance is there
abbrev pub node_of_handle : NameSpace → Handle → Option Node
node_of_handle space handle =
    option_map_or (λ node. if node.instance == handle.instance then Some node else None) (get_node space.nodes handle.name) None

-- ---- Opens

abbrev pub is_of_cell : NameSpace → List ℕ → Bool
is_of_cell space name = bytes_eq (cell_of name) space.name

-- a handle of a node; its numbers have to be ones that a handle can carry
abbrev pub numbered_handle : NameSpace → Caller → ℕ → Open → Node → Result Handle Fault
numbered_handle space caller number opening node =
    if is_ordinal space.epoch && is_ordinal node.instance
    then Ok (record {
      epoch = space.epoch;
      client = caller.client;
      number = number;
      instance = node.instance;
      mode = opening.mode;
      life = node.life;
      events = opening.events;
      delay = opening.delay;
      name = opening.name;
    })
    else Err faults.Exhausted

-- and so has its lock-delay
abbrev pub new_handle : NameSpace → Caller → ℕ → Open → Node → Result Handle Fault
new_handle space caller number opening node = if is_too_long opening.delay then Err faults.DelayTooLong else numbered_handle space caller number opening node

-- an Open of a present node: the rights of the mode are looked up on the node itself
abbrev pub open_present : NameSpace → Caller → ℕ → Open → Node → Result Handle Fault
open_present space caller number opening node =
    option_map_or (λ right. Err (faults.Denied right)) (missing_right space caller opening.mode node) (new_handle space caller number opening node)

-- an Open that makes nothing
abbrev pub plain_open : NameSpace → Caller → ℕ → Open → Result Handle Fault
plain_open space caller number opening = option_map_or (λ node. open_present space caller number opening node) (get_node space.nodes opening.name) (Err faults.NotFound)

abbrev pub opened_answer : NameSpace → Result Handle Fault → CallResult
opened_answer space (Ok handle) = results.Opened (record { bytes = handle_bytes space.secret handle; instance = handle.instance; life = handle.life })
opened_answer space (Err fault) = results.Refused fault

-- a new handle is open
abbrev pub opened_note : NameSpace → Result Handle Fault → Option HandleNote
opened_note space (Ok handle) = Some (open_note handle (handle_bytes space.secret handle))
opened_note space (Err fault) = None

-- ---- what is answered at once

-- only a directory is listed
abbrev pub list_answer : View → Kind → CallResult
list_answer view kinds.Directory = results.Listed view
list_answer view kinds.File = results.Refused (faults.WrongKind kinds.File)

abbrev pub stat_of : NameSpace → Node → Stat
stat_of space node = record {
  kind = node.kind;
  instance = node.instance;
  content_generation = node.content_generation;
  acl_generation = node.acl_generation;
  lock_generation = (lock_at space.locks node.instance).generation;
  read = node.read;
  write = node.write;
  change = node.change;
  life = node.life;
  length = length node.content;
}

-- ---- sequencers

-- the instance that stands at a name now
abbrev pub instance_at : NameSpace → List ℕ → Option ℕ
instance_at space name = option_map (λ node. node.instance) (get_node space.nodes name)

abbrev pub fault_of : Result (Unit {0}) Fault → Option Fault
fault_of (Ok done) = None
fault_of (Err fault) = Some fault

abbrev pub sequencer_test : NameSpace → Option Sequencer → Option Fault
sequencer_test space None = Some faults.BadSequencer
sequencer_test space (Some sequencer) = fault_of (checked space.locks (instance_at space sequencer.name) sequencer)

-- why a call that carries these bytes of a sequencer isn't done; without any it stands under none
abbrev pub sequencer_fault : NameSpace → Option (List ℕ) → Option Fault
sequencer_fault space None = None
sequencer_fault space (Some bytes) = sequencer_test space (read_sequencer bytes)

-- what a CheckSequencer is answered
abbrev pub check_answer : NameSpace → List ℕ → CallResult
check_answer space bytes = option_map_or (λ fault. results.Refused fault) (sequencer_fault space (Some bytes)) results.Done

-- ---- locks

-- the lock of a handle's node
abbrev pub lock_under : NameSpace → Handle → LockState
lock_under space handle = lock_at space.locks handle.instance

-- whether it holds that lock
abbrev pub holds_lock : NameSpace → Handle → Bool
holds_lock space handle = is_some (hold_of (lock_under space handle) (owner_of handle))

-- only a holder releases its lock
abbrev pub release_fault : NameSpace → Handle → Option CallResult
release_fault space handle = if is_none (hold_of (lock_under space handle) (owner_of handle)) then Some (results.Refused faults.NotHolder) else None

abbrev pub sequencer_result : Result Sequencer Fault → CallResult
sequencer_result (Ok sequencer) = results.Sequencer (sequencer_bytes sequencer)
sequencer_result (Err fault) = results.Refused fault

-- what a GetSequencer is answered
abbrev pub sequencer_answer : NameSpace → Handle → CallResult
sequencer_answer space handle = sequencer_result (sequencer_of (lock_under space handle) handle.instance handle.name (owner_of handle))

-- ---- calls on a node

-- what a call on a present node is answered at once; none where it waits for its turn
abbrev pub answer_on_node : NameSpace → Handle → Call → Node → Option CallResult
answer_on_node space handle (calls.Read bytes) node = needing handle rights.Read (Some (results.Viewed (view_of space.nodes handle.name node)))
answer_on_node space handle (calls.Stat bytes) node = Some (results.Stated (stat_of space node))
answer_on_node space handle (calls.List bytes) node = needing handle rights.Read (Some (list_answer (view_of space.nodes handle.name node) node.kind))
answer_on_node space handle (calls.Set bytes content generation) node = needing handle rights.Write (write_fault node.kind content)
answer_on_node space handle (calls.SetAcl bytes acls generation) node = needing handle rights.Change None
answer_on_node space handle (calls.Delete bytes) node = needing handle rights.Write None
answer_on_node space handle (calls.Acquire bytes mode) node = needing handle rights.Write None
answer_on_node space handle (calls.TryAcquire bytes mode) node = needing handle rights.Write None
answer_on_node space handle (calls.Release bytes) node = needing handle rights.Write (release_fault space handle)
answer_on_node space handle (calls.GetSequencer bytes) node = Some (sequencer_answer space handle)
answer_on_node space handle (calls.SetSequencer bytes) node = Some results.Done
answer_on_node space handle _ node = None

-- its sequencer is tested first
abbrev pub answer_under : NameSpace → Handle → Call → Node → Option Fault → Option CallResult
answer_under space handle call node (Some fault) = Some (results.Refused fault)
answer_under space handle call node None = answer_on_node space handle call node

-- a Close waits for its turn also where the node is gone, and whatever sequencer it carries
abbrev pub answer_on : NameSpace → Handle → Call → Option (List ℕ) → Option CallResult
answer_on space handle (calls.Close bytes) sequencer = None
answer_on space handle call sequencer =
    option_map_or (λ node. answer_under space handle call node (sequencer_fault space sequencer)) (node_of_handle space handle) (Some (results.Refused faults.StaleInstance))

-- ---- who holds a node open

-- a handle of a live session is open on the instance
abbrev pub has_open : MasterState → ℕ → Bool
has_open s instance = is_held_open (tables_of s) instance

-- the root and a directory with children stay
abbrev pub has_to_stay : MasterState → List ℕ → Bool
has_to_stay s name = must_stay s.nodes name

-- ---- moments

-- a moment earlier than the last one counts as that
abbrev pub noted : MasterState → ℕ → MasterState
noted s now = record s { clock = max s.clock now }

-- the count of all changes that ever waited, of all rights that were ever granted, or of a session's events is at its end
abbrev pub is_spent : MasterState → Bool
is_spent s = nat_le number_limit s.gate.pushed || nat_le number_limit (length s.rights) || has_spent_events s.sessions
