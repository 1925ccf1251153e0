-- What holds of every world: how its clients, its messages and its master fit one another.
use Rattle.std.specs.Prelude.{◌≡◌, ◌⊎◌, ℕ, ◌+◌, ◌*◌, Bool, true, ◌<◌, ◌≤◌, ◌==◌, List, [], ◌∷◌, Option, Some, None, if◌then◌else◌}
use Rattle.std.specs.List.{AllByRecursion, list_any}
use Rattle.std.specs.List.Sorted.{IsStrictlySortedBy}
use Rattle.std.specs.Map.{keys_of}
use Rattle.std.specs.Ordering.{nat_cmp}
use Rattle.tags_cell.specs.Handles.{name_in}
use Rattle.tags_cell.specs.declared.messages.calls.Call.{Call}
use Rattle.tags_cell.specs.declared.messages.calls.Call.TheVariants as calls
use Rattle.tags_cell.specs.declared.messages.calls.Open.{Open}
use Rattle.tags_cell.specs.declared.messages.requests.Request.TheVariants as requests
use Rattle.tags_cell.specs.declared.messages.requests.CallMessage.{CallMessage}
use Rattle.tags_cell.specs.declared.messages.outs.Out.TheVariants as outs
use Rattle.tags_cell.specs.declared.messages.outs.CallResult.{CallResult}
use Rattle.tags_cell.specs.declared.messages.outs.CallResult.TheVariants as results
use Rattle.tags_cell.specs.declared.messages.outs.NewHandle.{NewHandle}
use Rattle.tags_cell.specs.declared.messages.outs.Started.{Started}
use Rattle.tags_cell.specs.declared.messages.outs.Refused.{Refused}
use Rattle.node_core.specs.declared.refusals.Fault.TheVariants as faults
use Rattle.session_core.specs.declared.records.LastCall.{LastCall}
use Rattle.session_core.specs.declared.records.Session.{Session}
use Rattle.tags_cell.specs.declared.messages.outs.Reply.{Reply}
use Rattle.lease_core.specs.Lease.{longest_lease}
use Rattle.rows_cell.specs.declared.settings.Limits.{Limits}
use Rattle.coherence.specs.Slice as one
use Rattle.coherence.specs.Slice.{Reached}
use Rattle.cache_core.specs.Caches.{AreCacheEntries, entry_of}
use Rattle.cache_core.specs.declared.kept.SharedHandle as shared
use Rattle.client_core.specs.declared.parts.asks.NodeCall.{NodeCall}
use Rattle.client_core.specs.declared.parts.handles.ClientHandle.{ClientHandle}
use Rattle.client_core.specs.declared.parts.sessions.ClientStanding.TheVariants as sessions
use Rattle.client_core.specs.declared.parts.targets.Outstanding.{Outstanding}
use Rattle.client_core.specs.declared.parts.targets.Target.TheVariants as targets
use Rattle.client_core.specs.Calls.{call_on}
use Rattle.client_core.specs.Handles.{handle_of}
use Rattle.client_core.specs.State.{ClientState, IsOff}
use Rattle.gate_core.specs.declared.pending.Waiting.{Waiting}
use Rattle.master_parts.specs.declared.pending.Task.{Task}
use Rattle.master_parts.specs.declared.pending.Task.TheVariants as tasks
use Rattle.master_parts.specs.declared.pending.Work.{Work}
use Rattle.master_parts.specs.declared.pending.Work.TheVariants as works
use Rattle.master_state.specs.State.{MasterState}
use Rattle.cell_core.specs.Names.{name_asked}
use Rattle.master_state.specs.Lookups.{session_of, kept_of}
use Rattle.world_steps.specs.declared.mail.Message.{Message}
use Rattle.world_steps.specs.declared.members.WorldClient.{WorldClient}
use Rattle.world_steps.specs.Messages.{request_at, out_at, call_of}
use Rattle.world_steps.specs.Members.{is_fair}
use Rattle.world_steps.specs.World.{WorldState, member_of, Agrees}
use Rattle.world_cell.specs.Slices.{Shown, grant_of, grants_of, slice}
use Rattle.world_cell.specs.Contents.{TellsTrue}
use Rattle.tags_cell.specs.Messages.{is_leave}

-- ---- clients

-- the client of a number has it, and its session is of an epoch that was
pub record IsMember (epoch number : ℕ) (member : WorldClient) : Type 0 where
  pub own : member.client.number ≡ number
  pub past : member.client.epoch ≤ epoch
  pub unstarted : member.client.session ≡ sessions.Unstarted → member.client.epoch ≡ 0
  pub live : member.client.session ≡ sessions.Live → 0 < member.client.epoch
  -- it knows no moment to come
  pub noted : member.client.clock ≤ member.clock

-- ---- what a client holds

-- open handles by the client's numbers for them, none above the newest; each is known by the name that stands in its bytes
pub record AreHandles (opened : ℕ) (handles : List (ℕ × ClientHandle)) : Type 0 where
  pub in_order : IsStrictlySortedBy nat_cmp (keys_of handles)
  pub counted : (number : ℕ) (handle : ClientHandle) → handle_of handles number ≡ Some handle → number ≤ opened
  pub named : (number : ℕ) (handle : ClientHandle) → handle_of handles number ≡ Some handle → name_in handle.bytes ≡ handle.name

-- so is one that is kept to be shared
abbrev pub IsSharedByName : shared.SharedHandle NewHandle → Type 0
IsSharedByName kept = name_in kept.handle.bytes ≡ kept.name

-- the call that has no reply yet was sent; one on the node of an open handle was made with the handle's bytes
pub record HasAsked (sent : List Message) (s : ClientState) (call : Outstanding) : Type 0 where
  pub message : CallMessage
  pub is_call : call.request ≡ requests.Call message
  pub found : call_of sent s.number message.number ≡ Some message
  pub counted : (number : ℕ) → call.target ≡ targets.Handle number → number ≤ s.opened
  pub made : (number : ℕ) (handle : ClientHandle) → call.target ≡ targets.Handle number → handle_of s.handles number ≡ Some handle → (node : NodeCall) × (message.call ≡ call_on handle.bytes node)

-- a client's cache, its handles and its call
pub record Holds (sent : List Message) (s : ClientState) : Type 0 where
  pub entries : AreCacheEntries s.cache.entries
  pub none_before : s.session ≡ sessions.Unstarted → (name : List ℕ) → entry_of s.cache.entries name ≡ None
  pub handles : AreHandles s.opened s.handles
  pub kept : AllByRecursion IsSharedByName s.kept
  pub asked : (call : Outstanding) → s.outstanding ≡ Some call → HasAsked sent s call
  pub off : IsOff s

-- ---- messages

-- a client that joined sent the call, under one of its numbers so far, in an epoch that was
pub record HasSent (w : WorldState) (client number : ℕ) (call : CallMessage) : Type 0 where
  pub member : WorldClient
  pub joined : member_of w client ≡ Some member
  pub within : number ≤ member.client.calls
  pub past : call.epoch ≤ w.rows.epoch
  -- one that asked for the end of its session serves nothing any more
  pub leaves : is_leave call.call ≡ true → member.client.leaving ≡ true

-- ---- the master

-- the numbers of a client's calls that wait; the number of a Start is of another count
abbrev pub put_waiting : ℕ → ℕ → ℕ → Work → List ℕ → List ℕ
put_waiting client whose number (works.Calls call sequencer) numbers = if whose == client then number ∷ numbers else numbers
put_waiting client whose number (works.Starts principal received) numbers = numbers

abbrev pub put_task : ℕ → Task → List ℕ → List ℕ
put_task client (tasks.Asked asked) numbers = put_waiting client asked.client asked.number asked.work numbers
put_task client (tasks.Tidies idle) numbers = numbers

abbrev pub waiting : ℕ → List (Waiting Task) → List ℕ
waiting client [] = []
waiting client (w ∷ ws) = put_task client w.change.body (waiting client ws)

-- the last call of a client waits for its turn at most until it has its reply
abbrev pub IsWaiting : ℕ → Option Reply → List ℕ → Type 0
IsWaiting number (Some reply) numbers = numbers ≡ []
IsWaiting number None numbers = (numbers ≡ number ∷ []) ⊎ (numbers ≡ [])

abbrev pub IsLastInTurn : Option (LastCall Reply) → List ℕ → Type 0
IsLastInTurn None numbers = numbers ≡ []
IsLastInTurn (Some kept) numbers = IsWaiting kept.number kept.reply numbers

-- and no other call of the client waits
abbrev pub IsInTurn : Option (Session Reply) → List ℕ → Type 0
IsInTurn None numbers = numbers ≡ []
IsInTurn (Some session) numbers = IsLastInTurn session.kept numbers

-- a call that waits was sent in the master's epoch
abbrev pub IsOfMessage : List Message → ℕ → ℕ → ℕ → Work → Type 0
IsOfMessage sent epoch client number (works.Starts principal received) = Unit {0}
IsOfMessage sent epoch client number (works.Calls call sequencer) =
    call_of sent client number ≡ Some (record { client = client; epoch = epoch; number = number; call = call; sequencer = sequencer })

abbrev pub IsTaskOfMessage : List Message → ℕ → Task → Type 0
IsTaskOfMessage sent epoch (tasks.Asked asked) = IsOfMessage sent epoch asked.client asked.number asked.work
IsTaskOfMessage sent epoch (tasks.Tidies idle) = Unit {0}

abbrev pub AreOfMessages : List Message → ℕ → List (Waiting Task) → Type 0
AreOfMessages sent epoch [] = Unit {0}
AreOfMessages sent epoch (w ∷ ws) = IsTaskOfMessage sent epoch w.change.body × AreOfMessages sent epoch ws

-- the call whose reply is kept was sent in the master's epoch
pub record WasSent (sent : List Message) (epoch client number : ℕ) : Type 0 where
  pub call : CallMessage
  pub found : call_of sent client number ≡ Some call
  pub same : call.epoch ≡ epoch

-- a reply is to the call of this client and number
pub record IsReplyTo (client number : ℕ) (reply : Reply) : Type 0 where
  pub to : reply.client ≡ client
  pub answered : reply.number ≡ number

-- what a reply grants was granted
abbrev pub HasGranted : List Message → List ℕ → ℕ → Reply → Type 0
HasGranted sent secret client reply =
    (name : List ℕ) (grant : one.Grant Shown) → one.IsIn grant (grant_of client name secret sent (outs.Reply reply) []) → one.IsIn grant (grants_of client name secret sent)

-- a handle that a call is answered is of an Open of the name that stands in its bytes
abbrev pub OpensAs : Call → CallResult → Type 0
OpensAs call (results.Opened handle) = (opening : Open) × (call ≡ calls.Open opening) × (name_in handle.bytes ≡ opening.name)
OpensAs call _ = Unit {0}

-- a reply is to a call that was sent before; where it may be kept in a cache, the call asks what a name shows, and that was granted
pub record IsAnswer (sent : List Message) (secret : List ℕ) (reply : Reply) : Type 0 where
  pub call : CallMessage
  pub found : call_of sent reply.client reply.number ≡ Some call
  pub tells : (stamp : ℕ) → reply.stamp ≡ Some stamp → (name : List ℕ) × (name_asked secret call.call ≡ Some name)
  pub granted : HasGranted sent secret reply.client reply
  pub opens : OpensAs call.call reply.result

-- what waits and what is kept fits the messages
pub record FitsMessages (sent : List Message) (s : MasterState) : Type 0 where
  pub queue : AreOfMessages sent s.epoch s.gate.waiting
  pub kept : (client : ℕ) (kept : LastCall Reply) → kept_of s client ≡ Some kept → WasSent sent s.epoch client kept.number
  pub replies : (client : ℕ) (kept : LastCall Reply) (reply : Reply) → kept_of s client ≡ Some kept → kept.reply ≡ Some reply → IsReplyTo client kept.number reply
  pub answers : (client : ℕ) (kept : LastCall Reply) (reply : Reply) → kept_of s client ≡ Some kept → kept.reply ≡ Some reply → IsAnswer sent s.secret reply
  pub turns : (client : ℕ) → IsInTurn (session_of s client) (waiting client s.gate.waiting)

abbrev pub Fits : WorldState → Option MasterState → Type 0
Fits w None = Unit {0}
Fits w (Some s) = FitsMessages w.messages s

-- ---- clocks

-- the master knows no moment to come
abbrev pub IsNoted : ℕ → Option MasterState → Type 0
IsNoted now None = Unit {0}
IsNoted now (Some s) = s.clock ≤ now

-- a client's clock and the master's are fair since the point of their least lead, and the lead isn't less now
pub record IsFairSince (now : ℕ) (member : WorldClient) : Type 0 where
  pub fair : is_fair now member.clock member ≡ true
  pub least : 16 * member.least_now + 17 * member.clock ≤ 16 * now + 17 * member.least_clock

-- the clocks of each client and of the master
abbrev pub AreFair : WorldState → Option MasterState → Type 0
AreFair w None = Unit {0}
AreFair w (Some s) = (number : ℕ) (member : WorldClient) → member_of w number ≡ Some member → IsFairSince w.clock member

-- ---- limits

-- the master goes by these limits
abbrev pub IsLimited : Limits → Option MasterState → Type 0
IsLimited limits None = Unit {0}
IsLimited limits (Some s) = s.limits ≡ limits

-- ---- all of it

pub record IsConsistent (w : WorldState) : Type 0 where
  -- each client is the one of its number
  pub clients : (number : ℕ) (member : WorldClient) → member_of w number ≡ Some member → IsMember w.rows.epoch number member
  pub holds : (number : ℕ) (member : WorldClient) → member_of w number ≡ Some member → Holds w.messages member.client
  -- client and number name one call
  pub named : (at : ℕ) (call : CallMessage) → request_at w.messages at ≡ Some (requests.Call call) → call_of w.messages call.client call.number ≡ Some call
  -- each call is of a client that joined
  pub sent : (client number : ℕ) (call : CallMessage) → call_of w.messages client number ≡ Some call → HasSent w client number call
  -- no session was granted in an epoch to come
  pub started : (at : ℕ) (started : Started) → out_at w.messages at ≡ Some (outs.Started started) → started.epoch ≤ w.rows.epoch
  -- nor was any client told of such an epoch
  pub told : (at present : ℕ) (refused : Refused) → out_at w.messages at ≡ Some (outs.Refused refused) → refused.fault ≡ faults.OldEpoch present → present ≤ w.rows.epoch
  -- each reply is to a call
  pub answers : (at : ℕ) (reply : Reply) → out_at w.messages at ≡ Some (outs.Reply reply) → IsAnswer w.messages w.rows.secret reply
  -- the master, where one is up, agrees with the rows
  pub master : Agrees w w.master
  -- and with the messages
  pub fits : Fits w w.master
  -- no master gives a longer lease than the longest
  pub lease : w.terms.lease ≤ longest_lease
  pub limits : IsLimited w.terms.limits w.master
  pub noted : IsNoted w.clock w.master
  pub fair : AreFair w w.master
  -- to each client, and of each name, the world is what some schedule leads to
  pub reached : (client : ℕ) (name : List ℕ) → Reached (slice client name w)
  -- what clients are to be told of contents stands
  pub tells : TellsTrue w
