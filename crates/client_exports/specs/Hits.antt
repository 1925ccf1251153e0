-- The content that the cache has for a handle.
use Rattle.std.specs.Prelude.{◌≡◌, ℕ, ◌≤◌, nat_lt, ◌==◌, List, Option, Some, None, Bool, not, ◌&&◌, is_none, Ok, if◌then◌else◌}
use Rattle.lease_core.specs.Lease.{IsMoment}
use Rattle.cache_core.specs.Caches.{CacheState, answer}
use Rattle.node_core.specs.declared.views.View.{View}
use Rattle.tags_cell.specs.declared.messages.calls.Call.TheVariants as calls
use Rattle.tags_cell.specs.declared.messages.requests.CallMessage.{CallMessage}
use Rattle.tags_cell.specs.declared.messages.requests.Request.TheVariants as requests
use Rattle.client_core.specs.declared.parts.asks.Ask.TheVariants as asks
use Rattle.client_core.specs.declared.parts.asks.NodeCall.TheVariants as nodes
use Rattle.client_core.specs.declared.parts.handles.ClientHandle.{ClientHandle}
use Rattle.codec.specs.Forms.{read_whole}
use Rattle.codec.specs.Requests.{request}
use Rattle.client_exports.specs.declared.statuses.Status.{Status}
use Rattle.client_exports.specs.declared.statuses.Status.TheVariants as statuses
use Rattle.client_exports.specs.Answers.{Fills}
use Rattle.client_exports.specs.Leases.{EndsAt}
use Rattle.client_exports.specs.Shows.{last_content}
use Rattle.client_exports.specs.States.{HeldState}
use Rattle.client_exports.specs.Steps.{ask_held, ask_bytes}
use Rattle.client_exports.specs.Wanted.{number_in}

-- the content that a step was served with, if it was
abbrev pub served_content : HeldState × Status → Option (List ℕ)
served_content (held, statuses.Served) = Some (last_content held.lines)
served_content (held, _) = None

-- the content that a read of this handle would be served with, were it asked for now, if it would be
abbrev pub hit : HeldState → ℕ → ℕ → Option (List ℕ)
hit held now number = served_content (ask_held held now (asks.Node number nodes.Read))

-- ---- found by looking

-- the handle is open, may be read by, and neither is poisoned nor has a sequencer
abbrev pub is_readable : ClientHandle → Bool
is_readable handle = not handle.poisoned && handle.mode.read && is_none handle.sequencer

abbrev pub readable : Option ClientHandle → Option ClientHandle
readable None = None
readable (Some handle) = if is_readable handle then Some handle else None

-- of its own instance alone
abbrev pub own_content : ClientHandle → Option View → Option (List ℕ)
own_content handle None = None
own_content handle (Some view) = if view.node.instance == handle.instance then Some view.node.content else None

-- of what is cached under its name
abbrev pub shown : ClientHandle → Option (Option View) → Option (List ℕ)
shown handle None = None
shown handle (Some entry) = own_content handle entry

abbrev pub found : CacheState → ℕ → Option ClientHandle → Option (List ℕ)
found cache moment None = None
found cache moment (Some handle) = shown handle (answer cache moment handle.name)

-- ---- an export

-- it is told by 65 and goes into the room where it fits; or there is none, which is told by 0, and nothing is written
abbrev pub Hits : Option (List ℕ) → (before after : List ℕ) → (former count code : ℕ) → Type 0
Hits (Some content) before after former count code = (code ≡ 65) × Fills content before after count
Hits None before after former count code = (code ≡ 0) × (after ≡ before) × (count ≡ former)

-- ---- a law

-- it is what the call of these bytes would be served with, which are those of a read of the handle
abbrev pub HitIsAsked : Type 0
HitIsAsked =
    (held : HeldState) (now number : ℕ) (bytes handle : List ℕ) (message : CallMessage) → read_whole request bytes ≡ Ok (requests.Call message)
    → message.call ≡ calls.Read handle → number_in handle ≡ Some number
    → hit held now number ≡ served_content (ask_bytes held now bytes)

-- a hit lasts as long as the lease, whatever else becomes of time, and no longer: at each later moment before the end of the lease it is the same, and from then on there is none
abbrev pub HitLasts : Type 0
HitLasts =
    (held : HeldState) (now later number end : ℕ) (content : List ℕ) → EndsAt held.client.cache.lease end → hit held now number ≡ Some content → now ≤ later → IsMoment later
    → hit held later number ≡ (if nat_lt later end then Some content else None)
