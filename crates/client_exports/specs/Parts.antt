-- The calls that a holder asks for by their parts, plain numbers and bytes.
use Rattle.std.specs.Prelude.{ℕ, ◌==◌, List, Option, Some, None, Result, Ok, Err, if◌then◌else◌}
use Rattle.names_cell.specs.Text.{is_component, is_name}
use Rattle.node_core.specs.declared.kinds.Life.{Life}
use Rattle.node_core.specs.declared.kinds.Life.TheVariants as lives
use Rattle.node_core.specs.declared.kinds.LockMode.{LockMode}
use Rattle.node_core.specs.declared.kinds.LockMode.TheVariants as locks
use Rattle.tags_cell.specs.Masks.{events_of}
use Rattle.tags_cell.specs.Modes.{Rights, rights_of}
use Rattle.tags_cell.specs.declared.masks.Events.{Events}
use Rattle.tags_cell.specs.declared.messages.calls.AclNames.{AclNames}
use Rattle.tags_cell.specs.declared.messages.calls.Create.{Create}
use Rattle.tags_cell.specs.declared.messages.calls.Disposition.{Disposition}
use Rattle.tags_cell.specs.declared.messages.calls.Disposition.TheVariants as dispositions
use Rattle.tags_cell.specs.declared.messages.calls.NewNode.{NewNode}
use Rattle.tags_cell.specs.declared.messages.calls.NewNode.TheVariants as new_nodes
use Rattle.tags_cell.specs.declared.messages.calls.Open.{Open}
use Rattle.client_core.specs.declared.parts.asks.Ask.{Ask}
use Rattle.client_core.specs.declared.parts.asks.Ask.TheVariants as asks
use Rattle.client_core.specs.declared.parts.asks.NodeCall.TheVariants as nodes
use Rattle.codec.specs.declared.faults.WireFault.{WireFault}
use Rattle.codec.specs.declared.faults.WireFault.TheVariants as wire
use Rattle.codec.specs.Fields.{is_mode_byte, is_events_byte}
use Rattle.client_exports.specs.declared.calls.OpenParts.{OpenParts}
use Rattle.client_exports.specs.declared.statuses.Status.{Status}
use Rattle.client_exports.specs.declared.statuses.Status.TheVariants as statuses
use Rattle.client_exports.specs.States.{HeldState}
use Rattle.client_exports.specs.Steps.{ask_held}

-- ---- numbers, as the bytes of messages have them

abbrev pub mode_in : ℕ → Result Rights WireFault
mode_in bits = if is_mode_byte bits then Ok (rights_of bits) else Err wire.BadNumber

abbrev pub events_in : ℕ → Result Events WireFault
events_in bits = if is_events_byte bits then Ok (events_of bits) else Err wire.BadNumber

abbrev pub lock_mode_in : ℕ → Result LockMode WireFault
lock_mode_in mode = if mode == 0 then Ok locks.Exclusive else if mode == 1 then Ok locks.Shared else Err wire.BadKind

abbrev pub life_in : ℕ → Result Life WireFault
life_in life = if life == 0 then Ok lives.Permanent else if life == 1 then Ok lives.Ephemeral else Err wire.BadKind

-- the content of a file, which of a directory isn't used
abbrev pub node_in : ℕ → List ℕ → Result NewNode WireFault
node_in kind content = if kind == 0 then Ok (new_nodes.File content) else if kind == 1 then Ok new_nodes.Directory else Err wire.BadKind

-- 0 makes nothing
abbrev pub disposition_in : ℕ → Result (Option Disposition) WireFault
disposition_in create =
    if create == 0 then Ok None else if create == 1 then Ok (Some dispositions.May) else if create == 2 then Ok (Some dispositions.Must) else Err wire.BadKind

-- 0 for any generation
abbrev pub generation_in : ℕ → Option ℕ
generation_in generation = if generation == 0 then None else Some generation

-- ---- ACL names

abbrev pub component_in : List ℕ → Result (List ℕ) WireFault
component_in text = if is_component text then Ok text else Err wire.BadText

abbrev pub acls_of : Result (List ℕ) WireFault → Result (List ℕ) WireFault → Result (List ℕ) WireFault → Result AclNames WireFault
acls_of (Ok read) (Ok write) (Ok change) = Ok (record { read = read; write = write; change = change })
acls_of (Ok read) (Ok write) (Err fault) = Err fault
acls_of (Ok read) (Err fault) change = Err fault
acls_of (Err fault) write change = Err fault

-- all three are components
abbrev pub acls_in : (read write change : List ℕ) → Result AclNames WireFault
acls_in read write change = acls_of (component_in read) (component_in write) (component_in change)

-- ---- an Open

-- a node that is made takes the ACL names of its parent
abbrev pub made_as : Disposition → Result Life WireFault → Result NewNode WireFault → Result (Option Create) WireFault
made_as disposition (Ok life) (Ok node) = Ok (Some (record { disposition = disposition; node = node; life = life; acls = None }))
made_as disposition (Ok life) (Err fault) = Err fault
made_as disposition (Err fault) node = Err fault

abbrev pub created : Result (Option Disposition) WireFault → Result Life WireFault → Result NewNode WireFault → Result (Option Create) WireFault
created (Ok None) life node = Ok None
created (Ok (Some disposition)) life node = made_as disposition life node
created (Err fault) life node = Err fault

abbrev pub create_in : OpenParts → List ℕ → Result (Option Create) WireFault
create_in opening content = created (disposition_in opening.create) (life_in opening.life) (node_in opening.kind content)

abbrev pub name_in : List ℕ → Result (List ℕ) WireFault
name_in name = if is_name name then Ok name else Err wire.BadText

abbrev pub opening_of : ℕ → Rights → Events → Result (Option Create) WireFault → Result (List ℕ) WireFault → Result Ask WireFault
opening_of delay mode events (Ok create) (Ok name) = Ok (asks.Open (record { name = name; mode = mode; create = create; delay = delay; events = events }))
opening_of delay mode events (Ok create) (Err fault) = Err fault
opening_of delay mode events (Err fault) name = Err fault

abbrev pub opening_by : ℕ → Result Rights WireFault → Result Events WireFault → Result (Option Create) WireFault → Result (List ℕ) WireFault → Result Ask WireFault
opening_by delay (Ok mode) (Ok events) create name = opening_of delay mode events create name
opening_by delay (Ok mode) (Err fault) create name = Err fault
opening_by delay (Err fault) events create name = Err fault

-- the first part that isn't one is told
abbrev pub open_ask : List ℕ → OpenParts → List ℕ → Result Ask WireFault
open_ask name opening content = opening_by opening.lock_delay (mode_in opening.mode) (events_in opening.events) (create_in opening content) (name_in name)

-- ---- an Open under ACL names of its own

abbrev pub made_under : AclNames → Option Create → Option Create
made_under acls None = None
made_under acls (Some create) = Some (record create { acls = Some acls })

abbrev pub opening_under : AclNames → Open → Open
opening_under acls opening = record opening { create = made_under acls opening.create }

-- the node that an Open makes has these ACL names
abbrev pub under : AclNames → Ask → Ask
under acls (asks.Open opening) = asks.Open (opening_under acls opening)
under acls ask = ask

abbrev pub under_by : Result Ask WireFault → Result AclNames WireFault → Result Ask WireFault
under_by (Ok ask) (Ok acls) = Ok (under acls ask)
under_by (Ok ask) (Err fault) = Err fault
under_by (Err fault) acls = Err fault

-- the first part that isn't one is told, the ACL names last, also where nothing is made
abbrev pub open_under_ask : List ℕ → OpenParts → List ℕ → Result AclNames WireFault → Result Ask WireFault
open_under_ask name opening content acls = under_by (open_ask name opening content) acls

-- ---- calls on a handle

abbrev pub lock_by : ℕ → Result LockMode WireFault → Result Ask WireFault
lock_by number (Ok mode) = Ok (asks.Node number (nodes.Acquire mode))
lock_by number (Err fault) = Err fault

abbrev pub acquire_ask : ℕ → ℕ → Result Ask WireFault
acquire_ask number mode = lock_by number (lock_mode_in mode)

abbrev pub try_by : ℕ → Result LockMode WireFault → Result Ask WireFault
try_by number (Ok mode) = Ok (asks.Node number (nodes.TryAcquire mode))
try_by number (Err fault) = Err fault

abbrev pub try_acquire_ask : ℕ → ℕ → Result Ask WireFault
try_acquire_ask number mode = try_by number (lock_mode_in mode)

abbrev pub set_ask : ℕ → List ℕ → ℕ → Result Ask WireFault
set_ask number content generation = Ok (asks.Node number (nodes.Set content (generation_in generation)))

abbrev pub set_acl_by : ℕ → Option ℕ → Result AclNames WireFault → Result Ask WireFault
set_acl_by number generation (Ok acls) = Ok (asks.Node number (nodes.SetAcl acls generation))
set_acl_by number generation (Err fault) = Err fault

abbrev pub set_acl_ask : ℕ → Result AclNames WireFault → ℕ → Result Ask WireFault
set_acl_ask number acls generation = set_acl_by number (generation_in generation) acls

-- ---- a step

abbrev pub ask_parts : HeldState → ℕ → Result Ask WireFault → HeldState × Status
ask_parts old now (Ok ask) = ask_held old now ask
ask_parts old now (Err fault) = (old, statuses.Bad fault)
