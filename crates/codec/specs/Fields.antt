-- The forms of what messages are made of.
use Rattle.std.specs.Prelude.{ℕ, Bool, nat_le, nat_lt, ◌&&◌, List, [], ◌∷◌, Option}
use Rattle.names_cell.specs.Text.{is_name, is_component}
use Rattle.node_core.specs.declared.kinds.Kind.{Kind}
use Rattle.node_core.specs.declared.kinds.Kind.TheVariants as kinds
use Rattle.node_core.specs.declared.kinds.Life.{Life}
use Rattle.node_core.specs.declared.kinds.Life.TheVariants as lives
use Rattle.node_core.specs.declared.kinds.Right.{Right}
use Rattle.node_core.specs.declared.kinds.Right.TheVariants as rights
use Rattle.node_core.specs.declared.kinds.LockMode.{LockMode}
use Rattle.node_core.specs.declared.kinds.LockMode.TheVariants as modes
use Rattle.tags_cell.specs.Numbers.{is_client_number}
use Rattle.tags_cell.specs.Handles.{is_ordinal}
use Rattle.tags_cell.specs.Modes.{Rights, mode_bits, rights_of}
use Rattle.tags_cell.specs.Masks.{event_bits, events_of}
use Rattle.tags_cell.specs.declared.masks.Events.{Events}
use Rattle.tags_cell.specs.declared.messages.calls.Disposition.{Disposition}
use Rattle.tags_cell.specs.declared.messages.calls.Disposition.TheVariants as dispositions
use Rattle.codec.specs.declared.faults.WireFault.TheVariants.{BadNumber, BadText}
use Rattle.codec.specs.Forms.{Form, number, byte, counted, made, tested, choice, optional}

-- ---- numbers

-- any number, in eight bytes
unfoldable pub word : Form ℕ
word = number 8

-- a client's, 1 to 2^53-1
unfoldable pub client : Form ℕ
client = tested BadNumber is_client_number word

-- a message's, or another that is counted from 1: up to 2^63-1
unfoldable pub ordinal : Form ℕ
ordinal = tested BadNumber is_ordinal word

unfoldable pub optional_word : Form (Option ℕ)
optional_word = optional word

-- ---- bytes and texts

unfoldable pub block : Form (List ℕ)
block = counted

unfoldable pub optional_block : Form (Option (List ℕ))
optional_block = optional block

unfoldable pub name : Form (List ℕ)
name = tested BadText is_name block

-- a component, or a principal
unfoldable pub component : Form (List ℕ)
component = tested BadText is_component block

-- ---- small choices

abbrev pub kind_place : Kind → ℕ
kind_place kinds.File = 0
kind_place kinds.Directory = 1

unfoldable pub kind : Form Kind
kind = choice (kinds.File ∷ kinds.Directory ∷ []) kind_place

abbrev pub life_place : Life → ℕ
life_place lives.Permanent = 0
life_place lives.Ephemeral = 1

unfoldable pub life : Form Life
life = choice (lives.Permanent ∷ lives.Ephemeral ∷ []) life_place

abbrev pub right_place : Right → ℕ
right_place rights.Read = 0
right_place rights.Write = 1
right_place rights.Change = 2

unfoldable pub right : Form Right
right = choice (rights.Read ∷ rights.Write ∷ rights.Change ∷ []) right_place

abbrev pub lock_mode_place : LockMode → ℕ
lock_mode_place modes.Exclusive = 0
lock_mode_place modes.Shared = 1

unfoldable pub lock_mode : Form LockMode
lock_mode = choice (modes.Exclusive ∷ modes.Shared ∷ []) lock_mode_place

abbrev pub disposition_place : Disposition → ℕ
disposition_place dispositions.May = 0
disposition_place dispositions.Must = 1

unfoldable pub disposition : Form Disposition
disposition = choice (dispositions.May ∷ dispositions.Must ∷ []) disposition_place

-- ---- masks

abbrev pub is_mode_byte : ℕ → Bool
is_mode_byte b = nat_le 1 b && nat_lt b 8

-- the rights of a handle: 1 to read, 2 to write, 4 to change ACL names, added
unfoldable pub mode : Form Rights
mode = made rights_of mode_bits (tested BadNumber is_mode_byte byte)

abbrev pub is_events_byte : ℕ → Bool
is_events_byte b = nat_lt b 16

-- 1 for contents, 2 for children, 4 for the lock, 8 for a conflicting request, added
unfoldable pub events : Form Events
events = made events_of event_bits (tested BadNumber is_events_byte byte)
