-- Refusals: why a text is turned away, and the bytes of a master's refusal.
use Rattle.std.specs.Prelude.{ℕ, ◌-◌, List, [], ◌∷◌, ◌++◌, Result, Ok}
use Rattle.names_cell.specs.declared.faults.NameFault.{NameFault}
use Rattle.names_cell.specs.declared.faults.NameFault.TheVariants as names
use Rattle.node_core.specs.declared.kinds.Kind.TheVariants.{File}
use Rattle.node_core.specs.declared.kinds.Right.TheVariants.{Read}
use Rattle.node_core.specs.declared.kinds.LockMode.TheVariants.{Exclusive}
use Rattle.node_core.specs.Refusals.{fault_number}
use Rattle.node_core.specs.declared.refusals.Fault.{Fault}
use Rattle.node_core.specs.declared.refusals.Fault.TheVariants as faults
use Rattle.codec.specs.declared.faults.WireFault.{WireFault}
use Rattle.codec.specs.declared.faults.WireFault.TheVariants as wire
use Rattle.codec.specs.Forms.{Form, nothing, choice, of_kind, behind}
use Rattle.codec.specs.Fields.{word, kind, right, lock_mode}

-- a text that isn't one
abbrev pub fault_of_text : NameFault → WireFault
fault_of_text names.NoMemory = wire.NoMemory
fault_of_text _ = wire.BadText

-- the refusals in the order of their numbers, with any argument
abbrev pub all_faults : List Fault
all_faults =
    faults.NoMemory ∷ faults.BadName ∷ faults.OtherCell ∷ faults.BadPrincipal ∷ faults.BadAcl ∷ faults.NotFound ∷ faults.Exists ∷
    faults.WrongKind File ∷ faults.NotEmpty ∷ faults.Denied Read ∷ faults.WrongGeneration 0 ∷ faults.TooLarge ∷ faults.Exhausted ∷
    faults.StaleInstance ∷ faults.StoreRefused ∷ faults.StoreDamaged ∷ faults.BadHandle ∷ faults.BadSequencer ∷ faults.NoSession ∷
    faults.BadAck 0 ∷ faults.Repeat ∷ faults.Busy ∷ faults.Held Exclusive ∷ faults.Delayed 0 ∷ faults.NotHolder ∷
    faults.SequencerStale ∷ faults.DelayTooLong ∷ faults.OldEpoch 0 ∷ faults.Recovering ∷ faults.InJeopardy ∷
    faults.SessionExpired ∷ faults.Poisoned ∷ faults.CallOutstanding ∷ faults.Unknown ∷ faults.ProtocolFault ∷
    faults.UnfairClock ∷ faults.NoSuchMessage ∷ faults.MasterDown ∷ faults.MasterUp ∷ faults.WatchFull ∷ faults.PassMissing 0 ∷
    faults.ReceiptApart 0 ∷ faults.NoRoom 0 ∷ []

-- a refusal as it stands among them
abbrev pub fault_kind : Fault → Fault
fault_kind (faults.WrongKind x) = faults.WrongKind File
fault_kind (faults.Denied x) = faults.Denied Read
fault_kind (faults.WrongGeneration x) = faults.WrongGeneration 0
fault_kind (faults.BadAck x) = faults.BadAck 0
fault_kind (faults.Held x) = faults.Held Exclusive
fault_kind (faults.Delayed x) = faults.Delayed 0
fault_kind (faults.OldEpoch x) = faults.OldEpoch 0
fault_kind (faults.PassMissing x) = faults.PassMissing 0
fault_kind (faults.ReceiptApart x) = faults.ReceiptApart 0
fault_kind (faults.NoRoom x) = faults.NoRoom 0
fault_kind fault = fault

-- its place there, one below its number
abbrev pub fault_place : Fault → ℕ
fault_place fault = fault_number fault - 1

-- the bytes of its argument
abbrev pub argument_bytes : Fault → List ℕ
argument_bytes (faults.WrongKind x) = kind.write x
argument_bytes (faults.Denied x) = right.write x
argument_bytes (faults.WrongGeneration x) = word.write x
argument_bytes (faults.BadAck x) = word.write x
argument_bytes (faults.Held x) = lock_mode.write x
argument_bytes (faults.Delayed x) = word.write x
argument_bytes (faults.OldEpoch x) = word.write x
argument_bytes (faults.PassMissing x) = word.write x
argument_bytes (faults.ReceiptApart x) = word.write x
argument_bytes (faults.NoRoom x) = word.write x
argument_bytes fault = []

abbrev pub has_argument : Fault → Type 0
has_argument (faults.WrongKind x) = kind.is x
has_argument (faults.Denied x) = right.is x
has_argument (faults.WrongGeneration x) = word.is x
has_argument (faults.BadAck x) = word.is x
has_argument (faults.Held x) = lock_mode.is x
has_argument (faults.Delayed x) = word.is x
has_argument (faults.OldEpoch x) = word.is x
has_argument (faults.PassMissing x) = word.is x
has_argument (faults.ReceiptApart x) = word.is x
has_argument (faults.NoRoom x) = word.is x
has_argument fault = Unit {0}

-- what stands after the number
abbrev pub fault_behind : Fault → List ℕ → Result (Fault × List ℕ) WireFault
fault_behind (faults.WrongKind _) bytes = behind faults.WrongKind kind bytes
fault_behind (faults.Denied _) bytes = behind faults.Denied right bytes
fault_behind (faults.WrongGeneration _) bytes = behind faults.WrongGeneration word bytes
fault_behind (faults.BadAck _) bytes = behind faults.BadAck word bytes
fault_behind (faults.Held _) bytes = behind faults.Held lock_mode bytes
fault_behind (faults.Delayed _) bytes = behind faults.Delayed word bytes
fault_behind (faults.OldEpoch _) bytes = behind faults.OldEpoch word bytes
fault_behind (faults.PassMissing _) bytes = behind faults.PassMissing word bytes
fault_behind (faults.ReceiptApart _) bytes = behind faults.ReceiptApart word bytes
fault_behind (faults.NoRoom _) bytes = behind faults.NoRoom word bytes
fault_behind fault bytes = Ok (fault, bytes)

unfoldable pub fault : Form Fault
fault = of_kind (choice all_faults fault_place) fault_kind has_argument argument_bytes fault_behind
