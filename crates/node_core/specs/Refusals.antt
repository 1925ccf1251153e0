-- Refusals: their numbers, their names, and how they are printed.
use Rattle.std.specs.Prelude.{ℕ, List, [], ◌++◌, codes, decimal}
use Rattle.names_cell.specs.declared.faults.NameFault.{NameFault}
use Rattle.names_cell.specs.declared.faults.NameFault.TheVariants as grammar
use Rattle.node_core.specs.declared.faults.NodeFault.{NodeFault}
use Rattle.node_core.specs.declared.faults.NodeFault.TheVariants as small
use Rattle.node_core.specs.declared.refusals.Fault.{Fault}
use Rattle.node_core.specs.declared.refusals.Fault.TheVariants.{NoMemory, BadName, OtherCell, BadPrincipal, BadAcl, NotFound, Exists, WrongKind, NotEmpty, Denied, WrongGeneration, TooLarge, Exhausted, StaleInstance, StoreRefused, StoreDamaged, BadHandle, BadSequencer, NoSession, BadAck, Repeat, Busy, Held, Delayed, NotHolder, SequencerStale, DelayTooLong, OldEpoch, Recovering, InJeopardy, SessionExpired, Poisoned, CallOutstanding, Unknown, ProtocolFault, UnfairClock, NoSuchMessage, MasterDown, MasterUp, WatchFull, PassMissing, ReceiptApart, NoRoom}
use Rattle.node_core.specs.Words.{kind_text, right_text, lock_mode_text}

abbrev pub fault_number : Fault → ℕ
fault_number NoMemory = 1
fault_number BadName = 2
fault_number OtherCell = 3
fault_number BadPrincipal = 4
fault_number BadAcl = 5
fault_number NotFound = 6
fault_number Exists = 7
fault_number (WrongKind x) = 8
fault_number NotEmpty = 9
fault_number (Denied x) = 10
fault_number (WrongGeneration x) = 11
fault_number TooLarge = 12
fault_number Exhausted = 13
fault_number StaleInstance = 14
fault_number StoreRefused = 15
fault_number StoreDamaged = 16
fault_number BadHandle = 17
fault_number BadSequencer = 18
fault_number NoSession = 19
fault_number (BadAck x) = 20
fault_number Repeat = 21
fault_number Busy = 22
fault_number (Held x) = 23
fault_number (Delayed x) = 24
fault_number NotHolder = 25
fault_number SequencerStale = 26
fault_number DelayTooLong = 27
fault_number (OldEpoch x) = 28
fault_number Recovering = 29
fault_number InJeopardy = 30
fault_number SessionExpired = 31
fault_number Poisoned = 32
fault_number CallOutstanding = 33
fault_number Unknown = 34
fault_number ProtocolFault = 35
fault_number UnfairClock = 36
fault_number NoSuchMessage = 37
fault_number MasterDown = 38
fault_number MasterUp = 39
fault_number WatchFull = 40
fault_number (PassMissing x) = 41
fault_number (ReceiptApart x) = 42
fault_number (NoRoom x) = 43

abbrev pub fault_name : Fault → List ℕ
fault_name NoMemory = codes "NoMemory"
fault_name BadName = codes "BadName"
fault_name OtherCell = codes "OtherCell"
fault_name BadPrincipal = codes "BadPrincipal"
fault_name BadAcl = codes "BadAcl"
fault_name NotFound = codes "NotFound"
fault_name Exists = codes "Exists"
fault_name (WrongKind x) = codes "WrongKind"
fault_name NotEmpty = codes "NotEmpty"
fault_name (Denied x) = codes "Denied"
fault_name (WrongGeneration x) = codes "WrongGeneration"
fault_name TooLarge = codes "TooLarge"
fault_name Exhausted = codes "Exhausted"
fault_name StaleInstance = codes "StaleInstance"
fault_name StoreRefused = codes "StoreRefused"
fault_name StoreDamaged = codes "StoreDamaged"
fault_name BadHandle = codes "BadHandle"
fault_name BadSequencer = codes "BadSequencer"
fault_name NoSession = codes "NoSession"
fault_name (BadAck x) = codes "BadAck"
fault_name Repeat = codes "Repeat"
fault_name Busy = codes "Busy"
fault_name (Held x) = codes "Held"
fault_name (Delayed x) = codes "Delayed"
fault_name NotHolder = codes "NotHolder"
fault_name SequencerStale = codes "SequencerStale"
fault_name DelayTooLong = codes "DelayTooLong"
fault_name (OldEpoch x) = codes "OldEpoch"
fault_name Recovering = codes "Recovering"
fault_name InJeopardy = codes "InJeopardy"
fault_name SessionExpired = codes "SessionExpired"
fault_name Poisoned = codes "Poisoned"
fault_name CallOutstanding = codes "CallOutstanding"
fault_name Unknown = codes "Unknown"
fault_name ProtocolFault = codes "ProtocolFault"
fault_name UnfairClock = codes "UnfairClock"
fault_name NoSuchMessage = codes "NoSuchMessage"
fault_name MasterDown = codes "MasterDown"
fault_name MasterUp = codes "MasterUp"
fault_name WatchFull = codes "WatchFull"
fault_name (PassMissing x) = codes "PassMissing"
fault_name (ReceiptApart x) = codes "ReceiptApart"
fault_name (NoRoom x) = codes "NoRoom"

-- the argument of a refusal, behind a space
abbrev pub argument_text : Fault → List ℕ
argument_text (WrongKind present) = codes " " ++ kind_text present
argument_text (Denied missing) = codes " " ++ right_text missing
argument_text (WrongGeneration present) = codes " " ++ decimal present
argument_text (BadAck issued) = codes " " ++ decimal issued
argument_text (Held mode) = codes " " ++ lock_mode_text mode
argument_text (Delayed left) = codes " " ++ decimal left
argument_text (OldEpoch present) = codes " " ++ decimal present
argument_text (PassMissing pass) = codes " " ++ decimal pass
argument_text (ReceiptApart place) = codes " " ++ decimal place
argument_text (NoRoom limit) = codes " " ++ decimal limit
argument_text _ = []

-- the number, the name, and the argument where there is one
abbrev pub fault_text : Fault → List ℕ
fault_text fault = (decimal (fault_number fault) ++ (codes " " ++ fault_name fault)) ++ argument_text fault

-- the map's faults among the refusals
abbrev pub node_fault : NodeFault → Fault
node_fault small.NoMemory = NoMemory
node_fault small.NotFound = NotFound
node_fault (small.WrongKind present) = WrongKind present
node_fault small.NotEmpty = NotEmpty
node_fault small.TooLarge = TooLarge
node_fault small.Exhausted = Exhausted
node_fault small.StaleInstance = StaleInstance

-- the grammar's faults among the refusals
abbrev pub name_fault : NameFault → Fault
name_fault grammar.NoMemory = NoMemory
name_fault grammar.BadName = BadName
name_fault grammar.BadPrincipal = BadPrincipal
name_fault grammar.BadAcl = BadAcl
