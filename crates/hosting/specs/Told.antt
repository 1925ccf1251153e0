-- The forms of the frames that a master sends.
use Rattle.std.specs.Prelude.{ℕ, List, [], ◌∷◌, Result, Err, if◌then◌else◌}
use Rattle.node_core.specs.declared.lines.Line.{Line}
use Rattle.tags_cell.specs.declared.messages.outs.Out.{Out}
use Rattle.tags_cell.specs.Messages.{out_client}
use Rattle.codec.specs.declared.faults.WireFault.{WireFault}
use Rattle.codec.specs.declared.faults.WireFault.TheVariants as wire
use Rattle.codec.specs.Forms.{Form, ◌⊗◌, choice, of_kind, behind}
use Rattle.codec.specs.Fields.{word, client, block, optional_word}
use Rattle.codec.specs.Outs.{out_message, has_bytes}
use Rattle.codec.specs.Lines.{line}
use Rattle.hosting.specs.declared.tellings.MasterFrame.{MasterFrame}
use Rattle.hosting.specs.declared.tellings.MasterFrame.TheVariants as tells
use Rattle.hosting.specs.declared.standing.MasterCounts.{MasterCounts}
use Rattle.hosting.specs.declared.kinds.ToldKind.{ToldKind}
use Rattle.hosting.specs.declared.kinds.ToldKind.TheVariants as of
use Rattle.hosting.specs.Blocks.{versioned, framed}

-- the client that it goes to, and all bytes of the message
abbrev pub out_fields : Form (ℕ × Out)
out_fields = client ⊗ versioned out_message

-- all bytes of a line
abbrev pub line_fields : Form Line
line_fields = versioned line

-- one number after the other
abbrev pub Words : Type 0
Words = ℕ × (ℕ × (ℕ × (ℕ × ℕ)))

abbrev pub counts_by : Words → MasterCounts
counts_by w = record { epoch = w.0; sessions = w.1.0; nodes = w.1.1.0; rights = w.1.1.1.0; changes = w.1.1.1.1 }

abbrev pub words_of : MasterCounts → Words
words_of c = (c.epoch, (c.sessions, (c.nodes, (c.rights, c.changes))))

abbrev pub count_fields : Form Words
count_fields = word ⊗ (word ⊗ (word ⊗ (word ⊗ word)))

-- ---- what is wrong with a frame

abbrev pub all_wire_faults : List WireFault
all_wire_faults = wire.NoMemory ∷ wire.TooLong ∷ wire.Cut ∷ wire.Extra ∷ wire.BadVersion ∷ wire.BadKind ∷ wire.BadNumber ∷ wire.BadText ∷ []

abbrev pub fault_place : WireFault → ℕ
fault_place wire.NoMemory = 0
fault_place wire.TooLong = 1
fault_place wire.Cut = 2
fault_place wire.Extra = 3
fault_place wire.BadVersion = 4
fault_place wire.BadKind = 5
fault_place wire.BadNumber = 6
fault_place wire.BadText = 7

abbrev pub wire_fault : Form WireFault
wire_fault = choice all_wire_faults fault_place

-- ---- what is told

abbrev pub all_told : List ToldKind
all_told = of.Line ∷ of.Message ∷ of.Bad ∷ of.End ∷ of.Counts ∷ of.Recovers ∷ of.Waits ∷ of.Touches ∷ of.Awaited ∷ []

abbrev pub told_place : ToldKind → ℕ
told_place of.Line = 0
told_place of.Message = 1
told_place of.Bad = 2
told_place of.End = 3
told_place of.Counts = 4
told_place of.Recovers = 5
told_place of.Waits = 6
told_place of.Touches = 7
told_place of.Awaited = 8

abbrev pub told_kind : MasterFrame → ToldKind
told_kind (tells.Line printed) = of.Line
told_kind (tells.Message number message) = of.Message
told_kind (tells.Bad fault) = of.Bad
told_kind (tells.End deadline) = of.End
told_kind (tells.Counts counts) = of.Counts
told_kind (tells.Recovers until) = of.Recovers
told_kind (tells.Waits number) = of.Waits
told_kind (tells.Touches name) = of.Touches
told_kind (tells.Awaited number) = of.Awaited

abbrev pub told_is : MasterFrame → Type 0
told_is (tells.Line printed) = line_fields.is printed
told_is (tells.Message number message) = out_fields.is (number, message)
told_is (tells.Bad fault) = wire_fault.is fault
told_is (tells.End deadline) = optional_word.is deadline
told_is (tells.Counts counts) = count_fields.is (words_of counts)
told_is (tells.Recovers until) = word.is until
told_is (tells.Waits number) = word.is number
told_is (tells.Touches name) = block.is name
told_is (tells.Awaited number) = word.is number

abbrev pub told_bytes : MasterFrame → List ℕ
told_bytes (tells.Line printed) = line_fields.write printed
told_bytes (tells.Message number message) = out_fields.write (number, message)
told_bytes (tells.Bad fault) = wire_fault.write fault
told_bytes (tells.End deadline) = optional_word.write deadline
told_bytes (tells.Counts counts) = count_fields.write (words_of counts)
told_bytes (tells.Recovers until) = word.write until
told_bytes (tells.Waits number) = word.write number
told_bytes (tells.Touches name) = block.write name
told_bytes (tells.Awaited number) = word.write number

abbrev pub told_behind : ToldKind → List ℕ → Result (MasterFrame × List ℕ) WireFault
told_behind of.Line rest = behind tells.Line line_fields rest
told_behind of.Message rest = behind (λ x. tells.Message x.0 x.1) out_fields rest
told_behind of.Bad rest = behind tells.Bad wire_fault rest
told_behind of.End rest = behind tells.End optional_word rest
told_behind of.Counts rest = behind (λ w. tells.Counts (counts_by w)) count_fields rest
told_behind of.Recovers rest = behind tells.Recovers word rest
told_behind of.Waits rest = behind tells.Waits word rest
told_behind of.Touches rest = behind tells.Touches block rest
told_behind of.Awaited rest = behind tells.Awaited word rest

-- the kind of what is told, and its fields
unfoldable pub told : Form MasterFrame
told = of_kind (choice all_told told_place) told_kind told_is told_bytes told_behind

-- a message to its client as a block; none where a file has children
abbrev pub out_framed : Out → Result (List ℕ) WireFault
out_framed message = if has_bytes message then framed told (tells.Message (out_client message) message) else Err wire.BadNumber
