-- What holds of the bytes of messages.
use Rattle.std.specs.Prelude.{◌≡◌, ◌≢◌, ◌<◌, ℕ, List, ◌∷◌, length, slice_index, Ok, Err}
use Rattle.node_core.specs.declared.lines.Line.{Line}
use Rattle.tags_cell.specs.declared.messages.requests.Request.{Request}
use Rattle.tags_cell.specs.declared.messages.outs.Out.{Out}
use Rattle.codec.specs.declared.faults.WireFault.TheVariants.{BadVersion}
use Rattle.codec.specs.Forms.{Form, version, length_end, written, read_whole}
use Rattle.codec.specs.Requests.{request}
use Rattle.codec.specs.Outs.{out_message, out_written}
use Rattle.codec.specs.Lines.{line}

abbrev pub AreBytes : List ℕ → Type 0
AreBytes bytes = (i : ℕ) → slice_index bytes i < 256

-- what a client wrote is read as it was
abbrev pub WrittenRequestIsRead : Type 0
WrittenRequestIsRead = (message : Request) (bytes : List ℕ) → request.is message → written request message ≡ Ok bytes → read_whole request bytes ≡ Ok message

-- what is read of a client is what would be written, and in its ranges
abbrev pub ReadRequestWasWritten : Type 0
ReadRequestWasWritten =
    (bytes : List ℕ) (message : Request) → AreBytes bytes → read_whole request bytes ≡ Ok message → request.is message × (written request message ≡ Ok bytes)

-- the same of what a master writes
abbrev pub WrittenOutIsRead : Type 0
WrittenOutIsRead = (message : Out) (bytes : List ℕ) → out_message.is message → out_written message ≡ Ok bytes → read_whole out_message bytes ≡ Ok message

abbrev pub ReadOutWasWritten : Type 0
ReadOutWasWritten =
    (bytes : List ℕ) (message : Out) → AreBytes bytes → read_whole out_message bytes ≡ Ok message → out_message.is message × (out_written message ≡ Ok bytes)

-- the same of a line
abbrev pub WrittenLineIsRead : Type 0
WrittenLineIsRead = (printed : Line) (bytes : List ℕ) → line.is printed → written line printed ≡ Ok bytes → read_whole line bytes ≡ Ok printed

abbrev pub ReadLineWasWritten : Type 0
ReadLineWasWritten = (bytes : List ℕ) (printed : Line) → AreBytes bytes → read_whole line bytes ≡ Ok printed → line.is printed × (written line printed ≡ Ok bytes)

-- a format: its version, and the layout that this version stands for, of what a client sends and of what a master sends
pub record Format : Type 1 where
  pub first : ℕ
  pub requests : Form Request
  pub outs : Form Out

-- the one that is written and read
abbrev pub format : Format
format = record { first = version; requests = request; outs = out_message }

-- what is written begins with the version of the format and goes on by its layout, and what begins with any other byte is of another version
abbrev pub BytesAreOf : Format → Type 0
BytesAreOf f =
    ((message : Request) (bytes : List ℕ) → written request message ≡ Ok bytes → bytes ≡ f.first ∷ f.requests.write message)
    × ((message : Out) (bytes : List ℕ) → out_written message ≡ Ok bytes → bytes ≡ f.first ∷ f.outs.write message)
    × ((first : ℕ) (rest : List ℕ) → first ≢ f.first → length (first ∷ rest) < length_end
    → (read_whole f.requests (first ∷ rest) ≡ Err BadVersion) × (read_whole f.outs (first ∷ rest) ≡ Err BadVersion))
