-- What holds of the bytes of frames.
use Rattle.std.specs.Prelude.{◌≡◌, ◌≢◌, ◌≤◌, ◌<◌, ℕ, List, ◌∷◌, ◌++◌, length, Some, Ok, Err}
use Rattle.codec.specs.declared.faults.WireFault.TheVariants.{BadVersion}
use Rattle.codec.specs.Forms.{◌>>=◌, Form, counted, version, length_end, written, read_whole}
use Rattle.codec.specs.Fields.{word}
use Rattle.codec.specs.Requests.{request}
use Rattle.codec.specs.Laws.{AreBytes, Format}
use Rattle.hosting.specs.declared.frames.Frame.{Frame}
use Rattle.hosting.specs.declared.frames.Frame.TheVariants as frames
use Rattle.hosting.specs.declared.tellings.MasterFrame.{MasterFrame}
use Rattle.hosting.specs.declared.blocks.TheConstants.{ANSWER_LIMIT}
use Rattle.hosting.specs.Blocks.{block_limit, next_block, next_within}
use Rattle.hosting.specs.Frames.{frame, carried_fields}
use Rattle.hosting.specs.Told.{told}

-- what was written to a master is read as it was
abbrev pub WrittenFrameIsRead : Type 0
WrittenFrameIsRead = (sent : Frame) (bytes : List ℕ) → frame.is sent → written frame sent ≡ Ok bytes → read_whole frame bytes ≡ Ok sent

-- what is read of a frame to a master is what would be written, and in its ranges
abbrev pub ReadFrameWasWritten : Type 0
ReadFrameWasWritten = (bytes : List ℕ) (sent : Frame) → AreBytes bytes → read_whole frame bytes ≡ Ok sent → frame.is sent × (written frame sent ≡ Ok bytes)

-- the same of what a master writes
abbrev pub WrittenToldIsRead : Type 0
WrittenToldIsRead = (given : MasterFrame) (bytes : List ℕ) → told.is given → written told given ≡ Ok bytes → read_whole told bytes ≡ Ok given

abbrev pub ReadToldWasWritten : Type 0
ReadToldWasWritten = (bytes : List ℕ) (given : MasterFrame) → AreBytes bytes → read_whole told bytes ≡ Ok given → told.is given × (written told given ≡ Ok bytes)

-- a block at the front of a stream, none too long, is what stands there next, and after it stands the rest
abbrev pub FramedIsNext : Type 0
FramedIsNext = (bytes rest : List ℕ) → length bytes ≤ block_limit → next_block (counted.write bytes ++ rest) ≡ Some (Ok bytes, rest)

-- frames in both directions begin with the version of the format whose messages they carry, and what begins with any other byte is of another version
abbrev pub FramesAreOf : Format → Type 0
FramesAreOf f =
    ((sent : Frame) (bytes : List ℕ) → written frame sent ≡ Ok bytes → bytes ≡ f.first ∷ frame.write sent)
    × ((given : MasterFrame) (bytes : List ℕ) → written told given ≡ Ok bytes → bytes ≡ f.first ∷ told.write given)
    × ((first : ℕ) (rest : List ℕ) → first ≢ f.first → length (first ∷ rest) < length_end
    → (read_whole frame (first ∷ rest) ≡ Err BadVersion) × (read_whole told (first ∷ rest) ≡ Err BadVersion))

-- of bytes that are carried in a frame a master reads what it would read of them alone: the message, or what is wrong with them
abbrev pub CarriedIsRead : Type 0
CarriedIsRead =
    (moment : ℕ) (bytes : List ℕ) → word.is moment → length (version ∷ carried_fields moment bytes) < length_end
    → read_whole frame (version ∷ carried_fields moment bytes) ≡ (read_whole request bytes >>= λ message. Ok (frames.Message moment message))

-- whatever a master tells, however long, is what stands next in the stream to the one who reads blocks of the limit of answers, and after it stands the rest
abbrev pub ToldIsNext : Type 0
ToldIsNext = (given : MasterFrame) (bytes rest : List ℕ) → written told given ≡ Ok bytes → next_within ANSWER_LIMIT (counted.write bytes ++ rest) ≡ Some (Ok bytes, rest)
