-- The forms of the frames that a master is sent.
use Rattle.std.specs.Prelude.{ℕ, List, [], ◌∷◌, ◌++◌, Result}
use Rattle.tags_cell.specs.declared.messages.requests.Request.{Request}
use Rattle.codec.specs.declared.faults.WireFault.{WireFault}
use Rattle.codec.specs.Forms.{◌>>=◌, Form, nothing, ◌⊗◌, choice, of_kind, behind, end_at}
use Rattle.codec.specs.Fields.{word}
use Rattle.codec.specs.Requests.{request}
use Rattle.hosting.specs.declared.frames.Frame.{Frame}
use Rattle.hosting.specs.declared.frames.Frame.TheVariants as frames
use Rattle.hosting.specs.declared.kinds.FrameKind.{FrameKind}
use Rattle.hosting.specs.declared.kinds.FrameKind.TheVariants as of
use Rattle.hosting.specs.Blocks.{versioned, framed_by}

-- what was read, where nothing stands after it
abbrev pub all_of : {X : Type 0} → Result (X × List ℕ) WireFault → Result X WireFault
all_of r = r >>= λ x. end_at x.0 x.1

-- a moment, and all bytes of a message
abbrev pub message_fields : Form (ℕ × Request)
message_fields = word ⊗ versioned request

-- a moment, and bytes as they came, in the place of a message
abbrev pub carried_fields : ℕ → List ℕ → List ℕ
carried_fields moment bytes = 1 ∷ (word.write moment ++ bytes)

-- the same as a block; or that there would be too many bytes
abbrev pub carried : ℕ → List ℕ → Result (List ℕ) WireFault
carried moment bytes = framed_by (carried_fields moment bytes)

abbrev pub all_frames : List FrameKind
all_frames = of.Up ∷ of.Message ∷ of.Tick ∷ of.Down ∷ of.State ∷ []

abbrev pub frame_place : FrameKind → ℕ
frame_place of.Up = 0
frame_place of.Message = 1
frame_place of.Tick = 2
frame_place of.Down = 3
frame_place of.State = 4

abbrev pub frame_kind : Frame → FrameKind
frame_kind (frames.Up now) = of.Up
frame_kind (frames.Message now message) = of.Message
frame_kind (frames.Tick now) = of.Tick
frame_kind frames.Down = of.Down
frame_kind frames.State = of.State

abbrev pub frame_is : Frame → Type 0
frame_is (frames.Up now) = word.is now
frame_is (frames.Message now message) = message_fields.is (now, message)
frame_is (frames.Tick now) = word.is now
frame_is frames.Down = nothing.is tt
frame_is frames.State = nothing.is tt

abbrev pub frame_bytes : Frame → List ℕ
frame_bytes (frames.Up now) = word.write now
frame_bytes (frames.Message now message) = message_fields.write (now, message)
frame_bytes (frames.Tick now) = word.write now
frame_bytes frames.Down = nothing.write tt
frame_bytes frames.State = nothing.write tt

abbrev pub frame_behind : FrameKind → List ℕ → Result (Frame × List ℕ) WireFault
frame_behind of.Up rest = behind frames.Up word rest
frame_behind of.Message rest = behind (λ x. frames.Message x.0 x.1) message_fields rest
frame_behind of.Tick rest = behind frames.Tick word rest
frame_behind of.Down rest = behind (λ _. frames.Down) nothing rest
frame_behind of.State rest = behind (λ _. frames.State) nothing rest

-- the kind of the frame, and its fields
unfoldable pub frame : Form Frame
frame = of_kind (choice all_frames frame_place) frame_kind frame_is frame_bytes frame_behind
