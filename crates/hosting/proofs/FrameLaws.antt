-- What a master is sent is read as it was written.
use Rattle.std.proofs.Common.{◌≡◌, ℕ, List, ◌++◌, Ok, refl}
use Rattle.codec.specs.Forms.{choice}
use Rattle.codec.proofs.FormLaws.{IsBytes, IsShort, IsForm, TakesKind, nothing_form, pair_form, choice_form, of_kind_form, behind_takes, behind_again}
use Rattle.codec.proofs.FieldLaws.{word_form}
use Rattle.codec.proofs.RequestLaws.{request_form}
use Rattle.hosting.specs.declared.frames.Frame.{Frame}
use Rattle.hosting.specs.declared.frames.Frame.TheVariants as frames
use Rattle.hosting.specs.declared.kinds.FrameKind.{FrameKind}
use Rattle.hosting.specs.declared.kinds.FrameKind.TheVariants as of
use Rattle.hosting.specs.Frames.{message_fields, all_frames, frame_place, frame_kind, frame_is, frame_bytes, frame_behind, frame}
use Rattle.hosting.proofs.BlockLaws.{versioned_form}

message_fields_form : IsForm message_fields
message_fields_form = pair_form word_form (versioned_form request_form)

frame_any : (x : Frame) → (choice all_frames frame_place).is (frame_kind x)
frame_any (frames.Up now) = refl
frame_any (frames.Message now message) = refl
frame_any (frames.Tick now) = refl
frame_any frames.Down = refl
frame_any frames.State = refl

frame_takes : (k : FrameKind) (bytes : List ℕ) (x : Frame) (rest : List ℕ) → (choice all_frames frame_place).is k → IsBytes bytes → frame_behind k bytes ≡ Ok (x, rest)
    → TakesKind frame_kind frame_is frame_bytes k bytes x rest
frame_takes of.Up bytes x rest placed fits e = behind_takes frames.Up of.Up word_form (λ a. refl) (λ a h. h) (λ a. refl) bytes x rest fits e
frame_takes of.Message bytes x rest placed fits e = behind_takes (λ x. frames.Message x.0 x.1) of.Message message_fields_form (λ a. refl) (λ a h. h) (λ a. refl) bytes x rest fits e
frame_takes of.Tick bytes x rest placed fits e = behind_takes frames.Tick of.Tick word_form (λ a. refl) (λ a h. h) (λ a. refl) bytes x rest fits e
frame_takes of.Down bytes x rest placed fits e = behind_takes (λ _. frames.Down) of.Down nothing_form (λ a. refl) (λ a h. h) (λ a. refl) bytes x rest fits e
frame_takes of.State bytes x rest placed fits e = behind_takes (λ _. frames.State) of.State nothing_form (λ a. refl) (λ a h. h) (λ a. refl) bytes x rest fits e

frame_again : (x : Frame) (rest : List ℕ) → frame_is x → IsShort (frame_bytes x) → frame_behind (frame_kind x) (frame_bytes x ++ rest) ≡ Ok (x, rest)
frame_again (frames.Up now) rest holds short = behind_again frames.Up word_form now rest holds short
frame_again (frames.Message now message) rest holds short = behind_again (λ x. frames.Message x.0 x.1) message_fields_form (now, message) rest holds short
frame_again (frames.Tick now) rest holds short = behind_again frames.Tick word_form now rest holds short
frame_again frames.Down rest holds short = behind_again (λ _. frames.Down) nothing_form tt rest holds short
frame_again frames.State rest holds short = behind_again (λ _. frames.State) nothing_form tt rest holds short

pub frame_form : IsForm frame
unfolding frame
frame_form = of_kind_form frame_kind frame_is frame_bytes frame_behind (choice_form all_frames frame_place refl) frame_any frame_takes frame_again
