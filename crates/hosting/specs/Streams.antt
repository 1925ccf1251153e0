-- Frames that come one after the other in a stream, and the answers in another.
use Rattle.rows_cell.specs.declared.settings.MasterTerms.{MasterTerms}
use Rattle.std.specs.Prelude.{◌≡◌, ◌⊎◌, ◌≤◌, ⊤, ℕ, List, [], ◌∷◌, ◌++◌, length, take, drop, Option, Some, None, Result, Ok, Err}
use Rattle.std.specs.Io.KnownBytes.{Appends, IsAtEnd}
use Rattle.collections.specs.Results.{Gives}
use Rattle.codec.specs.declared.faults.WireFault.{WireFault}
use Rattle.codec.specs.declared.faults.WireFault.TheVariants as wire
use Rattle.codec.specs.Forms.{◌>>=◌, read_whole}
use Rattle.output.specs.Fronts.{AppendsFront}
use Rattle.master_state.specs.State.{MasterState}
use Rattle.hosting.specs.declared.frames.Frame.{Frame}
use Rattle.hosting.specs.declared.tellings.MasterFrame.{MasterFrame}
use Rattle.hosting.specs.Blocks.{block_at, next_block}
use Rattle.hosting.specs.Frames.{frame}
use Rattle.hosting.specs.declared.seats.FrameReply.{FrameReply}
use Rattle.hosting.specs.declared.stops.StreamStop.{StreamStop}
use Rattle.hosting.specs.declared.stops.StreamStop.TheVariants.{Unread, Unwritten, NoMemory}
use Rattle.hosting.specs.declared.streams.Turned.{Turned}
use Rattle.hosting.specs.declared.streams.Turned.TheVariants.{On, Over, Stopped}
use Rattle.hosting.specs.Seats.{Hosted, Does, IsDue}
use Rattle.hosting.specs.Replies.{all_told, AreBlocks}

-- ---- reading

-- what is left of a text after so many bytes, where it is known
abbrev pub Drops : ℕ → Option (List ℕ) → Option (List ℕ) → Type 0
Drops count None after = ⊤
Drops count (Some text) None = ⊥
Drops count (Some text) (Some rest) = rest ≡ drop count text

-- the next block of a text, and what is left after it, where it is known
abbrev pub BlockIs : Option (List ℕ) → Result (List ℕ) WireFault → Option (List ℕ) → Type 0
BlockIs None block after = ⊤
BlockIs (Some text) block None = ⊥
BlockIs (Some text) block (Some rest) = next_block text ≡ Some (block, rest)

-- a block of so many bytes, or what is wrong with it, and what is left after it
abbrev pub BehindIs : ℕ → Option (List ℕ) → Result (List ℕ) WireFault → Option (List ℕ) → Type 0
BehindIs count None block after = ⊤
BehindIs count (Some text) block None = ⊥
BehindIs count (Some text) block (Some rest) = block_at count text ≡ (block, rest)

-- the bytes in front in a buffer, of which so many are a block; or what is wrong with it
abbrev pub in_buffer : Result ℕ WireFault → List ℕ → Result (List ℕ) WireFault
in_buffer (Ok count) buffer = Ok (take count buffer)
in_buffer (Err fault) buffer = Err fault

abbrev pub Fits : Result ℕ WireFault → List ℕ → Type 0
Fits (Ok count) buffer = count ≤ length buffer
Fits (Err fault) buffer = ⊤

abbrev pub FoundBehind : ℕ → Result ℕ WireFault → List ℕ → Option (List ℕ) → Option (List ℕ) → Type 0
FoundBehind count block buffer text rest = Fits block buffer × BehindIs count text (in_buffer block buffer) rest

-- none is left, or the next was found
abbrev pub FoundBlock : Option (Result ℕ WireFault) → List ℕ → Option (List ℕ) → Option (List ℕ) → Type 0
FoundBlock None buffer text rest = IsAtEnd text
FoundBlock (Some block) buffer text rest = Fits block buffer × BlockIs text (in_buffer block buffer) rest

-- the frame of a block, or what is wrong with it
abbrev pub frame_of : Result (List ℕ) WireFault → Result Frame WireFault
frame_of block = block >>= λ bytes. read_whole frame bytes

-- the next frame of a text, or what is wrong with it
pub record FrameIs (text : Option (List ℕ)) (sent : Result Frame WireFault) (rest : Option (List ℕ)) : Type 0 where
  pub block : Result (List ℕ) WireFault
  pub next : BlockIs text block rest
  pub read : Gives wire.NoMemory sent (frame_of block)

abbrev pub FoundFrame : Option (Result Frame WireFault) → Option (List ℕ) → Option (List ℕ) → Type 0
FoundFrame None text rest = IsAtEnd text
FoundFrame (Some sent) text rest = FrameIs text sent rest

-- ---- answering

-- what was answered to a frame, and when there is something to do next
pub record Answer : Type 0 where
  pub reply : FrameReply
  pub deadline : Option ℕ

abbrev pub answer_told : Answer → List MasterFrame
answer_told answer = all_told answer.reply answer.deadline

-- a frame was read, done, and answered so
pub record Done (terms : MasterTerms) (text : Option (List ℕ)) (old : Hosted) (reply : FrameReply) (new : Hosted) (rest : Option (List ℕ)) : Type 0 where
  pub sent : Result Frame WireFault
  pub next : FrameIs text sent rest
  pub does : Does terms sent old reply new

-- the same, with the deadline that there is after it
pub record Turn (terms : MasterTerms) (text : Option (List ℕ)) (old : Hosted) (answer : Answer) (new : Hosted) (rest : Option (List ℕ)) : Type 0 where
  pub done : Done terms text old answer.reply new rest
  pub due : IsDue new.master answer.deadline

-- frames of a text were read and done, one after the other, and answered so
abbrev pub Turns : MasterTerms → Option (List ℕ) → Hosted → List Answer → Hosted → Option (List ℕ) → Type 0
Turns terms text old [] new rest = (new ≡ old) × (rest ≡ text)
Turns terms text old (answer ∷ answers) new rest =
    (mid : Hosted) × (behind : Option (List ℕ)) × Turn terms text old answer mid behind × Turns terms behind mid answers new rest

-- all that is told of them, in their order
abbrev pub AreAnswers : List Answer → List ℕ → Type 0
AreAnswers [] bytes = bytes ≡ []
AreAnswers (answer ∷ rest) bytes = (here : List ℕ) × (later : List ℕ) × AreBlocks (answer_told answer) here × AreAnswers rest later × (bytes ≡ here ++ later)

-- frames were read and done, and all that is told of them was written
pub record Served (terms : MasterTerms) (text : Option (List ℕ)) (old new : Hosted) (rest before after : Option (List ℕ)) : Type 0 where
  pub answers : List Answer
  pub bytes : List ℕ
  pub turns : Turns terms text old answers new rest
  pub told : AreAnswers answers bytes
  pub written : Appends before after bytes

-- one frame more was done, or none
abbrev pub MaybeOne : MasterTerms → Option (List ℕ) → Hosted → Hosted → Type 0
MaybeOne terms text old new = (new ≡ old) ⊎ ((reply : FrameReply) × (rest : Option (List ℕ)) × Done terms text old reply new rest)

-- a frame was read and done, and a front of all that is told of it was written
abbrev pub BreaksOff : MasterTerms → Option (List ℕ) → Hosted → Hosted → Option (List ℕ) → Option (List ℕ) → Option (List ℕ) → Type 0
BreaksOff terms text old new rest before after =
    (answer : Answer) × (bytes : List ℕ) × Turn terms text old answer new rest × AreBlocks (answer_told answer) bytes × AppendsFront before after bytes

-- all frames of a text were done and answered; or those before one that couldn't be read; or those before one that may
-- be done, whose answer found no memory; or those before one that was done, of whose answer a front alone was written
abbrev pub Ends : MasterTerms → Option (List ℕ) → Hosted → Result (Unit {0}) StreamStop → Hosted → Option (List ℕ) → Option (List ℕ) → Type 0
Ends terms text old (Ok x) new before after = (rest : Option (List ℕ)) × Served terms text old new rest before after × IsAtEnd rest
Ends terms text old (Err Unread) new before after = (rest : Option (List ℕ)) × Served terms text old new rest before after
Ends terms text old (Err NoMemory) new before after =
    (mid : Hosted) × (rest : Option (List ℕ)) × Served terms text old mid rest before after × MaybeOne terms rest mid new
Ends terms text old (Err Unwritten) new before after =
    (mid : Hosted) × (rest : Option (List ℕ)) × (behind : Option (List ℕ)) × (between : Option (List ℕ))
    × Served terms text old mid rest before between × BreaksOff terms rest mid new behind between after

-- what one turn did: a frame was answered, or none is left; or it stopped so
abbrev pub TakesTurn : MasterTerms → Option (List ℕ) → Hosted → Turned → Hosted → Option (List ℕ) → Option (List ℕ) → Option (List ℕ) → Type 0
TakesTurn terms text old On new rest before after =
    (answer : Answer) × (bytes : List ℕ) × Turn terms text old answer new rest × AreBlocks (answer_told answer) bytes × Appends before after bytes
TakesTurn terms text old Over new rest before after = IsAtEnd text × (new ≡ old) × (after ≡ before)
TakesTurn terms text old (Stopped Unread) new rest before after = (new ≡ old) × (after ≡ before)
TakesTurn terms text old (Stopped NoMemory) new rest before after = MaybeOne terms text old new × (after ≡ before)
TakesTurn terms text old (Stopped Unwritten) new rest before after = BreaksOff terms text old new rest before after

-- all that is told of a frame, with a deadline, was written; or there is no memory for it, or a front of it alone was written
abbrev pub IsWritten : Turned → FrameReply → Option ℕ → Option (List ℕ) → Option (List ℕ) → Type 0
IsWritten On reply deadline before after = (bytes : List ℕ) × AreBlocks (all_told reply deadline) bytes × Appends before after bytes
IsWritten Over reply deadline before after = ⊥
IsWritten (Stopped NoMemory) reply deadline before after = after ≡ before
IsWritten (Stopped Unwritten) reply deadline before after = (bytes : List ℕ) × AreBlocks (all_told reply deadline) bytes × AppendsFront before after bytes
IsWritten (Stopped Unread) reply deadline before after = ⊥

-- all that is told of a frame was written, with the deadline of what is hosted, or a front of it alone; or there is no memory for it
abbrev pub IsTold : Turned → Option MasterState → FrameReply → Option (List ℕ) → Option (List ℕ) → Type 0
IsTold On master reply before after = (deadline : Option ℕ) × IsDue master deadline × IsWritten On reply deadline before after
IsTold Over master reply before after = ⊥
IsTold (Stopped NoMemory) master reply before after = after ≡ before
IsTold (Stopped Unwritten) master reply before after = (deadline : Option ℕ) × IsDue master deadline × IsWritten (Stopped Unwritten) reply deadline before after
IsTold (Stopped Unread) master reply before after = ⊥

-- what was found was done, and told of so; or nothing was found
abbrev pub DoesFound : MasterTerms → Option (Result Frame WireFault) → Hosted → Turned → Hosted → Option (List ℕ) → Option (List ℕ) → Type 0
DoesFound terms None old turned new before after = (turned ≡ Over) × (new ≡ old) × (after ≡ before)
DoesFound terms (Some sent) old turned new before after = (reply : FrameReply) × Does terms sent old reply new × IsTold turned new.master reply before after
