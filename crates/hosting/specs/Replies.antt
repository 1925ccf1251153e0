-- What is told of a frame, and its bytes.
use Rattle.std.specs.Prelude.{◌≡◌, ℕ, List, [], ◌∷◌, ◌++◌, map, Option, Some, None, Ok}
use Rattle.node_core.specs.declared.refusals.Fault.{Fault}
use Rattle.node_core.specs.declared.lines.Line.{Line}
use Rattle.node_core.specs.declared.lines.Line.TheVariants as lines
use Rattle.tags_cell.specs.declared.messages.outs.Out.{Out}
use Rattle.tags_cell.specs.Messages.{out_client}
use Rattle.over_core.specs.declared.swept.Swept.{Swept}
use Rattle.codec.specs.declared.faults.WireFault.{WireFault}
use Rattle.hosting.specs.declared.tellings.MasterFrame.{MasterFrame}
use Rattle.hosting.specs.declared.tellings.MasterFrame.TheVariants as tells
use Rattle.hosting.specs.Blocks.{framed}
use Rattle.hosting.specs.Told.{told}
use Rattle.hosting.specs.declared.settling.End.{End}
use Rattle.hosting.specs.declared.settling.End.TheVariants as ends
use Rattle.hosting.specs.declared.settling.Round.{Round}
use Rattle.hosting.specs.declared.settling.Settled.{Settled}
use Rattle.hosting.specs.declared.answers.Answered.{Answered}
use Rattle.hosting.specs.declared.answers.Answered.TheVariants as answers
use Rattle.hosting.specs.declared.standing.Recovery.{Recovery}
use Rattle.hosting.specs.declared.standing.Delay.{Delay}
use Rattle.hosting.specs.declared.standing.MasterStanding.{MasterStanding}
use Rattle.hosting.specs.declared.seats.FrameReply.{FrameReply}
use Rattle.hosting.specs.declared.seats.FrameReply.TheVariants as replies

-- ---- what is told

abbrev pub line_told : Line → MasterFrame
line_told line = tells.Line line

abbrev pub out_told : Out → MasterFrame
out_told message = tells.Message (out_client message) message

abbrev pub refusal_told : Fault → List MasterFrame
refusal_told fault = line_told (lines.Refused fault) ∷ []

abbrev pub bad_told : WireFault → List MasterFrame
bad_told fault = tells.Bad fault ∷ []

-- the mark after all that is told of a frame, with the next deadline
abbrev pub mark_told : Option ℕ → List MasterFrame
mark_told deadline = tells.End deadline ∷ []

-- of a step its lines, and then its messages
abbrev pub step_told : List Line → List Out → List MasterFrame
step_told printed sent = map line_told printed ++ map out_told sent

abbrev pub sweeps_told : List Swept → List MasterFrame
sweeps_told [] = []
sweeps_told (swept ∷ rest) = step_told swept.lines swept.outs ++ sweeps_told rest

-- a refused sweep is told of as a line
abbrev pub end_told : End → List MasterFrame
end_told ends.Quiet = []
end_told (ends.Refused fault) = refusal_told fault
end_told ends.Unfinished = []

abbrev pub round_told : Round → List MasterFrame
round_told round = sweeps_told round.sweeps ++ end_told round.end

abbrev pub settled_told : Settled → List MasterFrame
settled_told settled = round_told settled.round ++ round_told settled.beats

abbrev pub answered_told : Answered → List MasterFrame
answered_told (answers.Refused fault) = refusal_told fault
answered_told (answers.Taken taken settled) = step_told taken.lines taken.outs ++ settled_told settled

-- a recovery, and each client that it waits for
abbrev pub recovery_told : Option Recovery → List MasterFrame
recovery_told None = []
recovery_told (Some recovery) = tells.Recovers recovery.until ∷ map tells.Awaited recovery.awaited

-- a change that waits, the names that it may change, and each client that it waits for
abbrev pub delay_told : Delay → List MasterFrame
delay_told delay = tells.Waits delay.number ∷ (map tells.Touches delay.touched ++ map tells.Awaited delay.awaited)

abbrev pub delays_told : List Delay → List MasterFrame
delays_told [] = []
delays_told (delay ∷ rest) = delay_told delay ++ delays_told rest

abbrev pub standing_told : MasterStanding → List MasterFrame
standing_told standing = tells.Counts standing.counts ∷ (recovery_told standing.recovery ++ delays_told standing.longest)

abbrev pub reply_told : FrameReply → List MasterFrame
reply_told (replies.Bad fault) = bad_told fault
reply_told (replies.Refused fault) = refusal_told fault
reply_told (replies.Came epoch settled) = line_told (lines.Up epoch) ∷ settled_told settled
reply_told (replies.Answered answered) = answered_told answered
reply_told (replies.Swept settled) = settled_told settled
reply_told replies.Gone = line_told lines.Down ∷ []
reply_told (replies.Stands standing) = standing_told standing

-- all that is told of a frame, and the mark after it
abbrev pub all_told : FrameReply → Option ℕ → List MasterFrame
all_told reply deadline = reply_told reply ++ mark_told deadline

-- ---- its bytes

-- these are the blocks of what is told, one after the other
abbrev pub AreBlocks : List MasterFrame → List ℕ → Type 0
AreBlocks [] bytes = bytes ≡ []
AreBlocks (given ∷ rest) bytes = (here : List ℕ) × (later : List ℕ) × (framed told given ≡ Ok here) × AreBlocks rest later × (bytes ≡ here ++ later)

-- what is told was put after what was there
abbrev pub Puts : List MasterFrame → List ℕ → List ℕ → Type 0
Puts given old new = (bytes : List ℕ) × AreBlocks given bytes × (new ≡ old ++ bytes)
