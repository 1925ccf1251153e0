-- A hosted master over its store: what it does by a frame by itself, also where the store refuses the commit, and the master stays.
use Rattle.std.specs.Prelude.{◌≡◌, List, [], ◌∷◌, ◌++◌, map, Option, None, Result, Ok}
use Rattle.node_core.specs.declared.lines.Line.{Line}
use Rattle.node_core.specs.declared.lines.Line.TheVariants as lines
use Rattle.node_core.specs.declared.refusals.Fault.{Fault}
use Rattle.master_state.specs.State.{MasterState}
use Rattle.codec.specs.declared.faults.WireFault.{WireFault}
use Rattle.hosting.specs.declared.frames.Frame.{Frame}
use Rattle.hosting.specs.declared.frames.Frame.TheVariants as frames
use Rattle.hosting.specs.declared.settling.End.{End}
use Rattle.hosting.specs.declared.settling.End.TheVariants as ends
use Rattle.hosting.specs.declared.settling.Settled.{Settled}
use Rattle.hosting.specs.declared.answers.Answered.TheVariants as answers
use Rattle.hosting.specs.declared.seats.FrameReply.{FrameReply}
use Rattle.hosting.specs.declared.seats.FrameReply.TheVariants as replies
use Rattle.hosting.specs.Seats.{Hosted, Does as DoesFrame}
use Rattle.history_laws.specs.Histories.{Clocks}
use Rattle.history_laws.specs.Hosted.{IsHostedIn, IsPossibleFrame, IsAtMoment, swept_lines, reply_outs, behind_frame}
use Rattle.history_laws.specs.Crashes.{StoredParts, StoredDeed, StoredEntry, StoredHistory}

-- a sweep that is refused is the last of its round, and tells why
abbrev pub end_lines : End → List Line
end_lines (ends.Refused fault) = lines.Refused fault ∷ []
end_lines ends.Quiet = []
end_lines ends.Unfinished = []

abbrev pub settled_told : Settled → List Line
settled_told settled = (swept_lines settled.round.sweeps ++ end_lines settled.round.end) ++ swept_lines settled.beats.sweeps

-- a master that would come up, and is refused, tells why; all else that is refused is no deed
abbrev pub refusal_lines : Result Frame WireFault → Option MasterState → Fault → List Line
refusal_lines (Ok (frames.Up now)) None fault = lines.Refused fault ∷ []
refusal_lines _ m fault = []

-- the lines of a frame: those of the steps that were made, and of a commit that was refused
abbrev pub frame_told : Result Frame WireFault → Option MasterState → FrameReply → List Line
frame_told sent m (replies.Came epoch settled) = lines.Up epoch ∷ settled_told settled
frame_told sent m (replies.Answered (answers.Taken taken settled)) = taken.lines ++ settled_told settled
frame_told sent m (replies.Answered (answers.Refused fault)) = []
frame_told sent m (replies.Swept settled) = settled_told settled
frame_told sent m (replies.Refused fault) = refusal_lines sent m fault
frame_told sent m replies.Gone = lines.Down ∷ []
frame_told sent m (replies.Stands standing) = []
frame_told sent m (replies.Bad fault) = []

-- deeds over a store at one moment
abbrev pub stored_at : Clocks → List StoredDeed → List StoredEntry
stored_at clocks deeds = map (λ deed. record { clocks = clocks; deed = deed }) deeds

-- what a hosted master does by a frame are deeds over its store at the frame's moment, of which some may be refused: after it the store is that of the host, with all that a crash may leave then
abbrev pub FramesAreStoredDeeds : Type 0
FramesAreStoredDeeds =
    (o : StoredParts) (clocks : Clocks) (sent : Result Frame WireFault) (old new : Hosted) (reply : FrameReply)
    → IsHostedIn o.parts old → o.store ≡ old.store → IsPossibleFrame o.parts sent → IsAtMoment clocks sent → new.store.doubt ≡ 0 → DoesFrame o.parts.terms sent old reply new
    → ((deeds : List StoredDeed) × StoredHistory o (stored_at clocks deeds) (frame_told sent old.master reply) (record { parts = behind_frame o.parts new (reply_outs reply); store = new.store }))
    × IsHostedIn (behind_frame o.parts new (reply_outs reply)) new
