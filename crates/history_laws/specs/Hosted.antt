-- A master that a program hosts behind a stream of frames is such a part: what it does by a frame is deeds of the master, at the frame's moment.
use Rattle.std.specs.Prelude.{◌≡◌, ◌⊎◌, ◌≤◌, ℕ, true, List, [], ◌∷◌, ◌++◌, map, Option, Some, None, Result, Ok, Err}
use Rattle.lease_core.specs.Lease.{IsMoment}
use Rattle.node_core.specs.declared.lines.Line.{Line}
use Rattle.node_core.specs.declared.lines.Line.TheVariants as lines
use Rattle.rows_cell.specs.declared.settings.MasterTerms.{MasterTerms}
use Rattle.tags_cell.specs.Numbers.{is_client_number}
use Rattle.tags_cell.specs.Messages.{request_client}
use Rattle.tags_cell.specs.declared.messages.outs.Out.{Out}
use Rattle.master_state.specs.State.{MasterState}
use Rattle.over_core.specs.declared.swept.Swept.{Swept}
use Rattle.world_steps.specs.declared.mail.Message.TheVariants.{ToClient}
use Rattle.world_steps.specs.declared.mail.Message.{Message}
use Rattle.world_steps.specs.Messages.{request_at, out_at}
use Rattle.world_steps.specs.Made.{AreInOrder}
use Rattle.tags_cell.specs.declared.messages.requests.Request.{Request}
use Rattle.codec.specs.declared.faults.WireFault.{WireFault}
use Rattle.codec.specs.Forms.{read_whole}
use Rattle.codec.specs.Requests.{request}
use Rattle.codec.specs.Outs.{out_message}
use Rattle.hosting.specs.declared.frames.Frame.{Frame}
use Rattle.hosting.specs.declared.frames.Frame.TheVariants as frames
use Rattle.hosting.specs.declared.settling.Settled.{Settled}
use Rattle.hosting.specs.declared.answers.Answered.{Answered}
use Rattle.hosting.specs.declared.answers.Answered.TheVariants as answers
use Rattle.hosting.specs.declared.seats.FrameReply.{FrameReply}
use Rattle.hosting.specs.declared.seats.FrameReply.TheVariants as replies
use Rattle.hosting.specs.declared.pieces.GroupLimits.{GroupLimits}
use Rattle.hosting.specs.Seats.{Hosted, Does as DoesFrame}
use Rattle.hosting.specs.Streams.{Answer, Turns}
use Rattle.hosting.specs.Groups.{KeptGroup}
use Rattle.watch_cell.specs.declared.events.WatchEvent.{WatchEvent}
use Rattle.watch_cell.specs.declared.events.WatchEvent.TheVariants as events
use Rattle.watch_cell.specs.Views.{WatchedState}
use Rattle.watch_cell.specs.Trail.{step_of}
use Rattle.history_laws.specs.Parts.{Parts, Deed}
use Rattle.history_laws.specs.Histories.{Clocks, Entry, Does, History}

abbrev pub Known : Type 0
Known = Option (List ℕ)

-- ---- what is told of a frame

abbrev pub swept_lines : List Swept → List Line
swept_lines [] = []
swept_lines (swept ∷ rest) = swept.lines ++ swept_lines rest

abbrev pub swept_outs : List Swept → List Out
swept_outs [] = []
swept_outs (swept ∷ rest) = swept.outs ++ swept_outs rest

abbrev pub settled_lines : Settled → List Line
settled_lines settled = swept_lines settled.round.sweeps ++ swept_lines settled.beats.sweeps

abbrev pub settled_outs : Settled → List Out
settled_outs settled = swept_outs settled.round.sweeps ++ swept_outs settled.beats.sweeps

-- the lines of the steps that were made
abbrev pub reply_lines : FrameReply → List Line
reply_lines (replies.Came epoch settled) = lines.Up epoch ∷ settled_lines settled
reply_lines (replies.Answered (answers.Taken taken settled)) = taken.lines ++ settled_lines settled
reply_lines (replies.Swept settled) = settled_lines settled
reply_lines replies.Gone = lines.Down ∷ []
reply_lines _ = []

-- the messages that are handed out
abbrev pub reply_outs : FrameReply → List Out
reply_outs (replies.Came epoch settled) = settled_outs settled
reply_outs (replies.Answered (answers.Taken taken settled)) = taken.outs ++ settled_outs settled
reply_outs (replies.Swept settled) = settled_outs settled
reply_outs _ = []

-- ---- what is hosted, among the parts

-- it is the master of these parts, over their rows
pub record IsHostedIn (p : Parts) (host : Hosted) : Type 0 where
  pub master : p.master ≡ host.master
  pub rows : p.rows ≡ host.store.rows
  pub cell : p.cell ≡ host.store.cell

-- a message in a frame was told before, by a client; a frame that has a master come up is given by one whose rows are in the order of their keys
abbrev pub IsPossibleFrame : Parts → Result Frame WireFault → Type 0
IsPossibleFrame p (Ok (frames.Message now message)) = (at : ℕ) × (request_at p.told at ≡ Some message) × (is_client_number (request_client message) ≡ true)
IsPossibleFrame p (Ok (frames.Up now)) = AreInOrder p.rows
IsPossibleFrame p _ = Unit {0}

-- the moment that a frame says is what the master's clock shows
abbrev pub IsAtMoment : Clocks → Result Frame WireFault → Type 0
IsAtMoment clocks (Ok (frames.Up now)) = clocks.master ≡ now
IsAtMoment clocks (Ok (frames.Message now message)) = clocks.master ≡ now
IsAtMoment clocks (Ok (frames.Tick now)) = clocks.master ≡ now
IsAtMoment clocks _ = Unit {0}

-- deeds at one moment
abbrev pub at_moment : Clocks → List Deed → List Entry
at_moment clocks deeds = map (λ deed. record { clocks = clocks; deed = deed }) deeds

-- after a frame: the same parts, but for what is hosted and what is told
abbrev pub behind_frame : Parts → Hosted → List Out → Parts
behind_frame p host outs = record p { rows = host.store.rows; master = host.master; told = p.told ++ map ToClient outs }

-- what a hosted master does by a frame are deeds at the frame's moment, which print and tell just what the frame is answered
abbrev pub FramesAreDeeds : Type 0
FramesAreDeeds =
    (p : Parts) (clocks : Clocks) (sent : Result Frame WireFault) (old new : Hosted) (reply : FrameReply)
    → IsHostedIn p old → IsPossibleFrame p sent → IsAtMoment clocks sent → new.store.doubt ≡ 0 → DoesFrame p.terms sent old reply new
    → ((deeds : List Deed) × History p (at_moment clocks deeds) (reply_lines reply) (behind_frame p new (reply_outs reply))) × IsHostedIn (behind_frame p new (reply_outs reply)) new

-- ---- groups of frames

-- what the frames are answered: the lines, and the messages
abbrev pub answers_lines : List Answer → List Line
answers_lines [] = []
answers_lines (answer ∷ answers) = reply_lines answer.reply ++ answers_lines answers

abbrev pub answers_outs : List Answer → List Out
answers_outs [] = []
answers_outs (answer ∷ answers) = reply_outs answer.reply ++ answers_outs answers

-- these clocks belong to the frames, one to each, in their order: each frame is possible when its turn comes, and says the moment that the master's clock shows
abbrev pub ComeAt : Parts → List Clocks → (terms : MasterTerms) (text : Known) (old : Hosted) (answers : List Answer) (new : Hosted) (rest : Known) → Turns terms text old answers new rest → Type 0
ComeAt p clocks terms text old [] new rest turns = clocks ≡ []
ComeAt p [] terms text old (answer ∷ answers) new rest turns = ⊥
ComeAt p (now ∷ clocks) terms text old (answer ∷ answers) new rest turns =
    IsPossibleFrame p turns.2.done.sent × IsAtMoment now turns.2.done.sent × ComeAt (behind_frame p turns.0 (reply_outs answer.reply)) clocks terms turns.1 turns.0 answers new rest turns.3

-- deeds at these clocks, in their order
abbrev pub AreAtClocks : List Clocks → List Entry → Type 0
AreAtClocks [] entries = entries ≡ []
AreAtClocks (now ∷ clocks) entries = (deeds : List Deed) × (rest : List Entry) × (entries ≡ at_moment now deeds ++ rest) × AreAtClocks clocks rest

-- the frames of a group, done one after the other over changes that are held back, committed together and only then told, are deeds of the master at the frames' moments, which print and tell
-- just what the frames are answered
abbrev pub GroupsAreDeeds : Type 0
GroupsAreDeeds =
    (p : Parts) (clocks : List Clocks) (limits : GroupLimits) (text : Known) (old : Hosted) (answers : List Answer) (new : Hosted) (rest : Known)
    → (group : KeptGroup (record { master = p.terms; limits = limits }) text old answers new rest)
    → IsHostedIn p old → ComeAt p clocks p.terms text old answers group.done rest group.turns → new.store.doubt ≡ 0
    → ((entries : List Entry) × AreAtClocks clocks entries × History p entries (answers_lines answers) (behind_frame p new (answers_outs answers))) × IsHostedIn (behind_frame p new (answers_outs answers)) new

-- ---- bytes

-- a message that was told travels by bytes that are read as it, as the contract of who wrote them says; whoever reads them then takes that message
abbrev pub BytesCarryMessages : Type 0
BytesCarryMessages =
    (told : List Message) (at : ℕ) (bytes : List ℕ)
    → ((sent taken : Request) → request_at told at ≡ Some sent → read_whole request bytes ≡ Ok sent → read_whole request bytes ≡ Ok taken → request_at told at ≡ Some taken)
    × ((sent taken : Out) → out_at told at ≡ Some sent → read_whole out_message bytes ≡ Ok sent → read_whole out_message bytes ≡ Ok taken → out_at told at ≡ Some taken)

-- ---- a master that threads share

-- the master's clock shows the moment; or it shows what the master knew before, if another thread was first with a later moment
abbrev pub ShowsMoment : ℕ → MasterState → ℕ → Type 0
ShowsMoment shown s now = (shown ≡ now) ⊎ ((now ≤ s.clock) × (shown ≡ s.clock) × IsMoment s.clock)

-- so it does, and a message that the master is given was told before, by a client
abbrev pub IsPossibleEvent : Parts → Clocks → MasterState → WatchEvent → Type 0
IsPossibleEvent p clocks s (events.Take now message) = ShowsMoment clocks.master s now × (at : ℕ) × (request_at p.told at ≡ Some message) × (is_client_number (request_client message) ≡ true)
IsPossibleEvent p clocks s (events.Sweep now) = ShowsMoment clocks.master s now

-- each entry of a watch's trail is a deed of its master, also if the moments fall
abbrev pub TrailsAreDeeds : Type 0
TrailsAreDeeds =
    (p : Parts) (clocks : Clocks) (old new : WatchedState) (event : WatchEvent) (reply : Swept)
    → p.master ≡ Some old.master → p.rows ≡ old.rows → IsPossibleEvent p clocks old.master event → step_of old event ≡ Ok (new, reply)
    → (deed : Deed) × Does p clocks deed (record p { rows = new.rows; master = Some new.master; told = p.told ++ map ToClient reply.outs }) reply.lines
