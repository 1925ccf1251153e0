-- The master of a history, of a world and of a host is one that came up and has made steps since: so the laws of a master's progress hold of it.
use Rattle.std.specs.Prelude.{◌≡◌, ◌≤◌, ℕ, Bool, true, false, List, [], ◌∷◌, ◌++◌, map, fold, Option, Some, Result, Ok, Err}
use Rattle.std.proofs.Common.{inl, inr}
use Rattle.std.specs.Option.{option_map_or}
use Rattle.std.specs.List.{list_any}
use Rattle.lease_core.specs.Lease.{longest_lease}
use Rattle.node_core.specs.declared.lines.Line.{Line}
use Rattle.rows_cell.specs.declared.settings.MasterTerms.{MasterTerms}
use Rattle.rows_cell.specs.declared.tables.Rows.{Rows}
use Rattle.rows_cell.specs.Stores.{Store, IsRead}
use Rattle.tags_cell.specs.Messages.{request_client}
use Rattle.tags_cell.specs.Numbers.{is_client_number}
use Rattle.tags_cell.specs.declared.messages.requests.Request.{Request}
use Rattle.master_state.specs.State.{MasterState}
use Rattle.over_core.specs.Deadlines.{quiet_at}
use Rattle.codec.specs.declared.faults.WireFault.{WireFault}
use Rattle.hosting.specs.declared.frames.Frame.{Frame}
use Rattle.hosting.specs.declared.frames.Frame.TheVariants as frames
use Rattle.hosting.specs.declared.settling.Settled.{Settled}
use Rattle.hosting.specs.declared.answers.Answered.{Answered}
use Rattle.hosting.specs.declared.answers.Answered.TheVariants as answers
use Rattle.hosting.specs.declared.seats.FrameReply.{FrameReply}
use Rattle.hosting.specs.declared.seats.FrameReply.TheVariants as replies
use Rattle.hosting.specs.Seats.{Hosted, without_master}
use Rattle.hosting.specs.Streams.{Answer, Turns}
use Rattle.world_steps.specs.declared.mail.Message.{Message}
use Rattle.world_steps.specs.declared.steps.Step.{Step}
use Rattle.world_steps.specs.declared.steps.Step.TheVariants as steps
use Rattle.world_steps.specs.Messages.{request_at}
use Rattle.world_steps.specs.World.{WorldState, WorldView, opened}
use Rattle.world_steps.specs.Made.{AreInOrder, Does as DoesStep}
use Rattle.world_cell.specs.Runs.{Run}
use Rattle.master_laws.specs.Closed.{MasterStep}
use Rattle.master_laws.specs.Closed.MasterStep.{Takes as TakesOne, Sweeps as SweepsOnce, Beats as AnswersOne}
use Rattle.master_laws.specs.Waits.{HasComeUp, takes_one, GoesOnWithout}
use Rattle.history_laws.specs.Parts.{Parts, nothing_yet, Deed, ComesUp, Takes, Sweeps, AnswersBeat}
use Rattle.history_laws.specs.Histories.{Entry, History, begins_life}
use Rattle.history_laws.specs.Hosted.{Known}

-- the moment at which the last master came up, and its steps since
pub record Since : Type 0 where
  pub up : ℕ
  pub steps : List MasterStep

abbrev pub up_at : ℕ → Since
up_at now = record { up = now; steps = [] }

abbrev pub and_then : Since → List MasterStep → Since
and_then since more = record since { steps = since.steps ++ more }

-- under this lease it came up then, by rows beside which it is kept, and has made these steps
abbrev pub IsUpSince : ℕ → Since → MasterState → Type 0
IsUpSince lease since s = HasComeUp lease since.up since.steps s

-- ---- of a history

-- the message at this place is taken
abbrev pub takes_told : List Message → ℕ → ℕ → List MasterStep
takes_told told now at = option_map_or (λ request. TakesOne now request ∷ []) (request_at told at) []

abbrev pub deed_since : List Message → Since → ℕ → Deed → Since
deed_since told since now ComesUp = up_at now
deed_since told since now (Takes at) = and_then since (takes_told told now at)
deed_since told since now Sweeps = and_then since (SweepsOnce now ∷ [])
deed_since told since now AnswersBeat = and_then since (AnswersOne now ∷ [])
deed_since told since now deed = since

abbrev pub entry_since : List Message → Since → Entry → Since
entry_since told since entry = deed_since told since entry.clocks.master entry.deed

-- by the deeds of a history, and all that was told in it
abbrev pub since_in : List Message → List Entry → Since
since_in told entries = fold (entry_since told) (up_at 0) entries

-- the master that is up after a history came up, and has since made the steps that its deeds are
abbrev pub MastersHaveComeUp : Type 0
MastersHaveComeUp =
    (cell : List ℕ) (rows : Rows) (terms : MasterTerms) (entries : List Entry) (printed : List Line) (end : Parts) (s : MasterState)
    → terms.lease ≤ longest_lease → History (nothing_yet cell rows terms) entries printed end → end.master ≡ Some s
    → IsUpSince terms.lease (since_in end.told entries) s

-- while no other master comes up, the laws of progress that speak of two moments hold of two points of a history: where messages of a kind aren't taken from one to the other, the master goes on without them
abbrev pub MastersGoOn : Type 0
MastersGoOn =
    (kind : Request → Bool) (cell : List ℕ) (rows : Rows) (terms : MasterTerms) (before entries : List Entry) (printed told : List Line) (here end : Parts) (s new : MasterState) (from : ℕ)
    → terms.lease ≤ longest_lease → History (nothing_yet cell rows terms) before printed here → here.master ≡ Some s → quiet_at s from ≡ true
    → History here entries told end → end.master ≡ Some new → list_any (λ entry. begins_life entry.deed) entries ≡ false
    → list_any (takes_one kind) (since_in end.told entries).steps ≡ false
    → GoesOnWithout kind terms.lease (since_in here.told before).up s (since_in end.told entries).steps new

-- ---- of a world

abbrev pub step_since : Since → WorldState → Step → Since
step_since since w (steps.Up now) = up_at now
step_since since w (steps.Take number) = and_then since (takes_told w.messages w.clock number)
step_since since w steps.Sweep = and_then since (SweepsOnce w.clock ∷ [])
step_since since w steps.Beats = and_then since (AnswersOne w.clock ∷ [])
step_since since w step = since

-- a refused step is none
abbrev pub does_since : Since → (old : WorldView) (step : Step) (new : WorldView) (printed : List Line) → DoesStep old step new printed → Since
does_since since old step new printed (inl made) = step_since since old.world step
does_since since old step new printed (inr refused) = since

abbrev pub run_since : Since → (old : WorldView) (made : List Step) (printed : List Line) (new : WorldView) → Run old made printed new → Since
run_since since old [] printed new run = since
run_since since old (step ∷ made) printed new run = run_since (does_since since old step run.0 run.1 run.3) run.0 made run.2 new run.4

-- so is that of each world that began with this store
abbrev pub WorldsHaveComeUp : Type 0
WorldsHaveComeUp =
    (store : Store) (terms : MasterTerms) (made : List Step) (printed : List Line) (new : WorldView) (s : MasterState)
    → terms.lease ≤ longest_lease → (run : Run (opened store terms) made printed new) → new.world.master ≡ Some s
    → IsUpSince terms.lease (run_since (up_at 0) (opened store terms) made printed new run) s

-- ---- of a host

-- sweeps at a moment, and the Beats that were answered after them
abbrev pub settled_steps : ℕ → Settled → List MasterStep
settled_steps now settled = map (λ swept. SweepsOnce now) settled.round.sweeps ++ map (λ swept. AnswersOne now) settled.beats.sweeps

abbrev pub came_since : Since → ℕ → FrameReply → Since
came_since since now (replies.Came epoch settled) = and_then (up_at now) (settled_steps now settled)
came_since since now reply = since

abbrev pub answered_since : Since → ℕ → Request → Answered → Since
answered_since since now message (answers.Taken taken settled) = and_then since (TakesOne now message ∷ settled_steps now settled)
answered_since since now message (answers.Refused fault) = since

abbrev pub heard_since : Since → ℕ → Request → FrameReply → Since
heard_since since now message (replies.Answered answered) = answered_since since now message answered
heard_since since now message reply = since

abbrev pub swept_since : Since → ℕ → FrameReply → Since
swept_since since now (replies.Swept settled) = and_then since (settled_steps now settled)
swept_since since now reply = since

-- by a frame and what it was answered
abbrev pub frame_since : Since → Result Frame WireFault → FrameReply → Since
frame_since since (Ok (frames.Up now)) reply = came_since since now reply
frame_since since (Ok (frames.Message now message)) reply = heard_since since now message reply
frame_since since (Ok (frames.Tick now)) reply = swept_since since now reply
frame_since since (Ok frames.Down) reply = since
frame_since since (Ok frames.State) reply = since
frame_since since (Err fault) reply = since

abbrev pub turns_since : Since → (terms : MasterTerms) (text : Known) (old : Hosted) (answers : List Answer) (new : Hosted) (rest : Known) → Turns terms text old answers new rest → Since
turns_since since terms text old [] new rest turns = since
turns_since since terms text old (answer ∷ answers) new rest turns = turns_since (frame_since since turns.2.done.sent answer.reply) terms turns.1 turns.0 answers new rest turns.3

-- what the types of a store and of a message say by themselves: whatever rows are read are in the order of their keys, and messages are of clients
abbrev pub IsTypedFrame : Hosted → Result Frame WireFault → Type 0
IsTypedFrame host (Ok (frames.Up now)) = (read : Store) → IsRead host.store read → AreInOrder read.rows
IsTypedFrame host (Ok (frames.Message now message)) = is_client_number (request_client message) ≡ true
IsTypedFrame host (Ok (frames.Tick now)) = Unit {0}
IsTypedFrame host (Ok frames.Down) = Unit {0}
IsTypedFrame host (Ok frames.State) = Unit {0}
IsTypedFrame host (Err fault) = Unit {0}

abbrev pub AreTyped : (terms : MasterTerms) (text : Known) (old : Hosted) (answers : List Answer) (new : Hosted) (rest : Known) → Turns terms text old answers new rest → Type 0
AreTyped terms text old [] new rest turns = Unit {0}
AreTyped terms text old (answer ∷ answers) new rest turns = IsTypedFrame old turns.2.done.sent × AreTyped terms turns.1 turns.0 answers new rest turns.3

-- and so is that of a host of this store after the frames of a text, whatever was in doubt
abbrev pub HostsHaveComeUp : Type 0
HostsHaveComeUp =
    (terms : MasterTerms) (text : Known) (store : Store) (answers : List Answer) (new : Hosted) (rest : Known) (s : MasterState)
    → terms.lease ≤ longest_lease → (turns : Turns terms text (without_master store) answers new rest) → AreTyped terms text (without_master store) answers new rest turns → new.master ≡ Some s
    → IsUpSince terms.lease (turns_since (up_at 0) terms text (without_master store) answers new rest turns) s
