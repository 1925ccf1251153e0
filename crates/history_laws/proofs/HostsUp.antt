-- The master that a program hosts is one that came up.
use Rattle.std.proofs.Common.{◌≡◌, ◌⊎◌, ℕ, ◌≤◌, List, [], ◌∷◌, ◌++◌, Bool, true, false, map, Option, Some, None, refl, sym, ap, ◌∙◌, subst}
use Rattle.std.specs.Prelude.{Result, Ok, Err, fold}
use Rattle.std.specs.List.{list_all}
use Rattle.std.proofs.lemmas.List.Sums.{fold-append}
use Rattle.lease_core.specs.Lease.{longest_lease}
use Rattle.node_core.specs.declared.refusals.Fault.{Fault}
use Rattle.rows_cell.specs.declared.settings.MasterTerms.{MasterTerms}
use Rattle.rows_cell.specs.Stores.{Store, IsRead}
use Rattle.tags_cell.specs.Messages.{request_client}
use Rattle.tags_cell.specs.Numbers.{is_client_number}
use Rattle.tags_cell.specs.declared.messages.requests.Request.{Request}
use Rattle.master_state.specs.State.{MasterState}
use Rattle.cell_core.specs.Step.{take_step}
use Rattle.over_core.specs.declared.swept.Swept.{Swept}
use Rattle.over_core.specs.Kept.{CellState}
use Rattle.over_core.specs.Sweep.{sweep_step, beats_step}
use Rattle.codec.specs.declared.faults.WireFault.{WireFault}
use Rattle.hosting.specs.declared.frames.Frame.{Frame}
use Rattle.hosting.specs.declared.frames.Frame.TheVariants as frames
use Rattle.hosting.specs.declared.settling.End.{End}
use Rattle.hosting.specs.declared.settling.End.TheVariants as ends
use Rattle.hosting.specs.declared.settling.Round.{Round}
use Rattle.hosting.specs.declared.settling.Settled.{Settled}
use Rattle.hosting.specs.declared.answers.Answered.{Answered}
use Rattle.hosting.specs.declared.answers.Answered.TheVariants as answers
use Rattle.hosting.specs.declared.seats.FrameReply.{FrameReply}
use Rattle.hosting.specs.declared.seats.FrameReply.TheVariants as replies
use Rattle.hosting.specs.Serving.{SweepsOnce as DoesSweep, BeatsOnce as DoesBeat, StepsTo, StopsAt, BeatStops, EndsBy, BeatsBehind, Settles, Answers, is_shut}
use Rattle.hosting.specs.Seats.{Hosted, with_master, without_master, cell_of, CameUp, Arrives, Listens, Ticks, Leaves, Stands, Does}
use Rattle.hosting.specs.Streams.{Answer, Turns}
use Rattle.world_steps.specs.Made.{AreInOrder}
use Rattle.master_laws.specs.Closed.{MasterStep, left_by, master_behind}
use Rattle.master_laws.specs.Closed.MasterStep.{Takes as TakesOne, Sweeps as SweepsOnce, Beats as AnswersOne}
use Rattle.master_laws.specs.Waits.{is_of_client}
use Rattle.history_laws.specs.Hosted.{Known}
use Rattle.history_laws.specs.ComeUp.{Since, up_at, and_then, IsUpSince, settled_steps, came_since, answered_since, heard_since, swept_since, frame_since, turns_since, IsTypedFrame, AreTyped, HostsHaveComeUp}
use Rattle.history_laws.proofs.ComeUp.{both_true, all_joined, goes_on, is_behind, of_client, has_begun, IfUp, that_one, none_up}

-- ---- steps of one kind

abbrev each_as : MasterStep → List Swept → List MasterStep
each_as step sweeps = map (λ swept. step) sweeps

all_as : (step : MasterStep) (sweeps : List Swept) → is_of_client step ≡ true → list_all is_of_client (each_as step sweeps) ≡ true
all_as step [] is = refl
all_as step (swept ∷ rest) is = both_true (is_of_client step) (list_all is_of_client (each_as step rest)) is (all_as step rest is)

-- each is this step of the master
abbrev IsAs : MasterStep → (CellState → Swept → CellState → Type 0) → Type 0
IsAs step Once = (old new : CellState) (swept : Swept) → Once old swept new → new.master ≡ master_behind old.master step

-- what stops them leaves the master
abbrev Leave : (CellState → Fault → CellState → Type 0) → Type 0
Leave Stops = (old : CellState) (fault : Fault) (new : CellState) → Stops old fault new → new.master ≡ old.master

steps_as : (step : MasterStep) (Once : CellState → Swept → CellState → Type 0) → IsAs step Once → (old new : CellState) (sweeps : List Swept) → StepsTo Once old sweeps new → new.master ≡ fold master_behind old.master (each_as step sweeps)
steps_as step Once each old new [] h = ap (λ (c : CellState). c.master) h
steps_as step Once each old new (swept ∷ rest) h =
    steps_as step Once each h.0 new rest h.2 ∙ ap (λ (m : MasterState). fold master_behind m (each_as step rest)) (each old h.0 swept h.1)

ends_as : (step : MasterStep) (Once : CellState → Swept → CellState → Type 0) (Stops : CellState → Fault → CellState → Type 0) → IsAs step Once → Leave Stops → (old new : CellState) (sweeps : List Swept) (end : End) → EndsBy Once Stops old sweeps end new
    → new.master ≡ fold master_behind old.master (each_as step sweeps)
ends_as step Once Stops each leaves old new sweeps ends.Quiet h = steps_as step Once each old new sweeps h.5
ends_as step Once Stops each leaves old new sweeps (ends.Refused fault) h = leaves h.0 fault new h.3 ∙ steps_as step Once each old h.0 sweeps h.1
ends_as step Once Stops each leaves old new sweeps ends.Unfinished h = steps_as step Once each old new sweeps h.0

sweep_as : (now : ℕ) → IsAs (SweepsOnce now) (DoesSweep now)
sweep_as now old new swept once = is_behind old.master new.master swept (sweep_step old.master now) once.step

beat_as : (now : ℕ) → IsAs (AnswersOne now) (DoesBeat now)
beat_as now old new swept once = is_behind old.master new.master swept (beats_step old.master now) once.step

stop_leaves : (now : ℕ) → Leave (StopsAt now)
stop_leaves now old fault new stops = stops.master

beat_leaves : (now : ℕ) → Leave (BeatStops now)
beat_leaves now old fault new stops = ap (λ (c : CellState). c.master) stops.same

beats_as : (now : ℕ) (shut : Bool) (old new : CellState) (beats : Round) → BeatsBehind now shut old beats new → new.master ≡ fold master_behind old.master (each_as (AnswersOne now) beats.sweeps)
beats_as now true old new beats h = ends_as (AnswersOne now) (DoesBeat now) (BeatStops now) (beat_as now) (beat_leaves now) old new beats.sweeps beats.end h
beats_as now false old new beats h =
    let none : beats.sweeps ≡ [] = ap (λ (r : Round). r.sweeps) h.0 in
    subst (λ (l : List Swept). new.master ≡ fold master_behind old.master (each_as (AnswersOne now) l)) (sym none) (ap (λ (c : CellState). c.master) h.1)

settles_as : (now : ℕ) (old new : CellState) (settled : Settled) → Settles now old settled new → new.master ≡ fold master_behind old.master (settled_steps now settled)
settles_as now old new settled h =
    let sweeps : List MasterStep = each_as (SweepsOnce now) settled.round.sweeps in
    let beats : List MasterStep = each_as (AnswersOne now) settled.beats.sweeps in
    beats_as now (is_shut settled.round.end) h.mid new settled.beats h.answered
    ∙ ap (λ (m : MasterState). fold master_behind m beats) (ends_as (SweepsOnce now) (DoesSweep now) (StopsAt now) (sweep_as now) (stop_leaves now) old h.mid settled.round.sweeps settled.round.end h.swept)
    ∙ sym (fold-append master_behind old.master sweeps beats)

settled_of : (now : ℕ) (settled : Settled) → list_all is_of_client (settled_steps now settled) ≡ true
settled_of now settled =
    all_joined is_of_client (each_as (SweepsOnce now) settled.round.sweeps) (each_as (AnswersOne now) settled.beats.sweeps) (all_as (SweepsOnce now) settled.round.sweeps refl) (all_as (AnswersOne now) settled.beats.sweeps refl)

-- ---- a frame

module _ (terms : MasterTerms) (range : terms.lease ≤ longest_lease) where
  abbrev Ups : Since → Hosted → Type 0
  Ups since host = IfUp terms.lease since host.master

  settles_up : (now : ℕ) (old new : CellState) (settled : Settled) (since : Since) → IsUpSince terms.lease since old.master → Settles now old settled new → IsUpSince terms.lease (and_then since (settled_steps now settled)) new.master
  settles_up now old new settled since h settles = goes_on terms.lease since old.master new.master (settled_steps now settled) h (settled_of now settled) (settles_as now old new settled settles)

  -- a master comes up
  came_up : (now : ℕ) (store : Store) (epoch : ℕ) (settled : Settled) (new : Hosted) → ((read : Store) → IsRead store read → AreInOrder read.rows) → CameUp terms now store epoch settled new → Ups (and_then (up_at now) (settled_steps now settled)) new
  came_up now store epoch settled new order h =
      let begun : IsUpSince terms.lease (up_at now) h.cell.master = has_begun h.came.read.cell h.came.read.rows terms now range (order h.came.read h.came.was_read) h.cell.master h.came.came in
      subst (Ups (and_then (up_at now) (settled_steps now settled))) (sym h.up) (settles_up now h.cell h.after settled (up_at now) begun h.swept)

  arrives_up : (now : ℕ) (m : Option MasterState) (store : Store) (new : Hosted) (reply : FrameReply) (since : Since) → IfUp terms.lease since m → ((read : Store) → IsRead store read → AreInOrder read.rows) → Arrives terms now m store reply new → Ups (came_since since now reply) new
  arrives_up now None store new (replies.Came epoch settled) since up order h = came_up now store epoch settled new order h
  arrives_up now None store new (replies.Refused fault) since up order h = none_up terms.lease since new.master h.1
  arrives_up now None store new (replies.Bad fault) since up order h = absurd h
  arrives_up now None store new (replies.Answered answered) since up order h = absurd h
  arrives_up now None store new (replies.Swept settled) since up order h = absurd h
  arrives_up now None store new replies.Gone since up order h = absurd h
  arrives_up now None store new (replies.Stands standing) since up order h = absurd h
  arrives_up now (Some master) store new reply since up order h =
      subst (λ (r : FrameReply). Ups (came_since since now r) new) (sym h.0) (subst (Ups since) (sym h.1) up)

  -- a message comes
  answers_up : (now : ℕ) (message : Request) (old after : CellState) (answered : Answered) (since : Since) → is_client_number (request_client message) ≡ true → IsUpSince terms.lease since old.master → Answers now message old answered after → IsUpSince terms.lease (answered_since since now message answered) after.master
  answers_up now message old after (answers.Refused fault) since numbered up h = subst (λ (c : CellState). IsUpSince terms.lease since c.master) (sym h.1) up
  answers_up now message old after (answers.Taken taken settled) since numbered up h =
      let first : h.0.master ≡ left_by old.master (take_step old.master now message) = is_behind old.master h.0.master taken (take_step old.master now message) h.1 in
      let is : after.master ≡ fold master_behind old.master (TakesOne now message ∷ settled_steps now settled) =
      settles_as now h.0 after settled h.3 ∙ ap (λ (m : MasterState). fold master_behind m (settled_steps now settled)) first in
      goes_on terms.lease since old.master after.master (TakesOne now message ∷ settled_steps now settled) up
      (all_joined is_of_client (TakesOne now message ∷ []) (settled_steps now settled) (of_client now message numbered) (settled_of now settled)) is

  listens_up : (now : ℕ) (message : Request) (m : Option MasterState) (store : Store) (new : Hosted) (reply : FrameReply) (since : Since) → is_client_number (request_client message) ≡ true → IfUp terms.lease since m → Listens now message m store reply new → Ups (heard_since since now message reply) new
  listens_up now message None store new reply since numbered up h = none_up terms.lease (heard_since since now message reply) new.master (ap (λ (x : Hosted). x.master) h.1)
  listens_up now message (Some master) store new (replies.Answered answered) since numbered up h =
      subst (Ups (answered_since since now message answered)) (sym h.2) (answers_up now message (cell_of master store) h.0 answered since numbered up h.1)
  listens_up now message (Some master) store new (replies.Came epoch settled) since numbered up h = absurd h
  listens_up now message (Some master) store new (replies.Refused fault) since numbered up h = absurd h
  listens_up now message (Some master) store new (replies.Bad fault) since numbered up h = absurd h
  listens_up now message (Some master) store new (replies.Swept settled) since numbered up h = absurd h
  listens_up now message (Some master) store new replies.Gone since numbered up h = absurd h
  listens_up now message (Some master) store new (replies.Stands standing) since numbered up h = absurd h

  -- a tick
  ticks_up : (now : ℕ) (m : Option MasterState) (store : Store) (new : Hosted) (reply : FrameReply) (since : Since) → IfUp terms.lease since m → Ticks now m store reply new → Ups (swept_since since now reply) new
  ticks_up now None store new reply since up h = none_up terms.lease (swept_since since now reply) new.master (ap (λ (x : Hosted). x.master) h.1)
  ticks_up now (Some master) store new (replies.Swept settled) since up h =
      subst (Ups (and_then since (settled_steps now settled))) (sym h.2) (settles_up now (cell_of master store) h.0 settled since up h.1)
  ticks_up now (Some master) store new (replies.Answered answered) since up h = absurd h
  ticks_up now (Some master) store new (replies.Came epoch settled) since up h = absurd h
  ticks_up now (Some master) store new (replies.Refused fault) since up h = absurd h
  ticks_up now (Some master) store new (replies.Bad fault) since up h = absurd h
  ticks_up now (Some master) store new replies.Gone since up h = absurd h
  ticks_up now (Some master) store new (replies.Stands standing) since up h = absurd h

  -- it goes, or is asked how it stands
  leaves_up : (m : Option MasterState) (store : Store) (new : Hosted) (reply : FrameReply) (since : Since) → IfUp terms.lease since m → Leaves m store reply new → Ups since new
  leaves_up None store new reply since up h = none_up terms.lease since new.master (ap (λ (x : Hosted). x.master) h.1)
  leaves_up (Some master) store new reply since up h = none_up terms.lease since new.master (ap (λ (x : Hosted). x.master) h.1)

  stands_up : (m : Option MasterState) (store : Store) (new : Hosted) (reply : FrameReply) (since : Since) → IfUp terms.lease since m → Stands m store reply new → Ups since new
  stands_up None store new reply since up h = none_up terms.lease since new.master (ap (λ (x : Hosted). x.master) h.1)
  stands_up (Some master) store new reply since up h = subst (Ups since) (sym h.1) up

  frame_up : (old new : Hosted) (sent : Result Frame WireFault) (reply : FrameReply) (since : Since) → Ups since old → IsTypedFrame old sent → Does terms sent old reply new → Ups (frame_since since sent reply) new
  frame_up old new (Ok (frames.Up now)) reply since up typed h = arrives_up now old.master old.store new reply since up typed h
  frame_up old new (Ok (frames.Message now message)) reply since up typed h = listens_up now message old.master old.store new reply since typed up h
  frame_up old new (Ok (frames.Tick now)) reply since up typed h = ticks_up now old.master old.store new reply since up h
  frame_up old new (Ok frames.Down) reply since up typed h = leaves_up old.master old.store new reply since up h
  frame_up old new (Ok frames.State) reply since up typed h = stands_up old.master old.store new reply since up h
  frame_up old new (Err fault) reply since up typed h = subst (Ups since) (sym h.1) up

  turns_up : (text : Known) (old : Hosted) (answers : List Answer) (new : Hosted) (rest : Known) (since : Since) (turns : Turns terms text old answers new rest) → Ups since old → AreTyped terms text old answers new rest turns → Ups (turns_since since terms text old answers new rest turns) new
  turns_up text old [] new rest since turns up typed = subst (Ups since) (sym turns.0) up
  turns_up text old (answer ∷ answers) new rest since turns up typed =
      turns_up turns.1 turns.0 answers new rest (frame_since since turns.2.done.sent answer.reply) turns.3 (frame_up old turns.0 turns.2.done.sent answer.reply since up typed.0 turns.2.done.does) typed.1

pub hosts_have : HostsHaveComeUp
hosts_have terms text store answers new rest s range turns typed up =
    that_one terms.lease (turns_since (up_at 0) terms text (without_master store) answers new rest turns) new.master s up (turns_up terms range text (without_master store) answers new rest (up_at 0) turns tt typed)
