-- Why each applied change is the effect of a call that was sent and taken, or the cell deletes a node that nobody holds open.
use Rattle.std.proofs.Common.{◌≡◌, ℕ, ◌+◌, ◌≤◌, true, false, List, [], ◌∷◌, ◌++◌, Option, Some, None, Result, Ok, Err, refl, sym, ap, ◌∙◌, inl, inr, append_assoc, arith, subst, map}
use Rattle.std.specs.Prelude.{◌⊎◌, ◌&&◌, ◌==◌, filter, nat_le}
use Rattle.std.specs.Option.{option_map_or}
use Rattle.std.proofs.lemmas.Bool.{and_parts}
use Rattle.std.proofs.lemmas.Bool.Decides.{nat_tests}
use Rattle.std.proofs.lemmas.List.{append-nil}
use Rattle.node_core.specs.declared.kinds.LockMode.{LockMode}
use Rattle.node_core.specs.declared.refusals.Fault.{Fault}
use Rattle.node_core.specs.declared.refusals.Fault.TheVariants as faults
use Rattle.node_core.specs.declared.lines.Line.{Line}
use Rattle.node_core.specs.declared.lines.Line.TheVariants as lines
use Rattle.node_core.specs.declared.views.Mod.{Mod}
use Rattle.node_core.specs.declared.views.Mod.TheVariants.{Gone}
use Rattle.node_core.specs.declared.nodes.Node.{Node}
use Rattle.node_core.specs.Nodes.{get_node, with_parent}
use Rattle.tags_cell.specs.Numbers.{is_client_number}
use Rattle.tags_cell.specs.Handles.{read_handle}
use Rattle.tags_cell.specs.declared.handles.Handle.{Handle}
use Rattle.tags_cell.specs.declared.messages.calls.Call.{Call}
use Rattle.tags_cell.specs.declared.messages.calls.Call.TheVariants as calls
use Rattle.tags_cell.specs.declared.messages.requests.Request.{Request}
use Rattle.tags_cell.specs.declared.messages.requests.Request.TheVariants as requests
use Rattle.tags_cell.specs.declared.messages.requests.CallMessage.{CallMessage}
use Rattle.tags_cell.specs.declared.messages.outs.CallResult.{CallResult}
use Rattle.master_parts.specs.declared.handles.HandleNote.{HandleNote}
use Rattle.rights_core.specs.Rights.{numbers_ending}
use Rattle.gate_core.specs.declared.pending.Waiting.{Waiting}
use Rattle.lock_core.specs.declared.claims.Claim.{Claim}
use Rattle.lock_core.specs.State.{LockState}
use Rattle.lock_core.specs.Turns.{reopened, tried}
use Rattle.lock_core.specs.Locks.{lock_at}
use Rattle.master_state.specs.Updates.{with_locks, with_note}
use Rattle.master_parts.specs.Claims.{claim_of}
use Rattle.master_parts.specs.declared.pending.WaitingRequest.{WaitingRequest}
use Rattle.master_parts.specs.declared.pending.Orphan.{Orphan}
use Rattle.master_parts.specs.declared.pending.Task.{Task}
use Rattle.master_parts.specs.declared.pending.Task.TheVariants as tasks
use Rattle.master_parts.specs.declared.pending.Work.{Work}
use Rattle.master_parts.specs.declared.pending.Work.TheVariants as works
use Rattle.master_state.specs.NameSpace.{name_space, caller}
use Rattle.master_state.specs.State.{MasterState}
use Rattle.cell_core.specs.Ephemerals.{is_idle_node, is_still_idle}
use Rattle.cell_core.specs.Step.{queued, names_of, task_of, with_call, asking, asking_for}
use Rattle.master_state.specs.Lookups.{noted, lock_under, node_of_handle, answer_on}
use Rattle.cell_core.specs.declared.effects.Effect.{Effect}
use Rattle.cell_core.specs.Effect.{answered, refused, try_by, try_at, change_at, change_on, handle_effect, effect, lock_fault}
use Rattle.master_state.specs.Replies.{locked_line, locked_lines}
use Rattle.cell_core.specs.Outcomes.{put_listing, leave_lines, left_put}
use Rattle.master_state.specs.Lapses.{lapses_lines, lapses_of, parting_lines}
use Rattle.cell_core.specs.Cases.{TakeCase, taken_by}
use Rattle.over_core.specs.SweepCase.{IsNextApplied, SweepCase, swept_by, rest, ended, mapped}
use Rattle.cell_core.specs.Cases.TakeCase.{StartQueued, LeavesBeside, Answered, Granted, Waits}
use Rattle.over_core.specs.SweepCase.SweepCase.{Quiet, Recovers, Expires, Reopens, Tidies, Spared, Tidied, AnswersBeat, TurnedAway, StartedAgain, Started as StartedFirst, OfEnded, Ended, Applied, Deleted, Locked, Awaited, Left, Departed}
use Rattle.over_core.specs.Kept.{IsKept, task_fits, waiting_fits}
use Rattle.world_steps.specs.declared.steps.Step.{Step}
use Rattle.world_steps.specs.declared.steps.Step.TheVariants.{Take, Sweep, CutSweep}
use Rattle.world_steps.specs.declared.steps.Commit.TheVariants.{Kept}
use Rattle.world_steps.specs.Messages.{call_of}
use Rattle.world_steps.specs.World.{WorldState, WorldView, is_of_commit, Agrees}
use Rattle.world_cell.proofs.StepsHold.{does_holds}
use Rattle.world_cell.specs.Consistent.{IsConsistent}
use Rattle.world_cell.specs.Runs.{Run, change_of, IsTaken, HasWaited, IsApplied, IsOfCall, IsOfIdle}
use Rattle.world_steps.specs.Made.{IsMade, Does}
use Rattle.world_cell.proofs.SilentLines.{IsSilent, quiet_silent}
use Rattle.world_cell.proofs.LockLines.{reopened_of_locks, left_of_locks, lapses_of_locks}
use Rattle.world_cell.proofs.PartsOfRuns.{run_push}
use Rattle.world_cell.proofs.MasterFits.{waits_as, application_sent}
use Rattle.world_cell.proofs.WorldCases.{IsTake, WorldCase, world_case}
use Rattle.world_cell.proofs.WorldCases.WorldCase.{ComesUp, Joins, Asks, Beats, Gives, Ticks, Takes, Sweeps, GoesDown, CutsSweep, CutsUp, LosesUp}
use Rattle.world_cell.proofs.OwnSteps.{own_silent, asks_own, beats_own, gives_own}
use Rattle.world_cell.proofs.ConsistentSteps.{noted_fits}
use Rattle.world_cell.proofs.CutLines.{cut_lines, swept_kept}
use Rattle.world_cell.proofs.OnceByRuns.{taken_silent}
use Rattle.world_cell.proofs.RowsByRuns.{Tells, run_tells}
use Rattle.lock_core.specs.declared.partings.Parting.{Parting}
use Rattle.lock_core.specs.declared.partings.Parting.TheVariants as partings
use Rattle.master_state.specs.Partings.{right_line, ending_by}

-- ---- lists

-- what stands in two lists together stands in one of them
split : {X : Type 0} (xs ys before rest : List X) (x : X) → xs ++ ys ≡ before ++ x ∷ rest → ((mid : List X) × (xs ≡ before ++ x ∷ mid) × (rest ≡ mid ++ ys)) ⊎ ((mid : List X) × (before ≡ xs ++ mid) × (ys ≡ mid ++ x ∷ rest))
split [] ys before rest x h = inr (before, refl, h)
split (a ∷ xs) ys [] rest x h =
    let e : a ≡ x = cc in
    let t : rest ≡ xs ++ ys = cc in
    inl (xs, rw e refl, t)
split {X} (a ∷ xs) ys (b ∷ before) rest x h =
    let e : a ≡ b = cc in
    let t : xs ++ ys ≡ before ++ x ∷ rest = cc in
    (elim (split xs ys before rest x t) as (λ s. ((mid : List X) × (a ∷ xs ≡ b ∷ before ++ x ∷ mid) × (rest ≡ mid ++ ys)) ⊎ ((mid : List X) × (b ∷ before ≡ a ∷ xs ++ mid) × (ys ≡ mid ++ x ∷ rest))) [
      | inl k ↦ inl (k.0, rw (e, k.1) refl, k.2)
      | inr k ↦ inr (k.0, rw (e, k.1) refl, k.2)
    ])

no_split : {X : Type 0} (before rest : List X) (x : X) → [] ≡ before ++ x ∷ rest → ⊥
no_split [] rest x h = cc
no_split (b ∷ before) rest x h = cc

one_split : {X : Type 0} (a : X) (before rest : List X) (x : X) → a ∷ [] ≡ before ++ x ∷ rest → (before ≡ []) × (a ≡ x)
one_split a [] rest x h = (refl, cc)
one_split a (b ∷ before) rest x h = let t : [] ≡ before ++ x ∷ rest = cc in absurd (no_split before rest x t)

silent_split : (printed before rest : List Line) (client number : ℕ) (change : Mod) (names : List (List ℕ)) → IsSilent printed → printed ≡ before ++ lines.Applied client number change names ∷ rest → ⊥
silent_split [] before rest client number change names h e = no_split before rest (lines.Applied client number change names) e
silent_split (line ∷ printed) [] rest client number change names h e =
    let same : line ≡ lines.Applied client number change names = cc in rw same at h.0
silent_split (line ∷ printed) (b ∷ before) rest client number change names h e =
    let t : printed ≡ before ++ lines.Applied client number change names ∷ rest = cc in silent_split printed before rest client number change names h.1 t

-- the end of a session tells of no change
parting_split : (parting : Parting) (numbers : List ℕ) (others : List Line) (whose : ℕ) (before rest : List Line) (client number : ℕ) (change : Mod) (names : List (List ℕ)) → IsSilent others → map (right_line parting) numbers ++ others ++ lines.Ended whose ∷ [] ≡ before ++ lines.Applied client number change names ∷ rest → ⊥
parting_split parting [] others whose before rest client number change names silent e =
    elim (split others (lines.Ended whose ∷ []) before rest (lines.Applied client number change names) e) [
      | inl k ↦ silent_split others before k.0 client number change names silent k.1
      | inr k ↦
          (let t = one_split (lines.Ended whose) k.0 rest (lines.Applied client number change names) k.2 in
          let line : lines.Ended whose ≡ lines.Applied client number change names = t.1 in cc)
    ]
parting_split partings.Expiry (right ∷ numbers) others whose [] rest client number change names silent e =
    let line : lines.Expired right ≡ lines.Applied client number change names = cc in cc
parting_split partings.Leave (right ∷ numbers) others whose [] rest client number change names silent e =
    let line : lines.Acked right ≡ lines.Applied client number change names = cc in cc
parting_split parting (right ∷ numbers) others whose (b ∷ before) rest client number change names silent e =
    let t : map (right_line parting) numbers ++ others ++ lines.Ended whose ∷ [] ≡ before ++ lines.Applied client number change names ∷ rest = cc in
    parting_split parting numbers others whose before rest client number change names silent t

-- nor does a master that came up and is gone
up_split : (epoch : ℕ) (before rest : List Line) (client number : ℕ) (change : Mod) (names : List (List ℕ)) → lines.Up epoch ∷ lines.Down ∷ [] ≡ before ++ lines.Applied client number change names ∷ rest → ⊥
up_split epoch [] rest client number change names e = let line : lines.Up epoch ≡ lines.Applied client number change names = cc in cc
up_split epoch (b ∷ before) rest client number change names e =
    let t : lines.Down ∷ [] ≡ before ++ lines.Applied client number change names ∷ rest = cc in
    silent_split (lines.Down ∷ []) before rest client number change names (tt, tt) t

-- ---- where the calls that wait come from

-- the steps made so far from a former world, the lines that they told, and the world that they led to
record Ground : Type 0 where
  old : WorldView
  past : List Step
  told : List Line
  here : WorldView

abbrev ground_after : Ground → Step → List Line → WorldView → Ground
ground_after g step printed new = record { old = g.old; past = g.past ++ step ∷ []; told = g.told ++ printed; here = new }

-- the call waited from the beginning, or one of the steps took it
abbrev WasTaken : Ground → ℕ → ℕ → ℕ → Call → Option (List ℕ) → Type 0
WasTaken g epoch client number call sequencer = HasWaited g.old.world.master epoch client number call sequencer ⊎ IsTaken g.old g.past g.told g.here epoch client number call sequencer

abbrev IsCalled : Ground → ℕ → ℕ → ℕ → Work → Type 0
IsCalled g epoch client number (works.Starts principal received) = Unit {0}
IsCalled g epoch client number (works.Calls call sequencer) = WasTaken g epoch client number call sequencer

abbrev IsTaskCalled : Ground → ℕ → Task → Type 0
IsTaskCalled g epoch (tasks.Asked asked) = IsCalled g epoch asked.client asked.number asked.work
IsTaskCalled g epoch (tasks.Tidies idle) = Unit {0}

abbrev AreCalled : Ground → ℕ → List (Waiting Task) → Type 0
AreCalled g epoch [] = Unit {0}
AreCalled g epoch (w ∷ ws) = IsTaskCalled g epoch w.change.body × AreCalled g epoch ws

abbrev Queued : Ground → Option MasterState → Type 0
Queued g None = Unit {0}
Queued g (Some s) = AreCalled g s.epoch s.gate.waiting

-- the steps of the past told these lines and led to this world
record Stands (g : Ground) : Type 0 where
  began : IsConsistent g.old.world
  run : Run g.old g.past g.told g.here
  consistent : IsConsistent g.here.world
  queue : Queued g g.here.world.master

-- ---- later on

module _ (g : Ground) (step : Step) (printed : List Line) (new : WorldView) (does : Does g.here step new printed) (fits : IsConsistent new.world) where
  taken_later : (epoch client number : ℕ) (call : Call) (sequencer : Option (List ℕ)) → IsTaken g.old g.past g.told g.here epoch client number call sequencer → IsTaken g.old (g.past ++ step ∷ []) (g.told ++ printed) new epoch client number call sequencer
  taken_later epoch client number call sequencer t = record {
    front = t.front;
    at = t.at;
    back = t.back ++ step ∷ [];
    is_split = ap (λ l. l ++ step ∷ []) t.is_split ∙ append_assoc t.front (Take t.at ∷ t.back) (step ∷ []);
    before = t.before;
    told = t.told;
    after = t.after ++ printed;
    are_lines = ap (λ l. l ++ printed) t.are_lines ∙ append_assoc (t.before ++ t.told) t.after printed;
    here = t.here;
    next = t.next;
    first = t.first;
    is_made = t.is_made;
    last = run_push t.next g.here new t.back t.after step printed t.last does;
    sent = t.sent;
    master = t.master;
    is_up = t.is_up;
    of_epoch = t.of_epoch;
  }

  work_later : (epoch client number : ℕ) (work : Work) → IsCalled g epoch client number work → IsCalled (ground_after g step printed new) epoch client number work
  work_later epoch client number (works.Starts principal received) called = tt
  work_later epoch client number (works.Calls call sequencer) (inl waited) = inl waited
  work_later epoch client number (works.Calls call sequencer) (inr taken) = inr (taken_later epoch client number call sequencer taken)

  task_later : (epoch : ℕ) (task : Task) → IsTaskCalled g epoch task → IsTaskCalled (ground_after g step printed new) epoch task
  task_later epoch (tasks.Asked asked) called = work_later epoch asked.client asked.number asked.work called
  task_later epoch (tasks.Tidies idle) called = tt

  calls_later : (epoch : ℕ) (queue : List (Waiting Task)) → AreCalled g epoch queue → AreCalled (ground_after g step printed new) epoch queue
  calls_later epoch [] called = tt
  calls_later epoch (w ∷ ws) called = (task_later epoch w.change.body called.0, calls_later epoch ws called.1)

  queued_later : (m : Option MasterState) → Queued g m → Queued (ground_after g step printed new) m
  queued_later None called = tt
  queued_later (Some s) called = calls_later s.epoch s.gate.waiting called

calls_push : (g : Ground) (epoch : ℕ) (ws : List (Waiting Task)) (w : Waiting Task) → AreCalled g epoch ws → IsTaskCalled g epoch w.change.body → AreCalled g epoch (ws ++ w ∷ [])
calls_push g epoch [] w h k = (k, tt)
calls_push g epoch (x ∷ xs) w h k = (h.0, calls_push g epoch xs w h.1 k)

note_calls : (g : Ground) (s : MasterState) (note : Option HandleNote) → AreCalled g s.epoch s.gate.waiting → AreCalled g (with_note s note).epoch (with_note s note).gate.waiting
note_calls g s None h = h
note_calls g s (Some note) h = h

epoch_note : (s : MasterState) (note : Option HandleNote) → (with_note s note).epoch ≡ s.epoch
epoch_note s None = refl
epoch_note s (Some note) = refl

asking_calls : (g : Ground) (s : MasterState) (names : List (List ℕ)) → AreCalled g s.epoch s.gate.waiting → AreCalled g (asking_for s names).epoch (asking_for s names).gate.waiting
asking_calls g s [] h = h
asking_calls g s (name ∷ names) h = asking_calls g (asking s name) names h

-- ---- a message is taken

-- only a call of the master's own epoch may wait, and it was taken
take_calls : (g : Ground) (s : MasterState) (request : Request) (c : TakeCase s request) → AreCalled g s.epoch s.gate.waiting → ((message : CallMessage) → request ≡ requests.Call message → message.epoch ≡ s.epoch → WasTaken g s.epoch message.client message.number message.call message.sequencer) → AreCalled g (taken_by s request c).0.epoch (taken_by s request c).0.gate.waiting
take_calls g s request (StartQueued start is may serving room) h k =
    calls_push g s.epoch s.gate.waiting (waits_as (s.gate.pushed + 1) [] (tasks.Asked (record { client = start.client; number = start.number; work = works.Starts start.principal s.clock }))) h tt
take_calls g s request (Answered message note answer new serving answered) h k = note_calls g s note h
take_calls g s request (Granted message note answer name new serving may) h k = note_calls g s note h
take_calls g s request (Waits message note touched new serving admitted) h k =
    let t = with_note s note in
    let taken : WasTaken g t.epoch message.client message.number message.call message.sequencer = rw (epoch_note s note) (k message new.heard.is_call new.heard.epoch) in
    asking_calls g (with_call t message touched) (names_of touched)
    (calls_push g t.epoch t.gate.waiting (waits_as (t.gate.pushed + 1) (names_of touched) (tasks.Asked (task_of message))) (note_calls g s note h) taken)
take_calls g s request (LeavesBeside message heard beside) h k =
    calls_push g s.epoch s.gate.waiting (waits_as (s.gate.pushed + 1) [] (tasks.Asked (task_of message))) h (k message heard.is_call heard.epoch)
take_calls g s request _ h k = h

-- ---- a sweep

parted_calls : (g : Ground) (epoch : ℕ) (front : List (Waiting Task)) (w : Waiting Task) (back : List (Waiting Task)) → AreCalled g epoch (front ++ w ∷ back) → IsTaskCalled g epoch w.change.body × AreCalled g epoch (front ++ back)
parted_calls g epoch [] w back h = (h.0, h.1)
parted_calls g epoch (x ∷ front) w back h = let t = parted_calls g epoch front w back h.1 in (t.0, (h.0, t.1))

-- the change that has its turn, and the others
application_calls : (g : Ground) (s : MasterState) (front : List (Waiting Task)) (task : Task) (back : List (Waiting Task)) → IsNextApplied s front task back → AreCalled g s.epoch s.gate.waiting → IsTaskCalled g s.epoch task × AreCalled g s.epoch (front ++ back)
application_calls g s front task back turn h = parted_calls g s.epoch front (waits_as turn.number turn.touched task) back (subst (λ ws. AreCalled g s.epoch ws) turn.waited h)

ended_calls : (g : Ground) (s : MasterState) (asked : WaitingRequest) (note : Option HandleNote) (answer : CallResult) → AreCalled g s.epoch s.gate.waiting → AreCalled g (ended s asked note answer).epoch (ended s asked note answer).gate.waiting
ended_calls g s asked None answer h = h
ended_calls g s asked (Some note) answer h = h

sweep_calls : (g : Ground) (s : MasterState) (c : SweepCase s) → AreCalled g s.epoch s.gate.waiting → AreCalled g (swept_by s c).0.epoch (swept_by s c).0.gate.waiting
sweep_calls g s (Quiet none) h = h
sweep_calls g s (Recovers recovering heard) h = h
sweep_calls g s (Expires client session due) h = h
sweep_calls g s (Departed front back asked call sequencer session turn work leave found live) h = (application_calls g s front (tasks.Asked asked) back turn h).1
sweep_calls g s (Reopens instance due) h = h
sweep_calls g s (Tidies idle due) h =
    asking_calls g (queued s (with_parent idle.name) (tasks.Tidies idle)) (with_parent idle.name)
    (calls_push g s.epoch s.gate.waiting (waits_as (s.gate.pushed + 1) (with_parent idle.name) (tasks.Tidies idle)) h tt)
sweep_calls g s (Spared front back idle turn held) h = (application_calls g s front (tasks.Tidies idle) back turn h).1
sweep_calls g s (Tidied front back idle turn still) h = (application_calls g s front (tasks.Tidies idle) back turn h).1
sweep_calls g s (AnswersBeat client session beat due) h = h
sweep_calls g s (TurnedAway front back asked principal received turn work may) h = (application_calls g s front (tasks.Asked asked) back turn h).1
sweep_calls g s (StartedAgain front back asked principal received session turn work found live) h = (application_calls g s front (tasks.Asked asked) back turn h).1
sweep_calls g s (StartedFirst front back asked principal received turn work none) h = (application_calls g s front (tasks.Asked asked) back turn h).1
sweep_calls g s (OfEnded front back asked call sequencer turn work gone) h = (application_calls g s front (tasks.Asked asked) back turn h).1
sweep_calls g s (Ended front back asked call sequencer note answer turn work stays live made) h = ended_calls g (rest s front back) asked note answer (application_calls g s front (tasks.Asked asked) back turn h).1
sweep_calls g s (Applied front back asked call sequencer note change answer turn work stays live made) h =
    ended_calls g (mapped (rest s front back) change) asked note answer (application_calls g s front (tasks.Asked asked) back turn h).1
sweep_calls g s (Deleted front back asked call sequencer change instance waiters answer turn work stays live made) h =
    ended_calls g (mapped (rest s front back) change) asked None answer (application_calls g s front (tasks.Asked asked) back turn h).1
sweep_calls g s (Locked front back asked call sequencer put claim answer turn work stays live made) h =
    ended_calls g (with_locks (rest s front back) (put ∷ [])) asked None answer (application_calls g s front (tasks.Asked asked) back turn h).1
sweep_calls g s (Awaited front back asked call sequencer put turn work stays live made) h = (application_calls g s front (tasks.Asked asked) back turn h).1
sweep_calls g s (Left front back asked call sequencer note leave answer turn work stays live made) h =
    ended_calls g (with_locks (rest s front back) (left_put leave ∷ [])) asked note answer (application_calls g s front (tasks.Asked asked) back turn h).1

-- ---- a step

queued_at : (g : Ground) (m : Option MasterState) (s : MasterState) → m ≡ Some s → Queued g m → AreCalled g s.epoch s.gate.waiting
queued_at g m s e h = rw e at h

queued_as : (g : Ground) (m n : Option MasterState) → m ≡ n → Queued g n → Queued g m
queued_as g m n e h = rw e h

-- the step that delivered the call's message
taken_now : (g : Ground) (step : Step) (printed : List Line) (new : WorldView) (t : IsTake g.here.world step new.world printed) → Stands g → IsMade g.here step new printed → (message : CallMessage) → t.request ≡ requests.Call message → message.epoch ≡ t.master.epoch → IsTaken g.old (g.past ++ step ∷ []) (g.told ++ printed) new t.master.epoch message.client message.number message.call message.sequencer
taken_now g step printed new t h made message is_call same = record {
  front = g.past;
  at = t.at;
  back = [];
  is_split = ap (λ s. g.past ++ s ∷ []) t.is_step;
  before = g.told;
  told = printed;
  after = [];
  are_lines = sym (append-nil (g.told ++ printed));
  here = g.here;
  next = new;
  first = h.run;
  is_made = let m = made in rw t.is_step at m;
  last = (refl, refl);
  sent = rw (← same) (t.was_sent ∙ ap (λ r. Some r) is_call);
  master = t.master;
  is_up = t.is_up;
  of_epoch = refl;
}

module _ (g : Ground) (step : Step) (new : WorldView) (printed : List Line) (h : Stands g) (does : Does g.here step new printed) (fits : IsConsistent new.world) where
  abbrev next : Ground
  next = ground_after g step printed new

  same_queue : new.world.master ≡ g.here.world.master → Queued next new.world.master
  same_queue e = queued_as next new.world.master g.here.world.master e (queued_later g step printed new does fits g.here.world.master h.queue)

  calls_then : (s : MasterState) → g.here.world.master ≡ Some s → AreCalled next s.epoch s.gate.waiting
  calls_then s up = calls_later g step printed new does fits s.epoch s.gate.waiting (queued_at g g.here.world.master s up h.queue)

  made_queue : IsMade g.here step new printed → WorldCase g.here.world step new.world printed → Queued next new.world.master
  made_queue made (ComesUp u) = queued_as next new.world.master _ (ap (λ (w : WorldState). w.master) u.is) tt
  made_queue made (Joins j) = same_queue (ap (λ (w : WorldState). w.master) j.is)
  made_queue made (Asks a) = same_queue (ap (λ (w : WorldState). w.master) (asks_own g.here.world step new.world printed a).is)
  made_queue made (Beats b) = same_queue (ap (λ (w : WorldState). w.master) (beats_own g.here.world step new.world printed b).is)
  made_queue made (Gives v) = same_queue (ap (λ (w : WorldState). w.master) (gives_own g.here.world step new.world printed v).is)
  made_queue made (Ticks t) = same_queue (ap (λ (w : WorldState). w.master) t.is)
  made_queue made (Takes t) =
      queued_as next new.world.master _ (ap (λ (w : WorldState). w.master) t.is)
      (take_calls next (noted t.master g.here.world.clock) t.request t.case (calls_then t.master t.is_up) (λ message is_call same. inr (taken_now g step printed new t h made message is_call same)))
  made_queue made (Sweeps t) =
      queued_as next new.world.master _ (ap (λ (w : WorldState). w.master) t.is) (sweep_calls next (noted t.master g.here.world.clock) t.case (calls_then t.master t.is_up))
  made_queue made (GoesDown d) = queued_as next new.world.master None (ap (λ (w : WorldState). w.master) d.is) tt
  made_queue made (CutsSweep k) = queued_as next new.world.master None (ap (λ (w : WorldState). w.master) k.is) tt
  made_queue made (CutsUp k) = queued_as next new.world.master None (ap (λ (w : WorldState). w.master) k.is ∙ k.comes.none) tt
  made_queue made (LosesUp k) = queued_as next new.world.master None (ap (λ (w : WorldState). w.master) k.is ∙ k.none) tt

step_stands : (g : Ground) (step : Step) (new : WorldView) (printed : List Line) → Stands g → Does g.here step new printed → IsConsistent new.world → Stands (ground_after g step printed new)
step_stands g step new printed h (inl m) fits = record {
  began = h.began;
  run = run_push g.old g.here new g.past g.told step printed h.run (inl m);
  consistent = fits;
  queue = made_queue g step new printed h (inl m) fits m (world_case g.here.world step new.world printed h.consistent.master m.is_step);
}
step_stands g step new printed h (inr r) fits = record {
  began = h.began;
  run = run_push g.old g.here new g.past g.told step printed h.run (inr r);
  consistent = fits;
  queue = same_queue g step new printed h (inr r) fits (ap (λ (w : WorldState). w.master) r.left.same);
}

-- ---- the step that tells of a change

-- whoever asks for a lock changes no name, at whatever moment
tried_change : (handle : Handle) (claim : Claim) (room : Option Fault) (r : Result LockState Fault) → change_of (try_by handle claim room r) ≡ None
tried_change handle claim (Some fault) (Ok lock) = refl
tried_change handle claim None (Ok lock) = refl
tried_change handle claim room (Err fault) = refl

tried_then : (s : MasterState) (now : ℕ) (handle : Handle) (mode : LockMode) → change_of (try_at (name_space (noted s now)) (noted s now).clock handle mode) ≡ change_of (try_at (name_space s) s.clock handle mode)
tried_then s now handle mode =
    let claim = claim_of handle mode in
    let room = lock_fault (name_space s) handle.client in
    tried_change handle claim room (tried (lock_under (name_space s) handle) claim (noted s now).clock) ∙ sym (tried_change handle claim room (tried (lock_under (name_space s) handle) claim s.clock))

-- by what the tests answer
either_then : (o : Option CallResult) (x y : Effect) → change_of x ≡ change_of y → change_of (option_map_or (λ answer. answered answer) o x) ≡ change_of (option_map_or (λ answer. answered answer) o y)
either_then None x y h = h
either_then (Some answer) x y h = refl

there_then : (s : MasterState) (now : ℕ) (handle : Handle) (bytes : List ℕ) (mode : LockMode) → change_of (change_on (name_space (noted s now)) (noted s now).clock handle (calls.TryAcquire bytes mode)) ≡ change_of (change_on (name_space s) s.clock handle (calls.TryAcquire bytes mode))
there_then s now handle bytes mode =
    elim (node_of_handle (name_space s) handle) as (λ o. change_of (option_map_or (λ view. change_at (name_space (noted s now)) (noted s now).clock handle (calls.TryAcquire bytes mode) view) o (refused faults.StaleInstance)) ≡ change_of (option_map_or (λ view. change_at (name_space s) s.clock handle (calls.TryAcquire bytes mode) view) o (refused faults.StaleInstance))) [
      | None ↦ refl
      | Some view ↦ tried_then s now handle mode
    ]

shown_then : (s : MasterState) (now : ℕ) (bytes : List ℕ) (mode : LockMode) (sequencer : Option (List ℕ)) (o : Option Handle) → change_of (handle_effect (name_space (noted s now)) (noted s now).clock (calls.TryAcquire bytes mode) sequencer o) ≡ change_of (handle_effect (name_space s) s.clock (calls.TryAcquire bytes mode) sequencer o)
shown_then s now bytes mode sequencer None = refl
shown_then s now bytes mode sequencer (Some handle) =
    either_then (answer_on (name_space s) handle (calls.TryAcquire bytes mode) sequencer) (change_on (name_space (noted s now)) (noted s now).clock handle (calls.TryAcquire bytes mode)) (change_on (name_space s) s.clock handle (calls.TryAcquire bytes mode)) (there_then s now handle bytes mode)

-- the moment doesn't matter to what a call changes
noted_change : (s : MasterState) (now client number : ℕ) (call : Call) (sequencer : Option (List ℕ)) → change_of (effect (name_space (noted s now)) (caller (noted s now) client) (noted s now).clock number call sequencer) ≡ change_of (effect (name_space s) (caller s client) s.clock number call sequencer)
unfolding effect
noted_change s now client number (calls.TryAcquire bytes mode) sequencer = shown_then s now bytes mode sequencer (read_handle s.secret bytes)
noted_change s now client number call sequencer = refl

agreed : (w : WorldState) (m : Option MasterState) (s : MasterState) → m ≡ Some s → Agrees w m → IsKept w.cell w.rows s
agreed w m s e h = rw e at h

-- what the call does whose turn it is
record IsByCall (s : MasterState) (client number : ℕ) (change : Mod) : Type 0 where
  front : List (Waiting Task)
  back : List (Waiting Task)
  asked : WaitingRequest
  turn : IsNextApplied s front (tasks.Asked asked) back
  call : Call
  sequencer : Option (List ℕ)
  work : asked.work ≡ works.Calls call sequencer
  own : asked.client ≡ client
  same : asked.number ≡ number
  is_effect : change_of (effect (name_space s) (caller s client) s.clock number call sequencer) ≡ Some change

-- what the cell does by itself
record IsByItself (s : MasterState) (client number : ℕ) (change : Mod) : Type 0 where
  gone : Orphan
  still : is_still_idle s gone ≡ true
  nobody : client ≡ 0
  unnumbered : number ≡ 0
  goes : change ≡ Gone gone.name

-- a change that a sweep tells of comes first, and what is listed of the node that it puts is what the map has there
record IsOfApplication (s : MasterState) (before : List Line) (client number : ℕ) (change : Mod) (names : List (List ℕ)) : Type 0 where
  first : before ≡ []
  listed : names ≡ put_listing s.nodes change
  does : IsByCall s client number change ⊎ IsByItself s client number change

of_call : (s : MasterState) (front back : List (Waiting Task)) (asked : WaitingRequest) (call : Call) (sequencer : Option (List ℕ)) (made : Mod) (before told : List Line) (client number : ℕ) (change : Mod) (names : List (List ℕ)) → IsNextApplied s front (tasks.Asked asked) back → asked.work ≡ works.Calls call sequencer → change_of (effect (name_space s) (caller s asked.client) s.clock asked.number call sequencer) ≡ Some made → lines.Applied asked.client asked.number made (put_listing s.nodes made) ∷ [] ≡ before ++ lines.Applied client number change names ∷ told → IsOfApplication s before client number change names
of_call s front back asked call sequencer made before told client number change names turn work does e =
    let t = one_split (lines.Applied asked.client asked.number made (put_listing s.nodes made)) before told (lines.Applied client number change names) e in
    let line : lines.Applied asked.client asked.number made (put_listing s.nodes made) ≡ lines.Applied client number change names = t.1 in
    let c : asked.client ≡ client = cc in
    let n : asked.number ≡ number = cc in
    let m : made ≡ change = cc in
    let l : put_listing s.nodes made ≡ names = cc in
    record {
      first = t.0;
      listed = sym l ∙ ap (put_listing s.nodes) m;
      does = inl (record {
        front = front;
        back = back;
        asked = asked;
        turn = turn;
        call = call;
        sequencer = sequencer;
        work = work;
        own = c;
        same = n;
        is_effect = rw (← c, ← n) (does ∙ ap (λ x. Some x) m);
      });
    }

of_itself : (s : MasterState) (idle : Orphan) (before told : List Line) (client number : ℕ) (change : Mod) (names : List (List ℕ)) → is_still_idle s idle ≡ true → lines.Applied 0 0 (Gone idle.name) [] ∷ [] ≡ before ++ lines.Applied client number change names ∷ told → IsOfApplication s before client number change names
of_itself s idle before told client number change names still e =
    let t = one_split (lines.Applied 0 0 (Gone idle.name) []) before told (lines.Applied client number change names) e in
    let line : lines.Applied 0 0 (Gone idle.name) [] ≡ lines.Applied client number change names = t.1 in
    let c : client ≡ 0 = cc in
    let n : number ≡ 0 = cc in
    let m : change ≡ Gone idle.name = cc in
    let l : names ≡ [] = cc in
    record { first = t.0; listed = l ∙ ap (put_listing s.nodes) (sym m); does = inr (record { gone = idle; still = still; nobody = c; unnumbered = n; goes = m }) }

ended_split : (parting : Parting) (s : MasterState) (whose : ℕ) (before told : List Line) (client number : ℕ) (change : Mod) (names : List (List ℕ)) → parting_lines parting s whose (lapses_of parting s whose) ≡ before ++ lines.Applied client number change names ∷ told → ⊥
ended_split parting s whose before told client number change names e =
    let others = lapses_lines parting whose (lapses_of parting s whose) in
    parting_split parting (numbers_ending whose (ending_by parting) s.rights) others whose before told client number change names (quiet_silent others (lapses_of_locks parting whose (lapses_of parting s whose)).quiet) e

of_application : (s : MasterState) (c : SweepCase s) (before told : List Line) (client number : ℕ) (change : Mod) (names : List (List ℕ)) → (swept_by s c).1.lines ≡ before ++ lines.Applied client number change names ∷ told → IsOfApplication s before client number change names
of_application s (Applied front back asked call sequencer _ made answer turn work stays live does) before told client number change names e =
    of_call s front back asked call sequencer made.change before told client number change names turn work (ap change_of does) e
of_application s (Deleted front back asked call sequencer made instance waiters answer turn work stays live does) before told client number change names e =
    of_call s front back asked call sequencer made.change before told client number change names turn work (ap change_of does) e
of_application s (Tidied front back idle turn still) before told client number change names e = of_itself s idle before told client number change names still e
of_application s (Recovers recovering heard) before told client number change names e =
    let t = one_split lines.Recovered before told (lines.Applied client number change names) e in
    let line : lines.Recovered ≡ lines.Applied client number change names = t.1 in cc
of_application s (Expires whose session due) before told client number change names e = absurd (ended_split partings.Expiry s whose before told client number change names e)
of_application s (Departed front back asked call sequencer session turn work leave found live) before told client number change names e =
    absurd (ended_split partings.Leave s asked.client before told client number change names e)
of_application s (StartedFirst front back asked principal received turn work none) before told client number change names e =
    let t = one_split (lines.Started asked.client) before told (lines.Applied client number change names) e in
    let line : lines.Started asked.client ≡ lines.Applied client number change names = t.1 in cc
of_application s (Reopens instance due) before told client number change names e =
    let turn = reopened (lock_at s.locks instance) in
    let printed = lines.Reopened instance ∷ locked_lines instance turn in
    absurd (silent_split printed before told client number change names (quiet_silent printed (reopened_of_locks instance turn).quiet) e)
of_application s (Locked front back asked call sequencer put claim answer turn work stays live made) before told client number change names e =
    absurd (silent_split (locked_line put.instance put.lock.generation claim ∷ []) before told client number change names (tt, tt) e)
of_application s (Left front back asked call sequencer _ leave answer turn work stays live made) before told client number change names e =
    let printed = leave_lines asked.client leave in
    absurd (silent_split printed before told client number change names (quiet_silent printed (left_of_locks asked.client leave).quiet) e)
of_application s _ before told client number change names e = absurd (no_split before told (lines.Applied client number change names) e)

-- the same of a sweep that was cut
of_cut : (s : MasterState) (c : SweepCase s) (before told : List Line) (client number : ℕ) (change : Mod) (names : List (List ℕ)) → cut_lines (swept_by s c).1.lines ≡ before ++ lines.Applied client number change names ∷ told → IsOfApplication s before client number change names
of_cut s c before told client number change names e =
    elim (split (filter is_of_commit (swept_by s c).1.lines) (lines.Down ∷ []) before told (lines.Applied client number change names) e) [
      | inl k ↦ elim (swept_kept s c) [
        | inl all ↦ of_application s c before k.0 client number change names (sym all ∙ k.1)
        | inr none ↦ absurd (no_split before k.0 (lines.Applied client number change names) (sym none ∙ k.1))
      ]
      | inr k ↦
          (let t = one_split lines.Down k.0 told (lines.Applied client number change names) k.2 in
          let line : lines.Down ≡ lines.Applied client number change names = t.1 in cc)
    ]

-- ---- what it is of

-- a client's number is no 0
some_number : (n : ℕ) → is_client_number n ≡ true → 1 ≤ n
some_number n h = let t : nat_le 1 n ≡ true = (and_parts (nat_le 1 n) _ h).0 in grind (arith, nat_tests, t)

it_fits : (front : List (Waiting Task)) (w : Waiting Task) (back : List (Waiting Task)) → waiting_fits (front ++ w ∷ back) ≡ true → task_fits w.change.body ≡ true
it_fits [] w back h = (and_parts (task_fits w.change.body) (waiting_fits back) h).0
it_fits (x ∷ front) w back h = it_fits front w back (and_parts (task_fits x.change.body) (waiting_fits (front ++ w ∷ back)) h).1

asked_counts : (s : MasterState) (front back : List (Waiting Task)) (asked : WaitingRequest) → waiting_fits s.gate.waiting ≡ true → IsNextApplied s front (tasks.Asked asked) back → 1 ≤ asked.client
asked_counts s front back asked fits turn =
    some_number asked.client (it_fits front (waits_as turn.number turn.touched (tasks.Asked asked)) back (subst (λ ws. waiting_fits ws ≡ true) turn.waited fits))

-- the node that goes is there, and nobody holds it open
record IsIdleAt (s : MasterState) (name : List ℕ) : Type 0 where
  view : Node
  found : get_node s.nodes name ≡ Some view
  idle : is_idle_node s name view ≡ true

idle_at : (s : MasterState) (gone : Orphan) (o : Option Node) → get_node s.nodes gone.name ≡ o → option_map_or (λ view. view.instance == gone.instance && is_idle_node s gone.name view) o false ≡ true → IsIdleAt s gone.name
idle_at s gone None found h = cc
idle_at s gone (Some view) found h = record { view = view; found = found; idle = (and_parts (view.instance == gone.instance) (is_idle_node s gone.name view) h).1 }

-- of a client's call, or the cell's own
abbrev IsOfOne : WorldView → List Step → List Line → ℕ → ℕ → Mod → List (List ℕ) → List Line → WorldView → Type 0
IsOfOne old steps before client number change names rest new =
    ((1 ≤ client) × IsOfCall old steps before client number change names rest new) ⊎ ((client ≡ 0) × IsOfIdle old steps before number change names rest new)

-- the sweep of this master tells of the change first
module _ (g : Ground) (step : Step) (next : WorldView) (printed told later : List Line) (change : Mod) (names : List (List ℕ)) (steps : List Step) (rest : List Line) (new : WorldView) (h : Stands g) (sweeps : (step ≡ Sweep) ⊎ (step ≡ CutSweep Kept)) (master : MasterState) (is_up : g.here.world.master ≡ Some master) (made : IsMade g.here step next printed) (run : Run next steps later new) (behind : rest ≡ told ++ later) (listed : names ≡ put_listing (noted master g.here.world.clock).nodes change) where
  -- at this moment
  abbrev s : MasterState
  s = noted master g.here.world.clock

  kept : IsKept g.here.world.cell g.here.world.rows master
  kept = agreed g.here.world g.here.world.master master is_up h.consistent.master

  tells : Tells g.old.world.rows g.here.world.rows g.told
  tells = run_tells g.old g.past g.told g.here h.began h.run

  abbrev at_sweep : (client number : ℕ) → printed ≡ lines.Applied client number change names ∷ told → IsApplied g.old (g.past ++ step ∷ steps) g.told client number change names rest new
  at_sweep client number is_line = record {
    front = g.past;
    at = step;
    sweeps = sweeps;
    back = steps;
    is_split = refl;
    told = told;
    after = later;
    are_lines = behind;
    here = g.here;
    next = next;
    first = h.run;
    is_made = subst (IsMade g.here step next) is_line made;
    last = run;
    master = master;
    is_up = is_up;
    nodes = kept.nodes ∙ tells.is_map;
    epoch = kept.epoch ∙ tells.is_epoch;
    listed = listed;
  }

  by_call : (client number : ℕ) → printed ≡ lines.Applied client number change names ∷ told → IsByCall s client number change → IsOfCall g.old (g.past ++ step ∷ steps) g.told client number change names rest new
  by_call client number is_line turn = record {
    made = at_sweep client number is_line;
    call = turn.call;
    sequencer = turn.sequencer;
    sent = subst (λ k. call_of g.here.world.messages client k ≡ Some (record { client = client; epoch = master.epoch; number = k; call = turn.call; sequencer = turn.sequencer })) turn.same
        (subst (λ k. call_of g.here.world.messages k turn.asked.number ≡ Some (record { client = k; epoch = master.epoch; number = turn.asked.number; call = turn.call; sequencer = turn.sequencer })) turn.own
        (application_sent g.here.world.messages s turn.front turn.asked turn.back turn.turn (noted_fits g.here.world h.consistent master is_up) turn.call turn.sequencer turn.work));
    taken = subst (λ k. WasTaken g master.epoch client k turn.call turn.sequencer) turn.same
        (subst (λ k. WasTaken g master.epoch k turn.asked.number turn.call turn.sequencer) turn.own
        (subst (λ x. IsCalled g master.epoch turn.asked.client turn.asked.number x) turn.work (application_calls g s turn.front (tasks.Asked turn.asked) turn.back turn.turn (queued_at g g.here.world.master master is_up h.queue)).0));
    is_effect = sym (noted_change master g.here.world.clock client number turn.call turn.sequencer) ∙ turn.is_effect;
  }

  by_itself : (client number : ℕ) → printed ≡ lines.Applied client number change names ∷ told → IsByItself s client number change → IsOfIdle g.old (g.past ++ step ∷ steps) g.told number change names rest new
  by_itself client number is_line turn =
      let at = idle_at master turn.gone (get_node master.nodes turn.gone.name) refl turn.still in
      record {
        made = at_sweep 0 number (is_line ∙ ap (λ n. lines.Applied n number change names ∷ told) turn.nobody);
        unnumbered = turn.unnumbered;
        name = turn.gone.name;
        goes = turn.goes;
        view = at.view;
        found = at.found;
        idle = at.idle;
      }

  by_one : (client number : ℕ) → printed ≡ lines.Applied client number change names ∷ told → IsByCall s client number change ⊎ IsByItself s client number change → IsOfOne g.old (g.past ++ step ∷ steps) g.told client number change names rest new
  by_one client number is_line (inl turn) = inl (subst (λ n. 1 ≤ n) turn.own (asked_counts s turn.front turn.back turn.asked kept.waiting turn.turn), by_call client number is_line turn)
  by_one client number is_line (inr turn) = inr (turn.nobody, by_itself client number is_line turn)

of_sweep : (g : Ground) (step : Step) (next : WorldView) (printed before told later : List Line) (client number : ℕ) (change : Mod) (names : List (List ℕ)) (steps : List Step) (rest : List Line) (new : WorldView) → Stands g → (step ≡ Sweep) ⊎ (step ≡ CutSweep Kept) → (master : MasterState) → g.here.world.master ≡ Some master → IsOfApplication (noted master g.here.world.clock) before client number change names → IsMade g.here step next printed → Run next steps later new → printed ≡ before ++ lines.Applied client number change names ∷ told → rest ≡ told ++ later → IsOfOne g.old (g.past ++ step ∷ steps) (g.told ++ before) client number change names rest new
of_sweep g step next printed before told later client number change names steps rest new h sweeps master is_up turn made run e r =
    let is_line : printed ≡ lines.Applied client number change names ∷ told = e ∙ ap (λ l. l ++ lines.Applied client number change names ∷ told) turn.first in
    rw (turn.first, append-nil g.told) (by_one g step next printed told later change names steps rest new h sweeps master is_up made run r turn.listed client number is_line turn.does)

made_here : (g : Ground) (step : Step) (next : WorldView) (printed before told later : List Line) (client number : ℕ) (change : Mod) (names : List (List ℕ)) (steps : List Step) (rest : List Line) (new : WorldView) → Stands g → Does g.here step next printed → Run next steps later new → printed ≡ before ++ lines.Applied client number change names ∷ told → rest ≡ told ++ later → IsOfOne g.old (g.past ++ step ∷ steps) (g.told ++ before) client number change names rest new
made_here g step next printed before told later client number change names steps rest new h (inr refused) run e r =
    absurd (silent_split printed before told client number change names (rw refused.line (tt, tt)) e)
made_here g step next printed before told later client number change names steps rest new h (inl made) run e r =
    elim (world_case g.here.world step next.world printed h.consistent.master made.is_step) [
      | ComesUp u ↦
          (let t = one_split (lines.Up (g.here.world.rows.epoch + 1)) before told (lines.Applied client number change names) (sym u.tells ∙ e) in
          let line : lines.Up (g.here.world.rows.epoch + 1) ≡ lines.Applied client number change names = t.1 in cc)
      | Joins j ↦ absurd (silent_split printed before told client number change names (rw j.tells tt) e)
      | Asks a ↦ absurd (silent_split printed before told client number change names (own_silent g.here.world next.world printed (asks_own g.here.world step next.world printed a)) e)
      | Beats b ↦ absurd (silent_split printed before told client number change names (own_silent g.here.world next.world printed (beats_own g.here.world step next.world printed b)) e)
      | Gives v ↦ absurd (silent_split printed before told client number change names (own_silent g.here.world next.world printed (gives_own g.here.world step next.world printed v)) e)
      | Ticks t ↦ absurd (silent_split printed before told client number change names (rw t.tells tt) e)
      | Takes t ↦ absurd (silent_split printed before told client number change names (rw t.tells (taken_silent (noted t.master g.here.world.clock) t.request t.case)) e)
      | Sweeps t ↦
          elim t.is_step [
            | inl sweeps ↦ of_sweep g step next printed before told later client number change names steps rest new h (inl sweeps) t.master t.is_up
                (of_application (noted t.master g.here.world.clock) t.case before told client number change names (sym t.tells ∙ e)) made run e r
            | inr beats ↦ absurd (no_split before told (lines.Applied client number change names) (sym (t.tells ∙ t.silent beats) ∙ e))
          ]
      | GoesDown d ↦ absurd (silent_split printed before told client number change names (rw d.tells (tt, tt)) e)
      | CutsSweep k ↦
          of_sweep g step next printed before told later client number change names steps rest new h (inr k.is_step) k.sweeps.master k.sweeps.is_up
          (of_cut (noted k.sweeps.master g.here.world.clock) k.sweeps.case before told client number change names (sym (k.tells ∙ ap cut_lines k.sweeps.tells) ∙ e)) made run e r
      | CutsUp k ↦ absurd (up_split (g.here.world.rows.epoch + 1) before told client number change names (sym (k.tells ∙ ap (λ xs. xs ++ lines.Down ∷ []) k.comes.tells) ∙ e))
      | LosesUp k ↦ absurd (silent_split printed before told client number change names (rw k.tells (tt, tt)) e)
    ]

-- ---- a run

run_on : (g : Ground) (steps : List Step) (printed : List Line) (new : WorldView) → Stands g → Run g.here steps printed new → (before rest : List Line) (client number : ℕ) (change : Mod) (names : List (List ℕ)) → printed ≡ before ++ lines.Applied client number change names ∷ rest → IsOfOne g.old (g.past ++ steps) (g.told ++ before) client number change names rest new
run_on g [] printed new h run before rest client number change names e =
    absurd (no_split before rest (lines.Applied client number change names) (sym run.0 ∙ e))
run_on g (step ∷ steps) printed new h run before rest client number change names e =
    (elim (split run.1 run.2 before rest (lines.Applied client number change names) (sym run.5 ∙ e)) as (λ s. IsOfOne g.old (g.past ++ step ∷ steps) (g.told ++ before) client number change names rest new) [
      | inl k ↦ made_here g step run.0 run.1 before k.0 run.2 client number change names steps rest new h run.3 run.4 k.1 k.2
      | inr k ↦
          let there = run_on (ground_after g step run.1 run.0) steps run.2 new (step_stands g step run.0 run.1 h run.3 (does_holds g.here step run.0 run.1 h.consistent run.3)) run.4 k.0 rest client number change names k.2 in
          rw (k.1, ← append_assoc g.told run.1 k.0, ← append_assoc g.past (step ∷ []) steps) there
    ])

-- what waits in a master waited there from the beginning
have_waited : (g : Ground) (s : MasterState) → g.old.world.master ≡ Some s → (front queue : List (Waiting Task)) → s.gate.waiting ≡ front ++ queue → AreCalled g s.epoch queue
have_waited g s up front [] is = tt
have_waited g s up front (w ∷ ws) is = (it_waited g s up front w ws w.change.body refl is, have_waited g s up (front ++ w ∷ []) ws (is ∙ sym (append_assoc front (w ∷ []) ws)))
  where
    call_waited : (g : Ground) (s : MasterState) → g.old.world.master ≡ Some s → (front : List (Waiting Task)) (w : Waiting Task) (ws : List (Waiting Task)) (asked : WaitingRequest) (work : Work) → w.change.body ≡ tasks.Asked asked → asked.work ≡ work → s.gate.waiting ≡ front ++ w ∷ ws → IsCalled g s.epoch asked.client asked.number work
    call_waited g s up front w ws asked (works.Starts principal received) body work is = tt
    call_waited g s up front w ws asked (works.Calls call sequencer) body work is =
        inl (record {
          master = s;
          is_up = up;
          of_epoch = refl;
          front = front;
          back = ws;
          turn = w.number;
          touched = w.change.touched;
          waits = is ∙ ap (λ x. front ++ waits_as w.number w.change.touched x ∷ ws) (body ∙ ap (λ x. tasks.Asked (record asked { work = x })) work);
        })

    it_waited : (g : Ground) (s : MasterState) → g.old.world.master ≡ Some s → (front : List (Waiting Task)) (w : Waiting Task) (ws : List (Waiting Task)) (task : Task) → w.change.body ≡ task → s.gate.waiting ≡ front ++ w ∷ ws → IsTaskCalled g s.epoch task
    it_waited g s up front w ws (tasks.Asked asked) body is = call_waited g s up front w ws asked asked.work body refl is
    it_waited g s up front w ws (tasks.Tidies idle) body is = tt

first_queue : (g : Ground) (m : Option MasterState) → g.old.world.master ≡ m → Queued g m
first_queue g None up = tt
first_queue g (Some s) up = have_waited g s up [] s.gate.waiting refl

run_ones : (old : WorldView) (steps : List Step) (printed : List Line) (new : WorldView) → Run old steps printed new → IsConsistent old.world → (before rest : List Line) (client number : ℕ) (change : Mod) (names : List (List ℕ)) → printed ≡ before ++ lines.Applied client number change names ∷ rest → IsOfOne old steps before client number change names rest new
run_ones old steps printed new run h before rest client number change names e =
    let g : Ground = record { old = old; past = []; told = []; here = old } in
    run_on g steps printed new (record { began = h; run = (refl, refl); consistent = h; queue = first_queue g old.world.master refl }) run before rest client number change names e

-- each change that the lines show of a client is the effect of a call that was sent and taken
pub run_calls : (old : WorldView) (steps : List Step) (printed : List Line) (new : WorldView) → Run old steps printed new → IsConsistent old.world → (before rest : List Line) (client number : ℕ) (change : Mod) (names : List (List ℕ)) → printed ≡ before ++ lines.Applied client number change names ∷ rest → 1 ≤ client → IsOfCall old steps before client number change names rest new
run_calls old steps printed new run h before rest client number change names e some =
    elim (run_ones old steps printed new run h before rest client number change names e) [
      | inl t ↦ t.1
      | inr t ↦ (let none = t.0 in absurd (omega arith))
    ]

-- and what is of no client is that a node goes which nobody held open
pub run_own : (old : WorldView) (steps : List Step) (printed : List Line) (new : WorldView) → Run old steps printed new → IsConsistent old.world → (before rest : List Line) (number : ℕ) (change : Mod) (names : List (List ℕ)) → printed ≡ before ++ lines.Applied 0 number change names ∷ rest → IsOfIdle old steps before number change names rest new
run_own old steps printed new run h before rest number change names e =
    elim (run_ones old steps printed new run h before rest 0 number change names e) [
      | inl t ↦ (let some = t.0 in absurd (omega arith))
      | inr t ↦ t.1
    ]
