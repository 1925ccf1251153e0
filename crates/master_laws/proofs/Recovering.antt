-- A recovery goes on only if it did before.
use Rattle.std.proofs.Common.{◌≡◌, ℕ, List, [], ◌∷◌, true, Option, Some, None, sym, ap, ◌∙◌}
use Rattle.node_core.specs.Nodes.{with_parent}
use Rattle.tags_cell.specs.declared.messages.requests.Request.{Request}
use Rattle.master_parts.specs.declared.handles.HandleNote.{HandleNote}
use Rattle.master_parts.specs.declared.pending.Task.TheVariants as tasks
use Rattle.master_state.specs.State.{MasterState}
use Rattle.master_state.specs.Updates.{with_note, with_locks}
use Rattle.cell_core.specs.Cases.{TakeCase, taken_by}
use Rattle.cell_core.specs.Cases.TakeCase.{StartRefused, StartRecovering, StartFull, StartQueued, OldBeat, BeatRefused, BeatParked, OldEpoch, NoSession, LeftBefore, Repeated, OlderCall, Outstanding, LeavesBeside, Recovering, Answered, Granted, Waits}
use Rattle.cell_core.specs.Outcomes.{left_put}
use Rattle.cell_core.specs.Step.{queued, recorded, names_of, with_call, asking_for}
use Rattle.cell_core.proofs.AskedFor.{asks_only}
use Rattle.over_core.specs.SweepCase.{SweepCase, rest, mapped, swept_by}
use Rattle.over_core.specs.SweepCase.SweepCase.{Quiet, Recovers, Expires, Departed, AnswersBeat, TurnedAway, StartedAgain, Started, Reopens, Tidies, Spared, Tidied, OfEnded, Ended, Applied, Deleted, Locked, Awaited, Left}
use Rattle.master_laws.proofs.Lasting.{WasBefore}

abbrev pub IsRecovering : MasterState → Type 0
IsRecovering s = s.recovering ≡ true

note_recovers : (s : MasterState) (note : Option HandleNote) → (with_note s note).recovering ≡ true → s.recovering ≡ true
note_recovers s None h = h
note_recovers s (Some note) h = h

asking_recovers : (names : List (List ℕ)) (s : MasterState) → (asking_for s names).recovering ≡ true → s.recovering ≡ true
asking_recovers names s h = sym (ap (λ (m : MasterState). m.recovering) (asks_only names s)) ∙ h

by_case : (s : MasterState) (request : Request) (c : TakeCase s request) → (taken_by s request c).0.recovering ≡ true → s.recovering ≡ true
by_case s request (StartRefused start is may) h = h
by_case s request (StartRecovering start is may recovering) h = h
by_case s request (StartFull start is may serving full) h = h
by_case s request (StartQueued start is may serving room) h = h
by_case s request (OldBeat beat is other) h = h
by_case s request (BeatRefused beat fault is same refused) h = h
by_case s request (BeatParked beat is same taken) h = h
by_case s request (OldEpoch message is other) h = h
by_case s request (NoSession message is same ended) h = h
by_case s request (LeftBefore message kept request_is same_epoch ended is same) h = h
by_case s request (Repeated message kept heard is same) h = h
by_case s request (OlderCall message kept heard is less) h = h
by_case s request (Outstanding message kept heard is more none) h = h
by_case s request (LeavesBeside message heard beside) h = h
by_case s request (Recovering message new recovering) h = h
by_case s request (Answered message note answer new serving answered) h = note_recovers s note h
by_case s request (Granted message note answer name new serving granted) h = note_recovers s note h
by_case s request (Waits message note touched new serving admitted) h = note_recovers s note (asking_recovers (names_of touched) (with_call (with_note s note) message touched) h)

by_sweep : (s : MasterState) (c : SweepCase s) → (swept_by s c).0.recovering ≡ true → s.recovering ≡ true
by_sweep s (Quiet none) h = h
by_sweep s (Recovers recovering heard) h = recovering
by_sweep s (Expires client session due) h = h
by_sweep s (Departed front back asked call sequencer session turn work leave found live) h = h
by_sweep s (AnswersBeat client session beat due) h = h
by_sweep s (TurnedAway front back asked principal received turn work may) h = h
by_sweep s (StartedAgain front back asked principal received session turn work found live) h = h
by_sweep s (Started front back asked principal received turn work none) h = h
by_sweep s (Reopens instance due) h = h
by_sweep s (Tidies idle due) h = asking_recovers (with_parent idle.name) (queued s (with_parent idle.name) (tasks.Tidies idle)) h
by_sweep s (Spared front back idle turn held) h = h
by_sweep s (Tidied front back idle turn still) h = h
by_sweep s (OfEnded front back asked call sequencer turn work gone) h = h
by_sweep s (Ended front back asked call sequencer note answer turn work stays live made) h = note_recovers (recorded (rest s front back) asked.client _) note h
by_sweep s (Applied front back asked call sequencer note change answer turn work stays live made) h = note_recovers (recorded (mapped (rest s front back) change) asked.client _) note h
by_sweep s (Deleted front back asked call sequencer change instance waiters answer turn work stays live made) h = h
by_sweep s (Locked front back asked call sequencer put claim answer turn work stays live made) h = h
by_sweep s (Awaited front back asked call sequencer put turn work stays live made) h = h
by_sweep s (Left front back asked call sequencer note leave answer turn work stays live made) h = note_recovers (recorded (with_locks (rest s front back) (left_put leave ∷ [])) asked.client _) note h

pub recovered_before : WasBefore IsRecovering
recovered_before = record { clock = λ s now h. h; takes = by_case; sweeps = by_sweep; tells = λ s tellings h. h }
