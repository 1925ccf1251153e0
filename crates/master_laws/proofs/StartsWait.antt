-- Whether a Start of a client waits for its turn.
use Rattle.std.proofs.Common.{◌≡◌, ℕ, ◌+◌, List, [], ◌∷◌, ◌++◌, Bool, true, false, cond, Option, Some, None, refl, sym, ap, ◌∙◌}
use Rattle.std.specs.Prelude.{◌&&◌, ◌||◌, ◌==◌, find, All}
use Rattle.std.specs.List.{list_any, list_all}
use Rattle.std.proofs.lemmas.List.Elements.{All-head, All-tail}
use Rattle.std.proofs.lemmas.List.Folds.{list_any-append}
use Rattle.node_core.specs.Nodes.{with_parent}
use Rattle.tags_cell.specs.declared.messages.requests.Request.{Request}
use Rattle.tags_cell.specs.declared.messages.requests.Request.TheVariants as requests
use Rattle.rights_core.specs.declared.cache_rights.CacheRight.{CacheRight}
use Rattle.rights_core.specs.Rights.{held_on}
use Rattle.gate_core.specs.declared.pending.Waiting.{Waiting}
use Rattle.gate_core.specs.Gate.{is_free}
use Rattle.master_parts.specs.declared.handles.HandleNote.{HandleNote}
use Rattle.master_parts.specs.declared.pending.WaitingRequest.{WaitingRequest}
use Rattle.master_parts.specs.declared.pending.Task.{Task}
use Rattle.master_parts.specs.declared.pending.Task.TheVariants as tasks
use Rattle.master_parts.specs.declared.pending.Work.{Work}
use Rattle.master_parts.specs.declared.pending.Work.TheVariants as works
use Rattle.master_state.specs.State.{MasterState}
use Rattle.master_state.specs.Updates.{with_note, with_locks}
use Rattle.cell_core.specs.Cases.{TakeCase, taken_by}
use Rattle.cell_core.specs.Cases.TakeCase.{StartRefused, StartRecovering, StartFull, StartQueued, OldBeat, BeatRefused, BeatParked, OldEpoch, NoSession, LeftBefore, Repeated, OlderCall, Outstanding, LeavesBeside, Recovering, Answered, Granted, Waits}
use Rattle.cell_core.specs.Names.{names_touched}
use Rattle.cell_core.specs.Outcomes.{left_put}
use Rattle.cell_core.specs.Step.{queued, recorded, names_of, task_of, with_call, asking_for}
use Rattle.cell_core.proofs.AskedFor.{asks_only}
use Rattle.over_core.specs.Kept.{AreTouching}
use Rattle.over_core.specs.SweepCase.{IsNextApplied, SweepCase, rest, mapped, swept_by}
use Rattle.over_core.specs.SweepCase.SweepCase.{Quiet, Recovers, Expires, Departed, AnswersBeat, TurnedAway, StartedAgain, Started, Reopens, Tidies, Spared, Tidied, OfEnded, Ended, Applied, Deleted, Locked, Awaited, Left}
use Rattle.over_core.proofs.KeptByTakes.{unnoted}
use Rattle.master_laws.specs.Waits.{asks_to_start}

abbrev pub is_start : Work → Bool
is_start (works.Starts principal received) = true
is_start (works.Calls call sequencer) = false

-- what waits is a Start of the client
abbrev pub starts_by : ℕ → Task → Bool
starts_by client (tasks.Asked asked) = is_start asked.work && asked.client == client
starts_by client (tasks.Tidies idle) = false

abbrev pub waits_to_start : ℕ → List (Waiting Task) → Bool
waits_to_start client waiting = list_any (λ w. starts_by client w.change.body) waiting

or_none : (a b : Bool) → a ≡ false → b ≡ false → (a || (b || false)) ≡ false
or_none a b h k = rw (h, k) refl

one_more : (client : ℕ) (waiting : List (Waiting Task)) (w : Waiting Task) → waits_to_start client waiting ≡ false → starts_by client w.change.body ≡ false → waits_to_start client (waiting ++ w ∷ []) ≡ false
one_more client waiting w h new = list_any-append (λ (x : Waiting Task). starts_by client x.change.body) waiting (w ∷ []) ∙ or_none (waits_to_start client waiting) (starts_by client w.change.body) h new

or_parts : (a b c : Bool) → (a || (b || c)) ≡ false → (a ≡ false) × (b ≡ false) × (c ≡ false)
or_parts true b c h = absurd (cc)
or_parts false true c h = absurd (cc)
or_parts false false c h = (refl, refl, h)

or_both : (a c : Bool) → a ≡ false → c ≡ false → (a || c) ≡ false
or_both a c h k = rw (h, k) refl

-- who has its turn
turn_parts : (client : ℕ) (s : MasterState) (front back : List (Waiting Task)) (task : Task) → IsNextApplied s front task back → waits_to_start client s.gate.waiting ≡ false → (waits_to_start client (front ++ back) ≡ false) × (starts_by client task ≡ false)
turn_parts client s front back task turn h =
    let test : Waiting Task → Bool = λ (x : Waiting Task). starts_by client x.change.body in
    let w : Waiting Task = record { number = turn.number; change = record { touched = turn.touched; body = task } } in
    let all : (list_any test front || (test w || list_any test back)) ≡ false = sym (list_any-append test front (w ∷ back)) ∙ ap (list_any test) (sym turn.waited) ∙ h in
    let t = or_parts (list_any test front) (test w) (list_any test back) all in
    (list_any-append test front back ∙ or_both (list_any test front) (list_any test back) t.0 t.2, t.1)

pub turn_starts : (client : ℕ) (s : MasterState) (front back : List (Waiting Task)) (asked : WaitingRequest) (principal : List ℕ) (received : ℕ) → IsNextApplied s front (tasks.Asked asked) back → asked.work ≡ works.Starts principal received → waits_to_start client s.gate.waiting ≡ false → (asked.client == client) ≡ false
turn_starts client s front back asked principal received turn work h =
    sym (ap (λ (x : Work). is_start x && asked.client == client) work) ∙ (turn_parts client s front back (tasks.Asked asked) turn h).1

rest_starts : (client : ℕ) (s : MasterState) (front back : List (Waiting Task)) (task : Task) → IsNextApplied s front task back → waits_to_start client s.gate.waiting ≡ false → waits_to_start client (front ++ back) ≡ false
rest_starts client s front back task turn h = (turn_parts client s front back task turn h).0

noted_starts : (client : ℕ) (s : MasterState) (note : Option HandleNote) → waits_to_start client s.gate.waiting ≡ false → waits_to_start client (with_note s note).gate.waiting ≡ false
noted_starts client s note h = unnoted (λ x. waits_to_start client x.gate.waiting) (λ x n. refl) s note ∙ h

asked_starts : (client : ℕ) (names : List (List ℕ)) (s : MasterState) → waits_to_start client s.gate.waiting ≡ false → waits_to_start client (asking_for s names).gate.waiting ≡ false
asked_starts client names s h = ap (λ (m : MasterState). waits_to_start client m.gate.waiting) (asks_only names s) ∙ h

request_start : (client : ℕ) (request other : Request) → request ≡ other → asks_to_start client request ≡ false → asks_to_start client other ≡ false
request_start client request other is h = ap (asks_to_start client) (sym is) ∙ h

module _ (client : ℕ) where
  pub starts_by_case : (s : MasterState) (request : Request) (c : TakeCase s request) → asks_to_start client request ≡ false → waits_to_start client s.gate.waiting ≡ false → waits_to_start client (taken_by s request c).0.gate.waiting ≡ false
  starts_by_case s request (StartRefused start is may) other h = h
  starts_by_case s request (StartRecovering start is may recovering) other h = h
  starts_by_case s request (StartFull start is may serving full) other h = h
  starts_by_case s request (StartQueued start is may serving room) other h =
      let task : Task = tasks.Asked (record { client = start.client; number = start.number; work = works.Starts start.principal s.clock }) in
      one_more client s.gate.waiting (record { number = s.gate.pushed + 1; change = record { touched = []; body = task } }) h (request_start client request (requests.Start start) is other)
  starts_by_case s request (OldBeat beat is apart) other h = h
  starts_by_case s request (BeatRefused beat fault is same refused) other h = h
  starts_by_case s request (BeatParked beat is same taken) other h = h
  starts_by_case s request (OldEpoch message is apart) other h = h
  starts_by_case s request (NoSession message is same ended) other h = h
  starts_by_case s request (LeftBefore message kept request_is same_epoch ended is same) other h = h
  starts_by_case s request (Repeated message kept heard is same) other h = h
  starts_by_case s request (OlderCall message kept heard is less) other h = h
  starts_by_case s request (Outstanding message kept heard is more none) other h = h
  starts_by_case s request (LeavesBeside message heard beside) other h =
      one_more client s.gate.waiting (record { number = s.gate.pushed + 1; change = record { touched = []; body = tasks.Asked (task_of message) } }) h refl
  starts_by_case s request (Recovering message new recovering) other h = h
  starts_by_case s request (Answered message note answer new serving answered) other h = noted_starts client s note h
  starts_by_case s request (Granted message note answer name new serving granted) other h = noted_starts client s note h
  starts_by_case s request (Waits message note touched new serving admitted) other h =
      let t = with_note s note in
      asked_starts client (names_of touched) (with_call t message touched)
      (one_more client t.gate.waiting (record { number = t.gate.pushed + 1; change = record { touched = names_of touched; body = tasks.Asked (task_of message) } }) (noted_starts client s note h) refl)

  pub starts_by_sweep : (s : MasterState) (c : SweepCase s) → waits_to_start client s.gate.waiting ≡ false → waits_to_start client (swept_by s c).0.gate.waiting ≡ false
  starts_by_sweep s (Quiet none) h = h
  starts_by_sweep s (Recovers recovering heard) h = h
  starts_by_sweep s (Expires q session due) h = h
  starts_by_sweep s (Departed front back asked call sequencer session turn work leave found live) h = rest_starts client s front back (tasks.Asked asked) turn h
  starts_by_sweep s (AnswersBeat q session beat due) h = h
  starts_by_sweep s (TurnedAway front back asked principal received turn work may) h = rest_starts client s front back (tasks.Asked asked) turn h
  starts_by_sweep s (StartedAgain front back asked principal received session turn work found live) h = rest_starts client s front back (tasks.Asked asked) turn h
  starts_by_sweep s (Started front back asked principal received turn work none) h = rest_starts client s front back (tasks.Asked asked) turn h
  starts_by_sweep s (Reopens instance due) h = h
  starts_by_sweep s (Tidies idle due) h =
      asked_starts client (with_parent idle.name) (queued s (with_parent idle.name) (tasks.Tidies idle))
      (one_more client s.gate.waiting (record { number = s.gate.pushed + 1; change = record { touched = with_parent idle.name; body = tasks.Tidies idle } }) h refl)
  starts_by_sweep s (Spared front back idle turn held) h = rest_starts client s front back (tasks.Tidies idle) turn h
  starts_by_sweep s (Tidied front back idle turn still) h = rest_starts client s front back (tasks.Tidies idle) turn h
  starts_by_sweep s (OfEnded front back asked call sequencer turn work gone) h = rest_starts client s front back (tasks.Asked asked) turn h
  starts_by_sweep s (Ended front back asked call sequencer note answer turn work stays live made) h = noted_starts client (recorded (rest s front back) asked.client _) note (rest_starts client s front back (tasks.Asked asked) turn h)
  starts_by_sweep s (Applied front back asked call sequencer note change answer turn work stays live made) h = noted_starts client (recorded (mapped (rest s front back) change) asked.client _) note (rest_starts client s front back (tasks.Asked asked) turn h)
  starts_by_sweep s (Deleted front back asked call sequencer change instance waiters answer turn work stays live made) h = rest_starts client s front back (tasks.Asked asked) turn h
  starts_by_sweep s (Locked front back asked call sequencer put claim answer turn work stays live made) h = rest_starts client s front back (tasks.Asked asked) turn h
  starts_by_sweep s (Awaited front back asked call sequencer put turn work stays live made) h = rest_starts client s front back (tasks.Asked asked) turn h
  starts_by_sweep s (Left front back asked call sequencer note leave answer turn work stays live made) h = noted_starts client (recorded (with_locks (rest s front back) (left_put leave ∷ [])) asked.client _) note (rest_starts client s front back (tasks.Asked asked) turn h)

  -- ---- a Start touches nothing, so none waits where no change is free

  start_free : (rights : List CacheRight) (secret : List ℕ) (w : Waiting Task) (task : Task) → w.change.touched ≡ names_touched secret task → is_free rights w ≡ false → starts_by client task ≡ false
  start_free rights secret w (tasks.Tidies idle) touched busy = refl
  start_free rights secret w (tasks.Asked asked) touched busy = by_work asked.work refl
    where
      by_work : (work : Work) → asked.work ≡ work → starts_by client (tasks.Asked asked) ≡ false
      by_work (works.Calls call sequencer) is = ap (λ (x : Work). is_start x && asked.client == client) is
      by_work (works.Starts principal received) is =
          let named : names_touched secret (tasks.Asked asked) ≡ [] = rw is refl in
          let none : w.change.touched ≡ [] = touched ∙ named in
          let free : is_free rights w ≡ true = ap (λ names. list_all (λ name. held_on name rights == 0) names) none in
          absurd (cc)

  none_waits : (rights : List CacheRight) (secret : List ℕ) (ws : List (Waiting Task)) → All (λ w. w.change.touched ≡ names_touched secret w.change.body) ws → find (is_free rights) ws ≡ None → waits_to_start client ws ≡ false
  none_waits rights secret [] all none = refl
  none_waits rights secret (w ∷ ws) all none =
      (elim (is_free rights w) as (λ b. is_free rights w ≡ b → cond b (Some w) (find (is_free rights) ws) ≡ None → waits_to_start client (w ∷ ws) ≡ false) [
        | true ↦ (λ is k. absurd (cc))
        | false ↦ (λ is k. or_both (starts_by client w.change.body) (waits_to_start client ws) (start_free rights secret w w.change.body (All-head (λ (x : Waiting Task). x.change.touched ≡ names_touched secret x.change.body) w ws all) is) (none_waits rights secret ws (All-tail (λ (x : Waiting Task). x.change.touched ≡ names_touched secret x.change.body) w ws all) k))
      ]) refl none

  pub quiet_starts_none : (s : MasterState) → AreTouching s.secret s.gate.waiting → find (is_free s.rights) s.gate.waiting ≡ None → waits_to_start client s.gate.waiting ≡ false
  quiet_starts_none s touching none = none_waits s.rights s.secret s.gate.waiting touching none
