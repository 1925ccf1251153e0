-- While a change waits, who was asked for a name that it touches was so before.
use Rattle.std.proofs.Common.{◌≡◌, ℕ, zero, suc, ◌+◌, ◌<◌, ◌≤◌, List, [], ◌∷◌, Bool, true, false, cond, Option, Some, None, Result, Ok, Err, refl, sym, ap, subst, ◌∙◌, inl, inr, arith}
use Rattle.std.specs.Prelude.{◌&&◌, ◌||◌, is_some, is_none, Contains}
use Rattle.std.specs.List.{list_any}
use Rattle.std.specs.Str.{bytes_eq}
use Rattle.std.proofs.lemmas.List.Elements.{Contains-append_left, Contains-append_right, Contains-append_cases}
use Rattle.node_core.specs.Nodes.{with_parent}
use Rattle.node_core.specs.declared.refusals.Fault.{Fault}
use Rattle.tags_cell.specs.declared.messages.requests.Request.{Request}
use Rattle.rows_cell.specs.declared.tables.Rows.{Rows}
use Rattle.tags_cell.specs.declared.messages.outs.Reply.{Reply}
use Rattle.rights_core.specs.declared.cache_rights.CacheRight.{CacheRight}
use Rattle.rights_core.specs.declared.grants.Grant.{Grant}
use Rattle.rights_core.specs.declared.grants.Grant.TheVariants as grants
use Rattle.rights_core.specs.Rights.{holds, grant_answer, with_granted, granted, next_invalidation}
use Rattle.rights_core.specs.Laws.{asked_for}
use Rattle.rights_core.proofs.OneName.{new_right_is_held, asking_numbers_rights}
use Rattle.gate_core.specs.declared.pending.Waiting.{Waiting}
use Rattle.gate_core.specs.Gate.{GateState, touches}
use Rattle.session_core.specs.declared.records.LastCall.{LastCall}
use Rattle.session_core.specs.Session.{answered}
use Rattle.session_core.specs.Sessions.{with_session}
use Rattle.lock_core.specs.declared.partings.Parting.TheVariants as partings
use Rattle.master_parts.specs.declared.handles.HandleNote.{HandleNote}
use Rattle.master_parts.specs.declared.pending.Task.{Task}
use Rattle.master_parts.specs.declared.pending.Task.TheVariants as tasks
use Rattle.master_parts.specs.declared.pending.Work.TheVariants as works
use Rattle.master_state.specs.State.{MasterState}
use Rattle.master_state.specs.Lookups.{acknowledgement}
use Rattle.master_state.specs.Partings.{ending_by}
use Rattle.master_state.specs.Replies.{turn_replies}
use Rattle.master_state.specs.Updates.{with_note, with_locks}
use Rattle.cell_core.specs.Cases.{TakeCase, taken_by}
use Rattle.cell_core.specs.Cases.TakeCase.{StartRefused, StartRecovering, StartFull, StartQueued, OldBeat, BeatRefused, BeatParked, OldEpoch, NoSession, LeftBefore, Repeated, OlderCall, Outstanding, LeavesBeside, Recovering, Answered, Granted, Waits}
use Rattle.cell_core.specs.Outcomes.{left_put}
use Rattle.cell_core.specs.Step.{queued, recorded, with_right, names_of, task_of, with_call, asking, asking_for}
use Rattle.cell_core.proofs.AskedFor.{asks_only}
use Rattle.over_core.specs.Kept.{IsKept}
use Rattle.over_core.specs.SweepCase.{IsNextApplied, SweepCase, rest, mapped, told, swept_by}
use Rattle.over_core.specs.SweepCase.SweepCase.{Quiet, Recovers, Expires, Departed, AnswersBeat, TurnedAway, StartedAgain, Started, Reopens, Tidies, Spared, Tidied, OfEnded, Ended, Applied, Deleted, Locked, Awaited, Left}
use Rattle.over_core.proofs.KeptByTakes.{unnoted}
use Rattle.master_laws.proofs.Answerable.{IsAnswerable, alike, alike_then, asked_before}
use Rattle.master_laws.proofs.AnswerableSteps.{noted_alike, recorded_alike}

-- ---- what waits is in the way of what it touches

pub only_one : {X : Type 0} (a b : X) → Contains (a ∷ []) b → a ≡ b
only_one a b (zero, less, same) = same
only_one a b (suc n, less, same) = absurd (omega (arith, less))

pub any_in : {X : Type 0} (test : X → Bool) (xs : List X) (x : X) → Contains xs x → test x ≡ true → list_any test xs ≡ true
any_in test [] x h is = none_in h.0 h.1
  where
    none_in : {P : Type 0} (n : ℕ) → n < 0 → P
    none_in n h = absurd (omega (arith, h))
any_in {X} test (y ∷ ys) x h is = elim (Contains-append_cases (y ∷ []) ys x h) [
  | inl here ↦ first (test y) (list_any test ys) (ap test (only_one y x here) ∙ is)
  | inr there ↦ later (test y) (list_any test ys) (any_in test ys x there is)
]
  where
    first : (a b : Bool) → a ≡ true → (a || b) ≡ true
    first a b h = rw h refl

    later : (a b : Bool) → b ≡ true → (a || b) ≡ true
    later true b h = refl
    later false b h = h

-- ---- a name that is asked back

stays_asked : (same held : Bool) (o : Option ℕ) (next : ℕ) → (held ≡ true → is_some o ≡ true) → cond ((same && held) && is_none o) (Some next) o ≡ o
stays_asked true true None next h = let t = h refl in absurd (cc)
stays_asked true true (Some n) next h = refl
stays_asked true false o next h = refl
stays_asked false held o next h = refl

asked_stays : (client : ℕ) (name : List ℕ) (names : List (List ℕ)) (s : MasterState) → (holds client name s.rights ≡ true → is_some (asked_for client name s.rights) ≡ true) → asked_for client name (asking_for s names).rights ≡ asked_for client name s.rights
asked_stays client name [] s h = refl
asked_stays client name (first ∷ names) s h =
    let here = asking_numbers_rights client first name s.rights in
    let same : asked_for client name (asking s first).rights ≡ asked_for client name s.rights = here.1 ∙ stays_asked (bytes_eq name first) (holds client name s.rights) (asked_for client name s.rights) (next_invalidation client s.rights) h in
    asked_stays client name names (asking s first) (λ held. ap is_some same ∙ h (sym here.0 ∙ held)) ∙ same

-- a right that is granted
granted_asked : (client other : ℕ) (name theirs : List ℕ) (rights : List CacheRight) → asked_for other theirs (granted client name rights) ≡ asked_for other theirs rights
granted_asked client other name theirs rights = answered (grant_answer client name rights) refl
  where
    answered : (answer : Result Grant Fault) → grant_answer client name rights ≡ answer → asked_for other theirs (granted client name rights) ≡ asked_for other theirs rights
    answered (Ok (grants.Granted number)) is = (new_right_is_held client other number name theirs rights is).1
    answered (Ok (grants.Already number)) is = ap (λ a. asked_for other theirs (with_granted a client name rights)) is
    answered (Ok grants.Full) is = ap (λ a. asked_for other theirs (with_granted a client name rights)) is
    answered (Err fault) is = ap (λ a. asked_for other theirs (with_granted a client name rights)) is

module _ (client : ℕ) (change : Waiting Task) where
  -- it came before, and where it waits now it waited before; and whoever is asked for a name of it now was so then
  pub record IsFollowed (s new : MasterState) : Type 0 where
    pub pushed : change.number ≤ s.gate.pushed → change.number ≤ new.gate.pushed
    pub waited : change.number ≤ s.gate.pushed → Contains new.gate.waiting change → Contains s.gate.waiting change
    pub asked : change.number ≤ s.gate.pushed → Contains new.gate.waiting change → (name : List ℕ) (number : ℕ) → touches name change ≡ true → asked_for client name new.rights ≡ Some number → asked_for client name s.rights ≡ Some number

  same_followed : (s new : MasterState) → new.gate ≡ s.gate → new.rights ≡ s.rights → IsFollowed s new
  same_followed s new gate rights = record {
    pushed = λ h. as_much change.number s.gate.pushed new.gate.pushed (ap (λ (g : GateState Task). g.pushed) (sym gate)) h;
    waited = λ h waits. let W : List (Waiting Task) → Type 0 = λ ws. Contains ws change in subst W (ap (λ (g : GateState Task). g.waiting) gate) waits;
    asked = λ h waits name number touched is. ap (asked_for client name) (sym rights) ∙ is;
  }
    where
      as_much : (a b c : ℕ) → b ≡ c → a ≤ b → a ≤ c
      as_much a b c h k = omega (arith, h, k)

  then_followed : (s t new : MasterState) → IsFollowed s t → IsFollowed t new → IsFollowed s new
  then_followed s t new h k = record {
    pushed = λ le. k.pushed (h.pushed le);
    waited = λ le waits. h.waited le (k.waited (h.pushed le) waits);
    asked = λ le waits name number touched is. h.asked le (k.waited (h.pushed le) waits) name number touched (k.asked (h.pushed le) waits name number touched is);
  }

  note_followed : (s : MasterState) (note : Option HandleNote) → IsFollowed s (with_note s note)
  note_followed s note = same_followed s (with_note s note) (unnoted (λ x. x.gate) (λ x n. refl) s note) (unnoted (λ x. x.rights) (λ x n. refl) s note)

  rest_followed : (s : MasterState) (front back : List (Waiting Task)) (task : Task) → IsNextApplied s front task back → IsFollowed s (rest s front back)
  rest_followed s front back task turn = record {
    pushed = λ h. h;
    waited = λ h waits.
        let w : Waiting Task = record { number = turn.number; change = record { touched = turn.touched; body = task } } in
        let W : List (Waiting Task) → Type 0 = λ ws. Contains ws change in
        subst W (sym turn.waited) (elim (Contains-append_cases front back change waits) [
          | inl before ↦ Contains-append_left front (w ∷ back) change before
          | inr behind ↦ Contains-append_right front (w ∷ back) change (Contains-append_right (w ∷ []) back change behind)
        ]);
    asked = λ h waits name number touched is. is;
  }

  -- a change that comes is another one
  came_before : (s : MasterState) (touched : List (List ℕ)) (task : Task) → change.number ≤ s.gate.pushed → Contains (queued s touched task).gate.waiting change → Contains s.gate.waiting change
  came_before s touched task h waits =
      let w : Waiting Task = record { number = s.gate.pushed + 1; change = record { touched = touched; body = task } } in
      elim (Contains-append_cases s.gate.waiting (w ∷ []) change waits) [
        | inl before ↦ before
        | inr new ↦ (let same : w ≡ change = only_one w change new in no_more (s.gate.pushed + 1) change.number s.gate.pushed (ap (λ (x : Waiting Task). x.number) same) refl h)
      ]
    where
      no_more : {P : Type 0} (a b c : ℕ) → a ≡ b → a ≡ c + 1 → b ≤ c → P
      no_more a b c h k l = absurd (omega (arith, h, k, l))

  more_pushed : (a b : ℕ) → a ≤ b → a ≤ b + 1
  more_pushed a b h = omega (arith, h)

  -- who is asked for what it touches is asked for something else
  queued_followed : (s : MasterState) (touched names : List (List ℕ)) (task : Task) → IsAnswerable [] s → IsFollowed s (asking_for (queued s touched task) names)
  queued_followed s touched names task a =
      let q = queued s touched task in
      let new = asking_for q names in
      let gate : new.gate ≡ q.gate = ap (λ (m : MasterState). m.gate) (asks_only names q) in
      let W : GateState Task → Type 0 = λ g. Contains g.waiting change in
      record {
        pushed = λ h. let L : GateState Task → Type 0 = λ g. change.number ≤ g.pushed in subst L (sym gate) (more_pushed change.number s.gate.pushed h);
        waited = λ h waits. came_before s touched task h (subst W gate waits);
        asked = λ h waits name number touches_it is.
            let before = came_before s touched task h (subst W gate waits) in
            let stays = asked_stays client name names q (λ held. a.asked client name held (any_in (touches name) s.gate.waiting change before touches_it) refl) in
            sym stays ∙ is;
      }

  -- ---- every arm

  pub followed_by_case : (cell : List ℕ) (rows : Rows) (s : MasterState) (request : Request) (c : TakeCase s request) → IsKept cell rows s → IsAnswerable [] s → IsFollowed s (taken_by s request c).0
  followed_by_case cell rows s request (StartRefused start is may) k a = same_followed s s refl refl
  followed_by_case cell rows s request (StartRecovering start is may recovering) k a = same_followed s s refl refl
  followed_by_case cell rows s request (StartFull start is may serving full) k a = same_followed s s refl refl
  followed_by_case cell rows s request (StartQueued start is may serving room) k a =
      queued_followed s [] [] (tasks.Asked (record { client = start.client; number = start.number; work = works.Starts start.principal s.clock })) a
  followed_by_case cell rows s request (OldBeat beat is other) k a = same_followed s s refl refl
  followed_by_case cell rows s request (BeatRefused beat fault is same refused) k a = same_followed s s refl refl
  followed_by_case cell rows s request (BeatParked beat is same taken) k a = record {
    pushed = λ h. h;
    waited = λ h waits. waits;
    asked = λ h waits name number touched is. (asked_before s beat.client (acknowledgement beat) cell rows k client name number is).0;
  }
  followed_by_case cell rows s request (OldEpoch message is other) k a = same_followed s s refl refl
  followed_by_case cell rows s request (NoSession message is same ended) k a = same_followed s s refl refl
  followed_by_case cell rows s request (LeftBefore message kept request_is same_epoch ended is same) k a = same_followed s s refl refl
  followed_by_case cell rows s request (Repeated message kept heard is same) k a = same_followed s s refl refl
  followed_by_case cell rows s request (OlderCall message kept heard is less) k a = same_followed s s refl refl
  followed_by_case cell rows s request (Outstanding message kept heard is more none) k a = same_followed s s refl refl
  followed_by_case cell rows s request (LeavesBeside message heard beside) k a =
      let last : LastCall Reply = record { number = message.number; reply = None } in
      let r = recorded s message.client last in
      then_followed s r (with_call s message None) (same_followed s r refl refl) (queued_followed r [] [] (tasks.Asked (task_of message)) (alike [] s r (recorded_alike s message.client last) a))
  followed_by_case cell rows s request (Recovering message new recovering) k a = same_followed s (recorded s message.client _) refl refl
  followed_by_case cell rows s request (Answered message note answer new serving answered) k a =
      let t = with_note s note in then_followed s t (recorded t message.client _) (note_followed s note) (same_followed t (recorded t message.client _) refl refl)
  followed_by_case cell rows s request (Granted message note answer name new serving granted) k a =
      let t = with_note s note in
      let r = with_right t message.client name in
      then_followed s t (recorded r message.client _) (note_followed s note) (record {
        pushed = λ h. h;
        waited = λ h waits. waits;
        asked = λ h waits theirs number touched is. sym (granted_asked message.client client name theirs t.rights) ∙ is;
      })
  followed_by_case cell rows s request (Waits message note touched new serving admitted) k a =
      let t = with_note s note in
      let last : LastCall Reply = record { number = message.number; reply = None } in
      let r = recorded t message.client last in
      then_followed s t (asking_for (with_call t message touched) (names_of touched)) (note_followed s note)
      (then_followed t r (asking_for (with_call t message touched) (names_of touched)) (same_followed t r refl refl) (queued_followed r (names_of touched) (names_of touched) (tasks.Asked (task_of message)) (alike [] s r (alike_then s t r (noted_alike s note) (recorded_alike t message.client last)) a)))

  pub followed_by_sweep : (cell : List ℕ) (rows : Rows) (s : MasterState) (c : SweepCase s) → IsKept cell rows s → IsAnswerable [] s → IsFollowed s (swept_by s c).0
  followed_by_sweep cell rows s (Quiet none) k a = same_followed s s refl refl
  followed_by_sweep cell rows s (Recovers recovering heard) k a = same_followed s (record s { recovering = false; serving_from = s.clock }) refl refl
  followed_by_sweep cell rows s (Expires q session due) k a = record {
    pushed = λ h. h;
    waited = λ h waits. waits;
    asked = λ h waits name number touched is. (asked_before s q (ending_by partings.Expiry) cell rows k client name number is).0;
  }
  followed_by_sweep cell rows s (Departed front back asked call sequencer session turn work leave found live) k a =
      let r = rest s front back in
      then_followed s r (swept_by s (Departed front back asked call sequencer session turn work leave found live)).0 (rest_followed s front back (tasks.Asked asked) turn) (record {
        pushed = λ h. h;
        waited = λ h waits. waits;
        asked = λ h waits name number touched is. (asked_before s asked.client (ending_by partings.Leave) cell rows k client name number is).0;
      })
  followed_by_sweep cell rows s (AnswersBeat q session beat due) k a = same_followed s (record s { sessions = with_session s.sessions q (answered s.sessions.lease s.clock) }) refl refl
  followed_by_sweep cell rows s (TurnedAway front back asked principal received turn work may) k a = rest_followed s front back (tasks.Asked asked) turn
  followed_by_sweep cell rows s (StartedAgain front back asked principal received session turn work found live) k a =
      let r = rest s front back in then_followed s r (swept_by s (StartedAgain front back asked principal received session turn work found live)).0 (rest_followed s front back (tasks.Asked asked) turn) (same_followed r _ refl refl)
  followed_by_sweep cell rows s (Started front back asked principal received turn work none) k a =
      let r = rest s front back in then_followed s r (swept_by s (Started front back asked principal received turn work none)).0 (rest_followed s front back (tasks.Asked asked) turn) (same_followed r _ refl refl)
  followed_by_sweep cell rows s (Reopens instance due) k a = same_followed s (swept_by s (Reopens instance due)).0 refl refl
  followed_by_sweep cell rows s (Tidies idle due) k a = queued_followed s (with_parent idle.name) (with_parent idle.name) (tasks.Tidies idle) a
  followed_by_sweep cell rows s (Spared front back idle turn held) k a = rest_followed s front back (tasks.Tidies idle) turn
  followed_by_sweep cell rows s (Tidied front back idle turn still) k a =
      let r = rest s front back in then_followed s r (swept_by s (Tidied front back idle turn still)).0 (rest_followed s front back (tasks.Tidies idle) turn) (same_followed r _ refl refl)
  followed_by_sweep cell rows s (OfEnded front back asked call sequencer turn work gone) k a = rest_followed s front back (tasks.Asked asked) turn
  followed_by_sweep cell rows s (Ended front back asked call sequencer note answer turn work stays live made) k a =
      let r = rest s front back in
      let t = recorded r asked.client _ in
      then_followed s r (with_note t note) (rest_followed s front back (tasks.Asked asked) turn) (then_followed r t (with_note t note) (same_followed r t refl refl) (note_followed t note))
  followed_by_sweep cell rows s (Applied front back asked call sequencer note change_made answer turn work stays live made) k a =
      let r = rest s front back in
      let t = recorded (mapped r change_made) asked.client _ in
      then_followed s r (with_note t note) (rest_followed s front back (tasks.Asked asked) turn) (then_followed r t (with_note t note) (same_followed r t refl refl) (note_followed t note))
  followed_by_sweep cell rows s (Deleted front back asked call sequencer change_made instance waiters answer turn work stays live made) k a =
      let r = rest s front back in then_followed s r (swept_by s (Deleted front back asked call sequencer change_made instance waiters answer turn work stays live made)).0 (rest_followed s front back (tasks.Asked asked) turn) (same_followed r _ refl refl)
  followed_by_sweep cell rows s (Locked front back asked call sequencer put claim answer turn work stays live made) k a =
      let r = rest s front back in then_followed s r (swept_by s (Locked front back asked call sequencer put claim answer turn work stays live made)).0 (rest_followed s front back (tasks.Asked asked) turn) (same_followed r _ refl refl)
  followed_by_sweep cell rows s (Awaited front back asked call sequencer put turn work stays live made) k a =
      let r = rest s front back in then_followed s r (swept_by s (Awaited front back asked call sequencer put turn work stays live made)).0 (rest_followed s front back (tasks.Asked asked) turn) (same_followed r _ refl refl)
  followed_by_sweep cell rows s (Left front back asked call sequencer note leave answer turn work stays live made) k a =
      let r = rest s front back in
      let l = with_locks r (left_put leave ∷ []) in
      let t = recorded l asked.client _ in
      let n = with_note t note in
      then_followed s r (told n (turn_replies s leave.turn)) (rest_followed s front back (tasks.Asked asked) turn) (then_followed r t (told n (turn_replies s leave.turn)) (same_followed r t refl refl) (then_followed t n (told n (turn_replies s leave.turn)) (note_followed t note) (same_followed n (told n (turn_replies s leave.turn)) refl refl)))
