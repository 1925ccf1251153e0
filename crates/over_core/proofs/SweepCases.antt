-- The arm of the table that a sweep takes.
use Rattle.std.proofs.Common.{◌≡◌, ℕ, ◌≤◌, ◌<◌, List, [], ◌∷◌, ◌++◌, Bool, true, false, cond, Option, Some, None, Result, Ok, Err, refl, sym, ap, ◌∙◌, subst, eqb, arith, ◌⊎◌, inl, inr}
use Rattle.std.specs.Prelude.{◌&&◌, ◌||◌, not, nat_lt, nat_le, find}
use Rattle.std.specs.Option.{option_map, option_map_or, option_and_then}
use Rattle.std.specs.List.Sorted.{IsStrictlySortedBy}
use Rattle.std.specs.Map.{keys_of}
use Rattle.std.specs.Ordering.{nat_cmp}
use Rattle.std.specs.Str.{bytes_eq}
use Rattle.std.proofs.lemmas.Bool.{and_parts, not-true}
use Rattle.std.proofs.lemmas.Bool.Decides.{nat_tests}
use Rattle.std.proofs.lemmas.List.{append-nil}
use Rattle.node_core.specs.declared.refusals.Fault.{Fault}
use Rattle.node_core.specs.declared.refusals.Fault.TheVariants as faults
use Rattle.node_core.specs.declared.views.Mod.{Mod}
use Rattle.node_core.specs.declared.views.Mod.TheVariants.{Put, Gone}
use Rattle.rows_cell.specs.declared.tables.Edit.{Edit}
use Rattle.tags_cell.specs.declared.messages.calls.Call.{Call}
use Rattle.tags_cell.specs.declared.messages.outs.CallResult.{CallResult}
use Rattle.tags_cell.specs.declared.messages.outs.Reply.{Reply}
use Rattle.tags_cell.specs.Numbers.{is_client_number}
use Rattle.gate_core.specs.declared.pending.Waiting.{Waiting}
use Rattle.gate_core.specs.Gate.{AreRising, IsOrderly, is_free, without}
use Rattle.session_core.specs.declared.records.Offer.{Offer}
use Rattle.session_core.specs.declared.records.Parked.{Parked}
use Rattle.session_core.specs.declared.records.Session.{Session}
use Rattle.session_core.specs.Session.{is_client_expired, is_client_due, is_client_answerable, is_answerable, is_expired, is_due, is_given_up, owes, nears_end, offer_to}
use Rattle.session_core.specs.Sessions.{all_heard, lowest, passes, offer_of}
use Rattle.session_core.proofs.Lowest.{lowest_is}
use Rattle.lock_core.specs.declared.claims.Claim.{Claim}
use Rattle.lock_core.specs.Turns.{reopened}
use Rattle.lock_core.specs.Locks.{lock_at, due}
use Rattle.master_state.specs.declared.updates.LockPut.{LockPut}
use Rattle.master_state.specs.declared.updates.SessionUpdate.TheVariants.{Answers}
use Rattle.master_parts.specs.declared.handles.HandleNote.{HandleNote}
use Rattle.master_parts.specs.declared.pending.WaitingRequest.{WaitingRequest}
use Rattle.master_parts.specs.declared.pending.Orphan.{Orphan}
use Rattle.master_parts.specs.declared.pending.Task.{Task}
use Rattle.master_parts.specs.declared.pending.Task.TheVariants as tasks
use Rattle.master_parts.specs.declared.pending.Work.{Work}
use Rattle.master_parts.specs.declared.pending.Work.TheVariants as works
use Rattle.master_state.specs.NameSpace.{name_space, caller}
use Rattle.master_state.specs.State.{MasterState, next_change, task_at}
use Rattle.master_state.specs.Lookups.{session_of, is_live, may_start, turned_away, noted}
use Rattle.master_state.specs.Updates.{edits_of}
use Rattle.cell_core.specs.Ephemerals.{next_idle, is_still_idle}
use Rattle.master_parts.specs.declared.notices.SessionEvent.{SessionEvent}
use Rattle.cell_core.specs.Effect.{effect, gone_by_itself}
use Rattle.over_core.specs.Plans.{tellings_of, no_update, no_plan, session_plan, alive_out, leaving, plan_session, plan_start, plan_effect, plan_asked, plan_call, plan_of, plan_work, plan_task, answer_or_quiet, tidy_or_later, reopen_or_later, apply_or_later, first_action, parting_plan, plan_leave, plan_live}
use Rattle.over_core.specs.Sweep.{is_quiet, beats_action, beats_answered, beats_step, swept_by_plan, acted, telling, swept, action_edits, is_over, sweep_edits, sweep_step}
use Rattle.cell_core.specs.declared.effects.Effect.{Effect}
use Rattle.cell_core.specs.declared.effects.Leave.{Leave}
use Rattle.over_core.specs.declared.actions.Action.{Action}
use Rattle.over_core.specs.declared.actions.Action.TheVariants as actions
use Rattle.over_core.specs.declared.plans.Plan.{Plan}
use Rattle.over_core.specs.declared.swept.Swept.{Swept}
use Rattle.cell_core.specs.Outcomes.{left_put}
use Rattle.master_state.specs.Replies.{puts_of}
use Rattle.master_state.specs.Lapses.{lapses_of, lapses_puts}
use Rattle.over_core.specs.SweepCase.{IsNextApplied, IsDueToEnd, IsDue, SweepCase, swept_by, relocking, swept_edits, rest, parting_edits, left_reply}
use Rattle.over_core.specs.SweepCase.SweepCase.{Quiet, Recovers, Expires, Departed, AnswersBeat, TurnedAway, StartedAgain, Started, Reopens, Tidies, Spared, Tidied, OfEnded, Ended, Applied, Deleted, Locked, Awaited, Left}
use Rattle.cell_core.proofs.EffectShapes.{Shape, effect_by, shape_of}
use Rattle.cell_core.proofs.EffectShapes.Shape.{Ends, Applies, Deletes, Locks, Awaits, Leaves}
use Rattle.lock_core.specs.declared.partings.Parting.TheVariants as partings
use Rattle.lock_core.specs.declared.turns.Lapse.{Lapse}
use Rattle.tags_cell.specs.Messages.{is_leave}
use Rattle.rows_cell.specs.declared.tables.Edit.TheVariants.{PutSession}

-- one of the cases is what is done, and committed
abbrev pub IsSwept : (s : MasterState) → MasterState × Swept → List Edit → Type 0
IsSwept s p edits = (c : SweepCase s) × (p ≡ swept_by s c) × (edits ≡ swept_edits s c)

-- the sessions stand in order of the numbers of their clients
abbrev pub HasSessionsInOrder : MasterState → Type 0
HasSessionsInOrder s = IsStrictlySortedBy nat_cmp (keys_of s.sessions.sessions)

-- what a plan does for the change that has its turn
abbrev IsPlan : (s : MasterState) → ℕ → Plan → Type 0
IsPlan s number plan = IsSwept s (swept_by_plan s (leaving number plan) false) (edits_of s (leaving number plan).update)

either : (s : MasterState) (number : ℕ) (b : Bool) (x y : Plan) → (b ≡ true → IsPlan s number x) → (b ≡ false → IsPlan s number y) → IsPlan s number (cond b x y)
either s number true x y h k = h refl
either s number false x y h k = k refl

-- nothing is committed of a session, nor of the map
bare : (edits : List Edit) → edits ++ [] ++ [] ≡ edits
bare edits = append-nil (edits ++ []) ∙ append-nil edits

itself : (n : ℕ) → eqb n n ≡ true
itself n = grind (arith, nat_tests)

-- ---- what stands without the change that has its turn

-- the locks of a client are the same
pub rest_puts : (s : MasterState) (front back : List (Waiting Task)) (lapses : List Lapse) → lapses_puts (rest s front back) lapses ≡ lapses_puts s lapses
rest_puts s front back [] = refl
rest_puts s front back (lapse ∷ lapses) = ap (λ (puts : List LockPut). puts_of s lapse.instance lapse.turn.lock ++ puts) (rest_puts s front back lapses)

pub rest_edits : (s : MasterState) (front back : List (Waiting Task)) (client : ℕ) (principal : List ℕ) → parting_edits partings.Leave (rest s front back) client principal ≡ parting_edits partings.Leave s client principal
rest_edits s front back client principal =
    ap (λ (puts : List LockPut). relocking s puts ++ PutSession client (record { principal = principal; live = false }) ∷ []) (rest_puts s front back (lapses_of partings.Leave s client))

-- ---- a client's session

-- a test of a session that passes is of one that is there
some_passes : (test : Session Reply → Bool) (o : Option (Session Reply)) → option_map_or test o false ≡ true → (session : Session Reply) × (o ≡ Some session) × (test session ≡ true)
some_passes test None h = absurd (cc)
some_passes test (Some session) h = (session, refl, h)

-- a client that may start, and has no live session, has none, and its number is still to be used
pub no_session : (principal : List ℕ) (used : Bool) (o : Option (Session Reply)) → option_map_or (λ (session : Session Reply). session.live && bytes_eq session.principal principal) o (not used) ≡ true → option_map_or (λ (session : Session Reply). session.live) o false ≡ false → (o ≡ None) × (used ≡ false)
no_session principal used None may live = (refl, not-true used may)
no_session principal used (Some session) may live =
    let t = and_parts session.live (bytes_eq session.principal principal) may in
    let is = t.0 in absurd (cc)

-- ---- the change that has its turn

-- what is found first stands between those before it and those after it
between : {X : Type 0} (test : X → Bool) (xs : List X) (x : X) → find test xs ≡ Some x → (front : List X) × (back : List X) × (xs ≡ front ++ x ∷ back) × (test x ≡ true)
between test [] x h = absurd (cc)
between {X} test (y ∷ ys) x h =
    (elim (test y) as (λ b. test y ≡ b → cond b (Some y) (find test ys) ≡ Some x → (front : List X) × (back : List X) × (y ∷ ys ≡ front ++ x ∷ back) × (test x ≡ true)) [
      | true ↦ (λ passes is.
          let same : y ≡ x = cc in
          ([], ys, ap (λ z. z ∷ ys) same, ap test (sym same) ∙ passes))
      | false ↦ (λ fails is.
          let t = between test ys x is in
          (y ∷ t.0, t.1, ap (λ zs. y ∷ zs) t.2, t.3))
    ]) refl h

-- its number is above those of the changes before it
above_front : (low high : ℕ) (front : List (Waiting Task)) (w : Waiting Task) (back : List (Waiting Task)) → AreRising low (front ++ w ∷ back) high → low < w.number
above_front low high [] w back r = r.above
above_front low high (v ∷ vs) w back r = omega (arith, r.above, above_front v.number high vs w back r.rest)

apart : (n m : ℕ) → m < n → eqb n m ≡ false
apart n m h = grind (arith, nat_tests)

-- so it is found by its number, and without it the others are left
numbered : (low high : ℕ) (front : List (Waiting Task)) (w : Waiting Task) (back : List (Waiting Task)) → AreRising low (front ++ w ∷ back) high → (task_at w.number (front ++ w ∷ back) ≡ Some w.change.body) × (without w.number (front ++ w ∷ back) ≡ front ++ back)
numbered low high [] w back r = let e = itself w.number in (rw e refl, rw e refl)
numbered low high (v ∷ vs) w back r =
    let e : eqb w.number v.number ≡ false = apart w.number v.number (above_front v.number high vs w back r.rest) in
    let t = numbered v.number high vs w back r.rest in
    (rw e t.0, rw e (ap (λ ws. v ∷ ws) t.1))

module _ (s : MasterState) (front : List (Waiting Task)) (w : Waiting Task) (back : List (Waiting Task)) (stands : s.gate.waiting ≡ front ++ w ∷ back) (free : is_free s.rights w ≡ true) (orderly : IsOrderly s.gate) where
  turn_of : (task : Task) → w.change.body ≡ task → IsNextApplied s front task back
  turn_of task body =
      let P : Task → Type 0 = λ t. IsNextApplied s front t back in subst P body (record { number = w.number; touched = w.change.touched; waited = stands; free = free })

  rising : AreRising 0 (front ++ w ∷ back) s.gate.pushed
  rising = let P : List (Waiting Task) → Type 0 = λ ws. AreRising 0 ws s.gate.pushed in subst P stands orderly.rising

  left_behind : without w.number s.gate.waiting ≡ front ++ back
  left_behind = ap (without w.number) stands ∙ (numbered 0 s.gate.pushed front w back rising).1

  found : task_at w.number s.gate.waiting ≡ Some w.change.body
  found = ap (task_at w.number) stands ∙ (numbered 0 s.gate.pushed front w back rising).0

  spared_case : (idle : Orphan) → w.change.body ≡ tasks.Tidies idle → is_still_idle s idle ≡ false → IsPlan s w.number no_plan
  spared_case idle body held = (Spared front back idle (turn_of (tasks.Tidies idle) body) held, rw left_behind refl, refl)

  tidied_case : (idle : Orphan) → w.change.body ≡ tasks.Tidies idle → is_still_idle s idle ≡ true → IsPlan s w.number (plan_effect s 0 0 (gone_by_itself (name_space s) idle))
  tidied_case idle body still = (Tidied front back idle (turn_of (tasks.Tidies idle) body) still, rw left_behind refl, refl)

module _ (s : MasterState) (front : List (Waiting Task)) (w : Waiting Task) (back : List (Waiting Task)) (stands : s.gate.waiting ≡ front ++ w ∷ back) (free : is_free s.rights w ≡ true) (orderly : IsOrderly s.gate) (asked : WaitingRequest) (body : w.change.body ≡ tasks.Asked asked) where
  turn : IsNextApplied s front (tasks.Asked asked) back
  turn = turn_of s front w back stands free orderly (tasks.Asked asked) body

  behind : without w.number s.gate.waiting ≡ front ++ back
  behind = left_behind s front w back stands free orderly

  again_case : (principal : List ℕ) (received : ℕ) → asked.work ≡ works.Starts principal received → is_live s asked.client ≡ true → IsPlan s w.number (plan_session s asked.client asked.number principal received)
  again_case principal received work live =
      let t = some_passes (λ session. session.live) (session_of s asked.client) live in
      rw live (StartedAgain front back asked principal received t.0 turn work t.1 t.2, rw behind refl, refl)

  fresh_case : (principal : List ℕ) (received : ℕ) → asked.work ≡ works.Starts principal received → may_start s asked.client principal ≡ true → is_live s asked.client ≡ false → IsPlan s w.number (plan_session s asked.client asked.number principal received)
  fresh_case principal received work may live =
      let none = no_session principal (nat_lt asked.client s.ended_below) (session_of s asked.client) may live in
      rw live (Started front back asked principal received turn work none, rw behind refl, append-nil (swept_edits s (Started front back asked principal received turn work none)))

  start_case : (principal : List ℕ) (received : ℕ) → asked.work ≡ works.Starts principal received → IsPlan s w.number (plan_start s asked.client asked.number principal received)
  start_case principal received work =
      let client = asked.client in
      let number = asked.number in
      let away : Plan = record { update = no_update; taken = turned_away s client number faults.NoSession; contested = None } in
      either s w.number (may_start s client principal) (plan_session s client number principal received) away
      (λ may. (elim (is_live s client) as (λ b. is_live s client ≡ b → IsPlan s w.number (plan_session s client number principal received)) [ true ↦ again_case principal received work | false ↦ fresh_case principal received work may ]) refl)
      (λ may. (TurnedAway front back asked principal received turn work may, rw behind refl, refl))

  -- what the plan for a call of this shape does
  abbrev IsDoneBy : Call → Option (List ℕ) → Shape → Type 0
  IsDoneBy call sequencer shape =
      asked.work ≡ works.Calls call sequencer → is_leave call ≡ false → is_live s asked.client ≡ true → effect (name_space s) (caller s asked.client) s.clock asked.number call sequencer ≡ effect_by shape
      → IsPlan s w.number (plan_effect s asked.client asked.number (effect_by shape))

  ended_case : (call : Call) (sequencer : Option (List ℕ)) (note : Option HandleNote) (answer : CallResult) → IsDoneBy call sequencer (Ends note answer)
  ended_case call sequencer None answer work stays live made = (Ended front back asked call sequencer None answer turn work stays live made, rw behind refl, refl)
  ended_case call sequencer (Some note) answer work stays live made = (Ended front back asked call sequencer (Some note) answer turn work stays live made, rw behind refl, refl)

  applied_case : (call : Call) (sequencer : Option (List ℕ)) (note : Option HandleNote) (change : Mod) (next : ℕ) (answer : CallResult) → IsDoneBy call sequencer (Applies note (record { change = change; next_instance = next }) answer)
  applied_case call sequencer None (Put name view) next answer work stays live made = (Applied front back asked call sequencer None (record { change = Put name view; next_instance = next }) answer turn work stays live made, rw behind refl, refl)
  applied_case call sequencer None (Gone name) next answer work stays live made = (Applied front back asked call sequencer None (record { change = Gone name; next_instance = next }) answer turn work stays live made, rw behind refl, refl)
  applied_case call sequencer (Some note) (Put name view) next answer work stays live made = (Applied front back asked call sequencer (Some note) (record { change = Put name view; next_instance = next }) answer turn work stays live made, rw behind refl, refl)
  applied_case call sequencer (Some note) (Gone name) next answer work stays live made = (Applied front back asked call sequencer (Some note) (record { change = Gone name; next_instance = next }) answer turn work stays live made, rw behind refl, refl)

  deleted_case : (call : Call) (sequencer : Option (List ℕ)) (change : Mod) (next instance : ℕ) (waiters : List Claim) (answer : CallResult) → IsDoneBy call sequencer (Deletes (record { change = change; next_instance = next }) instance waiters answer)
  deleted_case call sequencer (Put name view) next instance waiters answer work stays live made = (Deleted front back asked call sequencer (record { change = Put name view; next_instance = next }) instance waiters answer turn work stays live made, rw behind refl, refl)
  deleted_case call sequencer (Gone name) next instance waiters answer work stays live made = (Deleted front back asked call sequencer (record { change = Gone name; next_instance = next }) instance waiters answer turn work stays live made, rw behind refl, refl)

  locked_case : (call : Call) (sequencer : Option (List ℕ)) (put : LockPut) (claim : Claim) (answer : CallResult) → IsDoneBy call sequencer (Locks put claim answer)
  locked_case call sequencer put claim answer work stays live made = (Locked front back asked call sequencer put claim answer turn work stays live made, rw behind refl, bare (relocking s (put ∷ [])))

  awaited_case : (call : Call) (sequencer : Option (List ℕ)) (put : LockPut) → IsDoneBy call sequencer (Awaits put)
  awaited_case call sequencer put work stays live made = (Awaited front back asked call sequencer put turn work stays live made, rw behind refl, bare (relocking s (put ∷ [])))

  left_case : (call : Call) (sequencer : Option (List ℕ)) (note : Option HandleNote) (leave : Leave) (answer : CallResult) → IsDoneBy call sequencer (Leaves note leave answer)
  left_case call sequencer None leave answer work stays live made = (Left front back asked call sequencer None leave answer turn work stays live made, rw behind refl, bare (relocking s (left_put leave ∷ [])))
  left_case call sequencer (Some note) leave answer work stays live made = (Left front back asked call sequencer (Some note) leave answer turn work stays live made, rw behind refl, bare (relocking s (left_put leave ∷ [])))

  shape_case : (call : Call) (sequencer : Option (List ℕ)) (shape : Shape) → IsDoneBy call sequencer shape
  shape_case call sequencer (Ends note answer) = ended_case call sequencer note answer
  shape_case call sequencer (Applies note change answer) = applied_case call sequencer note change.change change.next_instance answer
  shape_case call sequencer (Deletes change instance waiters answer) = deleted_case call sequencer change.change change.next_instance instance waiters answer
  shape_case call sequencer (Locks put claim answer) = locked_case call sequencer put claim answer
  shape_case call sequencer (Awaits put) = awaited_case call sequencer put
  shape_case call sequencer (Leaves note leave answer) = left_case call sequencer note leave answer

  effect_case : (call : Call) (sequencer : Option (List ℕ)) → asked.work ≡ works.Calls call sequencer → is_leave call ≡ false → is_live s asked.client ≡ true → IsPlan s w.number (plan_effect s asked.client asked.number (effect (name_space s) (caller s asked.client) s.clock asked.number call sequencer))
  effect_case call sequencer work stays live =
      let t = shape_of s asked.client asked.number call sequencer in
      let P : Effect → Type 0 = λ effected. IsPlan s w.number (plan_effect s asked.client asked.number effected) in
      subst P (sym t.1) (shape_case call sequencer t.0 work stays live t.1)

  -- what is planned where the client ends its session
  departed_case : (call : Call) (sequencer : Option (List ℕ)) → asked.work ≡ works.Calls call sequencer → is_leave call ≡ true → is_live s asked.client ≡ true → IsPlan s w.number (plan_leave s asked.client asked.number)
  departed_case call sequencer work leave live =
      let t = some_passes (λ session. session.live) (session_of s asked.client) live in
      let own : List Reply = left_reply s asked ∷ [] in
      let lapses : List Lapse = lapses_of partings.Leave s asked.client in
      let P : Option (Session Reply) → Type 0 = λ o. IsPlan s w.number (option_map_or (λ (session : Session Reply). parting_plan partings.Leave s asked.client session.principal lapses own) o no_plan) in
      subst P (sym t.1) (Departed front back asked call sequencer t.0 turn work leave t.1 t.2, rw behind refl, append-nil (parting_edits partings.Leave s asked.client t.0.principal))

  live_case : (call : Call) (sequencer : Option (List ℕ)) → asked.work ≡ works.Calls call sequencer → is_live s asked.client ≡ true → IsPlan s w.number (plan_live s asked.client asked.number call sequencer)
  live_case call sequencer work live =
      either s w.number (is_leave call) (plan_leave s asked.client asked.number) (plan_asked s asked.client asked.number call (effect (name_space s) (caller s asked.client) s.clock asked.number call sequencer))
      (λ leave. departed_case call sequencer work leave live) (λ stays. effect_case call sequencer work stays live)

  call_case : (call : Call) (sequencer : Option (List ℕ)) → asked.work ≡ works.Calls call sequencer → IsPlan s w.number (plan_call s asked.client asked.number call sequencer)
  call_case call sequencer work =
      let client = asked.client in
      either s w.number (is_live s client) (plan_live s client asked.number call sequencer) no_plan (live_case call sequencer work)
      (λ gone. (OfEnded front back asked call sequencer turn work gone, rw behind refl, refl))

  work_case : (work : Work) → asked.work ≡ work → IsPlan s w.number (plan_work s asked.client asked.number work)
  work_case (works.Starts principal received) work = start_case principal received work
  work_case (works.Calls call sequencer) work = call_case call sequencer work

module _ (s : MasterState) (front : List (Waiting Task)) (w : Waiting Task) (back : List (Waiting Task)) (stands : s.gate.waiting ≡ front ++ w ∷ back) (free : is_free s.rights w ≡ true) (orderly : IsOrderly s.gate) where
  task_case : (task : Task) → w.change.body ≡ task → IsPlan s w.number (plan_task s task)
  task_case (tasks.Asked asked) body = work_case s front w back stands free orderly asked body asked.work refl
  task_case (tasks.Tidies idle) body =
      either s w.number (is_still_idle s idle) (plan_effect s 0 0 (gone_by_itself (name_space s) idle)) no_plan (tidied_case s front w back stands free orderly idle body)
      (spared_case s front w back stands free orderly idle body)

  apply_case : IsSwept s (acted s (actions.Apply w.number)) (action_edits s (actions.Apply w.number))
  apply_case =
      let P : Option Task → Type 0 = λ o.
      let plan = option_map_or (λ (task : Task). leaving w.number (plan_task s task)) o no_plan in
      IsSwept s (swept_by_plan s plan false) (edits_of s plan.update) in
      subst P (sym (found s front w back stands free orderly)) (task_case w.change.body refl)

-- ---- what becomes of one session

-- the action that a table tells is done
abbrev IsDone : (s : MasterState) → Action → Type 0
IsDone s action = IsSwept s (acted s action) (action_edits s action)

-- the client that is found first passes the test
passed : (s : MasterState) (test : ℕ → Session Reply → Bool) (client : ℕ) → HasSessionsInOrder s → lowest s.sessions test ≡ Some client → passes s.sessions test client ≡ true
passed s test client order is = (lowest_is s.sessions s.sessions test (Some client) refl order (sym is)).0

parked_of : (lease now client : ℕ) (session : Session Reply) (o : Option Parked) → session.parked ≡ o → is_client_due lease now client session ≡ true → (beat : Parked) × (session.parked ≡ Some beat) × (session.live ≡ true)
parked_of lease now client session None is h =
    let t = and_parts (is_client_number client) (is_due lease now session) h in
    let due : option_map_or (λ (beat : Parked). session.live && (not (is_given_up lease beat session) && (owes session || nears_end lease now session))) session.parked false ≡ true = t.1 in
    absurd (cc)
parked_of lease now client session (Some beat) is h =
    let t = and_parts (is_client_number client) (is_due lease now session) h in
    let due : (session.live && (not (is_given_up lease beat session) && (owes session || nears_end lease now session))) ≡ true = rw is at t.1 in
    (beat, is, (and_parts session.live (not (is_given_up lease beat session) && (owes session || nears_end lease now session)) due).0)

-- what may be answered while the store refuses is due
due_of : (lease now client : ℕ) (session : Session Reply) → is_client_answerable lease now client session ≡ true → is_client_due lease now client session ≡ true
due_of lease now client session h =
    let t = and_parts (is_client_number client) (is_answerable lease now session) h in
    let u = and_parts (is_due lease now session) (not (is_expired now session)) t.1 in
    let number : is_client_number client ≡ true = t.0 in
    let due : is_due lease now session ≡ true = u.0 in
    rw (number, due) refl

over_at : (a b : ℕ) → nat_le a b ≡ true → a ≤ b
over_at a b h = grind (arith, nat_tests)

-- what is planned for a session, and what for none
abbrev pub expiry_of : MasterState → ℕ → Option (Session Reply) → Plan
expiry_of s client o = option_map_or (λ (session : Session Reply). parting_plan partings.Expiry s client session.principal (lapses_of partings.Expiry s client) []) o no_plan

abbrev pub answer_of : MasterState → ℕ → Option Offer → Plan
answer_of s client o = option_map_or (λ offer. session_plan (Answers client) [] (alive_out s client offer ∷ [])) o no_plan

-- an answer commits nothing
answer_edits : (s : MasterState) (client : ℕ) (o : Option Offer) → [] ≡ edits_of s (answer_of s client o).update
answer_edits s client None = refl
answer_edits s client (Some offer) = refl

module _ (s : MasterState) (order : HasSessionsInOrder s) (orderly : IsOrderly s.gate) where
  expire_case : (client : ℕ) → lowest s.sessions (is_client_expired s.clock) ≡ Some client → IsDone s (actions.Expire client)
  expire_case client is =
      let t = some_passes (is_client_expired s.clock client) (session_of s client) (passed s (is_client_expired s.clock) client order is) in
      let u = and_parts t.0.live (nat_le t.0.timeout s.clock) t.2 in
      let due : IsDueToEnd s client t.0 = record { lowest_expired = is; found = t.1; live = u.0; over = over_at t.0.timeout s.clock u.1 } in (
        Expires client t.0 due,
        ap (λ (o : Option (Session Reply)). swept_by_plan s (expiry_of s client o) false) t.1,
        ap (λ (o : Option (Session Reply)). edits_of s (expiry_of s client o).update) t.1 ∙ append-nil (swept_edits s (Expires client t.0 due)),
      )

  answer_by : (client : ℕ) (session : Session Reply) → (lowest s.sessions (is_client_due s.sessions.lease s.clock) ≡ Some client) ⊎ (lowest s.sessions (is_client_answerable s.sessions.lease s.clock) ≡ Some client) → session_of s client ≡ Some session → is_client_due s.sessions.lease s.clock client session ≡ true → IsDone s (actions.Answer client)
  answer_by client session is found passes =
      let u = parked_of s.sessions.lease s.clock client session session.parked refl passes in
      let due : IsDue s client session u.0 = record { lowest_due = is; found = found; live = u.2; is_parked = u.1 } in
      let offered : offer_of s.sessions client s.clock ≡ Some (offer_to s.sessions.lease s.clock u.0) =
      ap (λ (o : Option (Session Reply)). option_and_then (λ session. option_map (offer_to s.sessions.lease s.clock) session.parked) o) found
      ∙ ap (λ (o : Option Parked). option_map (offer_to s.sessions.lease s.clock) o) u.1 in (
        AnswersBeat client session u.0 due,
        ap (λ (o : Option Offer). swept_by_plan s (answer_of s client o) false) offered,
        ap (λ (o : Option Offer). edits_of s (answer_of s client o).update) offered,
      )

  answer_case : (client : ℕ) → lowest s.sessions (is_client_due s.sessions.lease s.clock) ≡ Some client → IsDone s (actions.Answer client)
  answer_case client is =
      let t = some_passes (is_client_due s.sessions.lease s.clock client) (session_of s client) (passed s (is_client_due s.sessions.lease s.clock) client order is) in
      answer_by client t.0 (inl is) t.1 t.2

  -- the same where the store refuses
  answerable_case : (client : ℕ) → lowest s.sessions (is_client_answerable s.sessions.lease s.clock) ≡ Some client → IsDone s (actions.Answer client)
  answerable_case client is =
      let t = some_passes (is_client_answerable s.sessions.lease s.clock client) (session_of s client) (passed s (is_client_answerable s.sessions.lease s.clock) client order is) in
      answer_by client t.0 (inr is) t.1 (due_of s.sessions.lease s.clock client t.0 t.2)

  reopen_case : (instance : ℕ) → due s.locks s.clock ≡ Some instance → IsDone s (actions.Reopen instance)
  reopen_case instance is = (Reopens instance (record { lowest_due = is }), refl, bare (relocking s (puts_of s instance (reopened (lock_at s.locks instance)).lock)))

  -- ---- the first action that there is

  late_case : (o : Option ℕ) → lowest s.sessions (is_client_due s.sessions.lease s.clock) ≡ o → next_idle s ≡ None → due s.locks s.clock ≡ None → next_change s ≡ None → lowest s.sessions (is_client_expired s.clock) ≡ None → (s.recovering && all_heard s.sessions) ≡ false → IsDone s (option_map_or actions.Answer o actions.Quiet)
  late_case None parked kept closed none live going = (Quiet (inl (rw (going, live, none, closed, kept, parked) refl)), refl, refl)
  late_case (Some client) parked kept closed none live going = answer_case client parked

  idle_case : (o : Option Orphan) → next_idle s ≡ o → due s.locks s.clock ≡ None → next_change s ≡ None → lowest s.sessions (is_client_expired s.clock) ≡ None → (s.recovering && all_heard s.sessions) ≡ false → IsDone s (option_map_or actions.Tidy o (answer_or_quiet s))
  idle_case None is closed none live going = late_case (lowest s.sessions (is_client_due s.sessions.lease s.clock)) refl is closed none live going
  idle_case (Some idle) is closed none live going = (Tidies idle (record { first_idle = is }), refl, refl)

  closed_case : (o : Option ℕ) → due s.locks s.clock ≡ o → next_change s ≡ None → lowest s.sessions (is_client_expired s.clock) ≡ None → (s.recovering && all_heard s.sessions) ≡ false → IsDone s (option_map_or actions.Reopen o (tidy_or_later s))
  closed_case None is none live going = idle_case (next_idle s) refl is none live going
  closed_case (Some instance) is none live going = reopen_case instance is

  waiting_case : (o : Option (Waiting Task)) → find (is_free s.rights) s.gate.waiting ≡ o → lowest s.sessions (is_client_expired s.clock) ≡ None → (s.recovering && all_heard s.sessions) ≡ false → IsDone s (option_map_or actions.Apply (option_map (λ (w : Waiting Task). w.number) o) (reopen_or_later s))
  waiting_case None is live going =
      closed_case (due s.locks s.clock) refl (ap (λ (o : Option (Waiting Task)). option_map (λ (w : Waiting Task). w.number) o) is) live going
  waiting_case (Some w) is live going =
      let t = between (is_free s.rights) s.gate.waiting w is in
      apply_case s t.0 w t.1 t.2 t.3 orderly

  session_case : (o : Option ℕ) → lowest s.sessions (is_client_expired s.clock) ≡ o → (s.recovering && all_heard s.sessions) ≡ false → IsDone s (option_map_or actions.Expire o (apply_or_later s))
  session_case None is going = waiting_case (find (is_free s.rights) s.gate.waiting) refl is going
  session_case (Some client) is going = expire_case client is

-- ---- the lemma

pub sweep_case : (s : MasterState) → HasSessionsInOrder s → IsOrderly s.gate → IsSwept s (acted s (first_action s)) (action_edits s (first_action s))
sweep_case s order orderly =
    (elim (s.recovering && all_heard s.sessions) as (λ b. (s.recovering && all_heard s.sessions) ≡ b → IsDone s (cond b actions.Recover (option_map_or actions.Expire (lowest s.sessions (is_client_expired s.clock)) (apply_or_later s)))) [
      | true ↦ (λ h. let t = and_parts s.recovering (all_heard s.sessions) h in (Recovers t.0 t.1, refl, refl))
      | false ↦ (λ h. session_case s order orderly (lowest s.sessions (is_client_expired s.clock)) refl h)
    ]) refl

-- what the clients of open handles are told of an action, and of the first one
abbrev pub action_tellings : MasterState → Action → List SessionEvent
action_tellings s action = tellings_of s (plan_of s action)

abbrev pub first_tellings : MasterState → List SessionEvent
first_tellings s = action_tellings s (first_action s)

-- a sweep that is made does the first action that there is
pub does_first : (s : MasterState) (now : ℕ) (p : MasterState × Swept) → sweep_step s now ≡ Ok p → swept (noted s now) (first_action (noted s now)) ≡ p
unfolding sweep_step
does_first s now p h =
    let planned : MasterState × Swept = swept (noted s now) (first_action (noted s now)) in
    (elim (is_over s now) as (λ b. cond {A = Result (MasterState × Swept) Fault} b (Err faults.Exhausted) (Ok planned) ≡ Ok p → planned ≡ p) [
      | true ↦ (λ e. cc)
      | false ↦ (λ e. cc)
    ]) h

-- one of the cases is what is done, and committed, and after it clients are told
abbrev pub IsSweptAndTold : (s : MasterState) → MasterState × Swept → List Edit → Type 0
IsSweptAndTold s p edits = (c : SweepCase s) × (p ≡ telling (first_tellings s) (swept_by s c)) × (edits ≡ swept_edits s c)

-- a sweep at a moment
pub swept_case : (s new : MasterState) (now : ℕ) (told : Swept) → HasSessionsInOrder s → IsOrderly s.gate → sweep_step s now ≡ Ok (new, told) → IsSweptAndTold (noted s now) (new, told) (sweep_edits s now)
unfolding sweep_step
swept_case s new now told order orderly h =
    let there = noted s now in
    let edits = action_edits there (first_action there) in
    (elim (is_over s now) as (λ b. cond {A = Result (MasterState × Swept) Fault} b (Err faults.Exhausted) (Ok (swept there (first_action there))) ≡ Ok (new, told) → IsSweptAndTold there (new, told) (cond b [] edits)) [
      | true ↦ (λ e. cc)
      | false ↦ (λ e.
          let is : swept there (first_action there) ≡ (new, told) = cc in
          let c = sweep_case there order orderly in
          (c.0, sym is ∙ ap (telling (first_tellings there)) c.1, c.2))
    ]) h

-- ---- what is answered while the store refuses

beats_case : (s : MasterState) → HasSessionsInOrder s → IsOrderly s.gate → IsSwept s (swept_by_plan s (plan_of s (beats_action s)) (is_quiet (beats_action s))) []
beats_case s order orderly =
    (elim (lowest s.sessions (is_client_answerable s.sessions.lease s.clock)) as (λ o. lowest s.sessions (is_client_answerable s.sessions.lease s.clock) ≡ o → IsSwept s (swept_by_plan s (plan_of s (option_map_or actions.Answer o actions.Quiet)) (is_quiet (option_map_or actions.Answer o actions.Quiet))) []) [
      | None ↦ (λ h. (Quiet (inr (ap (λ o. option_map_or actions.Answer o actions.Quiet) h)), refl, refl))
      | Some client ↦ (λ h. let c = answerable_case s order orderly client h in (c.0, c.1, answer_edits s client (offer_of s.sessions client s.clock) ∙ c.2))
    ]) refl

-- one of the cases is what is done, and nothing is committed
abbrev pub IsAnsweredAndTold : (s : MasterState) → MasterState × Swept → Type 0
IsAnsweredAndTold s p = (c : SweepCase s) × (p ≡ telling (action_tellings s (beats_action s)) (swept_by s c)) × ([] ≡ swept_edits s c) × ((swept_by s c).0.nodes ≡ (acted s (beats_action s)).0.nodes) × ((swept_by s c).1.lines ≡ [])

-- nothing is printed
answer_silent : (s : MasterState) (client : ℕ) (o : Option Offer) → (answer_of s client o).taken.lines ≡ []
answer_silent s client None = refl
answer_silent s client (Some offer) = refl

beats_silent : (s : MasterState) (o : Option ℕ) → (plan_of s (option_map_or actions.Answer o actions.Quiet)).taken.lines ≡ []
beats_silent s None = refl
beats_silent s (Some client) = answer_silent s client (offer_of s.sessions client s.clock)

pub not_tidied : (s : MasterState) (o : Option ℕ) → swept_by_plan s (plan_of s (option_map_or actions.Answer o actions.Quiet)) (is_quiet (option_map_or actions.Answer o actions.Quiet)) ≡ acted s (option_map_or actions.Answer o actions.Quiet)
not_tidied s None = refl
not_tidied s (Some client) = refl

pub answered_case : (s new : MasterState) (now : ℕ) (told : Swept) → HasSessionsInOrder s → IsOrderly s.gate → beats_step s now ≡ Ok (new, told) → IsAnsweredAndTold (noted s now) (new, told)
unfolding beats_step
answered_case s new now told order orderly h =
    let there = noted s now in
    (elim (is_over s now) as (λ b. cond {A = Result (MasterState × Swept) Fault} b (Err faults.Exhausted) (Ok (beats_answered there)) ≡ Ok (new, told) → IsAnsweredAndTold there (new, told)) [
      | true ↦ (λ e. cc)
      | false ↦ (λ e.
          let is : beats_answered there ≡ (new, told) = cc in
          let c = beats_case there order orderly in (
            c.0,
            sym is ∙ ap (telling (action_tellings there (beats_action there))) c.1,
            c.2,
            ap (λ (p : MasterState × Swept). p.0.nodes) (sym c.1 ∙ not_tidied there (lowest there.sessions (is_client_answerable there.sessions.lease there.clock))),
            ap (λ (p : MasterState × Swept). p.1.lines) (sym c.1) ∙ beats_silent there (lowest there.sessions (is_client_answerable there.sessions.lease there.clock)),
          ))
    ]) h
