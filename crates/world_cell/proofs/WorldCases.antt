-- By which row of its table a world does a step. Each law of runs is a match on these; this is the only place that opens the table.
use Rattle.std.proofs.Common.{◌≡◌, ℕ, ◌+◌, List, [], ◌∷◌, ◌++◌, Bool, true, false, cond, Result, Ok, Err, Option, Some, None, refl, sym, ap, ◌∙◌, inl, inr, subst, map}
use Rattle.std.specs.Prelude.{◌⊎◌, not, is_some, filter}
use Rattle.std.specs.Option.{option_map_or}
use Rattle.std.specs.BTreeMap.{insert_entry}
use Rattle.std.specs.Ordering.{nat_cmp}
use Rattle.std.specs.List.Sorted.{IsStrictlySortedBy}
use Rattle.std.specs.Map.{keys_of}
use Rattle.std.proofs.lemmas.Map.Made.{keys_of-map_values}
use Rattle.node_core.specs.declared.refusals.Fault.{Fault}
use Rattle.node_core.specs.declared.refusals.Fault.TheVariants as faults
use Rattle.node_core.specs.declared.lines.Line.{Line}
use Rattle.node_core.specs.declared.lines.Line.TheVariants as lines
use Rattle.rows_cell.specs.declared.tables.Edit.{Edit}
use Rattle.rows_cell.specs.Rows.{changed_rows}
use Rattle.rows_cell.specs.Sound.{sound}
use Rattle.tags_cell.specs.declared.messages.requests.Request.{Request}
use Rattle.tags_cell.specs.declared.messages.outs.Out.{Out}
use Rattle.tags_cell.specs.Messages.{out_client}
use Rattle.master_parts.specs.declared.pending.Taken.{Taken}
use Rattle.over_core.specs.declared.swept.Swept.{Swept}
use Rattle.master_state.specs.State.{MasterState, master_of}
use Rattle.master_parts.specs.StoredSessions.{row_of}
use Rattle.master_state.specs.Notices.{with_tellings}
use Rattle.cell_core.specs.Step.{take_step, is_past_end}
use Rattle.master_state.specs.Lookups.{is_spent, noted}
use Rattle.cell_core.specs.Effect.{is_last}
use Rattle.over_core.specs.Plans.{first_action}
use Rattle.over_core.specs.Sweep.{acted, telling, sweep_step, sweep_edits, beats_action, beats_step}
use Rattle.cell_core.specs.Cases.{TakeCase, taken_by}
use Rattle.over_core.specs.SweepCase.{SweepCase, swept_by, swept_edits}
use Rattle.cell_core.proofs.TakeCases.{taken_case, taken_unspent}
use Rattle.over_core.proofs.SweepCases.{first_tellings, swept_case, does_first, action_tellings, answered_case}
use Rattle.over_core.specs.Kept.{IsKept}
use Rattle.over_core.specs.Up.{up_step, up_edits, master_by}
use Rattle.client_core.specs.declared.parts.asks.Ask.{Ask}
use Rattle.client_core.specs.Asks.{ask_step}
use Rattle.client_core.specs.Beats.{beat_step}
use Rattle.client_core.specs.Gives.{give_step}
use Rattle.client_core.specs.Cases.{AskCase, asked_in, BeatCase, beaten_in, GiveCase, given_in}
use Rattle.client_core.proofs.AskCases.{ask_case, beat_case}
use Rattle.client_core.proofs.GiveCases.{give_case}
use Rattle.world_steps.specs.declared.steps.Step.{Step}
use Rattle.world_steps.specs.declared.steps.Step.TheVariants as steps
use Rattle.world_steps.specs.declared.steps.Ticks.{Ticks as ClockSteps}
use Rattle.world_steps.specs.declared.steps.Commit.{Commit}
use Rattle.world_steps.specs.declared.steps.Commit.TheVariants.{Kept, Lost}
use Rattle.world_steps.specs.declared.mail.Message.TheVariants.{ToClient}
use Rattle.world_steps.specs.declared.members.WorldClient.{WorldClient}
use Rattle.world_steps.specs.Members.{new_member, each_member, at_up}
use Rattle.world_steps.specs.Messages.{request_at, out_at}
use Rattle.world_steps.specs.World.{Agrees, WorldState, Outcome, world_step, world_up, came_up, member_of, asked, beaten, took, world_take, world_give, gave, given_to, swept, world_sweep, without_quiet, without_master, world_down, is_of_commit, cut_sweep, world_cut_sweep, cut_up, world_cut_up, moves_nobody, are_joined, are_fair, goes_past_end, ticked, world_beats, answered}
use Rattle.over_core.specs.declared.actions.Action.{Action}

-- ---- the rows

pub record IsUp (old : WorldState) (step : Step) (new : WorldState) (printed : List Line) : Type 0 where
  pub now : ℕ
  pub is_step : step ≡ steps.Up now
  pub none : old.master ≡ None
  pub early : is_past_end now ≡ false
  pub are_sound : sound old.cell old.rows ≡ true
  pub more : is_last old.rows.epoch ≡ false
  pub is : new ≡ record old {
    rows = changed_rows old.rows (up_edits old.rows);
    master = Some (master_of (changed_rows old.rows (up_edits old.rows)) old.terms now);
    clock = now;
    clients = each_member (λ number. at_up now) old.clients;
  }
  pub tells : printed ≡ lines.Up (old.rows.epoch + 1) ∷ []

pub record IsJoin (old : WorldState) (step : Step) (new : WorldState) (printed : List Line) : Type 0 where
  pub number : ℕ
  pub principal : List ℕ
  pub is_step : step ≡ steps.Join number principal
  pub free : member_of old number ≡ None
  pub is : new ≡ record old { clients = insert_entry nat_cmp old.clients number (new_member number principal old.clock) }
  pub tells : printed ≡ []

-- a client is asked
pub record IsAsk (old : WorldState) (step : Step) (new : WorldState) (printed : List Line) : Type 0 where
  pub number : ℕ
  pub ask : Ask
  pub is_step : step ≡ steps.Ask number ask
  pub member : WorldClient
  pub found : member_of old number ≡ Some member
  pub case : AskCase member.client member.clock ask
  pub is : asked old number member (asked_in member.client member.clock ask case) ≡ Ok (new, printed)

-- a client beats
pub record IsBeat (old : WorldState) (step : Step) (new : WorldState) (printed : List Line) : Type 0 where
  pub number : ℕ
  pub is_step : step ≡ steps.Beat number
  pub member : WorldClient
  pub found : member_of old number ≡ Some member
  pub case : BeatCase member.client member.clock
  pub is : beaten old number member (beaten_in member.client member.clock case) ≡ Ok (new, printed)

-- a client is given a message
pub record IsGive (old : WorldState) (step : Step) (new : WorldState) (printed : List Line) : Type 0 where
  pub at : ℕ
  pub is_step : step ≡ steps.Give at
  pub out : Out
  pub was_sent : out_at old.messages at ≡ Some out
  pub member : WorldClient
  pub found : member_of old (out_client out) ≡ Some member
  pub case : GiveCase member.client member.clock out
  pub is : gave old (out_client out) member (given_in member.client member.clock out case) ≡ Ok (new, printed)

pub record IsTick (old : WorldState) (step : Step) (new : WorldState) (printed : List Line) : Type 0 where
  pub ticks : ClockSteps
  pub is_step : step ≡ steps.Tick ticks
  pub moves : moves_nobody old.master ticks ≡ false
  pub joined : are_joined old ticks.own ≡ true
  pub fair : are_fair old.master old ticks ≡ true
  pub early : goes_past_end old ticks ≡ false
  pub is : new ≡ ticked old ticks
  pub tells : printed ≡ []

pub record IsTake (old : WorldState) (step : Step) (new : WorldState) (printed : List Line) : Type 0 where
  pub at : ℕ
  pub is_step : step ≡ steps.Take at
  pub master : MasterState
  pub is_up : old.master ≡ Some master
  pub request : Request
  pub was_sent : request_at old.messages at ≡ Some request
  -- no count is at its end
  pub unspent : is_spent master ≡ false
  pub case : TakeCase (noted master old.clock) request
  pub is : new ≡ record old { master = Some (taken_by (noted master old.clock) request case).0; messages = old.messages ++ map ToClient (taken_by (noted master old.clock) request case).1.outs }
  pub tells : printed ≡ (taken_by (noted master old.clock) request case).1.lines

-- the master after the sweep: the clients of handles are told of it last
abbrev pub swept_master : (s : MasterState) → SweepCase s → Action → MasterState
swept_master s case action = with_tellings (swept_by s case).0 (action_tellings s action)

-- a sweep, or a Beat that is answered and nothing else
pub record IsSweep (old : WorldState) (step : Step) (new : WorldState) (printed : List Line) : Type 0 where
  pub is_step : (step ≡ steps.Sweep) ⊎ (step ≡ steps.Beats)
  pub master : MasterState
  pub is_up : old.master ≡ Some master
  pub case : SweepCase (noted master old.clock)
  pub action : Action
  -- that of a Beat alone prints nothing
  pub silent : step ≡ steps.Beats → (swept_by (noted master old.clock) case).1.lines ≡ []
  -- the map after it is that of what was planned
  pub acts : (swept_by (noted master old.clock) case).0.nodes ≡ (acted (noted master old.clock) action).0.nodes
  pub is : new ≡ record old {
    rows = changed_rows old.rows (swept_edits (noted master old.clock) case);
    master = Some (swept_master (noted master old.clock) case action);
    messages = old.messages ++ map ToClient (swept_by (noted master old.clock) case).1.outs;
  }
  pub tells : printed ≡ (swept_by (noted master old.clock) case).1.lines

pub record IsDown (old : WorldState) (step : Step) (new : WorldState) (printed : List Line) : Type 0 where
  pub is_step : (step ≡ steps.Down) ⊎ (step ≡ steps.CutSweep Lost)
  pub master : MasterState
  pub is_up : old.master ≡ Some master
  pub is : new ≡ without_master old
  pub tells : printed ≡ lines.Down ∷ []

-- mid, told: the world after the whole sweep, and its lines
pub record IsCutSweep (old : WorldState) (step : Step) (new : WorldState) (printed : List Line) : Type 0 where
  pub is_step : step ≡ steps.CutSweep Kept
  pub mid : WorldState
  pub told : List Line
  pub sweeps : IsSweep old steps.Sweep mid told
  pub is : new ≡ record (without_master old) { rows = mid.rows }
  pub tells : printed ≡ filter is_of_commit told ++ lines.Down ∷ []

-- mid, told: the world where the master comes up, and its lines
pub record IsCutUp (old : WorldState) (step : Step) (new : WorldState) (printed : List Line) : Type 0 where
  pub now : ℕ
  pub is_step : step ≡ steps.CutUp now Kept
  pub mid : WorldState
  pub told : List Line
  pub comes : IsUp old (steps.Up now) mid told
  pub is : new ≡ record old { rows = mid.rows }
  pub tells : printed ≡ told ++ lines.Down ∷ []

-- a master that would come up commits nothing
pub record IsLostUp (old : WorldState) (step : Step) (new : WorldState) (printed : List Line) : Type 0 where
  pub now : ℕ
  pub is_step : step ≡ steps.CutUp now Lost
  pub none : old.master ≡ None
  pub is : new ≡ old
  pub tells : printed ≡ lines.Down ∷ []

pub data WorldCase (old : WorldState) (step : Step) (new : WorldState) (printed : List Line) : Type 0 where
  ComesUp : IsUp old step new printed → WorldCase old step new printed
  Joins : IsJoin old step new printed → WorldCase old step new printed
  Asks : IsAsk old step new printed → WorldCase old step new printed
  Beats : IsBeat old step new printed → WorldCase old step new printed
  Gives : IsGive old step new printed → WorldCase old step new printed
  Ticks : IsTick old step new printed → WorldCase old step new printed
  Takes : IsTake old step new printed → WorldCase old step new printed
  Sweeps : IsSweep old step new printed → WorldCase old step new printed
  GoesDown : IsDown old step new printed → WorldCase old step new printed
  CutsSweep : IsCutSweep old step new printed → WorldCase old step new printed
  CutsUp : IsCutUp old step new printed → WorldCase old step new printed
  LosesUp : IsLostUp old step new printed → WorldCase old step new printed

pub ok_pair : {A B E : Type 0} (p : A × B) (a : A) (b : B) → (let q : Result (A × B) E = Ok p in q) ≡ Ok (a, b) → (p.0 ≡ a) × (p.1 ≡ b)
ok_pair {A} {B} p a b h = let e : ◌≡◌ {A = A × B} p (a, b) = cc in (ap (λ (q : A × B). q.0) e, ap (λ (q : A × B). q.1) e)

not_false : (b : Bool) → not b ≡ false → b ≡ true
not_false true h = refl
not_false false h = cc

kept_at : (w : WorldState) (m : Option MasterState) (s : MasterState) → m ≡ Some s → Agrees w m → IsKept w.cell w.rows s
kept_at w m s up agrees = rw up at agrees

-- the sessions of a master are in the order of those of its rows
pub in_order : (w : WorldState) (m : Option MasterState) (s : MasterState) → m ≡ Some s → Agrees w m → IsStrictlySortedBy nat_cmp (keys_of s.sessions.sessions)
in_order w m s up agrees =
    let kept = kept_at w m s up agrees in
    subst (λ ks. IsStrictlySortedBy nat_cmp ks) (ap keys_of (sym kept.sessions) ∙ keys_of-map_values row_of s.sessions.sessions) kept.sessions_in_order

-- what a sweep does is what was planned, and then clients are told
swept_is : (s : MasterState) (now : ℕ) (p : MasterState × Swept) → sweep_step s now ≡ Ok p → p ≡ telling (first_tellings (noted s now)) (acted (noted s now) (first_action (noted s now)))
swept_is s now p h = sym (does_first s now p h)

-- ---- rows of the table that deliver and sweep, for whoever knows no more than that a step was made

pub step_takes : (w : WorldState) (number : ℕ) → world_step w (steps.Take number) ≡ world_take w number w.master
unfolding world_step
step_takes w number = refl

pub step_gives : (w : WorldState) (number : ℕ) → world_step w (steps.Give number) ≡ world_give w number
unfolding world_step
step_gives w number = refl

pub step_sweeps : (w : WorldState) → world_step w steps.Sweep ≡ without_quiet (world_sweep w w.master)
unfolding world_step
step_sweeps w = refl

pub step_beats : (w : WorldState) → world_step w steps.Beats ≡ world_beats w w.master
unfolding world_step
step_beats w = refl

module _ (w : WorldState) (step : Step) (new : WorldState) (printed : List Line) where
  -- ---- a master comes up

  came_case : (now : ℕ) (late damaged last : Bool) → step ≡ steps.Up now → w.master ≡ None → is_past_end now ≡ late → not (sound w.cell w.rows) ≡ damaged → is_last w.rows.epoch ≡ last → came_up w now (cond late (Err faults.Exhausted) (master_by w.terms now (cond damaged (Err faults.StoreDamaged) (cond last (Err faults.Exhausted) (Ok (changed_rows w.rows (up_edits w.rows))))))) ≡ Ok (new, printed) → IsUp w step new printed
  came_case now true damaged last at none is_late is_damaged is_end h = cc
  came_case now false true last at none is_late is_damaged is_end h = cc
  came_case now false false true at none is_late is_damaged is_end h = cc
  came_case now false false false at none is_late is_damaged is_end h =
      let master : MasterState = master_of (changed_rows w.rows (up_edits w.rows)) w.terms now in
      let p = ok_pair (record w { rows = changed_rows w.rows (up_edits w.rows); master = Some master; clock = now; clients = each_member (λ number. at_up now) w.clients }, lines.Up master.epoch ∷ []) new printed h in
      record { now = now; is_step = at; none = none; early = is_late; are_sound = not_false (sound w.cell w.rows) is_damaged; more = is_end; is = sym p.0; tells = sym p.1 }

  up_case : (now : ℕ) (m : Option MasterState) → step ≡ steps.Up now → w.master ≡ m → world_up w now m ≡ Ok (new, printed) → WorldCase w step new printed
  up_case now (Some master) at e h = cc
  up_case now None at e h = ComesUp (came_case now (is_past_end now) (not (sound w.cell w.rows)) (is_last w.rows.epoch) at e refl refl refl h)

  -- ---- a client joins

  joined_case : (number : ℕ) (principal : List ℕ) (o : Option WorldClient) → step ≡ steps.Join number principal → member_of w number ≡ o → (let r : Outcome = cond (is_some o) (Err faults.Exists) (Ok (record w { clients = insert_entry nat_cmp w.clients number (new_member number principal w.clock) }, [])) in r) ≡ Ok (new, printed) → WorldCase w step new printed
  joined_case number principal (Some member) at is h = cc
  joined_case number principal None at is h =
      let p = ok_pair (record w { clients = insert_entry nat_cmp w.clients number (new_member number principal w.clock) }, []) new printed h in
      Joins (record { number = number; principal = principal; is_step = at; free = is; is = sym p.0; tells = sym p.1 })

  -- ---- a client is asked, beats or is given a message

  ask_row : (number : ℕ) (ask : Ask) (o : Option WorldClient) → step ≡ steps.Ask number ask → member_of w number ≡ o → option_map_or (λ member. asked w number member (ask_step member.client member.clock ask)) o (Err faults.NoSession) ≡ Ok (new, printed) → WorldCase w step new printed
  ask_row number ask None at found h = cc
  ask_row number ask (Some member) at found h =
      let c = ask_case member.client member.clock ask in
      Asks (record { number = number; ask = ask; is_step = at; member = member; found = found; case = c.0; is = ap (asked w number member) (sym c.1) ∙ h })

  beat_row : (number : ℕ) (o : Option WorldClient) → step ≡ steps.Beat number → member_of w number ≡ o → option_map_or (λ member. beaten w number member (beat_step member.client member.clock)) o (Err faults.NoSession) ≡ Ok (new, printed) → WorldCase w step new printed
  beat_row number None at found h = cc
  beat_row number (Some member) at found h =
      let c = beat_case member.client member.clock in
      Beats (record { number = number; is_step = at; member = member; found = found; case = c.0; is = ap (beaten w number member) (sym c.1) ∙ h })

  given_case : (at : ℕ) (out : Out) (o : Option WorldClient) → step ≡ steps.Give at → out_at w.messages at ≡ Some out → member_of w (out_client out) ≡ o → option_map_or (λ member. gave w (out_client out) member (give_step member.client member.clock out)) o (Err faults.NoSession) ≡ Ok (new, printed) → WorldCase w step new printed
  given_case at out None is sent found h = cc
  given_case at out (Some member) is sent found h =
      let c = give_case member.client member.clock out in
      Gives (record { at = at; is_step = is; out = out; was_sent = sent; member = member; found = found; case = c.0; is = ap (gave w (out_client out) member) (sym c.1) ∙ h })

  give_row : (at : ℕ) (o : Option Out) → step ≡ steps.Give at → out_at w.messages at ≡ o → option_map_or (λ out. given_to w out) o (Err faults.NoSuchMessage) ≡ Ok (new, printed) → WorldCase w step new printed
  give_row at None is sent h = cc
  give_row at (Some out) is sent h = given_case at out (member_of w (out_client out)) is sent refl h

  -- ---- clocks move

  tick_case : (ticks : ClockSteps) (nobody joined fair late : Bool) → step ≡ steps.Tick ticks → moves_nobody w.master ticks ≡ nobody → are_joined w ticks.own ≡ joined → are_fair w.master w ticks ≡ fair → goes_past_end w ticks ≡ late → (let r : Outcome = cond nobody (Err faults.MasterDown) (cond (not joined) (Err faults.NoSession) (cond (not fair) (Err faults.UnfairClock) (cond late (Err faults.Exhausted) (Ok (ticked w ticks, []))))) in r) ≡ Ok (new, printed) → WorldCase w step new printed
  tick_case ticks true joined fair late at a b c d h = cc
  tick_case ticks false false fair late at a b c d h = cc
  tick_case ticks false true false late at a b c d h = cc
  tick_case ticks false true true true at a b c d h = cc
  tick_case ticks false true true false at a b c d h =
      let p = ok_pair (ticked w ticks, []) new printed h in
      Ticks (record { ticks = ticks; is_step = at; moves = a; joined = b; fair = c; early = d; is = sym p.0; tells = sym p.1 })

  -- ---- the master takes a message

  took_case : (at : ℕ) (master : MasterState) (request : Request) (r : Result (MasterState × Taken) Fault) → step ≡ steps.Take at → w.master ≡ Some master → request_at w.messages at ≡ Some request → take_step master w.clock request ≡ r → took w r ≡ Ok (new, printed) → WorldCase w step new printed
  took_case at master request (Err fault) is up sent step_is h = cc
  took_case at master request (Ok p) is up sent step_is h =
      let t = taken_case master p.0 w.clock request p.1 step_is in
      let made : p ≡ taken_by (noted master w.clock) request t.0 = t.1 in
      let q = ok_pair (record w { master = Some p.0; messages = w.messages ++ map ToClient p.1.outs }, p.1.lines) new printed h in
      Takes (record {
        at = at;
        is_step = is;
        master = master;
        is_up = up;
        request = request;
        was_sent = sent;
        unspent = taken_unspent master p.0 w.clock request p.1 step_is;
        case = t.0;
        is = sym q.0 ∙ ap (λ (x : MasterState × Taken). record w { master = Some x.0; messages = w.messages ++ map ToClient x.1.outs }) made;
        tells = sym q.1 ∙ ap (λ (x : MasterState × Taken). x.1.lines) made;
      })

  take_found : (at : ℕ) (master : MasterState) (o : Option Request) → step ≡ steps.Take at → w.master ≡ Some master → request_at w.messages at ≡ o → option_map_or (λ request. took w (take_step master w.clock request)) o (Err faults.NoSuchMessage) ≡ Ok (new, printed) → WorldCase w step new printed
  take_found at master None is up sent h = cc
  take_found at master (Some request) is up sent h = took_case at master request (take_step master w.clock request) is up sent refl h

  take_row : (at : ℕ) (m : Option MasterState) → step ≡ steps.Take at → w.master ≡ m → world_take w at m ≡ Ok (new, printed) → WorldCase w step new printed
  take_row at None is up h = cc
  take_row at (Some master) is up h = take_found at master (request_at w.messages at) is up refl h

  -- ---- the master sweeps

  pub swept_row : (master : MasterState) (r : Result (MasterState × Swept) Fault) → Agrees w w.master → step ≡ steps.Sweep → w.master ≡ Some master → sweep_step master w.clock ≡ r → without_quiet (swept w master r) ≡ Ok (new, printed) → IsSweep w step new printed
  swept_row master (Err fault) agrees is up step_is h = cc
  swept_row master (Ok p) agrees is up step_is h =
      let t = swept_case master p.0 w.clock p.1 (in_order w w.master master up agrees) (kept_at w w.master master up agrees).orderly step_is in
      let made : p ≡ telling (first_tellings (noted master w.clock)) (swept_by (noted master w.clock) t.0) = t.1 in
      let q = ok_pair (record w { rows = changed_rows w.rows (sweep_edits master w.clock); master = Some p.0; messages = w.messages ++ map ToClient p.1.outs }, p.1.lines) new printed h in
      record {
        is_step = inl is;
        master = master;
        is_up = up;
        case = t.0;
        action = first_action (noted master w.clock);
        silent = λ beats. let two : steps.Sweep ≡ steps.Beats = sym is ∙ beats in cc;
        acts = ap (λ (x : MasterState × Swept). x.0.nodes) (sym made ∙ swept_is master w.clock p step_is);
        is = sym q.0 ∙ ap (λ (x : MasterState × Swept). record w { rows = changed_rows w.rows (sweep_edits master w.clock); master = Some x.0; messages = w.messages ++ map ToClient x.1.outs }) made
            ∙ ap (λ (e : List Edit). record w { rows = changed_rows w.rows e; master = Some (swept_master (noted master w.clock) t.0 (first_action (noted master w.clock))); messages = w.messages ++ map ToClient (swept_by (noted master w.clock) t.0).1.outs }) t.2;
        tells = sym q.1 ∙ ap (λ (x : MasterState × Swept). x.1.lines) made;
      }

  sweep_row : (m : Option MasterState) → Agrees w w.master → step ≡ steps.Sweep → w.master ≡ m → without_quiet (world_sweep w m) ≡ Ok (new, printed) → WorldCase w step new printed
  sweep_row None agrees is up h = cc
  sweep_row (Some master) agrees is up h = Sweeps (swept_row master (sweep_step master w.clock) agrees is up refl h)

  -- ---- it answers a Beat

  answered_row : (master : MasterState) (r : Result (MasterState × Swept) Fault) → Agrees w w.master → step ≡ steps.Beats → w.master ≡ Some master → beats_step master w.clock ≡ r → answered w r ≡ Ok (new, printed) → WorldCase w step new printed
  answered_row master (Err fault) agrees is up step_is h = cc
  answered_row master (Ok p) agrees is up step_is h =
      let there = noted master w.clock in
      let t = answered_case master p.0 w.clock p.1 (in_order w w.master master up agrees) (kept_at w w.master master up agrees).orderly step_is in
      let made : p ≡ telling (action_tellings there (beats_action there)) (swept_by there t.0) = t.1 in
      let q = ok_pair (record w { master = Some p.0; messages = w.messages ++ map ToClient p.1.outs }, p.1.lines) new printed h in
      Sweeps (record {
        is_step = inr is;
        master = master;
        is_up = up;
        case = t.0;
        action = beats_action there;
        silent = λ beats. t.4;
        acts = t.3;
        is = sym q.0 ∙ ap (λ (x : MasterState × Swept). record w { master = Some x.0; messages = w.messages ++ map ToClient x.1.outs }) made
            ∙ ap (λ (e : List Edit). record w { rows = changed_rows w.rows e; master = Some (swept_master there t.0 (beats_action there)); messages = w.messages ++ map ToClient (swept_by there t.0).1.outs }) t.2;
        tells = sym q.1 ∙ ap (λ (x : MasterState × Swept). x.1.lines) made;
      })

  beats_row : (m : Option MasterState) → Agrees w w.master → step ≡ steps.Beats → w.master ≡ m → world_beats w m ≡ Ok (new, printed) → WorldCase w step new printed
  beats_row None agrees is up h = cc
  beats_row (Some master) agrees is up h = answered_row master (beats_step master w.clock) agrees is up refl h

  -- ---- the master goes down

  down_row : (m : Option MasterState) → (step ≡ steps.Down) ⊎ (step ≡ steps.CutSweep Lost) → w.master ≡ m → world_down w m ≡ Ok (new, printed) → WorldCase w step new printed
  down_row None is up h = cc
  down_row (Some master) is up h =
      let p = ok_pair (without_master w, lines.Down ∷ []) new printed h in
      GoesDown (record { is_step = is; master = master; is_up = up; is = sym p.0; tells = sym p.1 })

-- ---- a crash cuts a step

module _ (w : WorldState) (step : Step) (new : WorldState) (printed : List Line) where
  cut_swept_row : (master : MasterState) (r : Result (MasterState × Swept) Fault) → Agrees w w.master → step ≡ steps.CutSweep Kept → w.master ≡ Some master → sweep_step master w.clock ≡ r → cut_sweep w (swept w master r) ≡ Ok (new, printed) → WorldCase w step new printed
  cut_swept_row master (Err fault) agrees is up step_is h = cc
  cut_swept_row master (Ok p) agrees is up step_is h =
      let mid : WorldState = record w { rows = changed_rows w.rows (sweep_edits master w.clock); master = Some p.0; messages = w.messages ++ map ToClient p.1.outs } in
      let q = ok_pair (record (without_master w) { rows = mid.rows }, filter is_of_commit p.1.lines ++ lines.Down ∷ []) new printed h in
      CutsSweep (record { is_step = is; mid = mid; told = p.1.lines; sweeps = swept_row w steps.Sweep mid p.1.lines master (Ok p) agrees refl up step_is refl; is = sym q.0; tells = sym q.1 })

  cut_sweep_row : (m : Option MasterState) → Agrees w w.master → step ≡ steps.CutSweep Kept → w.master ≡ m → cut_sweep w (world_sweep w m) ≡ Ok (new, printed) → WorldCase w step new printed
  cut_sweep_row None agrees is up h = cc
  cut_sweep_row (Some master) agrees is up h = cut_swept_row master (sweep_step master w.clock) agrees is up refl h

  cut_commit_row : (commit : Commit) → Agrees w w.master → step ≡ steps.CutSweep commit → world_cut_sweep w commit ≡ Ok (new, printed) → WorldCase w step new printed
  cut_commit_row Kept agrees is h = cut_sweep_row w.master agrees is refl h
  cut_commit_row Lost agrees is h = down_row w step new printed w.master (inr is) refl h

  pub cut_came_row : (now : ℕ) (commit : Commit) (r : Result MasterState Fault) → step ≡ steps.CutUp now commit → w.master ≡ None → up_step w.cell w.rows w.terms now ≡ r → cut_up w commit r ≡ Ok (new, printed) → WorldCase w step new printed
  cut_came_row now commit (Err fault) is none step_is h = cc
  cut_came_row now Kept (Ok master) is none step_is h =
      let mid : WorldState = record w { rows = changed_rows w.rows (up_edits w.rows); master = Some master; clock = now; clients = each_member (λ number. at_up now) w.clients } in
      let told : List Line = lines.Up master.epoch ∷ [] in
      let came = came_case w (steps.Up now) mid told now (is_past_end now) (not (sound w.cell w.rows)) (is_last w.rows.epoch) refl none refl refl refl (ap (came_up w now) step_is) in
      let q = ok_pair (record w { rows = mid.rows }, told ++ lines.Down ∷ []) new printed h in
      CutsUp (record { now = now; is_step = is; mid = mid; told = told; comes = came; is = sym q.0; tells = sym q.1 })
  cut_came_row now Lost (Ok master) is none step_is h =
      let q = ok_pair (w, lines.Down ∷ []) new printed h in
      LosesUp (record { now = now; is_step = is; none = none; is = sym q.0; tells = sym q.1 })

  cut_up_row : (now : ℕ) (commit : Commit) (m : Option MasterState) → step ≡ steps.CutUp now commit → w.master ≡ m → world_cut_up w now commit m ≡ Ok (new, printed) → WorldCase w step new printed
  cut_up_row now commit (Some master) is up h = cc
  cut_up_row now commit None is up h = cut_came_row now commit (up_step w.cell w.rows w.terms now) is up refl h

-- ---- every step

pub world_case : (w : WorldState) (step : Step) (new : WorldState) (printed : List Line) → Agrees w w.master → world_step w step ≡ Ok (new, printed) → WorldCase w step new printed
unfolding world_step
world_case w (steps.Up now) new printed agrees h = up_case w (steps.Up now) new printed now w.master refl refl h
world_case w (steps.Join number principal) new printed agrees h = joined_case w (steps.Join number principal) new printed number principal (member_of w number) refl refl h
world_case w (steps.Ask number ask) new printed agrees h = ask_row w (steps.Ask number ask) new printed number ask (member_of w number) refl refl h
world_case w (steps.Beat number) new printed agrees h = beat_row w (steps.Beat number) new printed number (member_of w number) refl refl h
world_case w (steps.Tick ticks) new printed agrees h =
    tick_case w (steps.Tick ticks) new printed ticks (moves_nobody w.master ticks) (are_joined w ticks.own) (are_fair w.master w ticks) (goes_past_end w ticks) refl refl refl refl refl h
world_case w (steps.Take at) new printed agrees h = take_row w (steps.Take at) new printed at w.master refl refl h
world_case w (steps.Give at) new printed agrees h = give_row w (steps.Give at) new printed at (out_at w.messages at) refl refl h
world_case w steps.Sweep new printed agrees h = sweep_row w steps.Sweep new printed w.master agrees refl refl h
world_case w steps.Beats new printed agrees h = beats_row w steps.Beats new printed w.master agrees refl refl h
world_case w steps.Down new printed agrees h = down_row w steps.Down new printed w.master (inl refl) refl h
world_case w (steps.CutSweep commit) new printed agrees h = cut_commit_row w (steps.CutSweep commit) new printed commit agrees refl h
world_case w (steps.CutUp now commit) new printed agrees h = cut_up_row w (steps.CutUp now commit) new printed now commit w.master refl refl h
