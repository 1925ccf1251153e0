-- Why the world after a crash is consistent, whichever it leaves of the rows that it may.
use Rattle.std.proofs.Common.{◌≡◌, ℕ, ◌+◌, ◌≤◌, Bool, true, false, List, [], ◌∷◌, ◌++◌, map, Result, Ok, Err, Option, Some, None, inl, inr, arith, refl, sym, ap, ◌∙◌, subst}
use Rattle.std.specs.Prelude.{◌⊎◌}
use Rattle.std.specs.Option.{option_map_or}
use Rattle.coherence.specs.Slice.{IsIn}
use Rattle.node_core.specs.declared.refusals.Fault.{Fault}
use Rattle.node_core.specs.declared.lines.Line.{Line}
use Rattle.node_core.specs.declared.lines.Line.TheVariants as lines
use Rattle.rows_cell.specs.declared.tables.Rows.{Rows}
use Rattle.rows_cell.specs.declared.tables.Edit.{Edit}
use Rattle.rows_cell.specs.Rows.{changed_rows}
use Rattle.tags_cell.specs.Messages.{out_client}
use Rattle.client_core.specs.declared.parts.asks.AskOutcome.{AskOutcome}
use Rattle.client_core.specs.declared.parts.asks.Outcome.TheVariants.{Sent, Served, Answered, Refused}
use Rattle.client_core.specs.declared.parts.steps.Beaten.{Beaten}
use Rattle.client_core.specs.declared.parts.steps.Given.{Given}
use Rattle.client_core.specs.State.{ClientState}
use Rattle.client_core.specs.Cases.{asked_in, beaten_in, given_in}
use Rattle.tags_cell.specs.declared.messages.calls.Call.{Call}
use Rattle.tags_cell.specs.Messages.{is_leave}
use Rattle.gate_core.specs.declared.pending.Waiting.{Waiting}
use Rattle.master_parts.specs.declared.pending.Task.{Task}
use Rattle.master_parts.specs.declared.pending.Task.TheVariants as tasks
use Rattle.master_parts.specs.declared.pending.Work.TheVariants as works
use Rattle.master_parts.specs.declared.pending.WaitingRequest.{WaitingRequest}
use Rattle.master_state.specs.State.{MasterState}
use Rattle.master_state.specs.Lookups.{noted}
use Rattle.cell_core.specs.Cases.{taken_by}
use Rattle.over_core.specs.declared.swept.Swept.{Swept}
use Rattle.over_core.specs.Kept.{IsKept}
use Rattle.over_core.specs.Sweep.{left_after, MayLeaveUp, sweep_step, sweep_edits, sweep_frees, beats_step, IsSettled}
use Rattle.over_core.specs.SweepCase.{IsNextApplied, SweepCase, swept_edits}
use Rattle.over_core.specs.Up.{up_step, up_edits, up_commit}
use Rattle.world_steps.specs.declared.mail.Message.TheVariants.{ToClient}
use Rattle.world_steps.specs.declared.members.WorldClient.{WorldClient}
use Rattle.world_steps.specs.declared.steps.Step.{Step}
use Rattle.world_steps.specs.declared.steps.Step.TheVariants as steps
use Rattle.world_steps.specs.declared.steps.Commit.{Commit}
use Rattle.world_steps.specs.declared.steps.Commit.TheVariants.{Kept}
use Rattle.world_steps.specs.Members.{each_member}
use Rattle.world_steps.specs.World.{Agrees, WorldState, WorldView, IsUndoubted, Outcome, with_client, world_step, world_up, came_up, world_cut_up, cut_up, asked, asked_by, beaten, beaten_by, gave_by, ends_ask, ends_beat, swept, answered, world_sweep, world_beats, without_quiet, moves_nobody, moved, step_edits, step_frees, came_up_edits, store_in}
use Rattle.world_steps.specs.Made.{Does}
use Rattle.world_steps.specs.Crash.{crashed}
use Rattle.world_cell.specs.Consistent.{IsConsistent}
use Rattle.world_cell.specs.Crashes.{CrashedRuns}
use Rattle.world_cell.specs.Left.{behind_cut, IsOver, IsLeaving, StandsBeside, GoesBeside, Follows, MayLeaveBy, MayBeLeft, EachIsLeft}
use Rattle.world_cell.specs.Runs.{Run}
use Rattle.world_cell.proofs.ClocksByRuns.{run_consistent}
use Rattle.world_cell.proofs.ConsistentSteps.{Later, case_holds, case_later, once_served, agrees_at, noted_at, noted_fits, swept_epoch}
use Rattle.world_cell.proofs.CrashRows.{same_beside, same_follows, crash_holds, go_beside}
use Rattle.world_cell.proofs.CrashSweeps.{plain_sweep, refused_bare, made_beats, swept_stays, beaten_stays}
use Rattle.world_cell.proofs.CrashTakes.{Stays, stays_same, taken_stays}
use Rattle.world_cell.proofs.MasterFits.{application_sent}
use Rattle.world_cell.proofs.OwnSteps.{asks_own, beats_own, gives_own}
use Rattle.world_cell.proofs.Reaches.{leads_on}
use Rattle.world_cell.proofs.RepliesSent.{swept_secret}
use Rattle.world_cell.proofs.Slices.{IsKnown, known}
use Rattle.world_cell.proofs.StepsHold.{does_holds}
use Rattle.world_cell.proofs.SureRuns.{run_sure, run_doubts}
use Rattle.world_cell.proofs.TellsOn.{event_stays}
use Rattle.world_cell.proofs.WorldCases.{ok_pair, in_order, step_sweeps, step_beats, swept_row, cut_came_row, IsJoin, IsAsk, IsBeat, IsGive, IsTick, IsSweep, WorldCase, world_case}
use Rattle.world_cell.proofs.WorldCases.WorldCase.{ComesUp, Joins, Asks, Beats, Gives, Ticks, Takes, Sweeps, GoesDown, CutsSweep, CutsUp, LosesUp}

-- ---- what is carried along a run

-- the rows that stand are
same_left : (w : WorldState) → IsConsistent w → (m : Option MasterState) → w.master ≡ m → MayLeaveBy w m w.rows
same_left w h None none = subst (λ (m : Option MasterState). IsConsistent (record w { master = m })) none h
same_left w h (Some s) up = (same_beside w s, same_follows w.rows)

stands_left : (w : WorldState) → IsConsistent w → MayBeLeft w w.rows
stands_left w h = same_left w h w.master refl

pub left_consistent : (w : WorldState) (rows : Rows) (m : Option MasterState) → IsConsistent w → w.master ≡ m → MayLeaveBy w m rows → IsConsistent (behind_cut w rows)
left_consistent w rows None h up left = left
left_consistent w rows (Some s) h up left = crash_holds w s rows h up left.0 left.1

-- ---- beside a master that stays up

leaving_later : (old new : WorldState) → Later old new → (c : ℕ) → IsLeaving old c → IsLeaving new c
leaving_later old new later c leaving =
    let n = later.clients c leaving.0 leaving.1 in
    (n.next, n.there, n.leaves leaving.2)

over_later : (here later : ℕ) (t : MasterState) (c : ℕ) → here ≤ later → IsOver here t c → IsOver later t c
over_later here later t c on over = let late = over.1 in (over.0, omega (arith, on, late))

module _ (old new : WorldState) (s t : MasterState) (rows : Rows) (later : Later old new) (same : new.rows ≡ old.rows) (stays : Stays old.clock s t) (g : GoesBeside old s rows) where
  on : old.clock ≤ new.clock
  on = later.clock (ap (λ (r : Rows). r.epoch) same)

  stands_then : (c : ℕ) → StandsBeside old s rows c → StandsBeside (record new { rows = old.rows }) t rows c
  stands_then c (inl is) = inl is
  stands_then c (inr (inl e)) = inr (inl (
    e.0,
    e.1,
    (elim e.2 [
      | inl over ↦ inl (over_later old.clock new.clock t c on (stays.over c over))
      | inr leaving ↦ inr (leaving_later old new later c leaving)
    ]),
  ))
  stands_then c (inr (inr b)) = inr (inr b)

  beside_then : GoesBeside (record new { rows = old.rows }) t rows
  beside_then = record {
    shows = λ x. elim (g.shows x) [
      | inl is ↦ inl is
      | inr free ↦ inr (stays.pending x free.0, λ c. stays.held c x free.0 (free.1 c))
    ];
    stands = λ c. stands_then c (g.stands c);
  }

  beside_stays : GoesBeside new t rows
  beside_stays = subst (λ (r : Rows). GoesBeside (record new { rows = r }) t rows) (sym same) beside_then

follows_stays : (old new : WorldState) (rows : Rows) → new.rows ≡ old.rows → Follows old.rows rows → Follows new.rows rows
follows_stays old new rows same f = subst (λ (r : Rows). Follows r rows) (sym same) f

of_noted : {t : MasterState} (s : MasterState) (moment here clock : ℕ) → here ≡ clock → Stays here (noted s moment) t → Stays clock s t
of_noted {t} s moment here clock same stays = subst (λ (n : ℕ). Stays n s t) same (record { pending = stays.pending; held = stays.held; over = stays.over })

-- clients, clocks and messages alone change
own_left : (old new : WorldState) (rows : Rows) (m : Option MasterState) → Later old new → new.rows ≡ old.rows → old.master ≡ m → new.master ≡ m → (m ≡ None → IsConsistent (behind_cut old rows) → IsConsistent (behind_cut new rows)) → MayBeLeft old rows → MayBeLeft new rows
own_left old new rows None later same was is goes left =
    subst (λ (m : Option MasterState). MayLeaveBy new m rows) (sym is) (goes refl (subst (λ (m : Option MasterState). MayLeaveBy old m rows) was left))
own_left old new rows (Some s) later same was is goes left =
    let before : MayLeaveBy old (Some s) rows = subst (λ (m : Option MasterState). MayLeaveBy old m rows) was left in
    subst (λ (m : Option MasterState). MayLeaveBy new m rows) (sym is) (beside_stays old new s s rows later same (stays_same old.clock s) before.0, follows_stays old new rows same before.1)

-- ---- where no master is up a step of a client or of clocks is the same over other rows

abbrev over_rows : Rows → Outcome → Outcome
over_rows rows (Ok p) = Ok (behind_cut p.0 rows, p.1)
over_rows rows (Err fault) = Err fault

module _ (w : WorldState) (rows : Rows) (number : ℕ) (member : WorldClient) (client : ClientState) where
  asked_over : (r : Result AskOutcome Fault) → over_rows rows (asked_by (with_client w number member client) r) ≡ asked_by (with_client (behind_cut w rows) number member client) r
  asked_over (Err fault) = refl
  asked_over (Ok asked) =
      elim asked.outcome as (λ o. over_rows rows (Ok (ends_ask (with_client w number member client) asked.lines o)) ≡ Ok (ends_ask (with_client (behind_cut w rows) number member client) asked.lines o)) [
        | Sent request ↦ refl
        | Served answer ↦ refl
        | Answered ↦ refl
        | Refused fault ↦ refl
      ]

  beaten_over : (r : Result Beaten Fault) → over_rows rows (beaten_by (with_client w number member client) r) ≡ beaten_by (with_client (behind_cut w rows) number member client) r
  beaten_over (Err fault) = refl
  beaten_over (Ok beaten) =
      elim beaten.request as (λ o. over_rows rows (Ok (ends_beat (with_client w number member client) beaten.lines o)) ≡ Ok (ends_beat (with_client (behind_cut w rows) number member client) beaten.lines o)) [
        | None ↦ refl
        | Some request ↦ refl
      ]

  gave_over : (r : Result Given Fault) → over_rows rows (gave_by (with_client w number member client) r) ≡ gave_by (with_client (behind_cut w rows) number member client) r
  gave_over (Err fault) = refl
  gave_over (Ok given) = refl

-- by its row of the table the step leads on
case_consistent : (old : WorldState) (step : Step) (new : WorldState) (printed : List Line) → new.master ≡ None → IsConsistent old → WorldCase old step new printed → IsConsistent new
case_consistent old step new printed none h case =
    once_served new (case_holds old step new printed h case) (subst (λ (m : Option MasterState). Agrees new m) (sym none) tt) (leads_on old step new printed h case)

module _ (old : WorldState) (step : Step) (new : WorldState) (printed : List Line) (rows : Rows) (h : IsConsistent (behind_cut old rows)) where
  over_consistent : WorldCase (behind_cut old rows) step (behind_cut new rows) printed → IsConsistent (behind_cut new rows)
  over_consistent case = case_consistent (behind_cut old rows) step (behind_cut new rows) printed refl h case

  join_over : IsJoin old step new printed → IsConsistent (behind_cut new rows)
  join_over j = over_consistent (Joins (record { number = j.number; principal = j.principal; is_step = j.is_step; free = j.free; is = ap (λ (w : WorldState). behind_cut w rows) j.is; tells = j.tells }))

  ask_over : IsAsk old step new printed → IsConsistent (behind_cut new rows)
  ask_over a = over_consistent (Asks (record {
    number = a.number;
    ask = a.ask;
    is_step = a.is_step;
    member = a.member;
    found = a.found;
    case = a.case;
    is = sym (asked_over old rows a.number a.member (asked_in a.member.client a.member.clock a.ask a.case).0 (asked_in a.member.client a.member.clock a.ask a.case).1) ∙ ap (over_rows rows) a.is;
  }))

  beat_over : IsBeat old step new printed → IsConsistent (behind_cut new rows)
  beat_over b = over_consistent (Beats (record {
    number = b.number;
    is_step = b.is_step;
    member = b.member;
    found = b.found;
    case = b.case;
    is = sym (beaten_over old rows b.number b.member (beaten_in b.member.client b.member.clock b.case).0 (beaten_in b.member.client b.member.clock b.case).1) ∙ ap (over_rows rows) b.is;
  }))

  give_over : IsGive old step new printed → IsConsistent (behind_cut new rows)
  give_over g = over_consistent (Gives (record {
    at = g.at;
    is_step = g.is_step;
    out = g.out;
    was_sent = g.was_sent;
    member = g.member;
    found = g.found;
    case = g.case;
    is = sym (gave_over old rows (out_client g.out) g.member (given_in g.member.client g.member.clock g.out g.case).0 (given_in g.member.client g.member.clock g.out g.case).1) ∙ ap (over_rows rows) g.is;
  }))

  tick_over : old.master ≡ None → IsTick old step new printed → IsConsistent (behind_cut new rows)
  tick_over none t =
      let after : Option MasterState → WorldState = λ m. behind_cut (record old { clock = old.clock + t.ticks.master; clients = each_member (moved m old t.ticks) old.clients }) rows in
      over_consistent (Ticks (record {
        ticks = t.ticks;
        is_step = t.is_step;
        moves = subst (λ (m : Option MasterState). moves_nobody m t.ticks ≡ false) none t.moves;
        joined = t.joined;
        fair = refl;
        early = t.early;
        is = ap (λ (w : WorldState). behind_cut w rows) t.is ∙ ap after none;
        tells = t.tells;
      }))

-- ---- the rows of a refused commit

module _ (w : WorldState) (h : IsConsistent w) (s : MasterState) (up : w.master ≡ Some s) where
  asks_leave : (front back : List (Waiting Task)) (asked : WaitingRequest) (call : Call) (sequencer : Option (List ℕ)) → IsNextApplied (noted s w.clock) front (tasks.Asked asked) back → asked.work ≡ works.Calls call sequencer → is_leave call ≡ true → IsLeaving w asked.client
  asks_leave front back asked call sequencer turn work leave =
      let sent = h.sent asked.client asked.number (record { client = asked.client; epoch = s.epoch; number = asked.number; call = call; sequencer = sequencer })
      (application_sent w.messages (noted s w.clock) front asked back turn (noted_fits w h s up) call sequencer work) in
      (sent.member, sent.joined, sent.leaves leave)

  knows_now : IsKnown w (noted s w.clock)
  knows_now = known w s (agrees_at w w.master s up h.master) (noted_at w.clock w.master s up h.noted)

  as_noted : (rows : Rows) → GoesBeside w (noted s w.clock) rows → GoesBeside w s rows
  as_noted rows g = record { shows = g.shows; stands = g.stands }

  of_master : (m : MasterState) → m ≡ s → (case : SweepCase (noted m w.clock)) → GoesBeside w s (changed_rows w.rows (swept_edits (noted m w.clock) case))
  of_master m same = subst (λ (m : MasterState). (case : SweepCase (noted m w.clock)) → GoesBeside w s (changed_rows w.rows (swept_edits (noted m w.clock) case))) (sym same)
      (λ case. as_noted (changed_rows w.rows (swept_edits (noted s w.clock) case)) (go_beside w (noted s w.clock) knows_now asks_leave case))

  same_master : (m : MasterState) → w.master ≡ Some m → m ≡ s
  same_master m is = let e : Some m ≡ Some s = sym is ∙ up in cc

  -- what a sweep would leave
  mid_left : (mid : WorldState) (told : List Line) → IsSweep w steps.Sweep mid told → MayLeaveBy w (Some s) mid.rows
  mid_left mid told t =
      let rows : mid.rows ≡ changed_rows w.rows (swept_edits (noted t.master w.clock) t.case) = ap (λ (v : WorldState). v.rows) t.is in (
        subst (λ (r : Rows). GoesBeside w s r) (sym rows) (of_master t.master (same_master t.master t.is_up) t.case),
        record {
          epoch = ap (λ (r : Rows). r.epoch) rows ∙ swept_epoch w.rows (noted t.master w.clock) t.case;
          secret = ap (λ (r : Rows). r.secret) rows ∙ swept_secret w.rows (noted t.master w.clock) t.case;
          stands = event_stays w steps.Sweep mid told h.master (Sweeps t);
        },
      )

  swept_left : (r : Result (MasterState × Swept) Fault) → sweep_step s w.clock ≡ r → MayLeaveBy w (Some s) (changed_rows w.rows (sweep_edits s w.clock))
  swept_left (Err fault) is = subst (λ (edits : List Edit). MayLeaveBy w (Some s) (changed_rows w.rows edits)) (sym (refused_bare s w.clock fault is)) (same_left w h (Some s) up)
  swept_left (Ok p) is =
      let mid : WorldState = record w { rows = changed_rows w.rows (sweep_edits s w.clock); master = Some p.0; messages = w.messages ++ map ToClient p.1.outs } in
      mid_left mid p.1.lines (swept_row w steps.Sweep mid p.1.lines s (Ok p) h.master refl up is refl)

-- of a sweep, or of one that a crash cuts
sweep_left : (w : WorldState) → IsConsistent w → (m : Option MasterState) → w.master ≡ m → MayLeaveBy w m (changed_rows w.rows (option_map_or (λ master. sweep_edits master w.clock) m []))
sweep_left w h None none = same_left w h None none
sweep_left w h (Some s) up = swept_left w h s up (sweep_step s w.clock) refl

-- of a master that would come up
came_left : (w : WorldState) → IsConsistent w → (now : ℕ) → w.master ≡ None → (r : Result MasterState Fault) → up_step w.cell w.rows w.terms now ≡ r → MayLeaveBy w None (changed_rows w.rows (up_commit r w.rows))
came_left w h now none (Err fault) is = same_left w h None none
came_left w h now none (Ok master) is =
    let rows : Rows = changed_rows w.rows (up_edits w.rows) in
    let new : WorldState = record w { rows = rows } in
    let printed : List Line = lines.Up master.epoch ∷ lines.Down ∷ [] in
    let case : WorldCase w (steps.CutUp now Kept) new printed = cut_came_row w (steps.CutUp now Kept) new printed now Kept (Ok master) refl none is refl in
    subst (λ (m : Option MasterState). IsConsistent (record w { rows = rows; master = m })) none (case_consistent w (steps.CutUp now Kept) new printed none h case)

up_left : (w : WorldState) → IsConsistent w → (now : ℕ) (m : Option MasterState) → w.master ≡ m → MayLeaveBy w m (changed_rows w.rows (came_up_edits w now m))
up_left w h now None none = came_left w h now none (up_step w.cell w.rows w.terms now) refl
up_left w h now (Some s) up = same_left w h (Some s) up

step_left : (w : WorldState) → IsConsistent w → (step : Step) → MayBeLeft w (changed_rows w.rows (step_edits w step))
step_left w h (steps.Up now) = up_left w h now w.master refl
step_left w h steps.Sweep = sweep_left w h w.master refl
step_left w h (steps.CutUp now Kept) = up_left w h now w.master refl
step_left w h (steps.CutSweep Kept) = sweep_left w h w.master refl
step_left w h _ = stands_left w h

-- ---- a step that was made, by which nothing is committed, and nothing leaves the gate

step_ups : (w : WorldState) (now : ℕ) → world_step w (steps.Up now) ≡ world_up w now w.master
unfolding world_step
step_ups w now = refl

step_cut_ups : (w : WorldState) (now : ℕ) (commit : Commit) → world_step w (steps.CutUp now commit) ≡ world_cut_up w now commit w.master
unfolding world_step
step_cut_ups w now commit = refl

module _ (old new : WorldState) (printed : List Line) where
  -- a master that comes up commits its epoch
  came_bare : (now : ℕ) (r : Result MasterState Fault) → came_up old now r ≡ Ok (new, printed) → up_commit r old.rows ≡ [] → ⊥
  came_bare now (Err fault) made bare = cc
  came_bare now (Ok master) made bare = cc

  up_bare : (now : ℕ) (m : Option MasterState) → world_up old now m ≡ Ok (new, printed) → came_up_edits old now m ≡ [] → ⊥
  up_bare now None made bare = came_bare now (up_step old.cell old.rows old.terms now) made bare
  up_bare now (Some s) made bare = cc

  cut_bare : (now : ℕ) (r : Result MasterState Fault) → cut_up old Kept r ≡ Ok (new, printed) → up_commit r old.rows ≡ [] → ⊥
  cut_bare now (Err fault) made bare = cc
  cut_bare now (Ok master) made bare = cc

  cut_up_bare : (now : ℕ) (m : Option MasterState) → world_cut_up old now Kept m ≡ Ok (new, printed) → came_up_edits old now m ≡ [] → ⊥
  cut_up_bare now None made bare = cut_bare now (up_step old.cell old.rows old.terms now) made bare
  cut_up_bare now (Some s) made bare = cc

  -- the master sweeps
  module _ (h : IsConsistent old) (rows : Rows) (later : Later old new) where
    swept_on : (s : MasterState) (r : Result (MasterState × Swept) Fault) → old.master ≡ Some s → sweep_step s old.clock ≡ r → without_quiet (swept old s r) ≡ Ok (new, printed) → sweep_frees s old.clock ≡ false → sweep_edits s old.clock ≡ [] → MayLeaveBy old (Some s) rows → MayBeLeft new rows
    swept_on s (Err fault) up is made none bare left = cc
    swept_on s (Ok p) up is made none bare left =
        let there : MasterState = noted s old.clock in
        let plain = plain_sweep s old.clock p is none bare in
        let mid : WorldState = record old { rows = changed_rows old.rows (sweep_edits s old.clock); master = Some p.0; messages = old.messages ++ map ToClient p.1.outs } in
        let q = ok_pair (mid, p.1.lines) new printed made in
        let same : mid.rows ≡ old.rows = ap (changed_rows old.rows) bare in
        let now : there.clock ≡ old.clock = (knows_now old h s up).clock in
        let stays : Stays old.clock s p.0 = subst (λ (t : MasterState). Stays old.clock s t) (ap (λ (x : MasterState × Swept). x.0) plain.is)
        (of_noted s old.clock there.clock old.clock now (swept_stays there plain.none plain.bare)) in
        let then : Later old mid = subst (Later old) (sym q.0) later in
        subst (λ (w : WorldState). MayBeLeft w rows) q.0 (beside_stays old mid s p.0 rows then same stays left.0, follows_stays old mid rows same left.1)

    beaten_on : (s : MasterState) (r : Result (MasterState × Swept) Fault) → old.master ≡ Some s → beats_step s old.clock ≡ r → answered old r ≡ Ok (new, printed) → MayLeaveBy old (Some s) rows → MayBeLeft new rows
    beaten_on s (Err fault) up is made left = cc
    beaten_on s (Ok p) up is made left =
        let there : MasterState = noted s old.clock in
        let mid : WorldState = record old { master = Some p.0; messages = old.messages ++ map ToClient p.1.outs } in
        let q = ok_pair (mid, p.1.lines) new printed made in
        let now : there.clock ≡ old.clock = (knows_now old h s up).clock in
        let stays : Stays old.clock s p.0 = subst (λ (t : MasterState). Stays old.clock s t) (ap (λ (x : MasterState × Swept). x.0) (made_beats s old.clock p is))
        (of_noted s old.clock there.clock old.clock now (beaten_stays there (in_order old old.master s up h.master))) in
        let then : Later old mid = subst (Later old) (sym q.0) later in
        subst (λ (w : WorldState). MayBeLeft w rows) q.0 (beside_stays old mid s p.0 rows then refl stays left.0, left.1)

    sweep_on : (m : Option MasterState) → old.master ≡ m → without_quiet (world_sweep old m) ≡ Ok (new, printed) → option_map_or (λ master. sweep_frees master old.clock) m false ≡ false → option_map_or (λ master. sweep_edits master old.clock) m [] ≡ [] → MayLeaveBy old m rows → MayBeLeft new rows
    sweep_on None up made none bare left = cc
    sweep_on (Some s) up made none bare left = swept_on s (sweep_step s old.clock) up refl made none bare left

    beats_on : (m : Option MasterState) → old.master ≡ m → world_beats old m ≡ Ok (new, printed) → MayLeaveBy old m rows → MayBeLeft new rows
    beats_on None up made left = cc
    beats_on (Some s) up made left = beaten_on s (beats_step s old.clock) up refl made left

left_at : (w : WorldState) (rows : Rows) (m : Option MasterState) → w.master ≡ m → MayBeLeft w rows → MayLeaveBy w m rows
left_at w rows m is left = subst (λ (o : Option MasterState). MayLeaveBy w o rows) is left

-- the master is gone
down_left : (old : WorldState) → IsConsistent old → (s : MasterState) → old.master ≡ Some s → (rows : Rows) → MayBeLeft old rows → IsConsistent (behind_cut old rows)
down_left old h s up rows left = left_consistent old rows (Some s) h up (left_at old rows (Some s) up left)

module _ (old : WorldState) (step : Step) (new : WorldState) (printed : List Line) (h : IsConsistent old) (made : world_step old step ≡ Ok (new, printed)) (none : step_frees old step ≡ false) (bare : step_edits old step ≡ []) (rows : Rows) (left : MayBeLeft old rows) where
  abbrev made_at : Step → Type 0
  made_at at = (world_step old at ≡ Ok (new, printed)) × (step_frees old at ≡ false) × (step_edits old at ≡ [])

  made_as : (at : Step) → step ≡ at → made_at at
  made_as at is = subst made_at is (made, none, bare)

  later_world : WorldCase old step new printed → Later old new
  later_world case = case_later old step new printed h case

  own_then : (case : WorldCase old step new printed) → new.rows ≡ old.rows → new.master ≡ old.master → (IsConsistent (behind_cut old rows) → IsConsistent (behind_cut new rows)) → MayBeLeft new rows
  own_then case same is goes = own_left old new rows old.master (later_world case) same refl is (λ none before. goes before) left

  case_left : WorldCase old step new printed → MayBeLeft new rows
  case_left (ComesUp u) =
      let m = made_as (steps.Up u.now) u.is_step in
      absurd (up_bare old new printed u.now old.master (sym (step_ups old u.now) ∙ m.0) m.2)
  case_left (CutsUp k) =
      let m = made_as (steps.CutUp k.now Kept) k.is_step in
      absurd (cut_up_bare old new printed k.now old.master (sym (step_cut_ups old k.now Kept) ∙ m.0) m.2)
  case_left (Joins j) = own_then (Joins j) (ap (λ (w : WorldState). w.rows) j.is) (ap (λ (w : WorldState). w.master) j.is) (λ before. join_over old step new printed rows before j)
  case_left (Asks a) =
      let o = asks_own old step new printed a in
      own_then (Asks a) (ap (λ (w : WorldState). w.rows) o.is) (ap (λ (w : WorldState). w.master) o.is) (λ before. ask_over old step new printed rows before a)
  case_left (Beats b) =
      let o = beats_own old step new printed b in
      own_then (Beats b) (ap (λ (w : WorldState). w.rows) o.is) (ap (λ (w : WorldState). w.master) o.is) (λ before. beat_over old step new printed rows before b)
  case_left (Gives g) =
      let o = gives_own old step new printed g in
      own_then (Gives g) (ap (λ (w : WorldState). w.rows) o.is) (ap (λ (w : WorldState). w.master) o.is) (λ before. give_over old step new printed rows before g)
  case_left (Ticks t) = own_left old new rows old.master (later_world (Ticks t)) (ap (λ (w : WorldState). w.rows) t.is) refl (ap (λ (w : WorldState). w.master) t.is)
      (λ none before. tick_over old step new printed rows before none t) left
  case_left (Takes t) =
      let there : MasterState = noted t.master old.clock in
      let mid : WorldState = record old { master = Some (taken_by there t.request t.case).0; messages = old.messages ++ map ToClient (taken_by there t.request t.case).1.outs } in
      let before : MayLeaveBy old (Some t.master) rows = left_at old rows (Some t.master) t.is_up left in
      let then : Later old mid = subst (Later old) t.is (later_world (Takes t)) in
      let kept : IsKept old.cell old.rows t.master = agrees_at old old.master t.master t.is_up h.master in
      let stays : Stays old.clock t.master (taken_by there t.request t.case).0 = of_noted t.master old.clock old.clock old.clock refl (taken_stays old.clock there t.request kept.recorded t.case) in
      subst (λ (w : WorldState). MayBeLeft w rows) (sym t.is) (beside_stays old mid t.master (taken_by there t.request t.case).0 rows then refl stays before.0, before.1)
  case_left (Sweeps t) = elim t.is_step [
    | inl is ↦ (let m = made_as steps.Sweep is in sweep_on old new printed h rows (later_world (Sweeps t)) old.master refl (sym (step_sweeps old) ∙ m.0) m.1 m.2 left)
    | inr is ↦ (let m = made_as steps.Beats is in beats_on old new printed h rows (later_world (Sweeps t)) old.master refl (sym (step_beats old) ∙ m.0) left)
  ]
  case_left (GoesDown d) = subst (λ (w : WorldState). MayBeLeft w rows) (sym d.is) (down_left old h d.master d.is_up rows left)
  case_left (CutsSweep k) = subst (λ (w : WorldState). MayBeLeft w rows) (sym k.is) (down_left old h k.sweeps.master k.sweeps.is_up rows left)
  case_left (LosesUp k) = subst (λ (w : WorldState). MayBeLeft w rows) (sym k.is) left

-- ---- every step

-- what was refused may be left too, or nothing more than before
more_left : (freed : Bool) (edits : List Edit) (rows : Rows) (old new : List Rows) → MayLeaveUp freed edits rows old new → (new ≡ old) ⊎ (new ≡ old ++ changed_rows rows edits ∷ [])
more_left true edits rows old new h = h
more_left false [] rows old new h = inl h
more_left false (edit ∷ edits) rows old new h = h

-- what is left after a step that was made
after_left : (freed : Bool) (edits : List Edit) (old new : List Rows) (rows : Rows) → new ≡ left_after freed edits old rows → (new ≡ rows ∷ []) ⊎ ((freed ≡ false) × (edits ≡ []) × (new ≡ old))
after_left true edits old new rows h = inl h
after_left false [] old new rows h = inr (refl, refl, h)
after_left false (edit ∷ edits) old new rows h = inl h

among_more : {A : Type 0} (x y : A) (xs : List A) → IsIn x (xs ++ y ∷ []) → IsIn x xs ⊎ (x ≡ y)
among_more x y [] (inl e) = inr e
among_more x y [] (inr i) = absurd i
among_more x y (z ∷ xs) (inl e) = inl (inl e)
among_more x y (z ∷ xs) (inr i) = elim (among_more x y xs i) [
  | inl k ↦ inl (inr k)
  | inr e ↦ inr e
]

only_one : {A : Type 0} (x y : A) → IsIn x (y ∷ []) → x ≡ y
only_one x y (inl e) = e
only_one x y (inr i) = absurd i

pub does_left : (old : WorldView) (step : Step) (new : WorldView) (printed : List Line) → IsConsistent old.world → EachIsLeft old → Does old step new printed → EachIsLeft new
does_left old step new printed h each (inl m) rows i =
    let new_holds : IsConsistent new.world = does_holds old step new printed h (inl m) in
    elim (after_left (step_frees old.world step) (step_edits old.world step) old.may_leave new.may_leave new.world.rows m.stored.leave) [
      | inl one ↦ subst (λ (r : Rows). MayBeLeft new.world r) (sym (only_one rows new.world.rows (subst (IsIn rows) one i))) (stands_left new.world new_holds)
      | inr same ↦ case_left old.world step new.world printed h m.is_step same.0 same.1 rows (each rows (subst (IsIn rows) same.2 i)) (world_case old.world step new.world printed h.master m.is_step)
    ]
does_left old step new printed h each (inr r) rows i =
    let before : MayBeLeft old.world rows = elim (more_left (step_frees old.world step) (step_edits old.world step) old.world.rows old.may_leave new.may_leave r.left.leave) [
      | inl same ↦ each rows (subst (IsIn rows) same i)
      | inr more ↦ elim (among_more rows (changed_rows old.world.rows (step_edits old.world step)) old.may_leave (subst (IsIn rows) more i)) [
        | inl was ↦ each rows was
        | inr is ↦ subst (λ (r : Rows). MayBeLeft old.world r) (sym is) (step_left old.world h step)
      ]
    ] in
    subst (λ (w : WorldState). MayBeLeft w rows) (sym r.left.same) before

run_left : (old : WorldView) (steps : List Step) (printed : List Line) (new : WorldView) → IsConsistent old.world → EachIsLeft old → Run old steps printed new → EachIsLeft new
run_left old [] printed new h each run = subst EachIsLeft (sym run.1) each
run_left old (step ∷ steps) printed new h each run =
    run_left run.0 steps run.2 new (does_holds old step run.0 run.1 h run.3) (does_left old step run.0 run.1 h each run.3) run.4

pub settled_left : (w : WorldView) → IsConsistent w.world → IsSettled (store_in w) → EachIsLeft w
settled_left w h settled rows i = subst (λ (r : Rows). MayBeLeft w.world r) (sym (only_one rows w.world.rows (subst (IsIn rows) settled i))) (stands_left w.world h)

-- ---- runs with crashes between

crash_consistent : (old : WorldView) (steps : List Step) (printed : List Line) (mid : WorldView) (rows : Rows) → IsConsistent old.world → EachIsLeft old → Run old steps printed mid → IsIn rows mid.may_leave → IsConsistent (crashed mid rows).world
crash_consistent old steps printed mid rows h each run i =
    left_consistent mid.world rows mid.world.master (run_consistent old steps printed mid h run) refl (run_left old steps printed mid h each run rows i)

pub crashes_doubt : (old : WorldView) (runs : List (List Step)) (printed : List (List Line)) (here : WorldView) → CrashedRuns old runs printed here → old.doubt ≤ here.doubt
crashes_doubt old [] printed here r = subst (λ (w : WorldView). old.doubt ≤ w.doubt) (sym r.1) (omega arith)
crashes_doubt old (steps ∷ runs) printed here r =
    let a : old.doubt ≤ r.0.doubt = run_doubts old steps r.1 r.0 r.4 in
    let b : r.0.doubt ≤ here.doubt = crashes_doubt (crashed r.0 r.3) runs r.2 here r.6 in
    omega (arith, a, b)

-- a consistent world that a crash leaves so, whichever rows it leaves
pub record IsSafeWorld (w : WorldView) : Type 0 where
  pub consistent : IsConsistent w.world
  pub left : EachIsLeft w

pub crashes_keep : (old : WorldView) (runs : List (List Step)) (printed : List (List Line)) (here : WorldView) → IsSafeWorld old → CrashedRuns old runs printed here → IsUndoubted here → IsSafeWorld here
crashes_keep old [] printed here h r sure = subst IsSafeWorld (sym r.1) h
crashes_keep old (steps ∷ runs) printed here h r sure =
    let next : WorldView = crashed r.0 r.3 in
    let rises : r.0.doubt ≤ here.doubt = crashes_doubt next runs r.2 here r.6 in
    let undoubted : r.0.doubt ≡ 0 = omega (arith, rises, sure) in
    let consistent : IsConsistent next.world = crash_consistent old steps r.1 r.0 r.3 h.consistent h.left (run_sure old steps r.1 r.0 r.4 undoubted) r.5 in
    crashes_keep next runs r.2 here (record { consistent = consistent; left = settled_left next consistent refl }) r.6 sure
