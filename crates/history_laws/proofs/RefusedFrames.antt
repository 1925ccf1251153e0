-- A hosted master's frame, as deeds over its store.
use Rattle.std.proofs.Common.{◌≡◌, ◌⊎◌, ℕ, List, [], ◌∷◌, ◌++◌, Bool, true, false, Option, Some, None, refl, sym, ap, ◌∙◌, subst, arith, append_assoc, inl, inr}
use Rattle.std.proofs.lemmas.List.{append-nil, map-append}
use Rattle.std.specs.Prelude.{Result, Ok, Err}
use Rattle.std.specs.Option.{option_map_or}
use Rattle.node_core.specs.declared.lines.Line.{Line}
use Rattle.node_core.specs.declared.lines.Line.TheVariants as lines
use Rattle.node_core.specs.declared.refusals.Fault.{Fault}
use Rattle.rows_cell.specs.declared.tables.Edit.{Edit}
use Rattle.rows_cell.specs.declared.tables.Rows.{Rows}
use Rattle.rows_cell.specs.Stores.{Store, IsCommitted}
use Rattle.tags_cell.specs.declared.messages.requests.Request.{Request}
use Rattle.tags_cell.specs.declared.messages.outs.Out.{Out}
use Rattle.tags_cell.specs.Numbers.{is_client_number}
use Rattle.tags_cell.specs.Messages.{request_client}
use Rattle.master_parts.specs.declared.pending.Taken.{Taken}
use Rattle.master_state.specs.State.{MasterState}
use Rattle.cell_core.specs.Step.{take_step}
use Rattle.over_core.specs.declared.swept.Swept.{Swept}
use Rattle.over_core.specs.Kept.{CellState}
use Rattle.over_core.specs.Sweep.{sweep_step, sweep_edits, sweep_frees, IsSwept, IsHeldUp}
use Rattle.over_core.specs.Up.{up_edits, StaysDown}
use Rattle.codec.specs.declared.faults.WireFault.{WireFault}
use Rattle.world_steps.specs.Made.{AreInOrder}
use Rattle.world_steps.specs.Messages.{request_at}
use Rattle.hosting.specs.declared.frames.Frame.{Frame}
use Rattle.hosting.specs.declared.frames.Frame.TheVariants as frames
use Rattle.hosting.specs.declared.settling.End.{End}
use Rattle.hosting.specs.declared.settling.End.TheVariants as ends
use Rattle.hosting.specs.declared.settling.Round.{Round}
use Rattle.hosting.specs.declared.settling.Settled.{Settled}
use Rattle.hosting.specs.declared.answers.Answered.{Answered}
use Rattle.hosting.specs.declared.answers.Answered.TheVariants as answers
use Rattle.hosting.specs.declared.seats.FrameReply.{FrameReply}
use Rattle.hosting.specs.declared.seats.FrameReply.TheVariants as replies
use Rattle.hosting.specs.Serving.{SweepsOnce, BeatsOnce, StepsTo, StopsAt, EndsIn, EndsBeats, BeatsBehind, Settles, Answers, is_shut}
use Rattle.hosting.specs.Seats.{Hosted, with_master, without_master, cell_of, CameUp, Arrives, Listens, Ticks as TicksFrame, Leaves, Stands as StandsFrame, Does as DoesFrame}
use Rattle.history_laws.specs.Parts.{Parts, Sweeps, AnswersBeat, ComesUp, Goes, Takes}
use Rattle.history_laws.specs.Histories.{Clocks}
use Rattle.history_laws.specs.Hosted.{swept_lines, swept_outs, settled_outs, reply_outs, IsHostedIn, IsPossibleFrame, IsAtMoment, behind_frame}
use Rattle.history_laws.specs.Crashes.{StoredParts, StoredDeed, Done, SweepRefused, UpRefused, DoesStored, StoredEntry, StoredHistory, deed_edits, deed_frees}
use Rattle.history_laws.specs.RefusedFrames.{end_lines, settled_told, frame_told, stored_at, FramesAreStoredDeeds}
use Rattle.history_laws.proofs.Hosted.{HasCell, placed, placed_has, placed_again, same_placed, left_placed, has_cell, sweep_does, beat_does, take_does, up_does, down_so, stop_leaves, settles_later, same_behind, frames_are}
use Rattle.history_laws.proofs.Stored.{with_store, stood}

-- ---- histories over a store, one after the other

stored_append : (old mid new : StoredParts) (first second : List StoredEntry) (printed told : List Line) → StoredHistory old first printed mid → StoredHistory mid second told new → StoredHistory old (first ++ second) (printed ++ told) new
stored_append old mid new [] second printed told one two = rw (sym one.1, one.0) two
stored_append old mid new (entry ∷ first) second printed told one two =
    (one.0, one.1, one.2 ++ told, one.3, stored_append one.0 mid new first second one.2 told one.4 two, ap (λ l. l ++ told) one.5 ∙ append_assoc one.1 one.2 told)

-- what some steps of a master are
abbrev AreOver : StoredParts → Clocks → List Line → StoredParts → Type 0
AreOver o clocks printed new = (deeds : List StoredDeed) × StoredHistory o (stored_at clocks deeds) printed new

no_deeds : (o : StoredParts) (clocks : Clocks) → AreOver o clocks [] o
no_deeds o clocks = ([], (refl, refl))

at_append : (clocks : Clocks) (a b : List StoredDeed) → stored_at clocks (a ++ b) ≡ stored_at clocks a ++ stored_at clocks b
at_append clocks a b = map-append (λ deed. record { clocks = clocks; deed = deed }) a b

over_append : (o mid new : StoredParts) (clocks : Clocks) (printed told : List Line) → AreOver o clocks printed mid → AreOver mid clocks told new → AreOver o clocks (printed ++ told) new
over_append o mid new clocks printed told one two =
    (one.0 ++ two.0, subst (λ (es : List StoredEntry). StoredHistory o es (printed ++ told) new) (sym (at_append clocks one.0 two.0)) (stored_append o mid new (stored_at clocks one.0) (stored_at clocks two.0) printed told one.1 two.1))

over_one : (o new : StoredParts) (clocks : Clocks) (deed : StoredDeed) (printed : List Line) → DoesStored o clocks deed new printed → AreOver o clocks printed new
over_one o new clocks deed printed does = (deed ∷ [], (new, printed, [], does, (refl, refl), sym (append-nil printed)))

-- ---- the parts and the store after some steps

abbrev over_placed : Parts → CellState → List Out → StoredParts
over_placed p cell outs = with_store (placed p cell outs) cell.store

over_again : (p : Parts) (mid new : CellState) (a b : List Out) → over_placed (placed p mid a) new b ≡ over_placed p new (a ++ b)
over_again p mid new a b = ap (λ (q : Parts). with_store q new.store) (placed_again p mid new a b)

nothing_done : (p : Parts) (clocks : Clocks) (old new : CellState) → HasCell p old → new ≡ old → AreOver (with_store p old.store) clocks [] (over_placed p new [])
nothing_done p clocks old new has same =
    let is : over_placed p new [] ≡ with_store p old.store = ap (λ (c : CellState). over_placed p c []) same ∙ ap (λ (q : Parts). with_store q old.store) (same_placed p old has) in
    subst (λ (q : StoredParts). AreOver (with_store p old.store) clocks [] q) (sym is) (no_deeds (with_store p old.store) clocks)

-- ---- sweeps, and Beats that are answered

module _ (p : Parts) (clocks : Clocks) (now : ℕ) (at : clocks.master ≡ now) (old new : CellState) (has : HasCell p old) where
  frees_is : sweep_frees old.master now ≡ deed_frees p clocks.master Sweeps
  frees_is = ap (λ (t : ℕ). sweep_frees old.master t) (sym at) ∙ ap (λ (m : Option MasterState). option_map_or (λ s. sweep_frees s clocks.master) m false) (sym has.master)

  edits_is : sweep_edits old.master now ≡ deed_edits p clocks.master Sweeps
  edits_is = ap (λ (t : ℕ). sweep_edits old.master t) (sym at) ∙ ap (λ (m : Option MasterState). option_map_or (λ s. sweep_edits s clocks.master) m []) (sym has.master)

  sweep_over : (swept : Swept) → SweepsOnce now old swept new → AreOver (with_store p old.store) clocks swept.lines (over_placed p new swept.outs)
  sweep_over swept once =
      over_one (with_store p old.store) (over_placed p new swept.outs) clocks (Done Sweeps) swept.lines (record {
        does = sweep_does p clocks now old new swept at has once;
        stands = subst (λ (b : Bool). IsSwept b (deed_edits p clocks.master Sweeps) old.store new.store) frees_is
            (subst (λ (es : List Edit). IsSwept (sweep_frees old.master now) es old.store new.store) edits_is once.committed);
      })

  beat_over : (swept : Swept) → BeatsOnce now old swept new → AreOver (with_store p old.store) clocks swept.lines (over_placed p new swept.outs)
  beat_over swept once =
      over_one (with_store p old.store) (over_placed p new swept.outs) clocks (Done AnswersBeat) swept.lines (record {
        does = beat_does p clocks now old new swept at has once;
        stands = subst (λ (s : Store). IsSwept false [] old.store s) (sym once.store) (stood old.store);
      })

  refused_why : (fault : Fault) → ((sweep_step old.master now ≡ Err fault) × (new ≡ old)) ⊎ IsHeldUp fault (sweep_frees old.master now) (sweep_edits old.master now) old.store new.store
      → ((sweep_step old.master clocks.master ≡ Err fault) × (new.store ≡ old.store)) ⊎ IsHeldUp fault (sweep_frees old.master clocks.master) (sweep_edits old.master clocks.master) old.store new.store
  refused_why fault (inl same) = inl (subst (λ (t : ℕ). sweep_step old.master t ≡ Err fault) (sym at) same.0, ap (λ (c : CellState). c.store) same.1)
  refused_why fault (inr held) = inr (subst (λ (t : ℕ). IsHeldUp fault (sweep_frees old.master t) (sweep_edits old.master t) old.store new.store) (sym at) held)

  -- a sweep that is refused
  stop_over : (fault : Fault) → StopsAt now old fault new → AreOver (with_store p old.store) clocks (lines.Refused fault ∷ []) (over_placed p new [])
  stop_over fault stops =
      over_one (with_store p old.store) (over_placed p new []) clocks SweepRefused (lines.Refused fault ∷ []) (record {
        master = old.master;
        fault = fault;
        store = new.store;
        up = has.master;
        why = refused_why fault stops.why;
        left = ap (λ (q : Parts). with_store q new.store) (left_placed p old new [] (stop_leaves now old fault new stops) ∙ same_placed p old has);
        prints = refl;
      })

-- steps of one kind, each of which is a deed
abbrev EachIsOver : Clocks → (CellState → Swept → CellState → Type 0) → Type 0
EachIsOver clocks Once = (p : Parts) (old new : CellState) (swept : Swept) → HasCell p old → Once old swept new → AreOver (with_store p old.store) clocks swept.lines (over_placed p new swept.outs)

steps_over : (clocks : Clocks) (Once : CellState → Swept → CellState → Type 0) → EachIsOver clocks Once → (p : Parts) (old new : CellState) (sweeps : List Swept) → HasCell p old → StepsTo Once old sweeps new → AreOver (with_store p old.store) clocks (swept_lines sweeps) (over_placed p new (swept_outs sweeps))
steps_over clocks Once each p old new [] has h = nothing_done p clocks old new has h
steps_over clocks Once each p old new (swept ∷ rest) has h =
    let mid : Parts = placed p h.0 swept.outs in
    let first = each p old h.0 swept has h.1 in
    let later = steps_over clocks Once each mid h.0 new rest (placed_has p h.0 swept.outs) h.2 in
    subst (λ (q : StoredParts). AreOver (with_store p old.store) clocks (swept.lines ++ swept_lines rest) q) (over_again p h.0 new swept.outs (swept_outs rest))
    (over_append (with_store p old.store) (over_placed p h.0 swept.outs) (over_placed mid new (swept_outs rest)) clocks swept.lines (swept_lines rest) first later)

module _ (clocks : Clocks) (now : ℕ) (at : clocks.master ≡ now) where
  sweeps_over : (p : Parts) (old new : CellState) (sweeps : List Swept) → HasCell p old → StepsTo (SweepsOnce now) old sweeps new → AreOver (with_store p old.store) clocks (swept_lines sweeps) (over_placed p new (swept_outs sweeps))
  sweeps_over p old new sweeps has h = steps_over clocks (SweepsOnce now) (λ q a b swept own once. sweep_over q clocks now at a b own swept once) p old new sweeps has h

  beats_over : (p : Parts) (old new : CellState) (sweeps : List Swept) → HasCell p old → StepsTo (BeatsOnce now) old sweeps new → AreOver (with_store p old.store) clocks (swept_lines sweeps) (over_placed p new (swept_outs sweeps))
  beats_over p old new sweeps has h = steps_over clocks (BeatsOnce now) (λ q a b swept own once. beat_over q clocks now at a b own swept once) p old new sweeps has h

  round_over : (p : Parts) (old new : CellState) (sweeps : List Swept) (end : End) → HasCell p old → EndsIn now old sweeps end new → AreOver (with_store p old.store) clocks (swept_lines sweeps ++ end_lines end) (over_placed p new (swept_outs sweeps))
  round_over p old new sweeps ends.Quiet has h =
      subst (λ (told : List Line). AreOver (with_store p old.store) clocks told (over_placed p new (swept_outs sweeps))) (sym (append-nil (swept_lines sweeps))) (sweeps_over p old new sweeps has h.5)
  round_over p old new sweeps (ends.Refused fault) has h =
      let mid : CellState = h.0 in
      let outs : List Out = swept_outs sweeps in
      let first = sweeps_over p old mid sweeps has h.1 in
      let later = stop_over (placed p mid outs) clocks now at mid new (placed_has p mid outs) fault h.3 in
      let same : over_placed (placed p mid outs) new [] ≡ over_placed p new outs = over_again p mid new outs [] ∙ ap (λ (os : List Out). over_placed p new os) (append-nil outs) in
      subst (λ (q : StoredParts). AreOver (with_store p old.store) clocks (swept_lines sweeps ++ lines.Refused fault ∷ []) q) same
      (over_append (with_store p old.store) (over_placed p mid outs) (over_placed (placed p mid outs) new []) clocks (swept_lines sweeps) (lines.Refused fault ∷ []) first later)
  round_over p old new sweeps ends.Unfinished has h =
      subst (λ (told : List Line). AreOver (with_store p old.store) clocks told (over_placed p new (swept_outs sweeps))) (sym (append-nil (swept_lines sweeps))) (sweeps_over p old new sweeps has h.0)

  answered_over : (p : Parts) (old new : CellState) (sweeps : List Swept) (end : End) → HasCell p old → EndsBeats now old sweeps end new → AreOver (with_store p old.store) clocks (swept_lines sweeps) (over_placed p new (swept_outs sweeps))
  answered_over p old new sweeps ends.Quiet has h = beats_over p old new sweeps has h.5
  answered_over p old new sweeps (ends.Refused fault) has h =
      subst (λ (c : CellState). AreOver (with_store p old.store) clocks (swept_lines sweeps) (over_placed p c (swept_outs sweeps))) (sym h.3.same) (beats_over p old h.0 sweeps has h.1)
  answered_over p old new sweeps ends.Unfinished has h = beats_over p old new sweeps has h.0

  behind_over : (p : Parts) (shut : Bool) (old new : CellState) (beats : Round) → HasCell p old → BeatsBehind now shut old beats new → AreOver (with_store p old.store) clocks (swept_lines beats.sweeps) (over_placed p new (swept_outs beats.sweeps))
  behind_over p true old new beats has h = answered_over p old new beats.sweeps beats.end has h
  behind_over p false old new beats has h =
      subst (λ (b : Round). AreOver (with_store p old.store) clocks (swept_lines b.sweeps) (over_placed p new (swept_outs b.sweeps))) (sym h.0) (nothing_done p clocks old new has h.1)

  settles_over : (p : Parts) (old new : CellState) (settled : Settled) → HasCell p old → Settles now old settled new → AreOver (with_store p old.store) clocks (settled_told settled) (over_placed p new (settled_outs settled))
  settles_over p old new settled has h =
      let mid : CellState = h.mid in
      let outs : List Out = swept_outs settled.round.sweeps in
      let told : List Line = swept_lines settled.round.sweeps ++ end_lines settled.round.end in
      let first = round_over p old mid settled.round.sweeps settled.round.end has h.swept in
      let later = behind_over (placed p mid outs) (is_shut settled.round.end) mid new settled.beats (placed_has p mid outs) h.answered in
      subst (λ (q : StoredParts). AreOver (with_store p old.store) clocks (settled_told settled) q) (over_again p mid new outs (swept_outs settled.beats.sweeps))
      (over_append (with_store p old.store) (over_placed p mid outs) (over_placed (placed p mid outs) new (swept_outs settled.beats.sweeps)) clocks told (swept_lines settled.beats.sweeps) first later)

-- ---- each frame

-- what a frame does are deeds over the store
abbrev Is : Parts → Clocks → Store → Result Frame WireFault → Option MasterState → FrameReply → Hosted → Type 0
Is p clocks store sent m reply new = AreOver (with_store p store) clocks (frame_told sent m reply) (with_store (behind_frame p new (reply_outs reply)) new.store)

-- nothing changes
turned_away : (p : Parts) (clocks : Clocks) (sent : Result Frame WireFault) (m : Option MasterState) (old new : Hosted) (reply : FrameReply) → frame_told sent m reply ≡ [] → reply_outs reply ≡ [] → IsHostedIn p old → new ≡ old → Is p clocks old.store sent m reply new
turned_away p clocks sent m old new reply silent none in_it same =
    let is : with_store (behind_frame p old []) old.store ≡ with_store p old.store = ap (λ (q : Parts). with_store q old.store) (same_behind p old in_it.master in_it.rows) in
    let at_old : AreOver (with_store p old.store) clocks [] (with_store (behind_frame p old []) old.store) = subst (λ (q : StoredParts). AreOver (with_store p old.store) clocks [] q) (sym is) (no_deeds (with_store p old.store) clocks) in
    let at_new : AreOver (with_store p old.store) clocks [] (with_store (behind_frame p new []) new.store) = subst (λ (n : Hosted). AreOver (with_store p old.store) clocks [] (with_store (behind_frame p n []) n.store)) (sym same) at_old in
    let tells : AreOver (with_store p old.store) clocks (frame_told sent m reply) (with_store (behind_frame p new []) new.store) = subst (λ (told : List Line). AreOver (with_store p old.store) clocks told (with_store (behind_frame p new []) new.store)) (sym silent) at_new in
    subst (λ (outs : List Out). AreOver (with_store p old.store) clocks (frame_told sent m reply) (with_store (behind_frame p new outs) new.store)) (sym none) tells

module _ (p : Parts) (clocks : Clocks) (now : ℕ) (at : clocks.master ≡ now) (store : Store) where
  take_over : (master next : MasterState) (message : Request) (taken : Taken) (place : ℕ) → HasCell p (cell_of master store) → request_at p.told place ≡ Some message → is_client_number (request_client message) ≡ true → take_step master now message ≡ Ok (next, taken)
      → AreOver (with_store p store) clocks taken.lines (over_placed p (cell_of next store) taken.outs)
  take_over master next message taken place has told numbered step =
      over_one (with_store p store) (over_placed p (cell_of next store) taken.outs) clocks (Done (Takes place)) taken.lines
      (record { does = take_does p clocks now at store master next message taken place has told numbered step; stands = stood store })

  answer_over : (master : MasterState) (message : Request) (place : ℕ) (after : CellState) (answered : Answered) → IsHostedIn p (with_master (cell_of master store)) → request_at p.told place ≡ Some message → is_client_number (request_client message) ≡ true → Answers now message (cell_of master store) answered after
      → Is p clocks store (Ok (frames.Message now message)) (Some master) (replies.Answered answered) (with_master after)
  answer_over master message place after (answers.Refused fault) in_it told numbered h =
      turned_away p clocks (Ok (frames.Message now message)) (Some master) (with_master (cell_of master store)) (with_master after) (replies.Answered (answers.Refused fault)) refl refl in_it (ap with_master h.1)
  answer_over master message place after (answers.Taken taken settled) in_it told numbered h =
      let mid : CellState = h.0 in
      let has = has_cell p master store in_it.master in_it.rows in
      let is_mid : mid ≡ cell_of mid.master store = ap (λ (s : Store). cell_of mid.master s) h.2 in
      let first : AreOver (with_store p store) clocks taken.lines (over_placed p mid taken.outs) =
      subst (λ (c : CellState). AreOver (with_store p store) clocks taken.lines (over_placed p c taken.outs)) (sym is_mid) (take_over master mid.master message taken place has told numbered h.1) in
      let later = settles_over clocks now at (placed p mid taken.outs) mid after settled (placed_has p mid taken.outs) h.3 in
      subst (λ (q : StoredParts). AreOver (with_store p store) clocks (taken.lines ++ settled_told settled) q) (over_again p mid after taken.outs (settled_outs settled))
      (over_append (with_store p store) (over_placed p mid taken.outs) (over_placed (placed p mid taken.outs) after (settled_outs settled)) clocks taken.lines (settled_told settled) first later)

  tick_over : (master : MasterState) (after : CellState) (settled : Settled) → IsHostedIn p (with_master (cell_of master store)) → Settles now (cell_of master store) settled after → Is p clocks store (Ok (frames.Tick now)) (Some master) (replies.Swept settled) (with_master after)
  tick_over master after settled in_it h = settles_over clocks now at p (cell_of master store) after settled (has_cell p master store in_it.master in_it.rows) h

  -- a master comes up
  up_stands : (read : Store) (cell : CellState) → IsHostedIn p (without_master store) → read ≡ store → IsCommitted (up_edits read.rows) read cell.store → IsSwept false (up_edits p.rows) store cell.store
  up_stands read cell in_it same committed =
      let first : IsSwept false (up_edits read.rows) read cell.store = record { cell = committed.cell; rows = committed.rows; leave = committed.leave; counted = committed.counted; doubted = committed.doubted } in
      subst (λ (r : Rows). IsSwept false (up_edits r) store cell.store) (sym in_it.rows) (subst (λ (s : Store). IsSwept false (up_edits s.rows) s cell.store) same first)

  came_over : (epoch : ℕ) (settled : Settled) (new : Hosted) → IsHostedIn p (without_master store) → AreInOrder p.rows → new.store.doubt ≡ 0 → CameUp p.terms now store epoch settled new → Is p clocks store (Ok (frames.Up now)) None (replies.Came epoch settled) new
  came_over epoch settled new in_it ordered sure h =
      let cell : CellState = h.cell in
      let after : CellState = h.after in
      let came = h.came in
      let a = (settles_later now cell after settled h.swept).doubted in
      let b = came.committed.doubted in
      let c : new.store.doubt ≡ after.store.doubt = ap (λ (x : Hosted). x.store.doubt) h.up in
      let none : came.read.doubt ≡ 0 = omega (arith, a, b, c, sure) in
      let same : came.read ≡ store = came.was_read.same none in
      let first : AreOver (with_store p store) clocks (lines.Up cell.master.epoch ∷ []) (over_placed p cell []) =
      over_one (with_store p store) (over_placed p cell []) clocks (Done ComesUp) (lines.Up cell.master.epoch ∷ [])
      (record { does = up_does p clocks now at store came.read cell in_it ordered same came.came came.committed; stands = up_stands came.read cell in_it same came.committed }) in
      let rest = settles_over clocks now at (placed p cell []) cell after settled (placed_has p cell []) h.swept in
      let all : AreOver (with_store p store) clocks (lines.Up cell.master.epoch ∷ settled_told settled) (over_placed p after (settled_outs settled)) =
      subst (λ (q : StoredParts). AreOver (with_store p store) clocks (lines.Up cell.master.epoch ∷ settled_told settled) q) (over_again p cell after [] (settled_outs settled))
      (over_append (with_store p store) (over_placed p cell []) (over_placed (placed p cell []) after (settled_outs settled)) clocks (lines.Up cell.master.epoch ∷ []) (settled_told settled) first rest) in
      let told : AreOver (with_store p store) clocks (lines.Up epoch ∷ settled_told settled) (over_placed p after (settled_outs settled)) =
      subst (λ (n : ℕ). AreOver (with_store p store) clocks (lines.Up n ∷ settled_told settled) (over_placed p after (settled_outs settled))) (sym h.told) all in
      subst (λ (n : Hosted). Is p clocks store (Ok (frames.Up now)) None (replies.Came epoch settled) n) (sym h.up) told

  -- or none does
  down_over : (fault : Fault) (new : Hosted) → IsHostedIn p (without_master store) → new.store.doubt ≡ 0 → StaysDown p.terms now fault store new.store → new.master ≡ None → Is p clocks store (Ok (frames.Up now)) None (replies.Refused fault) new
  down_over fault new in_it sure h none =
      let same = down_so p clocks now at store fault new.store h sure in
      over_one (with_store p store) (with_store (behind_frame p new []) new.store) clocks UpRefused (lines.Refused fault ∷ []) (record {
        fault = fault;
        store = new.store;
        none = in_it.master;
        why = subst (λ (t : ℕ). StaysDown p.terms t fault store new.store) (sym at) h;
        left = ap (λ (q : Parts). with_store q new.store) (same_behind p new (in_it.master ∙ sym none) (in_it.rows ∙ sym same.0));
        prints = refl;
      })

-- ---- a frame by its kind

arrives : (p : Parts) (clocks : Clocks) (now : ℕ) → clocks.master ≡ now → (m : Option MasterState) (store : Store) (new : Hosted) (reply : FrameReply) → IsHostedIn p (record { master = m; store = store }) → AreInOrder p.rows → new.store.doubt ≡ 0 → Arrives p.terms now m store reply new → Is p clocks store (Ok (frames.Up now)) m reply new
arrives p clocks now at None store new (replies.Came epoch settled) in_it ordered sure h = came_over p clocks now at store epoch settled new in_it ordered sure h
arrives p clocks now at None store new (replies.Refused fault) in_it ordered sure h = down_over p clocks now at store fault new in_it sure h.0 h.1
arrives p clocks now at None store new (replies.Bad fault) in_it ordered sure h = absurd h
arrives p clocks now at None store new (replies.Answered answered) in_it ordered sure h = absurd h
arrives p clocks now at None store new (replies.Swept settled) in_it ordered sure h = absurd h
arrives p clocks now at None store new replies.Gone in_it ordered sure h = absurd h
arrives p clocks now at None store new (replies.Stands standing) in_it ordered sure h = absurd h
arrives p clocks now at (Some master) store new reply in_it ordered sure h =
    turned_away p clocks (Ok (frames.Up now)) (Some master) (with_master (cell_of master store)) new reply (ap (frame_told (Ok (frames.Up now)) (Some master)) h.0) (ap reply_outs h.0) in_it h.1

listens : (p : Parts) (clocks : Clocks) (now : ℕ) → clocks.master ≡ now → (message : Request) (place : ℕ) → request_at p.told place ≡ Some message → is_client_number (request_client message) ≡ true → (m : Option MasterState) (store : Store) (new : Hosted) (reply : FrameReply) → IsHostedIn p (record { master = m; store = store }) → Listens now message m store reply new → Is p clocks store (Ok (frames.Message now message)) m reply new
listens p clocks now at message place told numbered None store new reply in_it h =
    turned_away p clocks (Ok (frames.Message now message)) None (without_master store) new reply (ap (frame_told (Ok (frames.Message now message)) None) h.0) (ap reply_outs h.0) in_it h.1
listens p clocks now at message place told numbered (Some master) store new (replies.Answered answered) in_it h =
    subst (λ (n : Hosted). Is p clocks store (Ok (frames.Message now message)) (Some master) (replies.Answered answered) n) (sym h.2) (answer_over p clocks now at store master message place h.0 answered in_it told numbered h.1)
listens p clocks now at message place told numbered (Some master) store new (replies.Came epoch settled) in_it h = absurd h
listens p clocks now at message place told numbered (Some master) store new (replies.Refused fault) in_it h = absurd h
listens p clocks now at message place told numbered (Some master) store new (replies.Bad fault) in_it h = absurd h
listens p clocks now at message place told numbered (Some master) store new (replies.Swept settled) in_it h = absurd h
listens p clocks now at message place told numbered (Some master) store new replies.Gone in_it h = absurd h
listens p clocks now at message place told numbered (Some master) store new (replies.Stands standing) in_it h = absurd h

ticks : (p : Parts) (clocks : Clocks) (now : ℕ) → clocks.master ≡ now → (m : Option MasterState) (store : Store) (new : Hosted) (reply : FrameReply) → IsHostedIn p (record { master = m; store = store }) → TicksFrame now m store reply new → Is p clocks store (Ok (frames.Tick now)) m reply new
ticks p clocks now at None store new reply in_it h =
    turned_away p clocks (Ok (frames.Tick now)) None (without_master store) new reply (ap (frame_told (Ok (frames.Tick now)) None) h.0) (ap reply_outs h.0) in_it h.1
ticks p clocks now at (Some master) store new (replies.Swept settled) in_it h =
    subst (λ (n : Hosted). Is p clocks store (Ok (frames.Tick now)) (Some master) (replies.Swept settled) n) (sym h.2) (tick_over p clocks now at store master h.0 settled in_it h.1)
ticks p clocks now at (Some master) store new (replies.Answered answered) in_it h = absurd h
ticks p clocks now at (Some master) store new (replies.Came epoch settled) in_it h = absurd h
ticks p clocks now at (Some master) store new (replies.Refused fault) in_it h = absurd h
ticks p clocks now at (Some master) store new (replies.Bad fault) in_it h = absurd h
ticks p clocks now at (Some master) store new replies.Gone in_it h = absurd h
ticks p clocks now at (Some master) store new (replies.Stands standing) in_it h = absurd h

leaves : (p : Parts) (clocks : Clocks) (m : Option MasterState) (store : Store) (new : Hosted) (reply : FrameReply) → IsHostedIn p (record { master = m; store = store }) → Leaves m store reply new → Is p clocks store (Ok frames.Down) m reply new
leaves p clocks None store new reply in_it h =
    turned_away p clocks (Ok frames.Down) None (without_master store) new reply (ap (frame_told (Ok frames.Down) None) h.0) (ap reply_outs h.0) in_it h.1
leaves p clocks (Some master) store new reply in_it h =
    let gone : Is p clocks store (Ok frames.Down) (Some master) replies.Gone (without_master store) =
    over_one (with_store p store) (with_store (behind_frame p (without_master store) []) store) clocks (Done Goes) (lines.Down ∷ []) (record {
      does = record {
        master = master;
        up = in_it.master;
        left = ap (λ rows. record p { rows = rows; master = None; told = p.told ++ [] }) (sym in_it.rows) ∙ ap (λ told. record p { master = None; told = told }) (append-nil p.told);
        prints = refl;
      };
      stands = stood store;
    }) in
    subst (λ (r : FrameReply). Is p clocks store (Ok frames.Down) (Some master) r new) (sym h.0) (subst (λ (n : Hosted). Is p clocks store (Ok frames.Down) (Some master) replies.Gone n) (sym h.1) gone)

stands : (p : Parts) (clocks : Clocks) (m : Option MasterState) (store : Store) (new : Hosted) (reply : FrameReply) → IsHostedIn p (record { master = m; store = store }) → StandsFrame m store reply new → Is p clocks store (Ok frames.State) m reply new
stands p clocks None store new reply in_it h =
    turned_away p clocks (Ok frames.State) None (without_master store) new reply (ap (frame_told (Ok frames.State) None) h.0) (ap reply_outs h.0) in_it h.1
stands p clocks (Some master) store new (replies.Stands standing) in_it h = turned_away p clocks (Ok frames.State) (Some master) (with_master (cell_of master store)) new (replies.Stands standing) refl refl in_it h.1
stands p clocks (Some master) store new (replies.Refused fault) in_it h = turned_away p clocks (Ok frames.State) (Some master) (with_master (cell_of master store)) new (replies.Refused fault) refl refl in_it h.1
stands p clocks (Some master) store new (replies.Bad fault) in_it h = absurd h.0
stands p clocks (Some master) store new (replies.Came epoch settled) in_it h = absurd h.0
stands p clocks (Some master) store new (replies.Answered answered) in_it h = absurd h.0
stands p clocks (Some master) store new (replies.Swept settled) in_it h = absurd h.0
stands p clocks (Some master) store new replies.Gone in_it h = absurd h.0

by_kind : (p : Parts) (clocks : Clocks) (sent : Result Frame WireFault) (old new : Hosted) (reply : FrameReply) → IsHostedIn p old → IsPossibleFrame p sent → IsAtMoment clocks sent → new.store.doubt ≡ 0 → DoesFrame p.terms sent old reply new → Is p clocks old.store sent old.master reply new
by_kind p clocks (Ok (frames.Up now)) old new reply in_it possible at sure h = arrives p clocks now at old.master old.store new reply in_it possible sure h
by_kind p clocks (Ok (frames.Message now message)) old new reply in_it possible at sure h = listens p clocks now at message possible.0 possible.1 possible.2 old.master old.store new reply in_it h
by_kind p clocks (Ok (frames.Tick now)) old new reply in_it possible at sure h = ticks p clocks now at old.master old.store new reply in_it h
by_kind p clocks (Ok frames.Down) old new reply in_it possible at sure h = leaves p clocks old.master old.store new reply in_it h
by_kind p clocks (Ok frames.State) old new reply in_it possible at sure h = stands p clocks old.master old.store new reply in_it h
by_kind p clocks (Err fault) old new reply in_it possible at sure h =
    turned_away p clocks (Err fault) old.master old new reply (ap (frame_told (Err fault) old.master) h.0) (ap reply_outs h.0) in_it h.1

pub frames_are_over : FramesAreStoredDeeds
frames_are_over o clocks sent old new reply in_it same possible at sure h = (
  subst (λ (s : Store). AreOver (with_store o.parts s) clocks (frame_told sent old.master reply) (with_store (behind_frame o.parts new (reply_outs reply)) new.store)) (sym same)
      (by_kind o.parts clocks sent old new reply in_it possible at sure h),
  (frames_are o.parts clocks sent old new reply in_it possible at sure h).1,
)
