-- A hosted master's frame, as deeds.
use Rattle.std.proofs.Common.{◌≡◌, ◌≢◌, ◌⊎◌, ℕ, ◌+◌, ◌≤◌, List, [], ◌∷◌, ◌++◌, Bool, true, false, map, Option, Some, None, refl, sym, ap, ◌∙◌, subst, arith, append_assoc, inl, inr}
use Rattle.std.proofs.lemmas.List.{append-nil, map-append}
use Rattle.std.specs.Prelude.{Result, Ok, Err}
use Rattle.node_core.specs.declared.lines.Line.{Line}
use Rattle.node_core.specs.declared.lines.Line.TheVariants as lines
use Rattle.node_core.specs.declared.refusals.Fault.{Fault}
use Rattle.rows_cell.specs.Stores.{Store, IsCommitted, IsRefused, IsRead}
use Rattle.rows_cell.specs.Rows.{changed_rows}
use Rattle.tags_cell.specs.declared.messages.requests.Request.{Request}
use Rattle.tags_cell.specs.declared.messages.outs.Out.{Out}
use Rattle.master_parts.specs.declared.pending.Taken.{Taken}
use Rattle.master_state.specs.State.{MasterState}
use Rattle.cell_core.specs.Step.{take_step}
use Rattle.over_core.specs.declared.swept.Swept.{Swept}
use Rattle.over_core.specs.Kept.{CellState}
use Rattle.over_core.specs.Sweep.{sweep_step, sweep_edits, sweep_frees, IsHeldUp, beats_step}
use Rattle.over_core.specs.Up.{up_step, up_edits, up_commit, StaysDown, IsKeptDown}
use Rattle.tags_cell.specs.Numbers.{is_client_number}
use Rattle.tags_cell.specs.Messages.{request_client}
use Rattle.world_steps.specs.Made.{AreInOrder}
use Rattle.world_steps.specs.declared.mail.Message.{Message}
use Rattle.world_steps.specs.declared.mail.Message.TheVariants.{ToMaster, ToClient}
use Rattle.world_steps.specs.Messages.{request_at}
use Rattle.codec.specs.declared.faults.WireFault.{WireFault}
use Rattle.codec.specs.Forms.{read_whole}
use Rattle.codec.specs.Requests.{request}
use Rattle.codec.specs.Outs.{out_message}
use Rattle.hosting.specs.declared.frames.Frame.{Frame}
use Rattle.hosting.specs.declared.frames.Frame.TheVariants as frames
use Rattle.hosting.specs.declared.settling.End.{End}
use Rattle.hosting.specs.declared.settling.End.TheVariants as ends
use Rattle.hosting.specs.declared.settling.Round.{Round}
use Rattle.hosting.specs.declared.settling.Settled.{Settled}
use Rattle.hosting.specs.declared.answers.Answered.{Answered}
use Rattle.hosting.specs.declared.answers.Answered.TheVariants as answers
use Rattle.hosting.specs.declared.seats.FrameReply.{FrameReply}
use Rattle.hosting.specs.declared.seats.FrameReply.TheVariants as replies
use Rattle.hosting.specs.Serving.{SweepsOnce, BeatsOnce, StepsTo, StopsAt, BeatStops, EndsBy, EndsIn, EndsBeats, BeatsBehind, Settles, Answers, is_shut}
use Rattle.hosting.specs.Seats.{Hosted, with_master, without_master, cell_of, CameUp, Arrives, Listens, Ticks as TicksFrame, Leaves, Stands as StandsFrame, Does as DoesFrame}
use Rattle.over_core.specs.Sweep.{swept_as}
use Rattle.watch_cell.specs.declared.events.WatchEvent.{WatchEvent}
use Rattle.watch_cell.specs.declared.events.WatchEvent.TheVariants as events
use Rattle.watch_cell.specs.Views.{WatchedState}
use Rattle.watch_cell.specs.Trail.{step_of, after_take, after_sweep}
use Rattle.history_laws.specs.Parts.{Parts, Deed, ComesUp, Takes, Sweeps, AnswersBeat, Goes}
use Rattle.history_laws.specs.Histories.{Clocks, Entry, Does, History}
use Rattle.history_laws.specs.Hosted.{swept_lines, swept_outs, settled_lines, settled_outs, reply_lines, reply_outs, IsHostedIn, IsPossibleFrame, IsAtMoment, at_moment, behind_frame, FramesAreDeeds, BytesCarryMessages, ShowsMoment, TrailsAreDeeds}
use Rattle.history_laws.proofs.Moments.{takes_then, sweeps_then, edits_then}

-- ---- the parts after some steps

-- with this master and these rows, and with messages more
abbrev pub placed : Parts → CellState → List Out → Parts
placed p cell outs = behind_frame p (with_master cell) outs

pub told_more : (told : List Message) (a b : List Out) → (told ++ map ToClient a) ++ map ToClient b ≡ told ++ map ToClient (a ++ b)
told_more told a b = append_assoc told (map ToClient a) (map ToClient b) ∙ ap (λ ms. told ++ ms) (sym (map-append ToClient a b))

pub placed_again : (p : Parts) (mid new : CellState) (a b : List Out) → placed (placed p mid a) new b ≡ placed p new (a ++ b)
placed_again p mid new a b = ap (λ told. record p { rows = new.store.rows; master = Some new.master; told = told }) (told_more p.told a b)

-- ---- histories, one after the other

pub history_append : (old mid new : Parts) (first second : List Entry) (printed told : List Line) → History old first printed mid → History mid second told new → History old (first ++ second) (printed ++ told) new
history_append old mid new [] second printed told one two = rw (sym one.1, one.0) two
history_append old mid new (entry ∷ first) second printed told one two =
    (one.0, one.1, one.2 ++ told, one.3, history_append one.0 mid new first second one.2 told one.4 two, ap (λ l. l ++ told) one.5 ∙ append_assoc one.1 one.2 told)

-- what some steps of a master are
abbrev pub AreDeeds : Parts → Clocks → List Line → Parts → Type 0
AreDeeds p clocks printed new = (deeds : List Deed) × History p (at_moment clocks deeds) printed new

no_deeds : (p : Parts) (clocks : Clocks) → AreDeeds p clocks [] p
no_deeds p clocks = ([], (refl, refl))

at_append : (clocks : Clocks) (a b : List Deed) → at_moment clocks (a ++ b) ≡ at_moment clocks a ++ at_moment clocks b
at_append clocks a b = map-append (λ deed. record { clocks = clocks; deed = deed }) a b

pub deeds_append : (p mid new : Parts) (clocks : Clocks) (printed told : List Line) → AreDeeds p clocks printed mid → AreDeeds mid clocks told new → AreDeeds p clocks (printed ++ told) new
deeds_append p mid new clocks printed told one two =
    (one.0 ++ two.0, subst (λ es. History p es (printed ++ told) new) (sym (at_append clocks one.0 two.0)) (history_append p mid new (at_moment clocks one.0) (at_moment clocks two.0) printed told one.1 two.1))

pub one_deed : (p new : Parts) (clocks : Clocks) (deed : Deed) (printed : List Line) → Does p clocks deed new printed → AreDeeds p clocks printed new
one_deed p new clocks deed printed does = (deed ∷ [], (new, printed, [], does, (refl, refl), sym (append-nil printed)))

-- ---- sweeps, and Beats that are answered

-- the parts have the master and the rows of this cell
pub record HasCell (p : Parts) (cell : CellState) : Type 0 where
  pub master : p.master ≡ Some cell.master
  pub rows : p.rows ≡ cell.store.rows

pub placed_has : (p : Parts) (cell : CellState) (outs : List Out) → HasCell (placed p cell outs) cell
placed_has p cell outs = record { master = refl; rows = refl }

pub same_placed : (p : Parts) (cell : CellState) → HasCell p cell → placed p cell [] ≡ p
same_placed p cell has = ap (λ m. record p { rows = cell.store.rows; master = m; told = p.told ++ [] }) (sym has.master) ∙ ap (λ rows. record p { rows = rows; told = p.told ++ [] }) (sym has.rows) ∙ ap (λ told. record p { told = told }) (append-nil p.told)

pub sweep_does : (p : Parts) (clocks : Clocks) (now : ℕ) (old new : CellState) (swept : Swept) → clocks.master ≡ now → HasCell p old → SweepsOnce now old swept new → Does p clocks Sweeps (placed p new swept.outs) swept.lines
sweep_does p clocks now old new swept at has once = record {
  master = old.master;
  next = new.master;
  swept = swept;
  up = has.master;
  step = rw at once.step;
  left = ap (λ rows. record p { rows = rows; master = Some new.master; told = p.told ++ map ToClient swept.outs }) (once.committed.rows ∙ ap (λ rows. changed_rows rows (sweep_edits old.master now)) (sym has.rows) ∙ ap (λ t. changed_rows p.rows (sweep_edits old.master t)) (sym at));
  prints = refl;
}

pub sweep_is : (p : Parts) (clocks : Clocks) (now : ℕ) (old new : CellState) (swept : Swept) → clocks.master ≡ now → HasCell p old → SweepsOnce now old swept new → AreDeeds p clocks swept.lines (placed p new swept.outs)
sweep_is p clocks now old new swept at has once = one_deed p (placed p new swept.outs) clocks Sweeps swept.lines (sweep_does p clocks now old new swept at has once)

pub beat_does : (p : Parts) (clocks : Clocks) (now : ℕ) (old new : CellState) (swept : Swept) → clocks.master ≡ now → HasCell p old → BeatsOnce now old swept new → Does p clocks AnswersBeat (placed p new swept.outs) swept.lines
beat_does p clocks now old new swept at has once = record {
  master = old.master;
  next = new.master;
  swept = swept;
  up = has.master;
  step = rw at once.step;
  left = ap (λ rows. record p { rows = rows; master = Some new.master; told = p.told ++ map ToClient swept.outs }) (ap (λ (s : Store). s.rows) once.store ∙ sym has.rows);
  prints = refl;
}

beat_is : (p : Parts) (clocks : Clocks) (now : ℕ) (old new : CellState) (swept : Swept) → clocks.master ≡ now → HasCell p old → BeatsOnce now old swept new → AreDeeds p clocks swept.lines (placed p new swept.outs)
beat_is p clocks now old new swept at has once = one_deed p (placed p new swept.outs) clocks AnswersBeat swept.lines (beat_does p clocks now old new swept at has once)

-- steps of one kind, each of which is a deed
abbrev EachIsDeed : Clocks → (CellState → Swept → CellState → Type 0) → Type 0
EachIsDeed clocks Once = (p : Parts) (old new : CellState) (swept : Swept) → HasCell p old → Once old swept new → AreDeeds p clocks swept.lines (placed p new swept.outs)

pub steps_are : (clocks : Clocks) (Once : CellState → Swept → CellState → Type 0) → EachIsDeed clocks Once → (p : Parts) (old new : CellState) (sweeps : List Swept) → HasCell p old → StepsTo Once old sweeps new → AreDeeds p clocks (swept_lines sweeps) (placed p new (swept_outs sweeps))
steps_are clocks Once each p old new [] has h =
    subst (λ q. AreDeeds p clocks [] q) (sym (ap (λ cell. placed p cell []) h ∙ same_placed p old has)) (no_deeds p clocks)
steps_are clocks Once each p old new (swept ∷ rest) has h =
    let first = each p old h.0 swept has h.1 in
    let later = steps_are clocks Once each (placed p h.0 swept.outs) h.0 new rest (placed_has p h.0 swept.outs) h.2 in
    subst (λ q. AreDeeds p clocks (swept.lines ++ swept_lines rest) q) (placed_again p h.0 new swept.outs (swept_outs rest))
    (deeds_append p (placed p h.0 swept.outs) (placed (placed p h.0 swept.outs) new (swept_outs rest)) clocks swept.lines (swept_lines rest) first later)

-- a refusal leaves the master and the rows
abbrev pub LeavesCell : (CellState → Fault → CellState → Type 0) → Type 0
LeavesCell Stops = (old : CellState) (fault : Fault) (new : CellState) → Stops old fault new → (new.master ≡ old.master) × (new.store.rows ≡ old.store.rows)

rows_left : (now : ℕ) (old new : CellState) (fault : Fault) → ((sweep_step old.master now ≡ Err fault × new ≡ old) ⊎ IsHeldUp fault (sweep_frees old.master now) (sweep_edits old.master now) old.store new.store) → new.store.rows ≡ old.store.rows
rows_left now old new fault (inl same) = ap (λ (c : CellState). c.store.rows) same.1
rows_left now old new fault (inr refused) = refused.rows

pub stop_leaves : (now : ℕ) → LeavesCell (StopsAt now)
stop_leaves now old fault new stops = (stops.master, rows_left now old new fault stops.why)

beat_leaves : (now : ℕ) → LeavesCell (BeatStops now)
beat_leaves now old fault new stops = (ap (λ (c : CellState). c.master) stops.same, ap (λ (c : CellState). c.store.rows) stops.same)

pub left_placed : (p : Parts) (mid new : CellState) (outs : List Out) → (new.master ≡ mid.master) × (new.store.rows ≡ mid.store.rows) → placed p new outs ≡ placed p mid outs
left_placed p mid new outs left = ap (λ m. record p { rows = new.store.rows; master = Some m; told = p.told ++ map ToClient outs }) left.0 ∙ ap (λ rows. record p { rows = rows; master = Some mid.master; told = p.told ++ map ToClient outs }) left.1

ends_are : (clocks : Clocks) (Once : CellState → Swept → CellState → Type 0) (Stops : CellState → Fault → CellState → Type 0) → EachIsDeed clocks Once → LeavesCell Stops → (p : Parts) (old new : CellState) (sweeps : List Swept) (end : End) → HasCell p old → EndsBy Once Stops old sweeps end new → AreDeeds p clocks (swept_lines sweeps) (placed p new (swept_outs sweeps))
ends_are clocks Once Stops each leaves p old new sweeps ends.Quiet has h = steps_are clocks Once each p old new sweeps has h.5
ends_are clocks Once Stops each leaves p old new sweeps (ends.Refused fault) has h =
    subst (λ q. AreDeeds p clocks (swept_lines sweeps) q) (sym (left_placed p h.0 new (swept_outs sweeps) (leaves h.0 fault new h.3))) (steps_are clocks Once each p old h.0 sweeps has h.1)
ends_are clocks Once Stops each leaves p old new sweeps ends.Unfinished has h = steps_are clocks Once each p old new sweeps has h.0

behind_are : (clocks : Clocks) (now : ℕ) → clocks.master ≡ now → (p : Parts) (shut : Bool) (old new : CellState) (beats : Round) → HasCell p old → BeatsBehind now shut old beats new → AreDeeds p clocks (swept_lines beats.sweeps) (placed p new (swept_outs beats.sweeps))
behind_are clocks now at p true old new beats has h =
    ends_are clocks (BeatsOnce now) (BeatStops now) (λ q a b swept own once. beat_is q clocks now a b swept at own once) (beat_leaves now) p old new beats.sweeps beats.end has h
behind_are clocks now at p false old new beats has h =
    rw h.0 (subst (λ q. AreDeeds p clocks [] q) (sym (ap (λ cell. placed p cell []) h.1 ∙ same_placed p old has)) (no_deeds p clocks))

settles_are : (clocks : Clocks) (now : ℕ) → clocks.master ≡ now → (p : Parts) (old new : CellState) (settled : Settled) → HasCell p old → Settles now old settled new → AreDeeds p clocks (settled_lines settled) (placed p new (settled_outs settled))
settles_are clocks now at p old new settled has h =
    let sweeps = settled.round.sweeps in
    let beats = settled.beats.sweeps in
    let first = ends_are clocks (SweepsOnce now) (StopsAt now) (λ q a b swept own once. sweep_is q clocks now a b swept at own once) (stop_leaves now) p old h.mid sweeps settled.round.end has h.swept in
    let later = behind_are clocks now at (placed p h.mid (swept_outs sweeps)) (is_shut settled.round.end) h.mid new settled.beats (placed_has p h.mid (swept_outs sweeps)) h.answered in
    subst (λ q. AreDeeds p clocks (settled_lines settled) q) (placed_again p h.mid new (swept_outs sweeps) (swept_outs beats))
    (deeds_append p (placed p h.mid (swept_outs sweeps)) (placed (placed p h.mid (swept_outs sweeps)) new (swept_outs beats)) clocks (swept_lines sweeps) (swept_lines beats) first later)

-- ---- the store after them

pub record IsLater (old new : Store) : Type 0 where
  pub cell : new.cell ≡ old.cell
  pub doubted : old.doubt ≤ new.doubt

at_once : (s : Store) → IsLater s s
at_once s = record { cell = refl; doubted = omega arith }

later_on : (a b c : Store) → IsLater a b → IsLater b c → IsLater a c
later_on a b c one two = let x = one.doubted in let y = two.doubted in record { cell = two.cell ∙ one.cell; doubted = omega arith }

pub as_same : (a b : Store) → b ≡ a → IsLater a b
as_same a b same = rw same (at_once a)

pub steps_later : (Once : CellState → Swept → CellState → Type 0) → ((old new : CellState) (swept : Swept) → Once old swept new → IsLater old.store new.store) → (old new : CellState) (sweeps : List Swept) → StepsTo Once old sweeps new → IsLater old.store new.store
steps_later Once each old new [] h = as_same old.store new.store (ap (λ (c : CellState). c.store) h)
steps_later Once each old new (swept ∷ rest) h = later_on old.store h.0.store new.store (each old h.0 swept h.1) (steps_later Once each h.0 new rest h.2)

ends_later : (Once : CellState → Swept → CellState → Type 0) (Stops : CellState → Fault → CellState → Type 0) → ((old new : CellState) (swept : Swept) → Once old swept new → IsLater old.store new.store) → ((old new : CellState) (fault : Fault) → Stops old fault new → IsLater old.store new.store) → (old new : CellState) (sweeps : List Swept) (end : End) → EndsBy Once Stops old sweeps end new → IsLater old.store new.store
ends_later Once Stops each stops old new sweeps ends.Quiet h = steps_later Once each old new sweeps h.5
ends_later Once Stops each stops old new sweeps (ends.Refused fault) h = later_on old.store h.0.store new.store (steps_later Once each old h.0 sweeps h.1) (stops h.0 new fault h.3)
ends_later Once Stops each stops old new sweeps ends.Unfinished h = steps_later Once each old new sweeps h.0

pub sweep_later : (now : ℕ) (old new : CellState) (swept : Swept) → SweepsOnce now old swept new → IsLater old.store new.store
sweep_later now old new swept once = record { cell = once.committed.cell; doubted = once.committed.doubted }

beat_later : (now : ℕ) (old new : CellState) (swept : Swept) → BeatsOnce now old swept new → IsLater old.store new.store
beat_later now old new swept once = as_same old.store new.store once.store

stop_by : (now : ℕ) (old new : CellState) (fault : Fault) → ((sweep_step old.master now ≡ Err fault × new ≡ old) ⊎ IsHeldUp fault (sweep_frees old.master now) (sweep_edits old.master now) old.store new.store) → IsLater old.store new.store
stop_by now old new fault (inl same) = as_same old.store new.store (ap (λ (c : CellState). c.store) same.1)
stop_by now old new fault (inr refused) = record { cell = refused.cell; doubted = refused.doubted }

stop_later : (now : ℕ) (old new : CellState) (fault : Fault) → StopsAt now old fault new → IsLater old.store new.store
stop_later now old new fault stops = stop_by now old new fault stops.why

beat_stop_later : (now : ℕ) (old new : CellState) (fault : Fault) → BeatStops now old fault new → IsLater old.store new.store
beat_stop_later now old new fault stops = as_same old.store new.store (ap (λ (c : CellState). c.store) stops.same)

beats_later : (now : ℕ) (shut : Bool) (old new : CellState) (beats : Round) → BeatsBehind now shut old beats new → IsLater old.store new.store
beats_later now true old new beats h = ends_later (BeatsOnce now) (BeatStops now) (beat_later now) (beat_stop_later now) old new beats.sweeps beats.end h
beats_later now false old new beats h = as_same old.store new.store (ap (λ (c : CellState). c.store) h.1)

pub settles_later : (now : ℕ) (old new : CellState) (settled : Settled) → Settles now old settled new → IsLater old.store new.store
settles_later now old new settled h =
    later_on old.store h.mid.store new.store (ends_later (SweepsOnce now) (StopsAt now) (sweep_later now) (stop_later now) old h.mid settled.round.sweeps settled.round.end h.swept)
    (beats_later now (is_shut settled.round.end) h.mid new settled.beats h.answered)

-- ---- each frame

-- what a frame does: deeds, after which what is hosted is the parts' again
abbrev Is : Parts → Clocks → Hosted → FrameReply → Type 0
Is p clocks new reply = AreDeeds p clocks (reply_lines reply) (behind_frame p new (reply_outs reply)) × IsHostedIn (behind_frame p new (reply_outs reply)) new

pub has_cell : (p : Parts) (master : MasterState) (store : Store) → p.master ≡ Some master → p.rows ≡ store.rows → HasCell p (cell_of master store)
has_cell p master store up rows = record { master = up; rows = rows }

-- nothing changes
pub same_behind : (p : Parts) (host : Hosted) → p.master ≡ host.master → p.rows ≡ host.store.rows → behind_frame p host [] ≡ p
same_behind p host up rows = ap (λ m. record p { rows = host.store.rows; master = m; told = p.told ++ [] }) (sym up) ∙ ap (λ r. record p { rows = r; told = p.told ++ [] }) (sym rows) ∙ ap (λ told. record p { told = told }) (append-nil p.told)

nothing : (p : Parts) (clocks : Clocks) (old new : Hosted) → IsHostedIn p old → new ≡ old → AreDeeds p clocks [] (behind_frame p new [])
nothing p clocks old new in_it same = rw same (subst (λ q. AreDeeds p clocks [] q) (sym (same_behind p old in_it.master in_it.rows)) (no_deeds p clocks))

pub stays_in : (p : Parts) (old new : Hosted) (outs : List Out) → IsHostedIn p old → IsLater old.store new.store → IsHostedIn (behind_frame p new outs) new
stays_in p old new outs in_it later = record { master = refl; rows = refl; cell = in_it.cell ∙ sym later.cell }

module _ (p : Parts) (clocks : Clocks) (now : ℕ) (at : clocks.master ≡ now) (store : Store) where
  -- it takes a message
  pub take_does : (master next : MasterState) (message : Request) (taken : Taken) (place : ℕ) → HasCell p (cell_of master store) → request_at p.told place ≡ Some message → is_client_number (request_client message) ≡ true → take_step master now message ≡ Ok (next, taken) → Does p clocks (Takes place) (placed p (cell_of next store) taken.outs) taken.lines
  take_does master next message taken place has told numbered step = record {
    master = master;
    request = message;
    next = next;
    taken = taken;
    up = has.master;
    was_told = told;
    numbered = numbered;
    step = rw at step;
    left = ap (λ rows. record p { rows = rows; master = Some next; told = p.told ++ map ToClient taken.outs }) (sym has.rows);
    prints = refl;
  }

  pub take_is : (master next : MasterState) (message : Request) (taken : Taken) (place : ℕ) → HasCell p (cell_of master store) → request_at p.told place ≡ Some message → is_client_number (request_client message) ≡ true → take_step master now message ≡ Ok (next, taken) → AreDeeds p clocks taken.lines (placed p (cell_of next store) taken.outs)
  take_is master next message taken place has told numbered step = one_deed p (placed p (cell_of next store) taken.outs) clocks (Takes place) taken.lines (take_does master next message taken place has told numbered step)

  answer_is : (master : MasterState) (message : Request) (place : ℕ) (after : CellState) (answered : Answered) → IsHostedIn p (with_master (cell_of master store)) → request_at p.told place ≡ Some message → is_client_number (request_client message) ≡ true → Answers now message (cell_of master store) answered after → Is p clocks (with_master after) (replies.Answered answered)
  answer_is master message place after (answers.Refused fault) in_it told numbered h =
      let same : with_master after ≡ with_master (cell_of master store) = ap with_master h.1 in
      (nothing p clocks (with_master (cell_of master store)) (with_master after) in_it same, stays_in p (with_master (cell_of master store)) (with_master after) [] in_it (as_same store after.store (ap (λ (c : CellState). c.store) h.1)))
  answer_is master message place after (answers.Taken taken settled) in_it told numbered h =
      let mid : CellState = h.0 in
      let has = has_cell p master store in_it.master in_it.rows in
      let is_mid : mid ≡ cell_of mid.master store = ap (λ s. cell_of mid.master s) h.2 in
      let first = subst (λ c. AreDeeds p clocks taken.lines (placed p c taken.outs)) (sym is_mid) (take_is master mid.master message taken place has told numbered h.1) in
      let later = settles_are clocks now at (placed p mid taken.outs) mid after settled (placed_has p mid taken.outs) h.3 in (
        subst (λ q. AreDeeds p clocks (taken.lines ++ settled_lines settled) q) (placed_again p mid after taken.outs (settled_outs settled))
            (deeds_append p (placed p mid taken.outs) (placed (placed p mid taken.outs) after (settled_outs settled)) clocks taken.lines (settled_lines settled) first later),
        stays_in p (with_master (cell_of master store)) (with_master after) (taken.outs ++ settled_outs settled) in_it (later_on store mid.store after.store (as_same store mid.store h.2) (settles_later now mid after settled h.3)),
      )

  tick_is : (master : MasterState) (after : CellState) (settled : Settled) → IsHostedIn p (with_master (cell_of master store)) → Settles now (cell_of master store) settled after → Is p clocks (with_master after) (replies.Swept settled)
  tick_is master after settled in_it h = (
    settles_are clocks now at p (cell_of master store) after settled (has_cell p master store in_it.master in_it.rows) h,
    stays_in p (with_master (cell_of master store)) (with_master after) (settled_outs settled) in_it (settles_later now (cell_of master store) after settled h),
  )

  -- a master comes up
  pub up_does : (read : Store) (cell : CellState) → IsHostedIn p (without_master store) → AreInOrder p.rows → read ≡ store → up_step read.cell read.rows p.terms now ≡ Ok cell.master → IsCommitted (up_edits read.rows) read cell.store → Does p clocks ComesUp (placed p cell []) (lines.Up cell.master.epoch ∷ [])
  up_does read cell in_it ordered same came committed =
      let rows : cell.store.rows ≡ changed_rows p.rows (up_edits p.rows) = committed.rows ∙ ap (λ (s : Store). changed_rows s.rows (up_edits s.rows)) same ∙ ap (λ r. changed_rows r (up_edits r)) (sym in_it.rows) in
      let step : up_step p.cell p.rows p.terms clocks.master ≡ Ok cell.master = rw (in_it.cell, in_it.rows, at) (subst (λ (s : Store). up_step s.cell s.rows p.terms now ≡ Ok cell.master) same came) in
      record {
        master = cell.master;
        none = in_it.master;
        ordered = ordered;
        step = step;
        left = ap (λ r. record p { rows = r; master = Some cell.master; told = p.told ++ [] }) rows ∙ ap (λ told. record p { rows = changed_rows p.rows (up_edits p.rows); master = Some cell.master; told = told }) (append-nil p.told);
        prints = refl;
      }

  up_is : (read : Store) (cell : CellState) → IsHostedIn p (without_master store) → AreInOrder p.rows → read ≡ store → up_step read.cell read.rows p.terms now ≡ Ok cell.master → IsCommitted (up_edits read.rows) read cell.store → AreDeeds p clocks (lines.Up cell.master.epoch ∷ []) (placed p cell [])
  up_is read cell in_it ordered same came committed = one_deed p (placed p cell []) clocks ComesUp (lines.Up cell.master.epoch ∷ []) (up_does read cell in_it ordered same came committed)

  came_is : (epoch : ℕ) (settled : Settled) (new : Hosted) → IsHostedIn p (without_master store) → AreInOrder p.rows → new.store.doubt ≡ 0 → CameUp p.terms now store epoch settled new → Is p clocks new (replies.Came epoch settled)
  came_is epoch settled new in_it ordered sure h =
      let cell : CellState = h.cell in
      let after : CellState = h.after in
      let came = h.came in
      let later = settles_later now cell after settled h.swept in
      let a = later.doubted in
      let b = came.committed.doubted in
      let c : new.store.doubt ≡ after.store.doubt = ap (λ (x : Hosted). x.store.doubt) h.up in
      let none : came.read.doubt ≡ 0 = omega arith in
      let same : came.read ≡ store = came.was_read.same none in
      let first = up_is came.read cell in_it ordered same came.came came.committed in
      let rest = settles_are clocks now at (placed p cell []) cell after settled (placed_has p cell []) h.swept in
      let all = deeds_append p (placed p cell []) (placed (placed p cell []) after (settled_outs settled)) clocks (lines.Up cell.master.epoch ∷ []) (settled_lines settled) first rest in
      let there = subst (λ q. AreDeeds p clocks (lines.Up cell.master.epoch ∷ settled_lines settled) q) (placed_again p cell after [] (settled_outs settled)) all in
      let told = subst (λ n. AreDeeds p clocks (lines.Up n ∷ settled_lines settled) (placed p after (settled_outs settled))) (sym h.told) there in
      let stays : IsLater store after.store = later_on store cell.store after.store (record { cell = came.committed.cell ∙ came.was_read.cell; doubted = let d = came.was_read.doubted in omega arith }) later in
      rw h.up (told, stays_in p (without_master store) (with_master after) (settled_outs settled) in_it stays)

  -- or none does
  kept_by : (fault : Fault) (new read : Store) → IsRead store read → new.doubt ≡ 0 → ((up_step read.cell read.rows p.terms now ≡ Err fault) × (new ≡ read)) ⊎ IsRefused fault (up_commit (up_step read.cell read.rows p.terms now) read.rows) read new → (new.rows ≡ store.rows) × (new.cell ≡ store.cell)
  kept_by fault new read was_read sure (inl same) =
      let none : read.doubt ≡ 0 = ap (λ (s : Store). s.doubt) (sym same.1) ∙ sure in
      let is : new ≡ store = same.1 ∙ was_read.same none in
      (ap (λ (s : Store). s.rows) is, ap (λ (s : Store). s.cell) is)
  kept_by fault new read was_read sure (inr refused) =
      let a = refused.doubted in
      let none : read.doubt ≡ 0 = omega arith in
      let is : read ≡ store = was_read.same none in
      (refused.rows ∙ ap (λ (s : Store). s.rows) is, refused.cell ∙ ap (λ (s : Store). s.cell) is)

  kept_down : (fault : Fault) (new : Store) → IsKeptDown p.terms now fault store new → new.doubt ≡ 0 → (new.rows ≡ store.rows) × (new.cell ≡ store.cell)
  kept_down fault new h sure = kept_by fault new h.read h.was_read sure h.why

  pub down_so : (fault : Fault) (new : Store) → StaysDown p.terms now fault store new → new.doubt ≡ 0 → (new.rows ≡ store.rows) × (new.cell ≡ store.cell)
  down_so fault new (inl late) sure = (ap (λ (s : Store). s.rows) late.2, ap (λ (s : Store). s.cell) late.2)
  down_so fault new (inr (early, inl unread)) sure = (unread.rows, unread.cell)
  down_so fault new (inr (early, inr kept)) sure = kept_down fault new kept sure

  down_is : (fault : Fault) (new : Hosted) → IsHostedIn p (without_master store) → new.store.doubt ≡ 0 → StaysDown p.terms now fault store new.store → new.master ≡ None → Is p clocks new (replies.Refused fault)
  down_is fault new in_it sure h none =
      let same = down_so fault new.store h sure in
      (subst (λ q. AreDeeds p clocks [] q) (sym (same_behind p new (in_it.master ∙ sym none) (in_it.rows ∙ sym same.0))) (no_deeds p clocks), record { master = refl; rows = refl; cell = in_it.cell ∙ sym same.1 })

-- ---- a frame by its kind

turned_away : (p : Parts) (clocks : Clocks) (old new : Hosted) (reply : FrameReply) → reply_lines reply ≡ [] → reply_outs reply ≡ [] → IsHostedIn p old → new ≡ old → Is p clocks new reply
turned_away p clocks old new reply silent none in_it same =
    rw (silent, none) (nothing p clocks old new in_it same, stays_in p old new [] in_it (as_same old.store new.store (ap (λ (x : Hosted). x.store) same)))

arrives : (p : Parts) (clocks : Clocks) (now : ℕ) → clocks.master ≡ now → (m : Option MasterState) (store : Store) (new : Hosted) (reply : FrameReply) → IsHostedIn p (record { master = m; store = store }) → AreInOrder p.rows → new.store.doubt ≡ 0 → Arrives p.terms now m store reply new → Is p clocks new reply
arrives p clocks now at None store new (replies.Came epoch settled) in_it ordered sure h = came_is p clocks now at store epoch settled new in_it ordered sure h
arrives p clocks now at None store new (replies.Refused fault) in_it ordered sure h = down_is p clocks now at store fault new in_it sure h.0 h.1
arrives p clocks now at None store new (replies.Bad fault) in_it ordered sure h = absurd h
arrives p clocks now at None store new (replies.Answered answered) in_it ordered sure h = absurd h
arrives p clocks now at None store new (replies.Swept settled) in_it ordered sure h = absurd h
arrives p clocks now at None store new replies.Gone in_it ordered sure h = absurd h
arrives p clocks now at None store new (replies.Stands standing) in_it ordered sure h = absurd h
arrives p clocks now at (Some master) store new reply in_it ordered sure h =
    turned_away p clocks (with_master (cell_of master store)) new reply (ap reply_lines h.0) (ap reply_outs h.0) in_it h.1

listens : (p : Parts) (clocks : Clocks) (now : ℕ) → clocks.master ≡ now → (message : Request) (place : ℕ) → request_at p.told place ≡ Some message → is_client_number (request_client message) ≡ true → (m : Option MasterState) (store : Store) (new : Hosted) (reply : FrameReply) → IsHostedIn p (record { master = m; store = store }) → Listens now message m store reply new → Is p clocks new reply
listens p clocks now at message place told numbered None store new reply in_it h = turned_away p clocks (without_master store) new reply (ap reply_lines h.0) (ap reply_outs h.0) in_it h.1
listens p clocks now at message place told numbered (Some master) store new (replies.Answered answered) in_it h = rw h.2 (answer_is p clocks now at store master message place h.0 answered in_it told numbered h.1)
listens p clocks now at message place told numbered (Some master) store new (replies.Came epoch settled) in_it h = absurd h
listens p clocks now at message place told numbered (Some master) store new (replies.Refused fault) in_it h = absurd h
listens p clocks now at message place told numbered (Some master) store new (replies.Bad fault) in_it h = absurd h
listens p clocks now at message place told numbered (Some master) store new (replies.Swept settled) in_it h = absurd h
listens p clocks now at message place told numbered (Some master) store new replies.Gone in_it h = absurd h
listens p clocks now at message place told numbered (Some master) store new (replies.Stands standing) in_it h = absurd h

ticks : (p : Parts) (clocks : Clocks) (now : ℕ) → clocks.master ≡ now → (m : Option MasterState) (store : Store) (new : Hosted) (reply : FrameReply) → IsHostedIn p (record { master = m; store = store }) → TicksFrame now m store reply new → Is p clocks new reply
ticks p clocks now at None store new reply in_it h = turned_away p clocks (without_master store) new reply (ap reply_lines h.0) (ap reply_outs h.0) in_it h.1
ticks p clocks now at (Some master) store new (replies.Swept settled) in_it h = rw h.2 (tick_is p clocks now at store master h.0 settled in_it h.1)
ticks p clocks now at (Some master) store new (replies.Answered answered) in_it h = absurd h
ticks p clocks now at (Some master) store new (replies.Came epoch settled) in_it h = absurd h
ticks p clocks now at (Some master) store new (replies.Refused fault) in_it h = absurd h
ticks p clocks now at (Some master) store new (replies.Bad fault) in_it h = absurd h
ticks p clocks now at (Some master) store new replies.Gone in_it h = absurd h
ticks p clocks now at (Some master) store new (replies.Stands standing) in_it h = absurd h

leaves : (p : Parts) (clocks : Clocks) (m : Option MasterState) (store : Store) (new : Hosted) (reply : FrameReply) → IsHostedIn p (record { master = m; store = store }) → Leaves m store reply new → Is p clocks new reply
leaves p clocks None store new reply in_it h = turned_away p clocks (without_master store) new reply (ap reply_lines h.0) (ap reply_outs h.0) in_it h.1
leaves p clocks (Some master) store new reply in_it h =
    rw (h.0, h.1) (
      one_deed p (behind_frame p (without_master store) []) clocks Goes (lines.Down ∷ []) (record {
        master = master;
        up = in_it.master;
        left = ap (λ rows. record p { rows = rows; master = None; told = p.told ++ [] }) (sym in_it.rows) ∙ ap (λ told. record p { master = None; told = told }) (append-nil p.told);
        prints = refl;
      }),
      record { master = refl; rows = refl; cell = in_it.cell },
    )

stands : (p : Parts) (clocks : Clocks) (m : Option MasterState) (store : Store) (new : Hosted) (reply : FrameReply) → IsHostedIn p (record { master = m; store = store }) → StandsFrame m store reply new → Is p clocks new reply
stands p clocks None store new reply in_it h = turned_away p clocks (without_master store) new reply (ap reply_lines h.0) (ap reply_outs h.0) in_it h.1
stands p clocks (Some master) store new (replies.Stands standing) in_it h = turned_away p clocks (with_master (cell_of master store)) new (replies.Stands standing) refl refl in_it h.1
stands p clocks (Some master) store new (replies.Refused fault) in_it h = turned_away p clocks (with_master (cell_of master store)) new (replies.Refused fault) refl refl in_it h.1
stands p clocks (Some master) store new (replies.Bad fault) in_it h = absurd h.0
stands p clocks (Some master) store new (replies.Came epoch settled) in_it h = absurd h.0
stands p clocks (Some master) store new (replies.Answered answered) in_it h = absurd h.0
stands p clocks (Some master) store new (replies.Swept settled) in_it h = absurd h.0
stands p clocks (Some master) store new replies.Gone in_it h = absurd h.0

pub frames_are : FramesAreDeeds
frames_are p clocks (Ok (frames.Up now)) old new reply in_it possible at sure h = arrives p clocks now at old.master old.store new reply in_it possible sure h
frames_are p clocks (Ok (frames.Message now message)) old new reply in_it possible at sure h = listens p clocks now at message possible.0 possible.1 possible.2 old.master old.store new reply in_it h
frames_are p clocks (Ok (frames.Tick now)) old new reply in_it possible at sure h = ticks p clocks now at old.master old.store new reply in_it h
frames_are p clocks (Ok frames.Down) old new reply in_it possible at sure h = leaves p clocks old.master old.store new reply in_it h
frames_are p clocks (Ok frames.State) old new reply in_it possible at sure h = stands p clocks old.master old.store new reply in_it h
frames_are p clocks (Err fault) old new reply in_it possible at sure h = turned_away p clocks old new reply (ap reply_lines h.0) (ap reply_outs h.0) in_it h.1

-- ---- bytes

one_read : {X : Type 0} (r : Result X WireFault) (a b : X) → r ≡ Ok a → r ≡ Ok b → a ≡ b
one_read {X} r a b h k = let e : ◌≡◌ {A = Result X WireFault} (Ok a) (Ok b) = sym h ∙ k in cc

pub bytes_carry : BytesCarryMessages
bytes_carry told at bytes = (
  λ sent taken was written read. was ∙ ap Some (one_read (read_whole request bytes) sent taken written read),
  λ sent taken was written read. was ∙ ap Some (one_read (read_whole out_message bytes) sent taken written read),
)

-- ---- a master that threads share

module _ (p : Parts) (clocks : Clocks) (old new : WatchedState) (reply : Swept) (up : p.master ≡ Some old.master) (rows : p.rows ≡ old.rows) where
  abbrev IsDeed : WatchedState → Swept → Type 0
  IsDeed s swept = (deed : Deed) × Does p clocks deed (record p { rows = s.rows; master = Some s.master; told = p.told ++ map ToClient swept.outs }) swept.lines

  it_comes : (a : WatchedState × Swept) → (let r : Result (WatchedState × Swept) Fault = Ok a in r) ≡ Ok (new, reply) → IsDeed a.0 a.1 → IsDeed new reply
  it_comes a h own =
      let is : ◌≡◌ {A = WatchedState × Swept} a (new, reply) = cc in
      subst (λ (x : WatchedState × Swept). IsDeed x.0 x.1) is own

  taken_so : (now at : ℕ) (message : Request) (r : Result (MasterState × Taken) Fault) → ShowsMoment clocks.master old.master now → request_at p.told at ≡ Some message → is_client_number (request_client message) ≡ true → take_step old.master now message ≡ r → after_take old r ≡ Ok (new, reply) → IsDeed new reply
  taken_so now at message (Err fault) when told numbered step h = cc
  taken_so now at message (Ok done) when told numbered step h =
      it_comes (record old { master = done.0 }, swept_as done.1 false) h (
        Takes at,
        record {
          master = old.master;
          request = message;
          next = done.0;
          taken = done.1;
          up = up;
          was_told = told;
          numbered = numbered;
          step = takes_then old.master clocks.master now message when ∙ step;
          left = ap (λ r. record p { rows = r; master = Some done.0; told = p.told ++ map ToClient done.1.outs }) (sym rows);
          prints = refl;
        },
      )

  swept_so : (now : ℕ) (r : Result (MasterState × Swept) Fault) → ShowsMoment clocks.master old.master now → sweep_step old.master now ≡ r → after_sweep old (sweep_edits old.master now) r ≡ Ok (new, reply) → IsDeed new reply
  swept_so now (Err fault) when step h = cc
  swept_so now (Ok done) when step h =
      it_comes (record { master = done.0; rows = changed_rows old.rows (sweep_edits old.master now) }, done.1) h (
        Sweeps,
        record {
          master = old.master;
          next = done.0;
          swept = done.1;
          up = up;
          step = sweeps_then old.master clocks.master now when ∙ step;
          left = ap (λ r. record p { rows = r; master = Some done.0; told = p.told ++ map ToClient done.1.outs }) (ap (λ r. changed_rows r (sweep_edits old.master now)) (sym rows) ∙ ap (λ edits. changed_rows p.rows edits) (sym (edits_then old.master clocks.master now when)));
          prints = refl;
        },
      )

pub trails_are : TrailsAreDeeds
unfolding step_of
trails_are p clocks old new (events.Take now message) reply up rows possible h = taken_so p clocks old new reply up rows now possible.1 message (take_step old.master now message) possible.0 possible.2 possible.3 refl h
trails_are p clocks old new (events.Sweep now) reply up rows possible h = swept_so p clocks old new reply up rows now (sweep_step old.master now) possible refl h
