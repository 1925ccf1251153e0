-- Why locks are legal after each step, and why no two holds of a lock from free share a generation.
use Rattle.std.proofs.Common.{◌≡◌, ℕ, ◌+◌, ◌<◌, ◌≤◌, List, [], ◌∷◌, Bool, true, false, Option, Some, None, Result, Ok, Err, refl, sym, ap, subst, ◌∙◌, inl, inr, ⊎_elim, arith}
use Rattle.std.specs.Prelude.{◌⊎◌, is_some, if◌then◌else◌, IfOk, IfErr}
use Rattle.std.specs.List.{list_all}
use Rattle.std.proofs.lemmas.Bool.{and_parts}
use Rattle.node_core.specs.declared.refusals.Fault.{Fault}
use Rattle.node_core.specs.declared.lines.Line.{Line}
use Rattle.node_core.specs.declared.lines.Line.TheVariants as lines
use Rattle.rows_cell.specs.declared.tables.Rows.{Rows}
use Rattle.rows_cell.specs.Rows.{StoredNodes, StoredLocks}
use Rattle.rows_cell.specs.Indexes.{lock_generation_in, locks_at}
use Rattle.rows_cell.specs.LockRows.{row_fits, are_together}
use Rattle.rows_cell.specs.Sound.{sound}
use Rattle.rows_cell.proofs.SoundLocks.{sound_legal}
use Rattle.rows_cell.proofs.SoundParts.{has_instance}
use Rattle.lock_core.specs.Locks.{lock_at}
use Rattle.master_state.specs.State.{MasterState}
use Rattle.master_state.specs.Lookups.{noted}
use Rattle.over_core.specs.Kept.{IsKept}
use Rattle.over_core.proofs.KeptBySweeps.{case_kept}
use Rattle.world_steps.specs.declared.steps.Step.{Step}
use Rattle.world_steps.specs.declared.steps.Step.TheVariants as steps
use Rattle.world_steps.specs.World.{WorldState, WorldView, IsUndoubted, Agrees}
use Rattle.world_cell.proofs.StepsHold.{does_holds}
use Rattle.world_cell.specs.Consistent.{IsConsistent}
use Rattle.world_cell.specs.Runs.{Run}
use Rattle.world_steps.specs.Made.{Does, WasMade, WasRefused}
use Rattle.world_cell.specs.Locks.{AreLegalRows, HasLegalLocks, begins_in, CountsHolds, LetsNoneFall, NoGenerationTwice}
use Rattle.world_steps.proofs.AsRead.{made_sure, refused_sure, made_doubts, refused_doubts}
use Rattle.world_cell.proofs.ClocksByRuns.{run_consistent}
use Rattle.world_cell.proofs.ConsistentSteps.{agrees_at, swept_epoch}
use Rattle.world_cell.proofs.InstancesKept.{has_of, generation_of, same_begin}
use Rattle.world_cell.proofs.LockHolders.{legal_rows}
use Rattle.world_cell.proofs.LocksByCases.{noted_kept, Grows, case_grows}
use Rattle.world_cell.proofs.OwnSteps.{IsOwn, asks_own, beats_own, gives_own}
use Rattle.world_cell.proofs.WorldCases.{WorldCase, IsSweep, world_case}
use Rattle.world_cell.proofs.WorldCases.WorldCase.{ComesUp, Joins, Asks, Beats, Gives, Ticks, Takes, Sweeps, GoesDown, CutsSweep, CutsUp, LosesUp}

-- ---- rows of two points

-- neither nodes nor locks changed
record IsSame (old new : Rows) : Type 0 where
  nodes : new.nodes ≡ old.nodes
  locks : new.locks ≡ old.locks
  next : new.next_instance ≡ old.next_instance

abbrev Goes : (Rows → Rows → Type 0) → Rows → Rows → Type 0
Goes Tells old new = IsSame old new ⊎ Grows Tells old new

stays : (old new : Rows) → new ≡ old → IsSame old new
stays old new same = record { nodes = ap (λ (r : Rows). r.nodes) same; locks = ap (λ (r : Rows). r.locks) same; next = ap (λ (r : Rows). r.next_instance) same }

-- a node that is there at two points is there between them
module _ (Tells Told : Rows → Rows → Type 0) (here mid later : Rows) where
  known_between : (n : ℕ) → Grows Tells here mid → has_instance here.nodes n ≡ true → (has_instance mid.nodes n ≡ true) ⊎ (mid.next_instance ≤ n) → has_instance mid.nodes n ≡ true
  known_between n g has (inl there) = there
  known_between n g has (inr above) = let a = g.given n has in let b = g.next in absurd (omega arith)

  between : Goes Tells here mid → Goes Told mid later → (n : ℕ) → has_instance here.nodes n ≡ true → has_instance later.nodes n ≡ true → has_instance mid.nodes n ≡ true
  between (inl s) past n has has_then = ap (λ (ns : StoredNodes). has_instance ns n) s.nodes ∙ has
  between (inr g) (inl t) n has has_then = ap (λ (ns : StoredNodes). has_instance ns n) (sym t.nodes) ∙ has_then
  between (inr g) (inr h) n has has_then = known_between n g has (h.known n has_then)

-- ---- one point more

module _ (here mid later : Rows) where
  grows_then : Grows LetsNoneFall here mid → IsSame mid later → Grows LetsNoneFall here later
  grows_then g t = record {
    tells = λ n before behind was is. g.tells n before behind was (ap (λ (ns : StoredNodes). lock_generation_in ns n) (sym t.nodes) ∙ is);
    known = λ n has. g.known n (ap (λ (ns : StoredNodes). has_instance ns n) (sym t.nodes) ∙ has);
    given = g.given;
    next = let a = g.next in let b = t.next in omega arith;
    legal = λ n. ap (λ (ls : StoredLocks). are_together (locks_at ls n)) t.locks ∙ g.legal n;
  }

  known_from : (n : ℕ) → IsSame here mid → (has_instance mid.nodes n ≡ true) ⊎ (mid.next_instance ≤ n) → (has_instance here.nodes n ≡ true) ⊎ (here.next_instance ≤ n)
  known_from n s (inl there) = inl (ap (λ (ns : StoredNodes). has_instance ns n) (sym s.nodes) ∙ there)
  known_from n s (inr above) = inr (let a = s.next in omega arith)

  then_grows : IsSame here mid → Grows LetsNoneFall mid later → Grows LetsNoneFall here later
  then_grows s h = record {
    tells = λ n before behind was is. h.tells n before behind (ap (λ (ns : StoredNodes). lock_generation_in ns n) s.nodes ∙ was) is;
    known = λ n has. known_from n s (h.known n has);
    given = λ n has. let a = h.given n (ap (λ (ns : StoredNodes). has_instance ns n) s.nodes ∙ has) in let b = s.next in omega arith;
    next = let a = h.next in let b = s.next in omega arith;
    legal = h.legal;
  }

  known_first : (n : ℕ) → Grows LetsNoneFall here mid → (has_instance mid.nodes n ≡ true) ⊎ (mid.next_instance ≤ n) → (has_instance here.nodes n ≡ true) ⊎ (here.next_instance ≤ n)
  known_first n g (inl there) = g.known n there
  known_first n g (inr above) = inr (let a = g.next in omega arith)

  both_grow : Grows LetsNoneFall here mid → Grows LetsNoneFall mid later → Grows LetsNoneFall here later
  both_grow g h = record {
    tells = λ n before behind was is.
        let m = generation_of mid.nodes n (between LetsNoneFall LetsNoneFall here mid later (inr g) (inr h) n (has_of here.nodes n before was) (has_of later.nodes n behind is)) in
        let a = g.tells n before m.0 was m.1 in
        let b = h.tells n m.0 behind m.1 is in
        omega arith;
    known = λ n has. known_first n g (h.known n has);
    given = g.given;
    next = let a = g.next in let b = h.next in omega arith;
    legal = h.legal;
  }

  goes_on : Goes LetsNoneFall here mid → Goes LetsNoneFall mid later → Goes LetsNoneFall here later
  goes_on (inl s) (inl t) = inl (record { nodes = t.nodes ∙ s.nodes; locks = t.locks ∙ s.locks; next = t.next ∙ s.next })
  goes_on (inl s) (inr h) = inr (then_grows s h)
  goes_on (inr g) (inl t) = inr (grows_then g t)
  goes_on (inr g) (inr h) = inr (both_grow g h)

one_more : (before behind : ℕ) (b : Bool) → behind ≡ before + (if b then 1 else 0) → before ≤ behind
one_more before behind true h = omega (arith, h)
one_more before behind false h = omega (arith, h)

-- what a step counts doesn't fall
weaker : (old new : Rows) → Goes CountsHolds old new → Goes LetsNoneFall old new
weaker old new (inl s) = inl s
weaker old new (inr g) = inr (record {
  tells = λ n before behind was is. one_more before behind (begins_in old new n) (g.tells n before behind was is);
  known = g.known;
  given = g.given;
  next = g.next;
  legal = g.legal;
})

-- ---- a step

own_goes : (old new : WorldState) (printed : List Line) → IsOwn old new printed → Goes CountsHolds old.rows new.rows
own_goes old new printed o = inl (stays old.rows new.rows (ap (λ (w : WorldState). w.rows) o.is))

swept_goes : (old : WorldState) (step : Step) (new : WorldState) (printed : List Line) → Agrees old old.master → IsSweep old step new printed → Goes CountsHolds old.rows new.rows
swept_goes old step new printed agrees t =
    let s : MasterState = noted t.master old.clock in
    let k : IsKept old.cell old.rows s = noted_kept old.cell old.rows t.master old.clock (agrees_at old old.master t.master t.is_up agrees) in
    let P : Rows → Type 0 = Goes CountsHolds old.rows in
    subst P (sym (ap (λ (w : WorldState). w.rows) t.is)) (inr (case_grows old.cell old.rows s k t.case (case_kept old.cell old.rows s t.case k)))

case_goes : (old : WorldState) (step : Step) (new : WorldState) (printed : List Line) → Agrees old old.master → WorldCase old step new printed → Goes CountsHolds old.rows new.rows
case_goes old step new printed agrees (ComesUp u) = let P : WorldState → Type 0 = λ w. Goes CountsHolds old.rows w.rows in subst P (sym u.is) (inl (record { nodes = refl; locks = refl; next = refl }))
case_goes old step new printed agrees (Joins j) = inl (stays old.rows new.rows (ap (λ (w : WorldState). w.rows) j.is))
case_goes old step new printed agrees (Asks a) = own_goes old new printed (asks_own old step new printed a)
case_goes old step new printed agrees (Beats b) = own_goes old new printed (beats_own old step new printed b)
case_goes old step new printed agrees (Gives g) = own_goes old new printed (gives_own old step new printed g)
case_goes old step new printed agrees (Ticks t) = inl (stays old.rows new.rows (ap (λ (w : WorldState). w.rows) t.is))
case_goes old step new printed agrees (Takes t) = inl (stays old.rows new.rows (ap (λ (w : WorldState). w.rows) t.is))
case_goes old step new printed agrees (Sweeps t) = swept_goes old step new printed agrees t
case_goes old step new printed agrees (GoesDown d) = inl (stays old.rows new.rows (ap (λ (w : WorldState). w.rows) d.is))
case_goes old step new printed agrees (CutsSweep k) =
    let P : Rows → Type 0 = Goes CountsHolds old.rows in
    subst P (sym (ap (λ (w : WorldState). w.rows) k.is)) (swept_goes old steps.Sweep k.mid k.told agrees k.sweeps)
case_goes old step new printed agrees (CutsUp k) =
    let P : Rows → Type 0 = Goes CountsHolds old.rows in
    let up : new.rows ≡ _ = ap (λ (w : WorldState). w.rows) k.is ∙ ap (λ (w : WorldState). w.rows) k.comes.is in
    subst P (sym up) (inl (record { nodes = refl; locks = refl; next = refl }))
case_goes old step new printed agrees (LosesUp k) = inl (stays old.rows new.rows (ap (λ (w : WorldState). w.rows) k.is))

step_goes : (old : WorldView) (step : Step) (new : WorldView) (printed : List Line) → IsConsistent old.world → Does old step new printed → Goes CountsHolds old.world.rows new.world.rows
step_goes old step new printed h (inl m) = case_goes old.world step new.world printed h.master (world_case old.world step new.world printed h.master m.is_step)
step_goes old step new printed h (inr r) = inl (stays old.world.rows new.world.rows (ap (λ (w : WorldState). w.rows) r.left.same))

-- ---- a run

run_goes : (old : WorldView) (steps : List Step) (printed : List Line) (new : WorldView) → IsConsistent old.world → Run old steps printed new → Goes LetsNoneFall old.world.rows new.world.rows
run_goes old [] printed new h run = inl (stays old.world.rows new.world.rows (ap (λ (w : WorldView). w.world.rows) run.1))
run_goes old (step ∷ steps) printed new h run =
    goes_on old.world.rows run.0.world.rows new.world.rows (weaker old.world.rows run.0.world.rows (step_goes old step run.0 run.1 h run.3)) (run_goes run.0 steps run.2 new (does_holds old step run.0 run.1 h run.3) run.4)

-- from one point to a later one: no node came, went or changed, or each instance that is there was given out
abbrev pub IsGivenOut : Rows → Rows → Type 0
IsGivenOut here later = ((later.nodes ≡ here.nodes) × (later.next_instance ≡ here.next_instance)) ⊎ ((n : ℕ) → has_instance here.nodes n ≡ true → n < here.next_instance)

by_going : (here later : Rows) → Goes LetsNoneFall here later → IsGivenOut here later
by_going here later (inl s) = inl (s.nodes, s.next)
by_going here later (inr g) = inr g.given

pub given_out : (here : WorldView) (steps : List Step) (printed : List Line) (later : WorldView) → IsConsistent here.world → Run here steps printed later → IsGivenOut here.world.rows later.world.rows
given_out here steps printed later h run = by_going here.world.rows later.world.rows (run_goes here steps printed later h run)

same_some : (a b : ℕ) → ◌≡◌ {A = Option ℕ} (Some a) (Some b) → a ≡ b
same_some a b h = cc

goes_up : (here later : Rows) → Goes LetsNoneFall here later → LetsNoneFall here later
goes_up here later (inl s) n before behind was is =
    let same : before ≡ behind = same_some before behind (sym was ∙ ap (λ (ns : StoredNodes). lock_generation_in ns n) (sym s.nodes) ∙ is) in
    omega (arith, same)
goes_up here later (inr g) n before behind was is = g.tells n before behind was is

-- by a step that begins a hold the generation is one more
begins_more : (old new : Rows) (n before behind : ℕ) → Goes CountsHolds old new → begins_in old new n ≡ true → lock_generation_in old.nodes n ≡ Some before → lock_generation_in new.nodes n ≡ Some behind → behind ≡ before + 1
begins_more old new n before behind (inl s) begins was is =
    let P : StoredLocks → Type 0 = λ ls. begins_in old (record new { locks = ls }) n ≡ true in
    let here : P old.locks = subst P s.locks begins in
    let none = same_begin (locks_at old.locks n) in
    absurd cc
begins_more old new n before behind (inr g) begins was is = g.tells n before behind was is ∙ ap (λ (b : Bool). before + (if b then 1 else 0)) begins

rises_then : (first there later : Rows) (n lower higher : ℕ) → Goes LetsNoneFall first there → Goes CountsHolds there later → begins_in there later n ≡ true → lock_generation_in first.nodes n ≡ Some lower → lock_generation_in later.nodes n ≡ Some higher → lower < higher
rises_then first there later n lower higher onward past begins was is =
    let m = generation_of there.nodes n (between LetsNoneFall CountsHolds first there later onward past n (has_of first.nodes n lower was) (has_of later.nodes n higher is)) in
    let a = goes_up first there onward n lower m.0 was m.1 in
    let b = begins_more there later n m.0 higher past begins m.1 is in
    omega arith

-- one step that is run
one_goes : (old : WorldView) (step : Step) (new : WorldView) (printed : List Line) → IsConsistent old.world → Run old (step ∷ []) printed new → Goes CountsHolds old.world.rows new.world.rows
one_goes old step new printed h run =
    let P : WorldView → Type 0 = λ w. Goes CountsHolds old.world.rows w.world.rows in
    subst P (sym run.4.1) (step_goes old step run.0 run.1 h run.3)

pub run_generations : (old : WorldView) (steps : List Step) (new : WorldView) → IsConsistent old.world → NoGenerationTwice old steps new
run_generations old steps new h = record {
  falls = λ front part rest here later before told after is first next last.
      goes_up here.world.rows later.world.rows (run_goes here part told later (run_consistent old front before here h first) next);
  rises = λ front part rest one two here next there later before told after n lower higher is first begun onward second last.
      let k = run_consistent old front before here h first in
      let l = run_consistent here (one ∷ []) begun.told next k begun.run in
      let m = run_consistent next part told there l onward in
      rises_then next.world.rows there.world.rows later.world.rows n lower higher (run_goes next part told there l onward) (one_goes there two later second.told m second.run) second.begins begun.at second.at;
}

-- ---- legal locks

kept_legal : (cell : List ℕ) (rows : Rows) (s : MasterState) → IsKept cell rows s → AreLegalRows rows
kept_legal cell rows s k n = ap are_together (k.locks.rows_of_locks n) ∙ legal_rows n (lock_at s.locks n) (k.locks.each n).legal

goes_legal : (Tells : Rows → Rows → Type 0) (old new : Rows) → Goes Tells old new → AreLegalRows old → AreLegalRows new
goes_legal Tells old new (inl s) legal n = ap (λ (ls : StoredLocks). are_together (locks_at ls n)) s.locks ∙ legal n
goes_legal Tells old new (inr g) legal n = g.legal n

-- of sound rows
sound_is_legal : (cell : List ℕ) (rows : Rows) → sound cell rows ≡ true → AreLegalRows rows
sound_is_legal cell rows h n = (and_parts (list_all (row_fits rows n) (locks_at rows.locks n)) (are_together (locks_at rows.locks n)) (sound_legal cell rows n h)).1

-- of a master that is up
up_is_legal : (w : WorldState) → IsConsistent w → (m : Option MasterState) → w.master ≡ m → is_some m ≡ true → AreLegalRows w.rows
up_is_legal w h None up some = absurd cc
up_is_legal w h (Some s) up some = kept_legal w.cell w.rows s (agrees_at w w.master s up h.master)

-- by a step that raises the epoch a master comes up, whose rows are sound
abbrev IsRaised : WorldState → WorldState → Type 0
IsRaised old new = (new.rows.epoch ≡ old.rows.epoch) ⊎ AreLegalRows old.rows

same_epoch : (old new : WorldState) → new.rows ≡ old.rows → IsRaised old new
same_epoch old new same = inl (ap (λ (r : Rows). r.epoch) same)

case_raised : (old : WorldState) (step : Step) (new : WorldState) (printed : List Line) → WorldCase old step new printed → IsRaised old new
case_raised old step new printed (ComesUp u) = inr (sound_is_legal old.cell old.rows u.are_sound)
case_raised old step new printed (Joins j) = same_epoch old new (ap (λ (w : WorldState). w.rows) j.is)
case_raised old step new printed (Asks a) = same_epoch old new (ap (λ (w : WorldState). w.rows) (asks_own old step new printed a).is)
case_raised old step new printed (Beats b) = same_epoch old new (ap (λ (w : WorldState). w.rows) (beats_own old step new printed b).is)
case_raised old step new printed (Gives g) = same_epoch old new (ap (λ (w : WorldState). w.rows) (gives_own old step new printed g).is)
case_raised old step new printed (Ticks t) = same_epoch old new (ap (λ (w : WorldState). w.rows) t.is)
case_raised old step new printed (Takes t) = same_epoch old new (ap (λ (w : WorldState). w.rows) t.is)
case_raised old step new printed (Sweeps t) = inl (ap (λ (w : WorldState). w.rows.epoch) t.is ∙ swept_epoch old.rows (noted t.master old.clock) t.case)
case_raised old step new printed (GoesDown d) = same_epoch old new (ap (λ (w : WorldState). w.rows) d.is)
case_raised old step new printed (CutsSweep k) =
    inl (ap (λ (w : WorldState). w.rows.epoch) k.is ∙ ap (λ (w : WorldState). w.rows.epoch) k.sweeps.is ∙ swept_epoch old.rows (noted k.sweeps.master old.clock) k.sweeps.case)
case_raised old step new printed (CutsUp k) = inr (sound_is_legal old.cell old.rows k.comes.are_sound)
case_raised old step new printed (LosesUp k) = same_epoch old new (ap (λ (w : WorldState). w.rows) k.is)

step_raised : (old : WorldView) (step : Step) (new : WorldView) (printed : List Line) → IsConsistent old.world → Does old step new printed → IsRaised old.world new.world
step_raised old step new printed h (inl m) = case_raised old.world step new.world printed (world_case old.world step new.world printed h.master m.is_step)
step_raised old step new printed h (inr r) = same_epoch old.world new.world (ap (λ (w : WorldState). w.rows) r.left.same)

still_more : (mid old new : ℕ) → mid ≡ old → old < new → mid < new
still_more mid old new same more = omega (arith, same, more)

run_raised : (old : WorldView) (steps : List Step) (printed : List Line) (new : WorldView) → IsConsistent old.world → Run old steps printed new → old.world.rows.epoch < new.world.rows.epoch → AreLegalRows new.world.rows
run_raised old [] printed new h run more =
    let same : new.world.rows.epoch ≡ old.world.rows.epoch = ap (λ (v : WorldView). v.world.rows.epoch) run.1 in
    absurd (omega (arith, same, more))
run_raised old (step ∷ steps) printed new h run more =
    ⊎_elim (λ same. run_raised run.0 steps run.2 new (does_holds old step run.0 run.1 h run.3) run.4 (still_more run.0.world.rows.epoch old.world.rows.epoch new.world.rows.epoch same more))
    (λ legal. goes_legal LetsNoneFall old.world.rows new.world.rows (run_goes old (step ∷ steps) printed new h run) legal)
    (step_raised old step run.0 run.1 h run.3)

legal_then : (Tells : Rows → Rows → Type 0) (old new : WorldState) → IsConsistent old → IsConsistent new → Goes Tells old.rows new.rows → (old.rows.epoch < new.rows.epoch → AreLegalRows new.rows) → HasLegalLocks old new
legal_then Tells old new h k goes raised = record {
  master = λ s up n. ((agrees_at new new.master s up k.master).locks.each n).legal;
  stored = λ s up. kept_legal new.cell new.rows s (agrees_at new new.master s up k.master);
  same = λ s up. let kept = (agrees_at new new.master s up k.master).locks in (kept.generations, kept.rows_of_locks);
  left = λ were. ⊎_elim (goes_legal Tells old.rows new.rows goes) (λ others. ⊎_elim (λ some. goes_legal Tells old.rows new.rows goes (up_is_legal old h old.master refl some)) raised others) were;
}

pub run_legal : (old : WorldView) (steps : List Step) (printed : List Line) (new : WorldView) → IsConsistent old.world → Run old steps printed new → HasLegalLocks old.world new.world
run_legal old steps printed new h run =
    legal_then LetsNoneFall old.world new.world h (run_consistent old steps printed new h run) (run_goes old steps printed new h run) (run_raised old steps printed new h run)

-- ---- a step that may be refused

told_goes : (old new : WorldView) (step : Step) (r : Result (List Line) Fault) → (IsUndoubted old → IsConsistent old.world) → IfOk r (λ printed. WasMade old step new printed) → IfErr r (λ e. WasRefused old step new (lines.Refused e ∷ [])) → IsUndoubted new → Goes CountsHolds old.world.rows new.world.rows
told_goes old new step (Ok printed) fits made refused none =
    let rises = made_doubts old step new printed made in
    let sure : old.doubt ≡ 0 = omega arith in
    step_goes old step new printed (fits sure) (inl (made_sure old step new printed made none))
told_goes old new step (Err fault) fits made refused none =
    let rises = refused_doubts old step new (lines.Refused fault ∷ []) refused in
    let sure : old.doubt ≡ 0 = omega arith in
    step_goes old step new (lines.Refused fault ∷ []) (fits sure) (inr (refused_sure old step new (lines.Refused fault ∷ []) refused none))

told_sure : (old new : WorldView) (step : Step) (r : Result (List Line) Fault) → IfOk r (λ printed. WasMade old step new printed) → IfErr r (λ e. WasRefused old step new (lines.Refused e ∷ [])) → IsUndoubted new → old.doubt ≡ 0
told_sure old new step (Ok printed) made refused none = let rises = made_doubts old step new printed made in omega arith
told_sure old new step (Err fault) made refused none = let rises = refused_doubts old step new (lines.Refused fault ∷ []) refused in omega arith

told_raised : (old new : WorldView) (step : Step) (r : Result (List Line) Fault) → (IsUndoubted old → IsConsistent old.world) → IfOk r (λ printed. WasMade old step new printed) → IfErr r (λ e. WasRefused old step new (lines.Refused e ∷ [])) → IsUndoubted new → IsRaised old.world new.world
told_raised old new step (Ok printed) fits made refused none =
    let sure : old.doubt ≡ 0 = told_sure old new step (Ok printed) made refused none in
    step_raised old step new printed (fits sure) (inl (made_sure old step new printed made none))
told_raised old new step (Err fault) fits made refused none =
    let sure : old.doubt ≡ 0 = told_sure old new step (Err fault) made refused none in
    step_raised old step new (lines.Refused fault ∷ []) (fits sure) (inr (refused_sure old step new (lines.Refused fault ∷ []) refused none))

pub told_legal : (old new : WorldView) (step : Step) (r : Result (List Line) Fault) → (IsUndoubted old → IsConsistent old.world) → (IsUndoubted new → IsConsistent new.world) → IfOk r (λ printed. WasMade old step new printed) → IfErr r (λ e. WasRefused old step new (lines.Refused e ∷ [])) → IsUndoubted new → HasLegalLocks old.world new.world
told_legal old new step r fits fits_then made refused none =
    let sure : old.doubt ≡ 0 = told_sure old new step r made refused none in
    legal_then CountsHolds old.world new.world (fits sure) (fits_then none) (told_goes old new step r fits made refused none)
    (λ more. goes_legal CountsHolds old.world.rows new.world.rows (told_goes old new step r fits made refused none) (by_epoch (told_raised old new step r fits made refused none) more))
  where
    by_epoch : IsRaised old.world new.world → old.world.rows.epoch < new.world.rows.epoch → AreLegalRows old.world.rows
    by_epoch (inl same) more = absurd (omega (arith, same, more))
    by_epoch (inr legal) more = legal

same_counts : (old new : Rows) → Goes CountsHolds old new → CountsHolds old new
same_counts old new (inr g) n before behind was is = g.tells n before behind was is
same_counts old new (inl s) n before behind was is =
    let same : behind ≡ before = same_some behind before (sym is ∙ ap (λ (ns : StoredNodes). lock_generation_in ns n) s.nodes ∙ was) in
    let P : StoredLocks → Type 0 = λ ls. begins_in old (record new { locks = ls }) n ≡ false in
    let none : P new.locks = subst P (sym s.locks) (same_begin (locks_at old.locks n)) in
    same ∙ plus_none before (begins_in old new n) none
  where
    plus_none : (a : ℕ) (b : Bool) → b ≡ false → a ≡ a + (if b then 1 else 0)
    plus_none a true h = absurd cc
    plus_none a false h = omega arith

pub told_counts : (old new : WorldView) (step : Step) (r : Result (List Line) Fault) → (IsUndoubted old → IsConsistent old.world) → IfOk r (λ printed. WasMade old step new printed) → IfErr r (λ e. WasRefused old step new (lines.Refused e ∷ [])) → IsUndoubted new → CountsHolds old.world.rows new.world.rows
told_counts old new step r fits made refused none = same_counts old.world.rows new.world.rows (told_goes old new step r fits made refused none)
