-- Which messages came to their receivers, and the turns of `settle`.
use Rattle.std.proofs.Common.{◌≡◌, ◌≢◌, ℕ, zero, suc, ◌+◌, ◌-◌, ◌<◌, ◌≤◌, List, [], ◌∷◌, ◌++◌, length, Bool, true, false, Result, Ok, Err, Option, Some, None, refl, sym, ap, subst, arith, ◌∙◌, inl, inr}
use Rattle.std.specs.Prelude.{is_some, not, ◌&&◌, IfOk, IfErr, OnOk, OnErr}
use Rattle.std.specs.List.{slice_get, slice_set}
use Rattle.std.specs.Option.{unwrap_or}
use Rattle.std.proofs.lemmas.Option.{slice_get_within}
use Rattle.std.specs.Result.{IsErr, IsErrAnd}
use Rattle.node_core.specs.declared.refusals.Fault.{Fault}
use Rattle.node_core.specs.declared.refusals.Fault.TheVariants as faults
use Rattle.node_core.specs.declared.lines.Line.{Line}
use Rattle.node_core.specs.declared.lines.Line.TheVariants as lines
use Rattle.world_steps.specs.declared.mail.Message.{Message}
use Rattle.world_steps.specs.declared.steps.Step.{Step}
use Rattle.world_steps.specs.declared.steps.Step.TheVariants as steps
use Rattle.world_steps.specs.declared.parts.SweepResult.{SweepResult}
use Rattle.world_steps.specs.World.{WorldState, WorldView, world_step, world_sweep, without_quiet, step_edits, step_frees, IsStored, IsLeft, MayRefuseStep}
use Rattle.world_steps.specs.Made.{IsMade, WasMade, WasRefused}
use Rattle.world_cell.proofs.WereSent.{take_sent, give_sent}
use Rattle.world_cell.proofs.WorldCases.{step_sweeps}
use Rattle.scripts.specs.Settling.{Played, played, step_of, first_waiting, AreDelivered, IsFirst, marked, place_of, marked_at, PlaysMade, PlaysRefused, turn_step, is_waiting, is_quiet, is_idle}

-- ---- marks

pub delivered_within : (marks : List Bool) (count : ℕ) → AreDelivered count marks → count ≤ length marks
delivered_within marks zero h = omega arith
delivered_within [] (suc count) h = absurd h
delivered_within (mark ∷ marks) (suc count) h = let t = delivered_within marks count h.1 in omega arith

delivered_next : (marks : List Bool) (count : ℕ) → AreDelivered count marks → slice_get marks count ≡ Some true → AreDelivered (suc count) marks
delivered_next [] zero h k = cc
delivered_next (mark ∷ marks) zero h k = let e : mark ≡ true = cc in (e, tt)
delivered_next [] (suc count) h k = absurd h
delivered_next (mark ∷ marks) (suc count) h k = (h.0, delivered_next marks count h.1 k)

pub delivered_more : (marks : List Bool) (count : ℕ) → AreDelivered count marks → slice_get marks count ≡ Some true → AreDelivered (count + 1) marks
delivered_more marks count h k = let one : count + 1 ≡ suc count = omega arith in subst (λ n. AreDelivered n marks) (sym one) (delivered_next marks count h k)

-- what is delivered stays so
pub delivered_marked : (marks : List Bool) (count place : ℕ) → AreDelivered count marks → AreDelivered count (marked marks place)
delivered_marked marks zero place h = tt
delivered_marked [] (suc count) place h = absurd h
delivered_marked (mark ∷ marks) (suc count) zero h = (refl, h.1)
delivered_marked (mark ∷ marks) (suc count) (suc place) h = (h.0, delivered_marked marks count place h.1)

pub marked_past : (marks : List Bool) (place : ℕ) → length marks ≤ place → marked (marks ++ false ∷ []) place ≡ marked marks place
marked_past [] zero h = refl
marked_past [] (suc place) h = refl
marked_past (mark ∷ marks) zero h = absurd (omega arith)
marked_past (mark ∷ marks) (suc place) h = ap (λ l. mark ∷ l) (marked_past marks place (omega arith))

pub marked_set : (marks : List Bool) (place : ℕ) → place < length marks → slice_set marks place true ≡ marked marks place
marked_set [] place h = absurd (omega arith)
marked_set (mark ∷ marks) zero h = refl
marked_set (mark ∷ marks) (suc place) h = ap (λ l. mark ∷ l) (marked_set marks place (omega arith))

pub marked_end : (marks : List Bool) (place : ℕ) → length marks ≡ place → marked marks place ≡ marks ++ true ∷ []
marked_end [] zero h = refl
marked_end [] (suc place) h = absurd (omega arith)
marked_end (mark ∷ marks) zero h = absurd (omega arith)
marked_end (mark ∷ marks) (suc place) h = ap (λ l. mark ∷ l) (marked_end marks place (omega arith))

-- ---- the first message that waits

-- the message at a place, with the number of the list's first message
abbrev pub waiting_at : Option Message → ℕ → Option Step
waiting_at None number = None
waiting_at (Some message) number = Some (step_of message number)

from_place : (sent : List Message) (marks : List Bool) (place number : ℕ) → AreDelivered place marks → slice_get marks place ≢ Some true → first_waiting sent marks number ≡ waiting_at (slice_get sent place) (place + number)
from_place [] marks place number h k = refl
from_place (message ∷ rest) [] zero number h k = let none : 0 + number ≡ number = omega arith in ap (λ n. Some (step_of message n)) (sym none)
from_place (message ∷ rest) (true ∷ marks) zero number h k = absurd (k refl)
from_place (message ∷ rest) (false ∷ marks) zero number h k = let none : 0 + number ≡ number = omega arith in ap (λ n. Some (step_of message n)) (sym none)
from_place (message ∷ rest) [] (suc place) number h k = absurd h
from_place (message ∷ rest) (true ∷ marks) (suc place) number h k =
    let one : place + (number + 1) ≡ suc place + number = omega arith in
    from_place rest marks place (number + 1) h.1 k ∙ ap (waiting_at (slice_get rest place)) one
from_place (message ∷ rest) (false ∷ marks) (suc place) number h k = let e = h.0 in cc

-- the first place without a mark is that of the first message that came to nobody
pub first_place : (sent : List Message) (marks : List Bool) (place : ℕ) (o : Option Message) → IsFirst place marks → slice_get sent place ≡ o → first_waiting sent marks 1 ≡ waiting_at o (place + 1)
first_place sent marks place o h is = from_place sent marks place 1 h.before h.here ∙ ap (λ m. waiting_at m (place + 1)) is

pub none_first : IsFirst 0 []
none_first = record { before = tt; here = λ e. cc }

-- after the last mark
pub all_first : (marks : List Bool) (place : ℕ) → AreDelivered place marks → length marks ≤ place → IsFirst (length marks) marks
all_first marks place h past =
    let within = delivered_within marks place h in
    let same : place ≡ length marks = omega arith in
    subst (λ n. IsFirst n marks) same (record { before = h; here = λ e. let k = slice_get_within marks place true e in absurd (omega arith) })

pub still_delivered : (old new : List Bool) (count place : ℕ) → AreDelivered count old → new ≡ marked old place → AreDelivered count new
still_delivered old new count place h is = subst (λ m. AreDelivered count m) (sym is) (delivered_marked old count place h)

-- ---- a step

-- what is delivered was sent
was_sent : (w new : WorldState) (step : Step) (place : ℕ) (printed : List Line) → place_of step ≡ Some place → world_step w step ≡ Ok (new, printed) → place < length w.messages
was_sent w new (steps.Take number) place printed is h = let e : number - 1 ≡ place = cc in rw (← e) (take_sent w new number printed h)
was_sent w new (steps.Give number) place printed is h = let e : number - 1 ≡ place = cc in rw (← e) (give_sent w new number printed h)
was_sent w new _ place printed is h = cc

-- it is delivered to the world of before
made_so : (old new : WorldView) (step : Step) (place : ℕ) (printed : List Line) → place_of step ≡ Some place → WasMade old step new printed → world_step old.world step ≡ Ok (new.world, printed)
made_so old new (steps.Take number) place printed is h = (subst (λ w. IsMade w (steps.Take number) new printed) h.1 h.2).is_step
made_so old new (steps.Give number) place printed is h = (subst (λ w. IsMade w (steps.Give number) new printed) h.1 h.2).is_step
made_so old new _ place printed is h = cc

-- a step that delivers what wasn't sent isn't made
pub plays_unsent : (old new : WorldView) (step : Step) (place : ℕ) (marks : List Bool) (r : Result (List Line) Fault) → place_of step ≡ Some place → length old.world.messages ≤ place → IfOk r (λ printed. WasMade old step new printed) → IfOk r (λ printed. PlaysMade (played old marks) step (played new marks) printed)
plays_unsent old new step place marks (Ok printed) is none made =
    let sent = was_sent old.world new.world step place printed is (made_so old new step place printed is made) in
    absurd (omega arith)
plays_unsent old new step place marks (Err fault) is none made = tt

pub plays_other : (old new : WorldView) (step : Step) (marks : List Bool) (r : Result (List Line) Fault) → place_of step ≡ None → IfOk r (λ printed. WasMade old step new printed) → IfOk r (λ printed. PlaysMade (played old marks) step (played new marks) printed)
plays_other old new step marks (Ok printed) none made = record { made = made; delivered = ap (marked_at marks) (sym none) }
plays_other old new step marks (Err fault) none made = tt

pub plays_refused : (old new : WorldView) (step : Step) (marks : List Bool) (r : Result (List Line) Fault) → IfErr r (λ e. WasRefused old step new (lines.Refused e ∷ [])) → IfErr r (λ e. PlaysRefused (played old marks) step (played new marks) (lines.Refused e ∷ []))
plays_refused old new step marks (Ok printed) refused = tt
plays_refused old new step marks (Err e) refused = record { refused = refused; same = refl }

-- want of memory for a mark refuses the step
pub plays_want : (w : WorldView) (step : Step) (place : ℕ) (marks : List Bool) → place_of step ≡ Some place → PlaysRefused (played w marks) step (played w marks) (lines.Refused faults.NoMemory ∷ [])
plays_want w (steps.Take number) place marks is =
    record { refused = (w, refl, record { fault = faults.NoMemory; why = inr (refl, refl); left = record { same = refl; leave = refl; doubted = omega arith }; line = refl }); same = refl }
plays_want w (steps.Give number) place marks is =
    record { refused = (w, refl, record { fault = faults.NoMemory; why = inr (refl, refl); left = record { same = refl; leave = refl; doubted = omega arith }; line = refl }); same = refl }
plays_want w _ place marks is = cc

-- ---- turns

pub turn_at : (s : Played) (step : Step) → first_waiting s.view.world.messages s.delivered 1 ≡ Some step → turn_step s ≡ step
turn_at s step some = ap (λ o. unwrap_or o steps.Sweep) some

turn_sweeps : (s : Played) → first_waiting s.view.world.messages s.delivered 1 ≡ None → turn_step s ≡ steps.Sweep
turn_sweeps s none = ap (λ o. unwrap_or o steps.Sweep) none

pub swept_made : (old new : WorldView) (marks : List Bool) (r : Result SweepResult Fault) → first_waiting old.world.messages marks 1 ≡ None → IfOk r (λ turn. world_sweep old.world old.world.master ≡ Ok (new.world, turn)) → OnOk r (IsStored (step_frees old.world steps.Sweep) (step_edits old.world steps.Sweep) old new) → IfOk r (λ turn. PlaysMade (played old marks) (turn_step (played old marks)) (played new marks) turn.lines)
swept_made old new marks (Ok turn) none made stored =
    rw (turn_sweeps (played old marks) none) (record { made = (old, refl, record { typed = tt; is_step = step_sweeps old.world ∙ ap without_quiet made; stored = stored }); delivered = refl })
swept_made old new marks (Err fault) none made stored = tt

pub swept_quiet : (w : WorldView) (new : WorldState) (marks : List Bool) (r : Result SweepResult Fault) → first_waiting w.world.messages marks 1 ≡ None → IfOk r (λ turn. world_sweep w.world w.world.master ≡ Ok (new, turn)) → IfOk r (λ turn. turn.quiet ≡ is_idle (played w marks))
swept_quiet w new marks (Ok turn) none made = sym (ap (λ f. not (is_some f) && is_quiet (world_sweep w.world w.world.master)) none ∙ ap is_quiet made)
swept_quiet w new marks (Err fault) none made = tt

swept_why : (old new : WorldView) (fault : Fault) → MayRefuseStep (world_sweep old.world old.world.master) steps.Sweep fault old new → MayRefuseStep (world_step old.world steps.Sweep) steps.Sweep fault old new
swept_why old new fault (inl told) = inl (step_sweeps old.world ∙ ap without_quiet told.0, told.1)
swept_why old new fault (inr outside) = inr outside

pub swept_refused : (old new : WorldView) (marks : List Bool) (r : Result SweepResult Fault) → first_waiting old.world.messages marks 1 ≡ None → IfErr r (λ e. MayRefuseStep (world_sweep old.world old.world.master) steps.Sweep e old new) → OnErr r (IsLeft (step_frees old.world steps.Sweep) (step_edits old.world steps.Sweep) old new) → IfErr r (λ e. PlaysRefused (played old marks) (turn_step (played old marks)) (played new marks) (lines.Refused e ∷ []))
swept_refused old new marks (Ok turn) none why left = tt
swept_refused old new marks (Err fault) none why left =
    rw (turn_sweeps (played old marks) none) (record { refused = (old, refl, record { fault = fault; why = swept_why old new fault why; left = left; line = refl }); same = refl })

-- a message is delivered
pub turn_made : (old new : Played) (step : Step) (printed : List Line) → first_waiting old.view.world.messages old.delivered 1 ≡ Some step → PlaysMade old step new printed → PlaysMade old (turn_step old) new printed
turn_made old new step printed some made = rw (turn_at old step some) made

pub turn_busy : (s : Played) (step : Step) → first_waiting s.view.world.messages s.delivered 1 ≡ Some step → false ≡ is_idle s
turn_busy s step some = sym (ap (λ f. not (is_some f) && is_quiet (world_sweep s.view.world s.view.world.master)) some)

-- the exit of a `?`
pub turn_refused : (old new : Played) (step : Step) (r : Result SweepResult Fault) (fault : Fault) → IsErr r × IsErrAnd r (λ y. y ≡ fault) → first_waiting old.view.world.messages old.delivered 1 ≡ Some step → PlaysRefused old step new (lines.Refused fault ∷ []) → IfErr r (λ e. PlaysRefused old (turn_step old) new (lines.Refused e ∷ []))
turn_refused old new step (Ok turn) fault exit some refused = tt
turn_refused old new step (Err e) fault exit some refused =
    subst (λ x. PlaysRefused old (turn_step old) new (lines.Refused x ∷ [])) (sym exit.1) (rw (turn_at old step some) refused)
