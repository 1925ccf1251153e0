-- The points of a history are points of the run that goes along with it.
use Rattle.std.proofs.Common.{◌≡◌, List, [], ◌∷◌, ◌++◌, refl, sym, ap, ◌∙◌, subst, append_assoc}
use Rattle.node_core.specs.declared.lines.Line.{Line}
use Rattle.world_steps.specs.declared.steps.Step.{Step}
use Rattle.world_steps.specs.World.{WorldView}
use Rattle.world_cell.specs.Runs.{Run}
use Rattle.world_cell.proofs.ConsistentSteps.{new_holds}
use Rattle.world_cell.proofs.ClocksByRuns.{run_consistent}
use Rattle.world_cell.proofs.LawsOfRuns.{run_holds}
use Rattle.history_laws.specs.Parts.{Parts, nothing_yet}
use Rattle.history_laws.specs.Histories.{Entry, History}
use Rattle.history_laws.specs.Laws.{new_view, HoldsParts, GoesAlong, PrefixesArePoints}

-- ---- runs, one after the other

runs_append : (old mid new : WorldView) (first second : List Step) (printed told : List Line) → Run old first printed mid → Run mid second told new → Run old (first ++ second) (printed ++ told) new
runs_append old mid new [] second printed told one two = rw (sym one.1, one.0) two
runs_append old mid new (step ∷ first) second printed told one two =
    (one.0, one.1, one.2 ++ told, one.3, runs_append one.0 mid new first second one.2 told one.4 two, ap (λ l. l ++ told) one.5 ∙ append_assoc one.1 one.2 told)

-- ---- a run that goes along

holds_along : (w : WorldView) (steps : List Step) (new : WorldView) (p : Parts) (entries : List Entry) (printed : List Line) (end : Parts) (h : History p entries printed end) → GoesAlong w steps new p entries printed end h → HoldsParts w p
holds_along w steps new p [] printed end h along = along.0
holds_along w steps new p (entry ∷ entries) printed end h along = along.0

run_along : (w : WorldView) (steps : List Step) (new : WorldView) (p : Parts) (entries : List Entry) (printed : List Line) (end : Parts) (h : History p entries printed end) → GoesAlong w steps new p entries printed end h → Run w steps printed new
run_along w steps new p [] printed end h along = subst (λ (made : List Step). Run w made printed new) (sym along.1) (h.0, along.2)
run_along w steps new p (entry ∷ entries) printed end h along =
    let later = run_along along.3 along.2 new h.0 entries h.2 end h.4 along.7 in
    let all : Run w (along.1 ++ along.2) (h.1 ++ h.2) new = runs_append w along.3 new along.1 along.2 h.1 h.2 along.5 later in
    subst (λ (made : List Step). Run w made printed new) (sym along.4) (subst (λ (lines : List Line). Run w (along.1 ++ along.2) lines new) (sym h.5) all)

-- where a history is parted, so is its run
record Parted (w : WorldView) (steps : List Step) (new : WorldView) (p : Parts) (front rest : List Entry) (printed : List Line) (end : Parts) : Type 0 where
  here : Parts
  before : List Line
  after : List Line
  first : History p front before here
  later : History here rest after end
  lines : printed ≡ before ++ after
  made : List Step
  left : List Step
  at : WorldView
  is : steps ≡ made ++ left
  first_run : Run w made before at
  later_run : Run at left after new
  holds : HoldsParts at here

parted : (front rest : List Entry) (w : WorldView) (steps : List Step) (new : WorldView) (p : Parts) (printed : List Line) (end : Parts) (h : History p (front ++ rest) printed end) → GoesAlong w steps new p (front ++ rest) printed end h → Parted w steps new p front rest printed end
parted [] rest w steps new p printed end h along = record {
  here = p;
  before = [];
  after = printed;
  first = (refl, refl);
  later = h;
  lines = refl;
  made = [];
  left = steps;
  at = w;
  is = refl;
  first_run = (refl, refl);
  later_run = run_along w steps new p rest printed end h along;
  holds = holds_along w steps new p rest printed end h along;
}
parted (entry ∷ front) rest w steps new p printed end h along =
    let next = parted front rest along.3 along.2 new h.0 h.2 end h.4 along.7 in
    record {
      here = next.here;
      before = h.1 ++ next.before;
      after = next.after;
      first = (h.0, h.1, next.before, h.3, next.first, refl);
      later = next.later;
      lines = h.5 ∙ ap (λ (l : List Line). h.1 ++ l) next.lines ∙ sym (append_assoc h.1 next.before next.after);
      made = along.1 ++ next.made;
      left = next.left;
      at = next.at;
      is = along.4 ∙ ap (λ (l : List Step). along.1 ++ l) next.is ∙ sym (append_assoc along.1 next.made next.left);
      first_run = runs_append w along.3 next.at along.1 next.made h.1 next.before along.5 next.first_run;
      later_run = next.later_run;
      holds = next.holds;
    }

pub prefixes_are : PrefixesArePoints
prefixes_are cell rows terms front rest printed end range h is =
    let old = new_view cell rows terms in
    let at = parted front rest old is.steps is.new (nothing_yet cell rows terms) printed end h is.along in
    let fits = run_consistent old at.made at.before at.at (new_holds cell rows terms range) at.first_run in
    record {
      here = at.here;
      before = at.before;
      after = at.after;
      first = at.first;
      later = at.later;
      lines = at.lines;
      point = record {
        front = at.made;
        rest = at.left;
        at = at.at;
        is = at.is;
        first = at.first_run;
        later = at.later_run;
        holds = at.holds;
        laws = run_holds at.at at.left at.after is.new fits at.later_run;
      };
    }
