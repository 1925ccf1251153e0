-- Why clocks are fair between any two points of a master's life.
use Rattle.std.proofs.Common.{◌≡◌, ℕ, ◌+◌, ◌*◌, ◌-◌, ◌≤◌, List, [], ◌∷◌, sym, ◌∙◌, inl, inr, arith, subst}
use Rattle.node_core.specs.declared.lines.Line.{Line}
use Rattle.world_steps.specs.declared.steps.Step.{Step}
use Rattle.world_steps.specs.declared.members.WorldClient.{WorldClient}
use Rattle.world_steps.specs.World.{WorldState, WorldView}
use Rattle.world_cell.specs.Consistent.{IsConsistent}
use Rattle.world_cell.specs.Runs.{Run, AreFairClocks, KeepsClocksFair}
use Rattle.world_steps.specs.Made.{Does}
use Rattle.world_cell.proofs.MembersFound.{le_of, some_same}
use Rattle.world_cell.proofs.WorldCases.{world_case}
use Rattle.world_cell.proofs.StepsHold.{does_holds}
use Rattle.world_cell.proofs.ConsistentSteps.{HasLater, Later, case_later, agrees_at, fair_at}

no_more : (a b : ℕ) → 16 * a + 17 * b ≤ 16 * a + 17 * b
no_more a b = omega arith

-- what was grows on, and the lead at the point of the least isn't more than it was
begins : (w : WorldState) → Later w w
begins w = record {
  clients = λ client member is. record {
    next = member;
    there = is;
    calls = omega arith;
    leaves = λ was. was;
    clock = omega arith;
    lead = λ same. no_more member.least_now member.least_clock;
  };
  epoch = omega arith;
  clock = λ same. omega arith;
}

-- an epoch between two that are the same is the same too
between : (a b c : ℕ) → a ≤ b → b ≤ c → c ≡ a → (b ≡ a) × (c ≡ b)
between a b c h k e = (omega arith, omega arith)

goes_on : (here mid later : WorldState) (client : ℕ) (member : WorldClient) → Later here mid → Later mid later → HasLater here mid client member → HasLater here later client member
goes_on here mid later client member first past x =
    let y = past.clients client x.next x.there in
    let more = x.calls in
    let more_then = y.calls in
    let onward = x.clock in
    let onward_then = y.clock in
    record {
      next = y.next;
      there = y.there;
      calls = omega arith;
      leaves = λ was. y.leaves (x.leaves was);
      clock = omega arith;
      lead = λ same.
          let e = between here.rows.epoch mid.rows.epoch later.rows.epoch first.epoch past.epoch same in
          let lead = x.lead e.0 in
          let lead_then = y.lead e.1 in
          omega arith;
    }

later_on : (here mid later : WorldState) → Later here mid → Later mid later → Later here later
later_on here mid later first past =
    let epoch = first.epoch in
    let epoch_then = past.epoch in
    record {
      clients = λ client member is. goes_on here mid later client member first past (first.clients client member is);
      epoch = omega arith;
      clock = λ same.
          let e = between here.rows.epoch mid.rows.epoch later.rows.epoch first.epoch past.epoch same in
          let clock = first.clock e.0 in
          let clock_then = past.clock e.1 in
          omega arith;
    }

does_later : (old : WorldView) (step : Step) (new : WorldView) (printed : List Line) → IsConsistent old.world → Does old step new printed → Later old.world new.world
does_later old step new printed h (inl m) = case_later old.world step new.world printed h (world_case old.world step new.world printed h.master m.is_step)
does_later old step new printed h (inr r) = subst (λ (w : WorldState). Later old.world w) (sym r.left.same) (begins old.world)

run_later : (old : WorldView) (steps : List Step) (printed : List Line) (new : WorldView) → IsConsistent old.world → Run old steps printed new → Later old.world new.world
run_later old [] printed new h run = subst (λ (v : WorldView). Later old.world v.world) (sym run.1) (begins old.world)
run_later old (step ∷ steps) printed new h run =
    later_on old.world run.0.world new.world (does_later old step run.0 run.1 h run.3) (run_later run.0 steps run.2 new (does_holds old step run.0 run.1 h run.3) run.4)

pub run_consistent : (old : WorldView) (steps : List Step) (printed : List Line) (new : WorldView) → IsConsistent old.world → Run old steps printed new → IsConsistent new.world
run_consistent old [] printed new h run = subst (λ (v : WorldView). IsConsistent v.world) (sym run.1) h
run_consistent old (step ∷ steps) printed new h run = run_consistent run.0 steps run.2 new (does_holds old step run.0 run.1 h run.3) run.4

-- by how much the clocks move between two points, by how far ahead the master's is past, and was at least
moved_fair : (now past own own_then least_now least_own ln lo : ℕ) → now ≤ past → own ≤ own_then → 16 * least_now + 17 * own ≤ 16 * now + 17 * least_own → 16 * ln + 17 * least_own ≤ 16 * least_now + 17 * lo → 16 * past + 17 * lo ≤ 16 * ln + 17 * own_then + 17 → 16 * (past - now) ≤ 17 * ((own_then - own) + 1)
moved_fair now past own own_then least_now least_own ln lo a b c d e = omega arith

fair_between : (here later : WorldState) → IsConsistent here → IsConsistent later → Later here later → AreFairClocks here later
fair_between here later h k l master successor up up_then same number member moved is is_then =
    let epoch : later.rows.epoch ≡ here.rows.epoch =
    sym (agrees_at later later.master successor up_then k.master).epoch ∙ same ∙ (agrees_at here here.master master up h.master).epoch in
    let x = l.clients number member is in
    let next : x.next ≡ moved = some_same x.next moved (sym x.there ∙ is_then) in
    let began = fair_at here here.master master up h.fair number member is in
    let ended = fair_at later later.master successor up_then k.fair number moved is_then in
    moved_fair here.clock later.clock member.clock moved.clock member.least_now member.least_clock moved.least_now moved.least_clock (l.clock epoch)
    (subst (λ (y : WorldClient). member.clock ≤ y.clock) next x.clock) began.least
    (subst (λ (y : WorldClient). 16 * y.least_now + 17 * member.least_clock ≤ 16 * member.least_now + 17 * y.least_clock) next (x.lead epoch))
    (le_of (16 * later.clock + 17 * moved.least_clock) (16 * moved.least_now + 17 * moved.clock + 17) ended.fair)

-- from each point of a run to its end
pub run_fair : (old : WorldView) (steps : List Step) (new : WorldView) → IsConsistent old.world → KeepsClocksFair old steps new
run_fair old steps new h front rest here before after is first past =
    let k = run_consistent old front before here h first in
    fair_between here.world new.world k (run_consistent here rest after new k past) (run_later here rest after new k past)
