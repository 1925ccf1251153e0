-- Who gets and who loses a lock by each step of a run, and what is printed of it.
use Rattle.std.proofs.Common.{◌≡◌, ℕ, List, [], ◌∷◌, ◌++◌, Bool, true, false, Option, Some, None, refl, sym, ap, subst, ◌∙◌, inl, inr, map}
use Rattle.std.specs.Prelude.{◌⊎◌}
use Rattle.node_core.specs.declared.lines.Line.{Line}
use Rattle.node_core.specs.declared.lines.Line.TheVariants as lines
use Rattle.node_core.specs.declared.views.Mod.TheVariants.{Gone}
use Rattle.rows_cell.specs.declared.keys.LockKey.{LockKey}
use Rattle.rows_cell.specs.declared.tables.Rows.{Rows}
use Rattle.rows_cell.specs.Rows.{changed_rows}
use Rattle.gate_core.specs.declared.pending.Waiting.{Waiting}
use Rattle.tags_cell.specs.Handles.{read_handle}
use Rattle.master_parts.specs.Calls.{bytes_of}
use Rattle.master_parts.specs.Locks.{holder_key, holder_row}
use Rattle.master_parts.specs.declared.pending.Task.{Task}
use Rattle.master_parts.specs.declared.pending.Task.TheVariants as tasks
use Rattle.master_state.specs.State.{MasterState}
use Rattle.master_state.specs.Lookups.{noted}
use Rattle.over_core.specs.Kept.{IsKept}
use Rattle.over_core.specs.SweepCase.{swept_by, swept_edits}
use Rattle.over_core.proofs.KeptBySweeps.{case_kept}
use Rattle.world_steps.specs.declared.steps.Step.{Step}
use Rattle.world_steps.specs.declared.steps.Step.TheVariants as steps
use Rattle.world_steps.specs.Made.{Does}
use Rattle.world_steps.specs.World.{WorldState, WorldView, Agrees, is_of_commit}
use Rattle.world_cell.specs.Consistent.{IsConsistent}
use Rattle.world_cell.specs.HolderSteps.{is_held, GotLock, LostLock, TellsOfHolders, StepsTellOfHolders}
use Rattle.world_cell.specs.Runs.{Run}
use Rattle.world_cell.proofs.ClocksByRuns.{run_consistent}
use Rattle.world_cell.proofs.ConsistentSteps.{agrees_at}
use Rattle.world_cell.proofs.CutLines.{cut_lines}
use Rattle.world_cell.proofs.HolderSweeps.{IsGot, IsLetGo, IsGoing, IsLost, owner_at, case_keys}
use Rattle.world_cell.proofs.HolderTurns.{IsAmong, both_ways, among_left, among_filter, among_contains}
use Rattle.world_cell.proofs.LocksByCases.{noted_kept}
use Rattle.world_cell.proofs.OwnSteps.{IsOwn, asks_own, beats_own, gives_own}
use Rattle.world_cell.proofs.WorldCases.{WorldCase, IsSweep, world_case}
use Rattle.world_cell.proofs.WorldCases.WorldCase.{ComesUp, Joins, Asks, Beats, Gives, Ticks, Takes, Sweeps, GoesDown, CutsSweep, CutsUp, LosesUp}

-- ---- nothing changes of locks

same_holders : (old : WorldState) (printed : List Line) (new : WorldState) → ((key : LockKey) → is_held new.rows key ≡ is_held old.rows key) → TellsOfHolders old printed new
same_holders old printed new same = record {
  gets = λ key none some. absurd (both_ways (is_held old.rows key) none (sym (same key) ∙ some));
  loses = λ key some none. absurd (both_ways (is_held old.rows key) (sym (same key) ∙ none) some);
}

same_rows : (old : WorldState) (printed : List Line) (new : WorldState) → new.rows ≡ old.rows → TellsOfHolders old printed new
same_rows old printed new same = same_holders old printed new (λ key. ap (λ (r : Rows). is_held r key) same)

-- ---- a sweep, whole or cut

-- what stands among some lines stands among others
abbrev Stays : List Line → List Line → Type 0
Stays xs ys = (line : Line) → is_of_commit line ≡ true → IsAmong line xs → IsAmong line ys

module _ (old : WorldState) (s master : MasterState) (up : old.master ≡ Some master) (is : s ≡ noted master old.clock) (xs ys : List Line) (stays : Stays xs ys) (key : LockKey) where
  got_law : (new : Rows) → IsGot new xs key → GotLock new ys key
  got_law new h = record {
    mode = h.hold.mode;
    generation = h.generation;
    row = holder_row h.hold;
    found = h.found;
    in_mode = refl;
    counted = h.counted;
    told = among_contains (lines.Locked key.client key.instance h.hold.mode h.generation) ys (stays (lines.Locked key.client key.instance h.hold.mode h.generation) refl h.told);
  }

  lost_law : IsLost s old.rows xs key.instance (owner_at key) → LostLock old ys key
  lost_law (inl h) = inl (record {
    master = master;
    is_up = up;
    asked = h.asked;
    waited =
        let P : MasterState → Type 0 = λ m. IsAmong (tasks.Asked h.asked) (map (λ (w : Waiting Task). w.change.body) m.gate.waiting) in
        let stood : P (noted master old.clock) = subst P is h.waited in
        among_contains (tasks.Asked h.asked) (map (λ (w : Waiting Task). w.change.body) master.gate.waiting) stood;
    call = h.call;
    sequencer = h.sequencer;
    work = h.work;
    lets = h.lets;
    handle = h.handle;
    reads = ap (λ (m : MasterState). read_handle m.secret (bytes_of h.call)) (sym is) ∙ h.reads;
    own = λ j. holder_key (h.instance j) (h.own j);
    told = among_contains (lines.Freed key.client key.instance) ys (stays (lines.Freed key.client key.instance) refl h.told);
  })
  lost_law (inr (inl h)) = inr (inl (among_contains (lines.Ended key.client) ys (stays (lines.Ended key.client) refl h)))
  lost_law (inr (inr h)) = inr (inr (record {
    client = h.client;
    number = h.number;
    name = h.name;
    names = h.names;
    told = among_contains (lines.Applied h.client h.number (Gone h.name) h.names) ys (stays (lines.Applied h.client h.number (Gone h.name) h.names) refl h.told);
    at = h.found;
  }))

swept_law : (old : WorldState) (step : Step) (new : WorldState) (told : List Line) (printed : List Line) (later : WorldState) → Agrees old old.master → IsSweep old step new told → later.rows ≡ new.rows → Stays told printed → TellsOfHolders old printed later
swept_law old step new told printed later agrees t same stays =
    let s : MasterState = noted t.master old.clock in
    let k : IsKept old.cell old.rows s = noted_kept old.cell old.rows t.master old.clock (agrees_at old old.master t.master t.is_up agrees) in
    let rows : Rows = changed_rows old.rows (swept_edits s t.case) in
    let now : later.rows ≡ rows = same ∙ ap (λ (w : WorldState). w.rows) t.is in
    let all : Stays (swept_by s t.case).1.lines printed = λ line of_commit among. stays line of_commit (let P : List Line → Type 0 = IsAmong line in subst P (sym t.tells) among) in
    let each = case_keys old.cell old.rows s k t.case (case_kept old.cell old.rows s t.case k) in
    record {
      gets = λ key none some.
          let P : Rows → Type 0 = λ r. GotLock r printed key in
          subst P (sym now) (got_law old s t.master t.is_up refl (swept_by s t.case).1.lines printed all key rows ((each key).0 none (ap (λ (r : Rows). is_held r key) (sym now) ∙ some)));
      loses = λ key some none. lost_law old s t.master t.is_up refl (swept_by s t.case).1.lines printed all key ((each key).1 some (ap (λ (r : Rows). is_held r key) (sym now) ∙ none));
    }

-- ---- a step

own_law : (old new : WorldState) (printed : List Line) → IsOwn old new printed → TellsOfHolders old printed new
own_law old new printed o = same_rows old printed new (ap (λ (w : WorldState). w.rows) o.is)

case_law : (old : WorldState) (step : Step) (new : WorldState) (printed : List Line) → Agrees old old.master → WorldCase old step new printed → TellsOfHolders old printed new
case_law old step new printed agrees (ComesUp u) = same_holders old printed new (λ key. ap (λ (w : WorldState). is_held w.rows key) u.is)
case_law old step new printed agrees (Joins j) = same_rows old printed new (ap (λ (w : WorldState). w.rows) j.is)
case_law old step new printed agrees (Asks a) = own_law old new printed (asks_own old step new printed a)
case_law old step new printed agrees (Beats b) = own_law old new printed (beats_own old step new printed b)
case_law old step new printed agrees (Gives g) = own_law old new printed (gives_own old step new printed g)
case_law old step new printed agrees (Ticks t) = same_rows old printed new (ap (λ (w : WorldState). w.rows) t.is)
case_law old step new printed agrees (Takes t) = same_rows old printed new (ap (λ (w : WorldState). w.rows) t.is)
case_law old step new printed agrees (Sweeps t) = swept_law old step new printed printed new agrees t refl (λ line of_commit among. among)
case_law old step new printed agrees (GoesDown d) = same_rows old printed new (ap (λ (w : WorldState). w.rows) d.is)
case_law old step new printed agrees (CutsSweep k) =
    swept_law old steps.Sweep k.mid k.told printed new agrees k.sweeps (ap (λ (w : WorldState). w.rows) k.is)
    (λ line of_commit among. let P : List Line → Type 0 = IsAmong line in subst P (sym k.tells) (among_left line _ (lines.Down ∷ []) (among_filter is_of_commit line k.told of_commit among)))
case_law old step new printed agrees (CutsUp k) =
    same_holders old printed new (λ key. ap (λ (w : WorldState). is_held w.rows key) k.is ∙ ap (λ (w : WorldState). is_held w.rows key) k.comes.is)
case_law old step new printed agrees (LosesUp k) = same_rows old printed new (ap (λ (w : WorldState). w.rows) k.is)

step_law : (old : WorldView) (step : Step) (new : WorldView) (printed : List Line) → IsConsistent old.world → Does old step new printed → TellsOfHolders old.world printed new.world
step_law old step new printed h (inl m) = case_law old.world step new.world printed h.master (world_case old.world step new.world printed h.master m.is_step)
step_law old step new printed h (inr r) = same_rows old.world printed new.world (ap (λ (w : WorldState). w.rows) r.left.same)

-- ---- a run

pub run_holders : (old : WorldView) (made : List Step) (new : WorldView) → IsConsistent old.world → StepsTellOfHolders old made new
run_holders old made new h front rest step here next before printed after is first does last = step_law here step next printed (run_consistent old front before here h first) does
