-- What the limits of a cell leave of it over whole runs.
use Rattle.std.proofs.Common.{◌≡◌, ℕ, List, [], ◌∷◌, length, Option, Some, None, refl, sym, ap, subst, ◌∙◌, inl, inr}
use Rattle.std.specs.Prelude.{max}
use Rattle.std.specs.Option.{option_map_or}
use Rattle.node_core.specs.Nodes.{Nodes}
use Rattle.node_core.specs.Room.{content_bytes}
use Rattle.node_core.specs.declared.lines.Line.{Line}
use Rattle.rows_cell.specs.declared.settings.Limits.{Limits}
use Rattle.rows_cell.specs.declared.settings.MasterTerms.{MasterTerms}
use Rattle.rows_cell.specs.declared.tables.Rows.{Rows}
use Rattle.rows_cell.specs.Rows.{changed_rows, map_of}
use Rattle.lock_core.specs.Locks.{LockTable}
use Rattle.lock_core.specs.Counted.{claim_count}
use Rattle.master_state.specs.State.{MasterState, master_of}
use Rattle.master_state.specs.Lookups.{noted}
use Rattle.cell_core.specs.Cases.{taken_by}
use Rattle.cell_core.specs.Room.{IsWithin}
use Rattle.cell_core.proofs.Within.{not_more}
use Rattle.over_core.specs.Kept.{IsKept, AreLockRows}
use Rattle.over_core.specs.SweepCase.{swept_by, swept_edits}
use Rattle.over_core.specs.Up.{up_edits}
use Rattle.over_core.proofs.KeptBySweeps.{case_kept}
use Rattle.over_core.proofs.KeptByTakes.{clock_kept}
use Rattle.over_core.proofs.Limited.{not_less, taken_same, within_once, case_within}
use Rattle.world_steps.specs.declared.steps.Step.{Step}
use Rattle.world_steps.specs.declared.steps.Step.TheVariants as steps
use Rattle.world_steps.specs.Made.{Does}
use Rattle.world_steps.specs.World.{WorldState, WorldView}
use Rattle.world_cell.specs.Consistent.{IsConsistent}
use Rattle.world_cell.specs.Limits.{locks_in, locks_of_client, StaysWithinLimits}
use Rattle.world_cell.specs.Runs.{Run}
use Rattle.world_cell.proofs.ConsistentSteps.{agrees_at, limits_at}
use Rattle.world_cell.proofs.OwnSteps.{IsOwn, asks_own, beats_own, gives_own}
use Rattle.world_cell.proofs.RowClaims.{up_counted, down_counted}
use Rattle.world_cell.proofs.StepsHold.{does_holds}
use Rattle.world_cell.proofs.WorldCases.{WorldCase, IsUp, IsSweep, swept_master, world_case}
use Rattle.world_cell.proofs.WorldCases.WorldCase.{ComesUp, Joins, Asks, Beats, Gives, Ticks, Takes, Sweeps, GoesDown, CutsSweep, CutsUp, LosesUp}

-- ---- what is counted

counted_up : (w : WorldState) (s : MasterState) (client : ℕ) → w.master ≡ Some s → locks_of_client client w ≡ claim_count client s.locks
counted_up w s client up = ap (λ (o : Option MasterState). option_map_or (λ (master : MasterState). claim_count client master.locks) o (locks_in client w.rows)) up

counted_down : (w : WorldState) (client : ℕ) → w.master ≡ None → locks_of_client client w ≡ locks_in client w.rows
counted_down w client down = ap (λ (o : Option MasterState). option_map_or (λ (master : MasterState). claim_count client master.locks) o (locks_in client w.rows)) down

-- the same of numbers that are those
between : (limit other : Option ℕ) (a b c d : ℕ) → limit ≡ other → c ≡ a → d ≡ b → IsWithin limit a b → IsWithin other c d
between limit other a b c d same first last h =
    let P : ℕ → Type 0 = λ n. IsWithin limit a n in
    let Q : ℕ → Type 0 = λ n. IsWithin limit n d in
    let R : Option ℕ → Type 0 = λ l. IsWithin l c d in
    subst R same (subst Q (sym first) (subst P (sym last) h))

same_nodes : (limit : Option ℕ) (old new : Rows) → map_of new ≡ map_of old → IsWithin limit (length (map_of old)) (length (map_of new))
same_nodes limit old new same = let P : Nodes → Type 0 = λ ns. IsWithin limit (length (map_of old)) (length ns) in subst P (sym same) (not_less limit (length (map_of old)))

same_bytes : (limit : Option ℕ) (old new : Rows) → map_of new ≡ map_of old → IsWithin limit (content_bytes (map_of old)) (content_bytes (map_of new))
same_bytes limit old new same = let P : Nodes → Type 0 = λ ns. IsWithin limit (content_bytes (map_of old)) (content_bytes ns) in subst P (sym same) (not_less limit (content_bytes (map_of old)))

-- the map is the same
by_locks : (old new : WorldState) → new.terms ≡ old.terms → map_of new.rows ≡ map_of old.rows → ((client : ℕ) → IsWithin old.terms.limits.max_locks (locks_of_client client old) (locks_of_client client new)) → StaysWithinLimits old new
by_locks old new terms same locks = record { terms = terms; nodes = same_nodes old.terms.limits.max_nodes old.rows new.rows same; bytes = same_bytes old.terms.limits.max_bytes old.rows new.rows same; locks = locks }

-- the rows and the master are
pub same_world : (old new : WorldState) → new.terms ≡ old.terms → new.rows ≡ old.rows → new.master ≡ old.master → StaysWithinLimits old new
same_world old new terms rows master =
    by_locks old new terms (ap map_of rows) (λ client.
    let same : locks_of_client client new ≡ locks_of_client client old =
    ap (λ (o : Option MasterState). option_map_or (λ (m : MasterState). claim_count client m.locks) o (locks_in client new.rows)) master
    ∙ ap (λ (r : Rows). option_map_or (λ (m : MasterState). claim_count client m.locks) old.master (locks_in client r)) rows in
    between old.terms.limits.max_locks old.terms.limits.max_locks (locks_of_client client old) (locks_of_client client old) (locks_of_client client old) (locks_of_client client new) refl refl same (not_less old.terms.limits.max_locks (locks_of_client client old)))

-- a master is gone, whose rows stand
left_world : (old new : WorldState) (s : MasterState) → old.master ≡ Some s → AreLockRows s.locks old.rows.locks → new.terms ≡ old.terms → new.rows ≡ old.rows → new.master ≡ None → StaysWithinLimits old new
left_world old new s up told terms rows none =
    by_locks old new terms (ap map_of rows) (λ client.
    let limit = old.terms.limits.max_locks in
    between limit limit (claim_count client s.locks) (locks_in client old.rows) (locks_of_client client old) (locks_of_client client new) refl (counted_up old s client up) (counted_down new client none ∙ ap (locks_in client) rows)
    (not_more limit (claim_count client s.locks) (locks_in client old.rows) (down_counted client old.rows s.locks told)))

goes_on : (old mid new : WorldState) → StaysWithinLimits old mid → StaysWithinLimits mid new → StaysWithinLimits old new
goes_on old mid new h k =
    let N : MasterTerms → Type 0 = λ t. IsWithin t.limits.max_nodes (length (map_of mid.rows)) (length (map_of new.rows)) in
    let B : MasterTerms → Type 0 = λ t. IsWithin t.limits.max_bytes (content_bytes (map_of mid.rows)) (content_bytes (map_of new.rows)) in
    let L : MasterTerms → Type 0 = λ t. (client : ℕ) → IsWithin t.limits.max_locks (locks_of_client client mid) (locks_of_client client new) in
    let limits = old.terms.limits in
    record {
      terms = k.terms ∙ h.terms;
      nodes = within_once limits.max_nodes (length (map_of old.rows)) (length (map_of mid.rows)) (length (map_of new.rows)) h.nodes (subst N h.terms k.nodes);
      bytes = within_once limits.max_bytes (content_bytes (map_of old.rows)) (content_bytes (map_of mid.rows)) (content_bytes (map_of new.rows)) h.bytes (subst B h.terms k.bytes);
      locks = λ client. within_once limits.max_locks (locks_of_client client old) (locks_of_client client mid) (locks_of_client client new) (h.locks client) ((subst L h.terms k.locks) client);
    }

-- ---- a master comes up

came_stays : (old : WorldState) (step : Step) (mid : WorldState) (told : List Line) → IsUp old step mid told → StaysWithinLimits old mid
came_stays old step mid told u =
    let rows : Rows = changed_rows old.rows (up_edits old.rows) in
    let limit = old.terms.limits.max_locks in
    subst (StaysWithinLimits old) (sym u.is)
    (by_locks old _ refl refl (λ client.
    let count = claim_count client (master_of rows old.terms u.now).locks in
    between limit limit (locks_in client old.rows) count (locks_of_client client old) count refl (counted_down old client u.none) refl (not_more limit (locks_in client old.rows) count (up_counted client rows u.now))))

-- ---- a master sweeps

module _ (old : WorldState) (h : IsConsistent old) (step : Step) (mid : WorldState) (told : List Line) (t : IsSweep old step mid told) where
  abbrev there : MasterState
  there = noted t.master old.clock

  abbrev after : MasterState
  after = (swept_by there t.case).0

  abbrev rows : Rows
  rows = changed_rows old.rows (swept_edits there t.case)

  kept : IsKept old.cell old.rows t.master
  kept = agrees_at old old.master t.master t.is_up h.master

  kept_there : IsKept old.cell old.rows there
  kept_there = clock_kept old.cell old.rows t.master (max t.master.clock old.clock) kept

  kept_after : IsKept old.cell rows after
  kept_after = case_kept old.cell old.rows there t.case kept_there

  limits : t.master.limits ≡ old.terms.limits
  limits = limits_at old.terms.limits old.master t.master t.is_up h.limits

  swept_stays : StaysWithinLimits old mid
  swept_stays =
      let w = case_within old.cell old.rows there kept_there t.case in
      subst (StaysWithinLimits old) (sym t.is) (record {
        terms = refl;
        nodes = between t.master.limits.max_nodes old.terms.limits.max_nodes (length t.master.nodes) (length after.nodes) (length (map_of old.rows)) (length (map_of rows)) (ap (λ (l : Limits). l.max_nodes) limits) (ap (λ (ns : Nodes). length ns) (sym kept.nodes)) (ap (λ (ns : Nodes). length ns) (sym kept_after.nodes)) w.nodes;
        bytes = between t.master.limits.max_bytes old.terms.limits.max_bytes (content_bytes t.master.nodes) (content_bytes after.nodes) (content_bytes (map_of old.rows)) (content_bytes (map_of rows)) (ap (λ (l : Limits). l.max_bytes) limits) (ap content_bytes (sym kept.nodes)) (ap content_bytes (sym kept_after.nodes)) w.bytes;
        locks = λ client. between t.master.limits.max_locks old.terms.limits.max_locks (claim_count client t.master.locks) (claim_count client after.locks) (locks_of_client client old) (claim_count client after.locks) (ap (λ (l : Limits). l.max_locks) limits) (counted_up old t.master client t.is_up) refl (w.locks client);
      })

  swept_up : mid.master ≡ Some (swept_master there t.case t.action)
  swept_up = ap (λ (w : WorldState). w.master) t.is

  swept_rows : AreLockRows (swept_master there t.case t.action).locks mid.rows.locks
  swept_rows = subst (λ (w : WorldState). AreLockRows (swept_master there t.case t.action).locks w.rows.locks) (sym t.is) kept_after.locks.rows_of_locks

-- ---- a step

own_stays : (old new : WorldState) (printed : List Line) → IsOwn old new printed → StaysWithinLimits old new
own_stays old new printed o = same_world old new (ap (λ (w : WorldState). w.terms) o.is) (ap (λ (w : WorldState). w.rows) o.is) (ap (λ (w : WorldState). w.master) o.is)

case_stays : (old : WorldState) (step : Step) (new : WorldState) (printed : List Line) → IsConsistent old → WorldCase old step new printed → StaysWithinLimits old new
case_stays old step new printed h (ComesUp u) = came_stays old step new printed u
case_stays old step new printed h (Joins j) = same_world old new (ap (λ (w : WorldState). w.terms) j.is) (ap (λ (w : WorldState). w.rows) j.is) (ap (λ (w : WorldState). w.master) j.is)
case_stays old step new printed h (Asks a) = own_stays old new printed (asks_own old step new printed a)
case_stays old step new printed h (Beats b) = own_stays old new printed (beats_own old step new printed b)
case_stays old step new printed h (Gives g) = own_stays old new printed (gives_own old step new printed g)
case_stays old step new printed h (Ticks t) = same_world old new (ap (λ (w : WorldState). w.terms) t.is) (ap (λ (w : WorldState). w.rows) t.is) (ap (λ (w : WorldState). w.master) t.is)
case_stays old step new printed h (Takes t) =
    let s = t.master in
    let same = taken_same (noted s old.clock) t.request t.case in
    let limit = old.terms.limits.max_locks in
    subst (StaysWithinLimits old) (sym t.is)
    (by_locks old _ refl refl (λ client.
    let count = claim_count client (taken_by (noted s old.clock) t.request t.case).0.locks in
    between limit limit (claim_count client s.locks) (claim_count client s.locks) (locks_of_client client old) count refl (counted_up old s client t.is_up) (ap (λ (ls : LockTable). claim_count client ls) same.2) (not_less limit (claim_count client s.locks))))
case_stays old step new printed h (Sweeps t) = swept_stays old h step new printed t
case_stays old step new printed h (GoesDown d) =
    left_world old new d.master d.is_up (agrees_at old old.master d.master d.is_up h.master).locks.rows_of_locks (ap (λ (w : WorldState). w.terms) d.is) (ap (λ (w : WorldState). w.rows) d.is) (ap (λ (w : WorldState). w.master) d.is)
case_stays old step new printed h (CutsSweep k) =
    let t = k.sweeps in
    let first = swept_stays old h steps.Sweep k.mid k.told t in
    goes_on old k.mid new first
    (left_world k.mid new (swept_master (noted t.master old.clock) t.case t.action) (swept_up old h steps.Sweep k.mid k.told t) (swept_rows old h steps.Sweep k.mid k.told t) (ap (λ (w : WorldState). w.terms) k.is ∙ sym first.terms) (ap (λ (w : WorldState). w.rows) k.is)
    (ap (λ (w : WorldState). w.master) k.is))
case_stays old step new printed h (CutsUp k) =
    let u = k.comes in
    let rows : new.rows ≡ changed_rows old.rows (up_edits old.rows) = ap (λ (w : WorldState). w.rows) k.is ∙ ap (λ (w : WorldState). w.rows) u.is in
    let down : new.master ≡ None = ap (λ (w : WorldState). w.master) k.is ∙ u.none in
    let limit = old.terms.limits.max_locks in
    by_locks old new (ap (λ (w : WorldState). w.terms) k.is) (ap map_of rows) (λ client.
    let count = locks_in client old.rows in
    between limit limit count count (locks_of_client client old) (locks_of_client client new) refl (counted_down old client u.none) (counted_down new client down ∙ ap (locks_in client) rows) (not_less limit count))
case_stays old step new printed h (LosesUp k) = same_world old new (ap (λ (w : WorldState). w.terms) k.is) (ap (λ (w : WorldState). w.rows) k.is) (ap (λ (w : WorldState). w.master) k.is)

step_stays : (old : WorldView) (step : Step) (new : WorldView) (printed : List Line) → IsConsistent old.world → Does old step new printed → StaysWithinLimits old.world new.world
step_stays old step new printed h (inl m) = case_stays old.world step new.world printed h (world_case old.world step new.world printed h.master m.is_step)
step_stays old step new printed h (inr r) = subst (StaysWithinLimits old.world) (sym r.left.same) (same_world old.world old.world refl refl refl)

-- ---- a run

pub run_stays : (old : WorldView) (steps : List Step) (printed : List Line) (new : WorldView) → IsConsistent old.world → Run old steps printed new → StaysWithinLimits old.world new.world
run_stays old [] printed new h run = subst (λ (v : WorldView). StaysWithinLimits old.world v.world) (sym run.1) (same_world old.world old.world refl refl refl)
run_stays old (step ∷ steps) printed new h run =
    goes_on old.world run.0.world new.world (step_stays old step run.0 run.1 h run.3) (run_stays run.0 steps run.2 new (does_holds old step run.0 run.1 h run.3) run.4)
