-- What the printed lines tell of the rows.
use Rattle.std.proofs.Common.{◌≡◌, ℕ, Some, None, List, [], ◌∷◌, ◌++◌, true, false, refl, sym, ap, ◌∙◌, inl, inr, map}
use Rattle.node_core.specs.declared.lines.Line.{Line}
use Rattle.node_core.specs.declared.lines.Line.TheVariants as lines
use Rattle.node_core.specs.declared.views.Mod.{Mod}
use Rattle.node_core.specs.declared.views.Mod.TheVariants.{Put, Gone}
use Rattle.node_core.specs.Nodes.{Nodes}
use Rattle.rows_cell.specs.declared.tables.Rows.{Rows}
use Rattle.rows_cell.specs.declared.tables.SessionRow.{SessionRow}
use Rattle.rows_cell.specs.declared.tables.Edit.TheVariants.{NextInstance, PutSession}
use Rattle.rows_cell.specs.LockRows.{LockChange, locks_edits}
use Rattle.rows_cell.specs.Rows.{changed_rows, map_of}
use Rattle.rows_cell.proofs.RowNodes.{nodes_put, nodes_gone}
use Rattle.rights_core.specs.Rights.{numbers_ending}
use Rattle.lock_core.specs.Turns.{reopened}
use Rattle.lock_core.specs.Locks.{lock_at}
use Rattle.master_state.specs.State.{MasterState}
use Rattle.master_state.specs.Lookups.{retiring, noted}
use Rattle.master_state.specs.Updates.{edit_of, retire_edits, lock_changes}
use Rattle.master_state.specs.Replies.{locked_line, locked_lines, puts_of}
use Rattle.cell_core.specs.Outcomes.{put_listing, leave_lines, left_put}
use Rattle.master_state.specs.Lapses.{lapses_lines, lapses_of, lapses_puts, parting_lines}
use Rattle.over_core.specs.SweepCase.{SweepCase, swept_by, swept_edits, parting_edits}
use Rattle.over_core.specs.SweepCase.SweepCase.{Expires, Reopens, Tidied, Started, Applied, Deleted, Locked, Awaited, Left, Departed}
use Rattle.world_steps.specs.declared.steps.Step.{Step}
use Rattle.world_steps.specs.World.{WorldState, WorldView}
use Rattle.world_cell.specs.Consistent.{IsConsistent}
use Rattle.world_cell.specs.Runs.{Run, map_by, map_at, epoch_by, epoch_at}
use Rattle.world_steps.specs.Made.{Does}
use Rattle.world_cell.proofs.SilentLines.{IsSilentLine, IsSilent, quiet_silent}
use Rattle.world_cell.proofs.LockLines.{AreOfLocks, reopened_of_locks, left_of_locks, lapses_of_locks}
use Rattle.world_cell.proofs.RelockedRows.{let_go, relocked_rows}
use Rattle.world_cell.proofs.CutLines.{cut_map, cut_epoch}
use Rattle.world_cell.proofs.OnceByRuns.{taken_silent}
use Rattle.world_cell.proofs.StepsHold.{does_holds}
use Rattle.world_cell.proofs.WorldCases.{WorldCase, world_case}
use Rattle.world_cell.proofs.WorldCases.WorldCase.{ComesUp, Joins, Asks, Beats, Gives, Ticks, Takes, Sweeps, GoesDown, CutsSweep, CutsUp, LosesUp}
use Rattle.world_cell.proofs.OwnSteps.{IsOwn, own_silent, asks_own, beats_own, gives_own}
use Rattle.lock_core.specs.declared.partings.Parting.{Parting}
use Rattle.lock_core.specs.declared.partings.Parting.TheVariants as partings
use Rattle.master_state.specs.Partings.{right_line, ending_by}

-- the new rows are those that the lines make of the former ones
pub record Tells (old new : Rows) (printed : List Line) : Type 0 where
  pub is_map : map_of new ≡ map_at (map_of old) printed
  pub is_epoch : new.epoch ≡ epoch_at old.epoch printed

-- ---- lines

pub map_more : (nodes : Nodes) (xs ys : List Line) → map_at nodes (xs ++ ys) ≡ map_at (map_at nodes xs) ys
map_more nodes [] ys = refl
map_more nodes (x ∷ xs) ys = map_more (map_by nodes x) xs ys

pub epoch_more : (epoch : ℕ) (xs ys : List Line) → epoch_at epoch (xs ++ ys) ≡ epoch_at (epoch_at epoch xs) ys
epoch_more epoch [] ys = refl
epoch_more epoch (x ∷ xs) ys = epoch_more (epoch_by epoch x) xs ys

-- ---- silent lines

line_map : (nodes : Nodes) (line : Line) → IsSilentLine line → map_by nodes line ≡ nodes
line_map nodes (lines.Applied client number change names) h = absurd h
line_map nodes _ h = refl

line_epoch : (epoch : ℕ) (line : Line) → IsSilentLine line → epoch_by epoch line ≡ epoch
line_epoch epoch (lines.Up next) h = absurd h
line_epoch epoch _ h = refl

silent_map : (nodes : Nodes) (printed : List Line) → IsSilent printed → map_at nodes printed ≡ nodes
silent_map nodes [] h = refl
silent_map nodes (line ∷ rest) h = ap (λ n. map_at n rest) (line_map nodes line h.0) ∙ silent_map nodes rest h.1

silent_epoch : (epoch : ℕ) (printed : List Line) → IsSilent printed → epoch_at epoch printed ≡ epoch
silent_epoch epoch [] h = refl
silent_epoch epoch (line ∷ rest) h = ap (λ e. epoch_at e rest) (line_epoch epoch line h.0) ∙ silent_epoch epoch rest h.1

-- the end of a session tells of no change and of no master
parting_map : (parting : Parting) (nodes : Nodes) (numbers : List ℕ) (others : List Line) (whose : ℕ) → IsSilent others → map_at nodes (map (right_line parting) numbers ++ others ++ lines.Ended whose ∷ []) ≡ nodes
parting_map parting nodes [] others whose silent = map_more nodes others (lines.Ended whose ∷ []) ∙ silent_map nodes others silent
parting_map partings.Expiry nodes (number ∷ numbers) others whose silent = parting_map partings.Expiry nodes numbers others whose silent
parting_map partings.Leave nodes (number ∷ numbers) others whose silent = parting_map partings.Leave nodes numbers others whose silent

parting_epoch : (parting : Parting) (epoch : ℕ) (numbers : List ℕ) (others : List Line) (whose : ℕ) → IsSilent others → epoch_at epoch (map (right_line parting) numbers ++ others ++ lines.Ended whose ∷ []) ≡ epoch
parting_epoch parting epoch [] others whose silent = epoch_more epoch others (lines.Ended whose ∷ []) ∙ silent_epoch epoch others silent
parting_epoch partings.Expiry epoch (number ∷ numbers) others whose silent = parting_epoch partings.Expiry epoch numbers others whose silent
parting_epoch partings.Leave epoch (number ∷ numbers) others whose silent = parting_epoch partings.Leave epoch numbers others whose silent

silent_tells : (old new : Rows) (printed : List Line) → IsSilent printed → new ≡ old → Tells old new printed
silent_tells old new printed silent same = record {
  is_map = ap (λ r. map_of r) same ∙ sym (silent_map (map_of old) printed silent);
  is_epoch = ap (λ r. r.epoch) same ∙ sym (silent_epoch old.epoch printed silent);
}

-- ---- a step

mod_tells : (rows : Rows) (client number : ℕ) (change : Mod) (names : List (List ℕ)) (next : ℕ) → Tells rows (changed_rows rows (edit_of change ∷ NextInstance next ∷ [])) (lines.Applied client number change names ∷ [])
mod_tells rows client number (Put name view) names next = record { is_map = nodes_put rows.nodes name view; is_epoch = refl }
mod_tells rows client number (Gone name) names next = record { is_map = nodes_gone rows.nodes name; is_epoch = refl }

-- of locks no line tells of the map
relocked_tells : (rows : Rows) (changes : List LockChange) (printed : List Line) → AreOfLocks printed → Tells rows (changed_rows rows (locks_edits changes)) printed
relocked_tells rows changes printed of_locks =
    let r = relocked_rows rows changes in
    let silent = quiet_silent printed of_locks.quiet in
    record { is_map = r.beside.map ∙ sym (silent_map (map_of rows) printed silent); is_epoch = r.beside.epoch ∙ sym (silent_epoch rows.epoch printed silent) }

parting_tells : (parting : Parting) (rows : Rows) (changes : List LockChange) (client : ℕ) (row : SessionRow) (numbers : List ℕ) (others : List Line) → AreOfLocks others
    → Tells rows (changed_rows rows (locks_edits changes ++ PutSession client row ∷ [])) (map (right_line parting) numbers ++ others ++ lines.Ended client ∷ [])
parting_tells parting rows changes client row numbers others of_locks =
    let r = let_go rows changes client row in
    let silent = quiet_silent others of_locks.quiet in
    record { is_map = r.beside.map ∙ sym (parting_map parting (map_of rows) numbers others client silent); is_epoch = r.beside.epoch ∙ sym (parting_epoch parting rows.epoch numbers others client silent) }

-- the end of a session, by its time or by its client
ended_tells : (parting : Parting) (rows : Rows) (s : MasterState) (client : ℕ) (principal : List ℕ) → Tells rows (changed_rows rows (parting_edits parting s client principal)) (parting_lines parting s client (lapses_of parting s client))
ended_tells parting rows s client principal =
    parting_tells parting rows (lock_changes s (lapses_puts s (lapses_of parting s client))) client (record { principal = principal; live = false }) (numbers_ending client (ending_by parting) s.rights) (lapses_lines parting client (lapses_of parting s client)) (lapses_of_locks parting client (lapses_of parting s client))

-- what a sweep commits is what it prints
swept_tells : (rows : Rows) (s : MasterState) (c : SweepCase s) → Tells rows (changed_rows rows (swept_edits s c)) (swept_by s c).1.lines
swept_tells rows s (Expires client session due) = ended_tells partings.Expiry rows s client session.principal
swept_tells rows s (Departed front back asked call sequencer session turn work leave found live) = ended_tells partings.Leave rows s asked.client session.principal
swept_tells rows s (Reopens instance due) =
    let turn = reopened (lock_at s.locks instance) in
    relocked_tells rows (lock_changes s (puts_of s instance turn.lock)) (lines.Reopened instance ∷ locked_lines instance turn) (reopened_of_locks instance turn)
swept_tells rows s (Applied front back asked call sequencer _ change answer turn work stays live made) = mod_tells rows asked.client asked.number change.change (put_listing s.nodes change.change) change.next_instance
swept_tells rows s (Deleted front back asked call sequencer change instance waiters answer turn work stays live made) = mod_tells rows asked.client asked.number change.change (put_listing s.nodes change.change) change.next_instance
swept_tells rows s (Tidied front back idle turn still) = mod_tells rows 0 0 (Gone idle.name) [] s.next_instance
swept_tells rows s (Locked front back asked call sequencer put claim answer turn work stays live made) =
    relocked_tells rows (lock_changes s (put ∷ [])) (locked_line put.instance put.lock.generation claim ∷ []) (record { quiet = (tt, tt, tt); others = (tt, tt); kept = refl })
swept_tells rows s (Awaited front back asked call sequencer put turn work stays live made) = relocked_tells rows (lock_changes s (put ∷ [])) [] (record { quiet = tt; others = tt; kept = refl })
swept_tells rows s (Left front back asked call sequencer _ leave answer turn work stays live made) =
    relocked_tells rows (lock_changes s (left_put leave ∷ [])) (leave_lines asked.client leave) (left_of_locks asked.client leave)
swept_tells rows s (Started front back asked principal received turn work none) =
    elim (retiring s) as (λ gone. Tells rows (changed_rows rows (PutSession asked.client (record { principal = principal; live = true }) ∷ retire_edits s.ended_below gone)) (lines.Started asked.client ∷ [])) [
      | None ↦ record { is_map = refl; is_epoch = refl }
      | Some client ↦ record { is_map = refl; is_epoch = refl }
    ]
swept_tells rows s _ = record { is_map = refl; is_epoch = refl }

own_tells : (old new : WorldState) (printed : List Line) → IsOwn old new printed → Tells old.rows new.rows printed
own_tells old new printed o = silent_tells old.rows new.rows printed (own_silent old new printed o) (ap (λ (w : WorldState). w.rows) o.is)

case_tells : (old : WorldState) (step : Step) (new : WorldState) (printed : List Line) → WorldCase old step new printed → Tells old.rows new.rows printed
case_tells old step new printed (ComesUp u) = rw (u.tells, u.is) (record { is_map = refl; is_epoch = refl })
case_tells old step new printed (Joins j) = silent_tells old.rows new.rows printed (rw j.tells tt) (rw j.is refl)
case_tells old step new printed (Asks a) = own_tells old new printed (asks_own old step new printed a)
case_tells old step new printed (Beats b) = own_tells old new printed (beats_own old step new printed b)
case_tells old step new printed (Gives g) = own_tells old new printed (gives_own old step new printed g)
case_tells old step new printed (Ticks t) = silent_tells old.rows new.rows printed (rw t.tells tt) (rw t.is refl)
case_tells old step new printed (Takes t) =
    silent_tells old.rows new.rows printed (rw t.tells (taken_silent (noted t.master old.clock) t.request t.case)) (rw t.is refl)
case_tells old step new printed (Sweeps t) = rw (t.tells, t.is) (swept_tells old.rows (noted t.master old.clock) t.case)
case_tells old step new printed (GoesDown d) = silent_tells old.rows new.rows printed (rw d.tells (tt, tt)) (rw d.is refl)
case_tells old step new printed (CutsSweep k) =
    let t = k.sweeps in
    let h : Tells old.rows k.mid.rows k.told = rw (t.tells, t.is) (swept_tells old.rows (noted t.master old.clock) t.case) in
    rw (k.tells, k.is) (record { is_map = h.is_map ∙ sym (cut_map (map_of old.rows) k.told); is_epoch = h.is_epoch ∙ sym (cut_epoch old.rows.epoch k.told) })
case_tells old step new printed (CutsUp k) = let u = k.comes in rw (k.tells, k.is, u.tells, u.is) (record { is_map = refl; is_epoch = refl })
case_tells old step new printed (LosesUp k) = silent_tells old.rows new.rows printed (rw k.tells (tt, tt)) (rw k.is refl)

pub step_tells : (old : WorldView) (step : Step) (new : WorldView) (printed : List Line) → IsConsistent old.world → Does old step new printed → Tells old.world.rows new.world.rows printed
step_tells old step new printed h (inl m) = case_tells old.world step new.world printed (world_case old.world step new.world printed h.master m.is_step)
step_tells old step new printed h (inr r) = silent_tells old.world.rows new.world.rows printed (rw r.line (tt, tt)) (ap (λ (w : WorldState). w.rows) r.left.same)

-- ---- a run

tells_more : (old mid new : Rows) (xs ys : List Line) → Tells old mid xs → Tells mid new ys → Tells old new (xs ++ ys)
tells_more old mid new xs ys h k = record {
  is_map = k.is_map ∙ ap (λ n. map_at n ys) h.is_map ∙ sym (map_more (map_of old) xs ys);
  is_epoch = k.is_epoch ∙ ap (λ e. epoch_at e ys) h.is_epoch ∙ sym (epoch_more old.epoch xs ys);
}

pub run_tells : (old : WorldView) (steps : List Step) (printed : List Line) (new : WorldView) → IsConsistent old.world → Run old steps printed new → Tells old.world.rows new.world.rows printed
run_tells old [] printed new h run = rw (run.0, run.1) (record { is_map = refl; is_epoch = refl })
run_tells old (step ∷ steps) printed new h run =
    rw run.5 (tells_more old.world.rows run.0.world.rows new.world.rows run.1 run.2 (step_tells old step run.0 run.1 h run.3) (run_tells run.0 steps run.2 new (does_holds old step run.0 run.1 h run.3) run.4))
