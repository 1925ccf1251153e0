-- What the printed lines tell of sessions.
use Rattle.std.proofs.Common.{◌≡◌, ℕ, ◌+◌, max, List, [], ◌∷◌, ◌++◌, Bool, true, false, cond, refl, sym, ap, ◌∙◌, inl, inr, subst, arith, map}
use Rattle.std.specs.Prelude.{◌==◌}
use Rattle.std.specs.Option.{option_map_or}
use Rattle.std.specs.Map.{lookup, keys_of}
use Rattle.std.specs.List.Sorted.{IsStrictlySortedBy}
use Rattle.std.specs.BTreeMap.{is_at}
use Rattle.std.specs.Ordering.{nat_cmp}
use Rattle.std.specs.Cmp.{nat_cmp_total}
use Rattle.std.proofs.lemmas.Bool.Decides.{nat_tests}
use Rattle.collections.proofs.OneKey.{lookup_put, lookup_put_apart, lookup_removed, lookup_removed_apart}
use Rattle.node_core.specs.declared.lines.Line.{Line}
use Rattle.node_core.specs.declared.lines.Line.TheVariants as lines
use Rattle.node_core.specs.declared.views.Mod.{Mod}
use Rattle.node_core.specs.declared.views.Mod.TheVariants.{Put, Gone}
use Rattle.rows_cell.specs.declared.tables.Rows.{Rows}
use Rattle.rows_cell.specs.declared.tables.SessionRow.{SessionRow}
use Rattle.rows_cell.specs.declared.tables.Edit.TheVariants.{NextInstance, PutSession, RemoveSession, EndedBelow}
use Rattle.rows_cell.specs.Rows.{changed_rows, edited}
use Rattle.rows_cell.specs.LockRows.{LockChange, locks_edits}
use Rattle.rows_cell.specs.Sound.{is_live_in}
use Rattle.rights_core.specs.Rights.{numbers_ending}
use Rattle.lock_core.specs.Turns.{reopened}
use Rattle.lock_core.specs.Locks.{lock_at}
use Rattle.master_state.specs.State.{MasterState}
use Rattle.master_state.specs.Lookups.{noted}
use Rattle.master_state.specs.Updates.{edit_of, retire_edits, lock_changes}
use Rattle.master_state.specs.Replies.{locked_line, locked_lines, puts_of}
use Rattle.cell_core.specs.Outcomes.{leave_lines, left_put}
use Rattle.master_state.specs.Lapses.{lapses_lines, lapses_of, lapses_puts, parting_lines}
use Rattle.rows_cell.proofs.EntriesInOrder.{sorted_put}
use Rattle.over_core.specs.Kept.{IsKept}
use Rattle.over_core.proofs.KeptBySweeps.{sessions_ordered}
use Rattle.over_core.proofs.Retired.{by_retiring, other_begins, dead_row}
use Rattle.over_core.specs.SweepCase.{SweepCase, swept_by, swept_edits, parting_edits}
use Rattle.over_core.specs.SweepCase.SweepCase.{Expires, Reopens, Tidied, Started as StartedFirst, Applied, Deleted, Locked, Awaited, Left, Departed}
use Rattle.world_steps.specs.declared.steps.Step.{Step}
use Rattle.world_steps.specs.World.{Agrees, WorldState, WorldView}
use Rattle.world_cell.proofs.ConsistentSteps.{agrees_at}
use Rattle.world_cell.proofs.LocksByCases.{noted_kept}
use Rattle.world_cell.proofs.StepsHold.{does_holds}
use Rattle.world_cell.specs.Consistent.{IsConsistent}
use Rattle.world_cell.specs.Runs.{Run, live_by, live_at}
use Rattle.world_steps.specs.Made.{Does}
use Rattle.world_cell.proofs.SilentLines.{IsSilentLine, IsSilent, quiet_silent}
use Rattle.world_cell.proofs.LockLines.{AreOfLocks, reopened_of_locks, left_of_locks, lapses_of_locks}
use Rattle.world_cell.proofs.RelockedRows.{let_go, relocked_rows}
use Rattle.world_cell.proofs.CutLines.{cut_lives}
use Rattle.world_cell.proofs.OnceByRuns.{taken_silent}
use Rattle.world_cell.proofs.WorldCases.{WorldCase, world_case}
use Rattle.world_cell.proofs.WorldCases.WorldCase.{ComesUp, Joins, Asks, Beats, Gives, Ticks, Takes, Sweeps, GoesDown, CutsSweep, CutsUp, LosesUp}
use Rattle.world_cell.proofs.OwnSteps.{IsOwn, own_silent, asks_own, beats_own, gives_own}
use Rattle.lock_core.specs.declared.partings.Parting.{Parting}
use Rattle.lock_core.specs.declared.partings.Parting.TheVariants as partings
use Rattle.master_state.specs.Partings.{right_line, ending_by}

-- a client's session is live in the new rows where the lines make it so
abbrev Tells : ℕ → Rows → Rows → List Line → Type 0
Tells client old new printed = is_live_in new client ≡ live_at client (is_live_in old client) printed

-- ---- lines

lives_more : (client : ℕ) (live : Bool) (xs ys : List Line) → live_at client live (xs ++ ys) ≡ live_at client (live_at client live xs) ys
lives_more client live [] ys = refl
lives_more client live (x ∷ xs) ys = lives_more client (live_by client live x) xs ys

-- ---- silent lines

line_lives : (client : ℕ) (live : Bool) (line : Line) → IsSilentLine line → live_by client live line ≡ live
line_lives client live (lines.Started whose) h = absurd h
line_lives client live (lines.Ended whose) h = absurd h
line_lives client live _ h = refl

silent_lives : (client : ℕ) (live : Bool) (printed : List Line) → IsSilent printed → live_at client live printed ≡ live
silent_lives client live [] h = refl
silent_lives client live (line ∷ rest) h = ap (λ b. live_at client b rest) (line_lives client live line h.0) ∙ silent_lives client live rest h.1

-- the end of a session tells of just that
pub parting_lives : (parting : Parting) (client : ℕ) (live : Bool) (numbers : List ℕ) (others : List Line) (whose : ℕ) → IsSilent others → live_at client live (map (right_line parting) numbers ++ others ++ lines.Ended whose ∷ []) ≡ cond (whose == client) false live
parting_lives parting client live [] others whose silent =
    lives_more client live others (lines.Ended whose ∷ []) ∙ ap (λ b. live_at client b (lines.Ended whose ∷ [])) (silent_lives client live others silent)
parting_lives partings.Expiry client live (number ∷ numbers) others whose silent = parting_lives partings.Expiry client live numbers others whose silent
parting_lives partings.Leave client live (number ∷ numbers) others whose silent = parting_lives partings.Leave client live numbers others whose silent

silent_tells : (client : ℕ) (old new : Rows) (printed : List Line) → IsSilent printed → new ≡ old → Tells client old new printed
silent_tells client old new printed silent same = ap (λ r. is_live_in r client) same ∙ sym (silent_lives client (is_live_in old client) printed silent)

-- ---- a step

is_same : (n m : ℕ) → (n == m) ≡ true → m ≡ n
is_same n m h = grind (arith, nat_tests)

is_other : (n m : ℕ) → (n == m) ≡ false → m ≡ n → ⊥
is_other n m h e = grind (arith, nat_tests)

-- one session is put
put_lives : (client whose : ℕ) (session : SessionRow) (rows : Rows) → is_live_in (edited rows (PutSession whose session)) client ≡ cond (whose == client) session.live (is_live_in rows client)
put_lives client whose session rows =
    (elim (whose == client) as (λ b. (whose == client) ≡ b → is_live_in (edited rows (PutSession whose session)) client ≡ cond b session.live (is_live_in rows client)) [
      | true ↦ (λ e.
          subst (λ n. is_live_in (edited rows (PutSession whose session)) n ≡ session.live) (sym (is_same whose client e))
          (ap (λ o. option_map_or (λ (x : SessionRow). x.live) o false) (lookup_put whose rows.sessions session)))
      | false ↦ (λ e. ap (λ o. option_map_or (λ (x : SessionRow). x.live) o false) (lookup_put_apart whose client (is_other whose client e) rows.sessions session))
    ]) refl

-- one that has ended goes
gone_lives : (client whose next : ℕ) (rows : Rows) → IsStrictlySortedBy nat_cmp (keys_of rows.sessions) → is_live_in rows whose ≡ false → is_live_in (changed_rows rows (RemoveSession whose ∷ EndedBelow next ∷ [])) client ≡ is_live_in rows client
gone_lives client whose next rows order dead =
    (elim (whose == client) as (λ b. (whose == client) ≡ b → is_live_in (changed_rows rows (RemoveSession whose ∷ EndedBelow next ∷ [])) client ≡ is_live_in rows client) [
      | true ↦ (λ e.
          subst (λ n. is_live_in (changed_rows rows (RemoveSession whose ∷ EndedBelow next ∷ [])) n ≡ is_live_in rows n) (sym (is_same whose client e))
          (ap (λ o. option_map_or (λ (x : SessionRow). x.live) o false) (lookup_removed whose rows.sessions order) ∙ sym dead))
      | false ↦ (λ e. ap (λ o. option_map_or (λ (x : SessionRow). x.live) o false) (lookup_removed_apart whose client (is_other whose client e) rows.sessions))
    ]) refl

mod_lives : (client : ℕ) (rows : Rows) (change : Mod) (next : ℕ) → is_live_in (changed_rows rows (edit_of change ∷ NextInstance next ∷ [])) client ≡ is_live_in rows client
mod_lives client rows (Put name view) next = refl
mod_lives client rows (Gone name) next = refl

by_row : (client : ℕ) (rows new : Rows) → new.sessions ≡ rows.sessions → is_live_in new client ≡ is_live_in rows client
by_row client rows new same = ap (λ es. option_map_or (λ (x : SessionRow). x.live) (lookup (is_at (nat_cmp client)) es) false) same

-- of locks no line tells of a session
relocked_tells : (client : ℕ) (rows : Rows) (changes : List LockChange) (printed : List Line) → AreOfLocks printed → Tells client rows (changed_rows rows (locks_edits changes)) printed
relocked_tells client rows changes printed of_locks =
    by_row client rows (changed_rows rows (locks_edits changes)) (relocked_rows rows changes).sessions ∙ sym (silent_lives client (is_live_in rows client) printed (quiet_silent printed of_locks.quiet))

parting_tells : (parting : Parting) (client : ℕ) (rows : Rows) (changes : List LockChange) (whose : ℕ) (principal : List ℕ) (numbers : List ℕ) (others : List Line) → AreOfLocks others
    → Tells client rows (changed_rows rows (locks_edits changes ++ PutSession whose (record { principal = principal; live = false }) ∷ [])) (map (right_line parting) numbers ++ others ++ lines.Ended whose ∷ [])
parting_tells parting client rows changes whose principal numbers others of_locks =
    let stored : SessionRow = record { principal = principal; live = false } in
    by_row client (edited rows (PutSession whose stored)) (changed_rows rows (locks_edits changes ++ PutSession whose stored ∷ [])) (let_go rows changes whose stored).sessions ∙ put_lives client whose stored rows
    ∙ sym (parting_lives parting client (is_live_in rows client) numbers others whose (quiet_silent others of_locks.quiet))

-- by its time or by its client
ended_tells : (parting : Parting) (client : ℕ) (rows : Rows) (s : MasterState) (whose : ℕ) (principal : List ℕ) → Tells client rows (changed_rows rows (parting_edits parting s whose principal)) (parting_lines parting s whose (lapses_of parting s whose))
ended_tells parting client rows s whose principal =
    parting_tells parting client rows (lock_changes s (lapses_puts s (lapses_of parting s whose))) whose principal (numbers_ending whose (ending_by parting) s.rights) (lapses_lines parting whose (lapses_of parting s whose)) (lapses_of_locks parting whose (lapses_of parting s whose))

pub swept_tells : (client : ℕ) (cell : List ℕ) (rows : Rows) (s : MasterState) → IsKept cell rows s → (c : SweepCase s) → Tells client rows (changed_rows rows (swept_edits s c)) (swept_by s c).1.lines
swept_tells client cell rows s k (Expires whose session due) = ended_tells partings.Expiry client rows s whose session.principal
swept_tells client cell rows s k (Departed front back asked call sequencer session turn work leave found live) = ended_tells partings.Leave client rows s asked.client session.principal
swept_tells client cell rows s k (Reopens instance due) =
    let turn = reopened (lock_at s.locks instance) in
    relocked_tells client rows (lock_changes s (puts_of s instance turn.lock)) (lines.Reopened instance ∷ locked_lines instance turn) (reopened_of_locks instance turn)
swept_tells client cell rows s k (StartedFirst front back asked principal received turn work none) =
    let row : SessionRow = record { principal = principal; live = true } in
    let put : Rows = edited rows (PutSession asked.client row) in
    let begun = put_lives client asked.client row rows in
    by_retiring s (λ gone. Tells client rows (changed_rows rows (PutSession asked.client row ∷ retire_edits s.ended_below gone)) (lines.Started asked.client ∷ [])) begun
    (λ q gone. gone_lives client q (max s.ended_below (q + 1)) put (sorted_put nat_cmp nat_cmp_total rows.sessions asked.client row k.sessions_in_order)
    (ap (λ o. option_map_or (λ (x : SessionRow). x.live) o false) (lookup_put_apart asked.client q (other_begins s q asked.client gone none.0) rows.sessions row) ∙ dead_row cell rows s q gone.session gone.found gone.ended (sessions_ordered cell rows s k) k)
    ∙ begun)
swept_tells client cell rows s k (Applied front back asked call sequencer _ change answer turn work stays live made) = mod_lives client rows change.change change.next_instance
swept_tells client cell rows s k (Deleted front back asked call sequencer change instance waiters answer turn work stays live made) = mod_lives client rows change.change change.next_instance
swept_tells client cell rows s k (Tidied front back idle turn still) = mod_lives client rows (Gone idle.name) s.next_instance
swept_tells client cell rows s k (Locked front back asked call sequencer put claim answer turn work stays live made) =
    relocked_tells client rows (lock_changes s (put ∷ [])) (locked_line put.instance put.lock.generation claim ∷ []) (record { quiet = (tt, tt, tt); others = (tt, tt); kept = refl })
swept_tells client cell rows s k (Awaited front back asked call sequencer put turn work stays live made) = relocked_tells client rows (lock_changes s (put ∷ [])) [] (record { quiet = tt; others = tt; kept = refl })
swept_tells client cell rows s k (Left front back asked call sequencer _ leave answer turn work stays live made) =
    relocked_tells client rows (lock_changes s (left_put leave ∷ [])) (leave_lines asked.client leave) (left_of_locks asked.client leave)
swept_tells client cell rows s k _ = refl

own_tells : (client : ℕ) (old new : WorldState) (printed : List Line) → IsOwn old new printed → Tells client old.rows new.rows printed
own_tells client old new printed o = silent_tells client old.rows new.rows printed (own_silent old new printed o) (ap (λ (w : WorldState). w.rows) o.is)

case_tells : (client : ℕ) (old : WorldState) (step : Step) (new : WorldState) (printed : List Line) → Agrees old old.master → WorldCase old step new printed → Tells client old.rows new.rows printed
case_tells client old step new printed agrees (ComesUp u) = rw (u.tells, u.is) refl
case_tells client old step new printed agrees (Joins j) = silent_tells client old.rows new.rows printed (rw j.tells tt) (rw j.is refl)
case_tells client old step new printed agrees (Asks a) = own_tells client old new printed (asks_own old step new printed a)
case_tells client old step new printed agrees (Beats b) = own_tells client old new printed (beats_own old step new printed b)
case_tells client old step new printed agrees (Gives g) = own_tells client old new printed (gives_own old step new printed g)
case_tells client old step new printed agrees (Ticks t) = silent_tells client old.rows new.rows printed (rw t.tells tt) (rw t.is refl)
case_tells client old step new printed agrees (Takes t) =
    silent_tells client old.rows new.rows printed (rw t.tells (taken_silent (noted t.master old.clock) t.request t.case)) (rw t.is refl)
case_tells client old step new printed agrees (Sweeps t) = rw (t.tells, t.is) (swept_tells client old.cell old.rows (noted t.master old.clock) (noted_kept old.cell old.rows t.master old.clock (agrees_at old old.master t.master t.is_up agrees)) t.case)
case_tells client old step new printed agrees (GoesDown d) = silent_tells client old.rows new.rows printed (rw d.tells (tt, tt)) (rw d.is refl)
case_tells client old step new printed agrees (CutsSweep k) =
    let t = k.sweeps in
    let h : Tells client old.rows k.mid.rows k.told = rw (t.tells, t.is) (swept_tells client old.cell old.rows (noted t.master old.clock) (noted_kept old.cell old.rows t.master old.clock (agrees_at old old.master t.master t.is_up agrees)) t.case) in
    rw (k.tells, k.is) (h ∙ sym (cut_lives client (is_live_in old.rows client) k.told))
case_tells client old step new printed agrees (CutsUp k) = let u = k.comes in rw (k.tells, k.is, u.tells, u.is) refl
case_tells client old step new printed agrees (LosesUp k) = silent_tells client old.rows new.rows printed (rw k.tells (tt, tt)) (rw k.is refl)

step_tells : (client : ℕ) (old : WorldView) (step : Step) (new : WorldView) (printed : List Line) → IsConsistent old.world → Does old step new printed → Tells client old.world.rows new.world.rows printed
step_tells client old step new printed h (inl m) = case_tells client old.world step new.world printed h.master (world_case old.world step new.world printed h.master m.is_step)
step_tells client old step new printed h (inr r) = silent_tells client old.world.rows new.world.rows printed (rw r.line (tt, tt)) (ap (λ (w : WorldState). w.rows) r.left.same)

-- ---- a run

-- whether a client's session is live is what the lines tell
pub run_lives : (client : ℕ) (old : WorldView) (steps : List Step) (printed : List Line) (new : WorldView) → IsConsistent old.world → Run old steps printed new → is_live_in new.world.rows client ≡ live_at client (is_live_in old.world.rows client) printed
run_lives client old [] printed new h run = rw (run.0, run.1) refl
run_lives client old (step ∷ steps) printed new h run =
    let first = step_tells client old step run.0 run.1 h run.3 in
    let others = run_lives client run.0 steps run.2 new (does_holds old step run.0 run.1 h run.3) run.4 in
    rw run.5 (others ∙ ap (λ b. live_at client b run.2) first ∙ sym (lives_more client (is_live_in old.world.rows client) run.1 run.2))
