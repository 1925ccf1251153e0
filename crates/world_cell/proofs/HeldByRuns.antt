-- What the printed lines tell of locks, over whole runs.
use Rattle.std.proofs.Common.{◌≡◌, ℕ, List, [], ◌∷◌, ◌++◌, Option, Some, None, Result, Ok, Err, refl, sym, ap, subst, ◌∙◌, inl, inr, map}
use Rattle.std.specs.Prelude.{fold, filter}
use Rattle.node_core.specs.declared.kinds.LockMode.{LockMode}
use Rattle.node_core.specs.declared.lines.Line.{Line}
use Rattle.node_core.specs.declared.lines.Line.TheVariants as lines
use Rattle.node_core.specs.declared.refusals.Fault.{Fault}
use Rattle.rights_core.specs.declared.grants.Grant.{Grant}
use Rattle.rights_core.specs.declared.grants.Grant.TheVariants as grants
use Rattle.rights_core.specs.Rights.{grant_answer, numbers_ending}
use Rattle.rows_cell.specs.declared.tables.Rows.{Rows}
use Rattle.rows_cell.specs.Rows.{changed_rows}
use Rattle.tags_cell.specs.declared.messages.requests.Request.{Request}
use Rattle.tags_cell.specs.declared.messages.outs.Reply.{Reply}
use Rattle.master_state.specs.State.{MasterState}
use Rattle.master_state.specs.Lookups.{granted_lines, acknowledgement, repeated_reply, noted}
use Rattle.master_state.specs.Updates.{with_note}
use Rattle.cell_core.specs.Cases.{TakeCase, taken_by}
use Rattle.cell_core.specs.Cases.TakeCase.{StartRefused, OldBeat, BeatRefused, BeatParked, OldEpoch, NoSession, LeftBefore, Repeated, OlderCall, Outstanding, Granted}
use Rattle.over_core.specs.Kept.{IsKept}
use Rattle.over_core.specs.SweepCase.{swept_by, swept_edits}
use Rattle.over_core.proofs.KeptBySweeps.{case_kept}
use Rattle.world_steps.specs.declared.steps.Step.{Step}
use Rattle.world_steps.specs.declared.steps.Step.TheVariants as steps
use Rattle.world_steps.specs.Made.{Does}
use Rattle.world_steps.specs.World.{WorldState, WorldView, Agrees}
use Rattle.world_cell.specs.Consistent.{IsConsistent}
use Rattle.world_cell.specs.HeldLocks.{LockSeen, seen_in, seen_by, TellsOfLocks}
use Rattle.world_cell.specs.Runs.{Run}
use Rattle.world_cell.proofs.ConsistentSteps.{agrees_at}
use Rattle.world_cell.proofs.CutLines.{cut_lines}
use Rattle.world_cell.proofs.HeldSweeps.{case_told}
use Rattle.world_cell.proofs.HeldTurns.{seen_more}
use Rattle.world_cell.proofs.LocksByCases.{noted_kept}
use Rattle.world_cell.proofs.OwnSteps.{IsOwn, asks_own, beats_own, gives_own}
use Rattle.world_cell.proofs.SilentLines.{IsCalmLine, IsCalm}
use Rattle.world_cell.proofs.StepsHold.{does_holds}
use Rattle.world_cell.proofs.WorldCases.{WorldCase, IsSweep, world_case}
use Rattle.world_cell.proofs.WorldCases.WorldCase.{ComesUp, Joins, Asks, Beats, Gives, Ticks, Takes, Sweeps, GoesDown, CutsSweep, CutsUp, LosesUp}

module _ (instance client : ℕ) (mode : LockMode) where
  abbrev told : LockSeen → List Line → LockSeen
  told seen printed = fold (seen_by instance client mode) seen printed

  -- the new rows show what the lines make of the former ones
  abbrev Tells : Rows → Rows → List Line → Type 0
  Tells old new printed = seen_in instance client mode new ≡ told (seen_in instance client mode old) printed

  -- ---- lines that tell of no lock

  line_calm : (seen : LockSeen) (line : Line) → IsCalmLine line → seen_by instance client mode seen line ≡ seen
  line_calm seen (lines.Applied whose number change names) h = absurd h
  line_calm seen (lines.Ended whose) h = absurd h
  line_calm seen (lines.Locked whose at how generation) h = absurd h
  line_calm seen (lines.Freed whose at) h = absurd h
  line_calm seen _ h = refl

  all_calm : (seen : LockSeen) (printed : List Line) → IsCalm printed → told seen printed ≡ seen
  all_calm seen [] h = refl
  all_calm seen (line ∷ rest) h = ap (λ (s : LockSeen). told s rest) (line_calm seen line h.0) ∙ all_calm seen rest h.2

  all_acked : (seen : LockSeen) (numbers : List ℕ) → told seen (map lines.Acked numbers) ≡ seen
  all_acked seen [] = refl
  all_acked seen (number ∷ numbers) = all_acked seen numbers

  repeated_calm : (seen : LockSeen) (reply : Option Reply) → told seen (repeated_reply reply).lines ≡ seen
  repeated_calm seen None = refl
  repeated_calm seen (Some reply) = refl

  granted_calm : (seen : LockSeen) (whose : ℕ) (name : List ℕ) (answer : Result Grant Fault) → told seen (granted_lines whose name answer) ≡ seen
  granted_calm seen whose name (Ok (grants.Granted number)) = refl
  granted_calm seen whose name (Ok (grants.Already number)) = refl
  granted_calm seen whose name (Ok grants.Full) = refl
  granted_calm seen whose name (Err fault) = refl

  taken_calm : (seen : LockSeen) (s : MasterState) (request : Request) (c : TakeCase s request) → told seen (taken_by s request c).1.lines ≡ seen
  taken_calm seen s request (StartRefused start is may) = refl
  taken_calm seen s request (OldBeat beat is apart) = refl
  taken_calm seen s request (BeatRefused beat fault is of refused) = refl
  taken_calm seen s request (BeatParked beat is of taken) = all_acked seen (numbers_ending beat.client (acknowledgement beat) s.rights)
  taken_calm seen s request (OldEpoch message is apart) = refl
  taken_calm seen s request (NoSession message is of dead) = refl
  taken_calm seen s request (LeftBefore message kept is same ended found number) = repeated_calm seen kept.reply
  taken_calm seen s request (Repeated message kept heard is number) = repeated_calm seen kept.reply
  taken_calm seen s request (OlderCall message kept heard is less) = refl
  taken_calm seen s request (Outstanding message kept heard is more none) = refl
  taken_calm seen s request (Granted message note answer name new serving may) = granted_calm seen message.client name (grant_answer message.client name (with_note s note).rights)
  taken_calm seen s request _ = refl

  -- those of a sweep that was cut
  cut_told : (seen : LockSeen) (printed : List Line) → told seen (cut_lines printed) ≡ told seen printed
  cut_told seen [] = refl
  cut_told seen (lines.Recovered ∷ rest) = cut_told seen rest
  cut_told seen (line ∷ rest) = cut_told (seen_by instance client mode seen line) rest

  -- ---- a step

  calm_tells : (old new : Rows) (printed : List Line) → ((seen : LockSeen) → told seen printed ≡ seen) → new ≡ old → Tells old new printed
  calm_tells old new printed calm same = ap (λ (r : Rows). seen_in instance client mode r) same ∙ sym (calm (seen_in instance client mode old))

  own_tells : (old new : WorldState) (printed : List Line) → IsOwn old new printed → Tells old.rows new.rows printed
  own_tells old new printed o = calm_tells old.rows new.rows printed (λ seen. all_calm seen printed o.quiet) (ap (λ (w : WorldState). w.rows) o.is)

  swept_tells : (old : WorldState) (step : Step) (new : WorldState) (printed : List Line) → Agrees old old.master → IsSweep old step new printed → Tells old.rows new.rows printed
  swept_tells old step new printed agrees t =
      let s : MasterState = noted t.master old.clock in
      let k : IsKept old.cell old.rows s = noted_kept old.cell old.rows t.master old.clock (agrees_at old old.master t.master t.is_up agrees) in
      let P : Rows → Type 0 = λ r. Tells old.rows r printed in
      let Q : List Line → Type 0 = λ ls. Tells old.rows (changed_rows old.rows (swept_edits s t.case)) ls in
      subst P (sym (ap (λ (w : WorldState). w.rows) t.is)) (subst Q (sym t.tells) (case_told instance client mode old.cell old.rows s k t.case (case_kept old.cell old.rows s t.case k)))

  case_tells : (old : WorldState) (step : Step) (new : WorldState) (printed : List Line) → Agrees old old.master → WorldCase old step new printed → Tells old.rows new.rows printed
  case_tells old step new printed agrees (ComesUp u) = rw (u.tells, u.is) refl
  case_tells old step new printed agrees (Joins j) = calm_tells old.rows new.rows printed (λ seen. ap (told seen) j.tells) (ap (λ (w : WorldState). w.rows) j.is)
  case_tells old step new printed agrees (Asks a) = own_tells old new printed (asks_own old step new printed a)
  case_tells old step new printed agrees (Beats b) = own_tells old new printed (beats_own old step new printed b)
  case_tells old step new printed agrees (Gives g) = own_tells old new printed (gives_own old step new printed g)
  case_tells old step new printed agrees (Ticks t) = calm_tells old.rows new.rows printed (λ seen. ap (told seen) t.tells) (ap (λ (w : WorldState). w.rows) t.is)
  case_tells old step new printed agrees (Takes t) =
      calm_tells old.rows new.rows printed (λ seen. ap (told seen) t.tells ∙ taken_calm seen (noted t.master old.clock) t.request t.case) (ap (λ (w : WorldState). w.rows) t.is)
  case_tells old step new printed agrees (Sweeps t) = swept_tells old step new printed agrees t
  case_tells old step new printed agrees (GoesDown d) = calm_tells old.rows new.rows printed (λ seen. ap (told seen) d.tells) (ap (λ (w : WorldState). w.rows) d.is)
  case_tells old step new printed agrees (CutsSweep k) =
      let h : Tells old.rows k.mid.rows k.told = swept_tells old steps.Sweep k.mid k.told agrees k.sweeps in
      ap (λ (w : WorldState). seen_in instance client mode w.rows) k.is ∙ h ∙ sym (cut_told (seen_in instance client mode old.rows) k.told) ∙ ap (told (seen_in instance client mode old.rows)) (sym k.tells)
  case_tells old step new printed agrees (CutsUp k) = let u = k.comes in rw (k.tells, k.is, u.tells, u.is) refl
  case_tells old step new printed agrees (LosesUp k) = calm_tells old.rows new.rows printed (λ seen. ap (told seen) k.tells) (ap (λ (w : WorldState). w.rows) k.is)

  step_tells : (old : WorldView) (step : Step) (new : WorldView) (printed : List Line) → IsConsistent old.world → Does old step new printed → Tells old.world.rows new.world.rows printed
  step_tells old step new printed h (inl m) = case_tells old.world step new.world printed h.master (world_case old.world step new.world printed h.master m.is_step)
  step_tells old step new printed h (inr r) = calm_tells old.world.rows new.world.rows printed (λ seen. ap (told seen) r.line) (ap (λ (w : WorldState). w.rows) r.left.same)

  -- ---- a run

  run_tells : (old : WorldView) (made : List Step) (printed : List Line) (new : WorldView) → IsConsistent old.world → Run old made printed new → Tells old.world.rows new.world.rows printed
  run_tells old [] printed new h run = ap (λ (w : WorldView). seen_in instance client mode w.world.rows) run.1 ∙ ap (told (seen_in instance client mode old.world.rows)) (sym run.0)
  run_tells old (step ∷ made) printed new h run =
      let first = step_tells old step run.0 run.1 h run.3 in
      let others = run_tells run.0 made run.2 new (does_holds old step run.0 run.1 h run.3) run.4 in
      others ∙ ap (λ (seen : LockSeen). told seen run.2) first
      ∙ sym (seen_more client mode instance (seen_in instance client mode old.world.rows) run.1 run.2)
      ∙ ap (told (seen_in instance client mode old.world.rows)) (sym run.5)

-- what the rows hold of locks is what the lines tell
pub run_held : (old : WorldView) (made : List Step) (printed : List Line) (new : WorldView) → IsConsistent old.world → Run old made printed new → TellsOfLocks old.world.rows new.world.rows printed
run_held old made printed new h run instance client mode = run_tells instance client mode old made printed new h run
