-- What the lines of a step that a crash cut tell: what the step's own lines tell, and that the master is gone.
use Rattle.std.proofs.Common.{◌≡◌, ℕ, List, [], ◌∷◌, ◌++◌, Bool, Some, None, refl, ap, inl, inr}
use Rattle.std.specs.Prelude.{◌⊎◌, filter}
use Rattle.std.specs.Option.{option_and_then}
use Rattle.node_core.specs.declared.lines.Line.{Line}
use Rattle.node_core.specs.declared.lines.Line.TheVariants as lines
use Rattle.node_core.specs.Nodes.{Nodes}
use Rattle.rights_core.specs.declared.endings.Ending.TheVariants as endings
use Rattle.rights_core.specs.Rights.{numbers_ending}
use Rattle.lock_core.specs.Turns.{reopened}
use Rattle.lock_core.specs.Locks.{lock_at}
use Rattle.master_state.specs.State.{MasterState}
use Rattle.master_state.specs.Lapses.{lapses_of}
use Rattle.over_core.specs.SweepCase.{SweepCase, swept_by}
use Rattle.over_core.specs.SweepCase.SweepCase.{Recovers, Expires, Reopens, Left, Departed}
use Rattle.world_steps.specs.World.{is_of_commit}
use Rattle.world_cell.proofs.LockLines.{reopened_of_locks, left_of_locks, parting_kept}
use Rattle.rights_core.specs.Grants.{Told, rights_by, rights_at}
use Rattle.world_cell.specs.Runs.{map_by, map_at, epoch_by, epoch_at, live_by, live_at, put_number, applied}
use Rattle.lock_core.specs.declared.partings.Parting.TheVariants as partings

-- the lines of a sweep that was cut
abbrev pub cut_lines : List Line → List Line
cut_lines told = filter is_of_commit told ++ lines.Down ∷ []

pub cut_map : (nodes : Nodes) (told : List Line) → map_at nodes (cut_lines told) ≡ map_at nodes told
cut_map nodes [] = refl
cut_map nodes (lines.Recovered ∷ told) = cut_map nodes told
cut_map nodes (line ∷ told) = cut_map (map_by nodes line) told

pub cut_epoch : (epoch : ℕ) (told : List Line) → epoch_at epoch (cut_lines told) ≡ epoch_at epoch told
cut_epoch epoch [] = refl
cut_epoch epoch (lines.Recovered ∷ told) = cut_epoch epoch told
cut_epoch epoch (line ∷ told) = cut_epoch (epoch_by epoch line) told

pub cut_lives : (client : ℕ) (live : Bool) (told : List Line) → live_at client live (cut_lines told) ≡ live_at client live told
cut_lives client live [] = refl
cut_lives client live (lines.Recovered ∷ told) = cut_lives client live told
cut_lives client live (line ∷ told) = cut_lives client (live_by client live line) told

pub cut_applied : (client : ℕ) (told : List Line) → applied client (cut_lines told) ≡ applied client told
cut_applied client [] = refl
cut_applied client (lines.Recovered ∷ told) = cut_applied client told
cut_applied client (line ∷ told) = ap (put_number client line) (cut_applied client told)

pub kept_rights : (rights : List Told) (told : List Line) → rights_at rights (filter is_of_commit told) ≡ rights_at rights told
kept_rights rights [] = refl
kept_rights rights (lines.Recovered ∷ told) = kept_rights rights told
kept_rights rights (line ∷ told) =
    elim (rights_by rights line) as (λ o. option_and_then (λ next. rights_at next (filter is_of_commit told)) o ≡ option_and_then (λ next. rights_at next told) o) [
      | None ↦ refl
      | Some next ↦ kept_rights next told
    ]

-- ---- a sweep's lines are of its commit, or its recovery ended

pub swept_kept : (s : MasterState) (c : SweepCase s) → (filter is_of_commit (swept_by s c).1.lines ≡ (swept_by s c).1.lines) ⊎ (filter is_of_commit (swept_by s c).1.lines ≡ [])
swept_kept s (Recovers recovering heard) = inr refl
swept_kept s (Expires client session due) = inl (parting_kept partings.Expiry client (numbers_ending client endings.Expiry s.rights) (lapses_of partings.Expiry s client))
swept_kept s (Departed front back asked call sequencer session turn work leave found live) =
    inl (parting_kept partings.Leave asked.client (numbers_ending asked.client endings.Leave s.rights) (lapses_of partings.Leave s asked.client))
swept_kept s (Reopens instance due) = inl (reopened_of_locks instance (reopened (lock_at s.locks instance))).kept
swept_kept s (Left front back asked call sequencer _ leave answer turn work stays live made) = inl (left_of_locks asked.client leave).kept
swept_kept s _ = inl refl
