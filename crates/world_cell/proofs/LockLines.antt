-- The lines of locks: they tell of no change of the map, of no master, of no session and of no right, nor of anything served, and a sweep that is cut keeps them.
use Rattle.std.proofs.Common.{◌≡◌, ℕ, Bool, true, false, cond, List, [], ◌∷◌, ◌++◌, map, refl, ap, ◌∙◌}
use Rattle.std.specs.Prelude.{filter, not}
use Rattle.node_core.specs.declared.lines.Line.{Line}
use Rattle.node_core.specs.declared.lines.Line.TheVariants as lines
use Rattle.lock_core.specs.declared.claims.Claim.{Claim}
use Rattle.lock_core.specs.declared.turns.Lapse.{Lapse}
use Rattle.lock_core.specs.declared.turns.Turn.{Turn}
use Rattle.lock_core.specs.Turns.{is_nobody}
use Rattle.cell_core.specs.declared.effects.Leave.{Leave}
use Rattle.master_state.specs.Replies.{locked_line, locked_lines, line_if}
use Rattle.cell_core.specs.Outcomes.{leave_lines}
use Rattle.master_state.specs.Lapses.{lapse_lines, lapses_lines}
use Rattle.world_steps.specs.World.{is_of_commit}
use Rattle.world_cell.proofs.SilentLines.{IsQuiet, append_quiet, AreOthers, both_others}
use Rattle.lock_core.specs.declared.partings.Parting.{Parting}
use Rattle.lock_core.specs.declared.partings.Parting.TheVariants as partings
use Rattle.master_state.specs.Partings.{right_line, lock_line}

-- what is seen of them
pub record AreOfLocks (printed : List Line) : Type 0 where
  pub quiet : IsQuiet printed
  pub others : AreOthers printed
  pub kept : filter is_of_commit printed ≡ printed

filter_both : (keep : Line → Bool) (xs ys : List Line) → filter keep (xs ++ ys) ≡ filter keep xs ++ filter keep ys
filter_both keep [] ys = refl
filter_both keep (x ∷ xs) ys = elim (keep x) as (λ b. cond b (x ∷ filter keep (xs ++ ys)) (filter keep (xs ++ ys)) ≡ cond b (x ∷ filter keep xs) (filter keep xs) ++ filter keep ys) [
  | true ↦ ap (λ rest. x ∷ rest) (filter_both keep xs ys)
  | false ↦ filter_both keep xs ys
]

both_same : (a b c d : List Line) → a ≡ c → b ≡ d → a ++ b ≡ c ++ d
both_same a b c d h k = cc

both_of_locks : (xs ys : List Line) → AreOfLocks xs → AreOfLocks ys → AreOfLocks (xs ++ ys)
both_of_locks xs ys h k = record {
  quiet = append_quiet xs ys h.quiet k.quiet;
  others = both_others xs ys h.others k.others;
  kept = filter_both is_of_commit xs ys ∙ both_same (filter is_of_commit xs) (filter is_of_commit ys) xs ys h.kept k.kept;
}

none_of_locks : AreOfLocks []
none_of_locks = record { quiet = tt; others = tt; kept = refl }

got_of_locks : (instance generation : ℕ) (claims : List Claim) → AreOfLocks (map (locked_line instance generation) claims)
got_of_locks instance generation [] = none_of_locks
got_of_locks instance generation (claim ∷ claims) =
    let others = got_of_locks instance generation claims in
    record { quiet = (tt, tt, others.quiet); others = (tt, others.others); kept = ap (λ rest. locked_line instance generation claim ∷ rest) others.kept }

pub locked_of_locks : (instance : ℕ) (turn : Turn) → AreOfLocks (locked_lines instance turn)
locked_of_locks instance turn = got_of_locks instance turn.lock.generation turn.granted

-- a line of a lock where this holds
if_of_locks : (b : Bool) (line : Line) → AreOfLocks (line ∷ []) → AreOfLocks (line_if b line)
if_of_locks true line h = h
if_of_locks false line h = none_of_locks

pub left_of_locks : (client : ℕ) (leave : Leave) → AreOfLocks (leave_lines client leave)
left_of_locks client leave =
    both_of_locks (line_if leave.held (lines.Freed client leave.instance)) (locked_lines leave.instance leave.turn)
    (if_of_locks leave.held (lines.Freed client leave.instance) (record { quiet = (tt, tt, tt); others = (tt, tt); kept = refl })) (locked_of_locks leave.instance leave.turn)

pub reopened_of_locks : (instance : ℕ) (turn : Turn) → AreOfLocks (lines.Reopened instance ∷ locked_lines instance turn)
reopened_of_locks instance turn = both_of_locks (lines.Reopened instance ∷ []) (locked_lines instance turn) (record { quiet = (tt, tt, tt); others = (tt, tt); kept = refl }) (locked_of_locks instance turn)

-- of a session that expires, and of one that leaves
own_of_locks : (parting : Parting) (client instance : ℕ) → AreOfLocks (lock_line parting client instance ∷ [])
own_of_locks partings.Expiry client instance = record { quiet = (tt, tt, tt); others = (tt, tt); kept = refl }
own_of_locks partings.Leave client instance = record { quiet = (tt, tt, tt); others = (tt, tt); kept = refl }

lapse_of_locks : (parting : Parting) (client : ℕ) (lapse : Lapse) → AreOfLocks (lapse_lines parting client lapse)
lapse_of_locks parting client lapse =
    let ends = line_if (not (is_nobody lapse.ended)) (lock_line parting client lapse.instance) in
    let opens = line_if lapse.reopens (lines.Reopened lapse.instance) in
    both_of_locks (ends ++ opens) (locked_lines lapse.instance lapse.turn)
    (both_of_locks ends opens (if_of_locks (not (is_nobody lapse.ended)) (lock_line parting client lapse.instance) (own_of_locks parting client lapse.instance))
    (if_of_locks lapse.reopens (lines.Reopened lapse.instance) (record { quiet = (tt, tt, tt); others = (tt, tt); kept = refl })))
    (locked_of_locks lapse.instance lapse.turn)

pub lapses_of_locks : (parting : Parting) (client : ℕ) (lapses : List Lapse) → AreOfLocks (lapses_lines parting client lapses)
lapses_of_locks parting client [] = none_of_locks
lapses_of_locks parting client (lapse ∷ lapses) = both_of_locks (lapse_lines parting client lapse) (lapses_lines parting client lapses) (lapse_of_locks parting client lapse) (lapses_of_locks parting client lapses)

-- those of a session's end, after the lines of rights
pub parting_kept : (parting : Parting) (client : ℕ) (numbers : List ℕ) (lapses : List Lapse) → filter is_of_commit (map (right_line parting) numbers ++ lapses_lines parting client lapses ++ lines.Ended client ∷ []) ≡ map (right_line parting) numbers ++ lapses_lines parting client lapses ++ lines.Ended client ∷ []
parting_kept parting client [] lapses =
    filter_both is_of_commit (lapses_lines parting client lapses) (lines.Ended client ∷ []) ∙ ap (λ told. told ++ lines.Ended client ∷ []) (lapses_of_locks parting client lapses).kept
parting_kept partings.Expiry client (number ∷ numbers) lapses = ap (λ told. lines.Expired number ∷ told) (parting_kept partings.Expiry client numbers lapses)
parting_kept partings.Leave client (number ∷ numbers) lapses = ap (λ told. lines.Acked number ∷ told) (parting_kept partings.Leave client numbers lapses)
