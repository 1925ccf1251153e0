-- What becomes of the locks of a session that ends.
use Rattle.std.specs.Prelude.{ℕ, not, List, [], ◌∷◌, ◌++◌, map}
use Rattle.node_core.specs.declared.lines.Line.{Line}
use Rattle.tags_cell.specs.declared.messages.outs.Reply.{Reply}
use Rattle.rights_core.specs.Rights.{numbers_ending}
use Rattle.lock_core.specs.declared.partings.Parting.{Parting}
use Rattle.lock_core.specs.declared.turns.Lapse.{Lapse}
use Rattle.lock_core.specs.Turns.{is_nobody}
use Rattle.lock_core.specs.Locks.{lapses}
use Rattle.master_state.specs.declared.updates.LockPut.{LockPut}
use Rattle.master_state.specs.State.{MasterState}
use Rattle.master_state.specs.Replies.{turn_replies, locked_lines, line_if, puts_of}
use Rattle.master_state.specs.Partings.{ending_by, right_line, lock_line}
use Rattle.node_core.specs.declared.lines.Line.TheVariants as lines

-- what the session held, a lock that is open again at once, and who got it
abbrev pub lapse_lines : Parting → ℕ → Lapse → List Line
lapse_lines parting client lapse =
    line_if (not (is_nobody lapse.ended)) (lock_line parting client lapse.instance) ++ line_if lapse.reopens (lines.Reopened lapse.instance)
    ++ locked_lines lapse.instance lapse.turn

abbrev pub lapses_lines : Parting → ℕ → List Lapse → List Line
lapses_lines parting client [] = []
lapses_lines parting client (lapse ∷ rest) = lapse_lines parting client lapse ++ lapses_lines parting client rest

-- the session's own waiters aren't told
abbrev pub lapses_replies : MasterState → List Lapse → List Reply
lapses_replies s [] = []
lapses_replies s (lapse ∷ rest) = turn_replies s lapse.turn ++ lapses_replies s rest

abbrev pub lapses_puts : MasterState → List Lapse → List LockPut
lapses_puts s [] = []
lapses_puts s (lapse ∷ rest) = puts_of s lapse.instance lapse.turn.lock ++ lapses_puts s rest

-- each lock that the session held or awaited, as it is without it
abbrev pub lapses_of : Parting → MasterState → ℕ → List Lapse
lapses_of parting s client = lapses parting s.locks client s.clock

-- each right that ends with a session is printed, then what becomes of its locks, and then its end
abbrev pub parting_lines : Parting → MasterState → ℕ → List Lapse → List Line
parting_lines parting s client ended =
    map (right_line parting) (numbers_ending client (ending_by parting) s.rights) ++ lapses_lines parting client ended ++ lines.Ended client ∷ []
