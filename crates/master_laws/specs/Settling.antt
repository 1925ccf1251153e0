-- What a master has to do by itself, and that it comes to an end.
use Rattle.std.specs.Prelude.{◌≡◌, ◌⊎◌, ◌<◌, ◌≤◌, ◌+◌, ◌*◌, ◌==◌, ◌&&◌, ℕ, Bool, true, false, not, max, is_some, List, length, count_by, if◌then◌else◌, Ok, Err}
use Rattle.std.specs.List.{list_any}
use Rattle.std.specs.Map.{values_of}
use Rattle.std.specs.Str.{bytes_eq}
use Rattle.node_core.specs.declared.nodes.Node.{Node}
use Rattle.node_core.specs.declared.refusals.Fault.{Fault}
use Rattle.rows_cell.specs.declared.tables.Rows.{Rows}
use Rattle.lock_core.specs.Locks.{lock_at, is_due}
use Rattle.master_parts.specs.Ephemerals.{is_left}
use Rattle.master_parts.specs.declared.pending.Task.{Task}
use Rattle.master_parts.specs.declared.pending.Task.TheVariants as tasks
use Rattle.master_state.specs.State.{MasterState, tables_of}
use Rattle.over_core.specs.Kept.{IsKept}
use Rattle.over_core.specs.Sweep.{sweep_step}
use Rattle.over_core.specs.declared.swept.Swept.{Swept}

-- ---- what clients asked for

abbrev pub is_asked : Task → Bool
is_asked (tasks.Asked asked) = true
is_asked (tasks.Tidies idle) = false

-- how many changes wait that clients asked for, each counted twice, and how many sessions live: a Start may begin one
abbrev pub asked_left : MasterState → ℕ
asked_left s = 2 * count_by (λ w. is_asked w.change.body) s.gate.waiting + count_by (λ session. session.live) (values_of s.sessions.sessions)

-- ---- what the cell does of its own accord

-- what waits is the deletion of the node
abbrev pub deletes : List ℕ × Node → Task → Bool
deletes entry (tasks.Asked asked) = false
deletes entry (tasks.Tidies idle) = bytes_eq idle.name entry.0 && idle.instance == entry.1.instance

-- nobody holds the node open, and its deletion waits
abbrev pub is_going : MasterState → List ℕ × Node → Bool
is_going s entry = is_left (tables_of s) entry.0 entry.1 && list_any (λ w. deletes entry w.change.body) s.gate.waiting

-- the recovery, the deletions that wait, the nodes that aren't going, each counted twice, those whose lock's delay is over at this moment, and the Beats that are parked
abbrev pub own_left : ℕ → MasterState → ℕ
own_left now s =
    (if s.recovering then 1 else 0) + count_by (λ w. not (is_asked w.change.body)) s.gate.waiting + 2 * count_by (λ entry. not (is_going s entry)) s.nodes
    + count_by (λ entry. is_due now (lock_at s.locks entry.1.instance)) s.nodes
    + count_by (λ session. is_some session.parked) (values_of s.sessions.sessions)

-- ---- each sweep leaves less

-- less of what clients asked for, or no more of that and less of its own
abbrev pub HasLessToDo : ℕ → MasterState → MasterState → Type 0
HasLessToDo now new s = (asked_left new < asked_left s) ⊎ ((asked_left new ≤ asked_left s) × (own_left now new < own_left now s))

abbrev pub SweepsLeaveLess : Type 0
SweepsLeaveLess =
    (cell : List ℕ) (rows : Rows) (s new : MasterState) (now : ℕ) (told : Swept) → IsKept cell rows s → sweep_step s now ≡ Ok (new, told) → told.quiet ≡ false
    → HasLessToDo (max s.clock now) new s

-- so sweeps at one moment come to a quiet one, or are refused
pub data ComesToRest (now : ℕ) : MasterState → Type 0 where
  Rests : (s new : MasterState) (told : Swept) → sweep_step s now ≡ Ok (new, told) → told.quiet ≡ true → ComesToRest now s
  IsRefused : (s : MasterState) (fault : Fault) → sweep_step s now ≡ Err fault → ComesToRest now s
  GoesOn : (s new : MasterState) (told : Swept) → sweep_step s now ≡ Ok (new, told) → told.quiet ≡ false → ComesToRest now new → ComesToRest now s

abbrev pub SettlingEnds : Type 0
SettlingEnds = (cell : List ℕ) (rows : Rows) (s : MasterState) (now : ℕ) → IsKept cell rows s → ComesToRest now s

-- ---- how many

-- more than what the cell has to do of its own accord, now and after what clients asked for: at most 4,096 changes wait, and each that a client asked for makes one node at most, or begins one session
abbrev pub own_limit : MasterState → ℕ
own_limit s =
    4098 + 3 * (length s.nodes + count_by (λ w. is_asked w.change.body) s.gate.waiting) + (length s.sessions.sessions + count_by (λ w. is_asked w.change.body) s.gate.waiting)

-- so many sweeps at one moment aren't quiet at most
abbrev pub sweeps_left : ℕ → MasterState → ℕ
sweeps_left now s = own_limit s * asked_left s + own_left now s

abbrev pub SweepsAreCounted : Type 0
SweepsAreCounted =
    (cell : List ℕ) (rows : Rows) (s new : MasterState) (now : ℕ) (told : Swept) → IsKept cell rows s → sweep_step s now ≡ Ok (new, told) → told.quiet ≡ false
    → sweeps_left (max s.clock now) new < sweeps_left (max s.clock now) s
