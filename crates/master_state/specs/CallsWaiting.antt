-- Whose calls wait for their turn.
use Rattle.std.specs.Prelude.{ℕ, Bool, true, false, ◌&&◌, ◌==◌, List}
use Rattle.std.specs.List.{list_any}
use Rattle.gate_core.specs.declared.pending.Waiting.{Waiting}
use Rattle.master_parts.specs.declared.pending.Task.{Task}
use Rattle.master_parts.specs.declared.pending.Work.{Work}
use Rattle.master_parts.specs.declared.pending.Task.TheVariants as tasks
use Rattle.master_parts.specs.declared.pending.Work.TheVariants as works

-- a client asked for work of this kind
abbrev pub is_by : (Work → Bool) → ℕ → Task → Bool
is_by kind client (tasks.Asked asked) = kind asked.work && asked.client == client
is_by kind client (tasks.Tidies idle) = false

abbrev pub is_call : Work → Bool
is_call (works.Starts principal received) = false
is_call (works.Calls call sequencer) = true

-- a call of the client waits for its turn
abbrev pub has_call : ℕ → List (Waiting Task) → Bool
has_call client waiting = list_any (λ w. is_by is_call client w.change.body) waiting
