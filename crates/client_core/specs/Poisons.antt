-- A client poisons a handle.
use Rattle.std.specs.Prelude.{ℕ, true, List, [], ◌∷◌, ◌++◌, Option, Some, None, if◌then◌else◌}
use Rattle.std.specs.Map.{set_value}
use Rattle.std.specs.BTreeMap.{is_at}
use Rattle.std.specs.Ordering.{nat_cmp}
use Rattle.node_core.specs.declared.refusals.Fault.TheVariants as faults
use Rattle.node_core.specs.declared.answers.Answer.TheVariants as answers
use Rattle.node_core.specs.declared.lines.Line.{Line}
use Rattle.node_core.specs.declared.lines.Line.TheVariants as lines
use Rattle.tags_cell.specs.Messages.{request_number}
use Rattle.client_core.specs.declared.parts.handles.ClientHandle.{ClientHandle}
use Rattle.client_core.specs.declared.parts.targets.Outstanding.{Outstanding}
use Rattle.client_core.specs.Targets.{is_on, dropped}
use Rattle.client_core.specs.State.{ClientState}

-- the outstanding call, if it is on the handle, is refused (and its reply will be dropped)
abbrev pub refused_lines : ClientState → ℕ → Option Outstanding → List Line
refused_lines s number None = []
refused_lines s number (Some call) =
    if is_on number call.target then lines.Done s.number (request_number call.request) (answers.Refused faults.Poisoned) ∷ [] else []

-- a Poison is answered as call 0
abbrev pub poison_lines : ClientState → ℕ → List Line
poison_lines s number = refused_lines s number s.outstanding ++ lines.Done s.number 0 answers.Poisoned ∷ []

abbrev pub poisoned : List (ℕ × ClientHandle) → ℕ → ClientHandle → List (ℕ × ClientHandle)
poisoned handles number handle = set_value (is_at (nat_cmp number)) handles (record handle { poisoned = true })

-- the handle of this number is poisoned, and nothing is sent
abbrev pub with_poisoned : ClientState → ℕ → ℕ → ClientHandle → ClientState
with_poisoned s moment number handle =
    record s { clock = moment; handles = poisoned s.handles number handle; outstanding = dropped number s.outstanding }
