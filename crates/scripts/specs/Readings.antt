-- What is read of a line.
use Rattle.std.specs.Prelude.{◌≡◌, ◌≢◌, ℕ, List, codes, Option, None, Some, Result, Ok, Err}
use Rattle.names_cell.specs.declared.faults.NameFault.{NameFault}
use Rattle.names_cell.specs.declared.faults.NameFault.TheVariants as names
use Rattle.node_core.specs.declared.refusals.Fault.{Fault}
use Rattle.node_core.specs.declared.refusals.Fault.TheVariants.{BadName, BadPrincipal, BadAcl}
use Rattle.world_steps.specs.declared.steps.Step.{Step}
use Rattle.scripts.specs.declared.steps.Parsed.{Parsed}
use Rattle.scripts.specs.declared.steps.Parsed.TheVariants as lines
use Rattle.scripts.specs.declared.steps.Flaw.{Flaw}
use Rattle.scripts.specs.declared.steps.Flaw.TheVariants.{Bad, Refused, NoMemory}
use Rattle.scripts.specs.Steps.{WritesLine, IsSkipped, step_fault}

-- What the words write, where nothing is wrong with it; else what is wrong with it; or they write nothing.
abbrev pub Reads : {A : Type 0} → (A → Type 0) → (A → Option Fault) → Result A Flaw → Type 0
Reads {A} Writes fault_of (Ok a) = Writes a × (fault_of a ≡ None)
Reads {A} Writes fault_of (Err (Refused fault)) = (a : A) × Writes a × (fault_of a ≡ Some fault)
Reads {A} Writes fault_of (Err Bad) = (a : A) → ¬ (Writes a)
Reads {A} Writes fault_of (Err NoMemory) = Unit {0}

-- what a line is: nothing to do, a step, `settle`, a step that is refused for a name in it, or none of these
abbrev pub IsParsed : List ℕ → Parsed → Type 0
IsParsed line lines.Nothing = IsSkipped line
IsParsed line (lines.Step step) = WritesLine line step × (step_fault step ≡ None)
IsParsed line lines.Settle = line ≡ codes "settle"
IsParsed line (lines.Refused fault) = (step : Step) × WritesLine line step × (step_fault step ≡ Some fault)
IsParsed line lines.Bad = (¬ (IsSkipped line) × (line ≢ codes "settle")) × ((step : Step) → ¬ (WritesLine line step))

abbrev pub flaw_of : NameFault → Flaw
flaw_of names.NoMemory = NoMemory
flaw_of names.BadName = Refused BadName
flaw_of names.BadPrincipal = Refused BadPrincipal
flaw_of names.BadAcl = Refused BadAcl
