-- Records over others that refuse one commit: which one, and what becomes of all others.
use Rattle.std.specs.Prelude.{◌≡◌, ◌==◌, ◌+◌, ◌-◌, ℕ, Bool, true, false, List, [], ◌∷◌, Result, Ok, Err}
use Rattle.node_core.specs.declared.refusals.Fault.{Fault}
use Rattle.node_core.specs.declared.refusals.Fault.TheVariants as faults
use Rattle.rows_cell.specs.declared.tables.Edit.{Edit}
use Rattle.rows_cell.specs.Stores.{Store, Commits}

-- what the others keep, how many commits are left up to the one that is refused, that one too (0 behind it), and how
-- often these records and the others refused
pub record Failing : Type 0 where
  pub inner : Store
  pub left : ℕ
  pub refusals : ℕ

-- what they keep
abbrev pub kept_in : Failing → Store
kept_in f = record f.inner { refusals = f.refusals }

-- a commit without an edit isn't counted
abbrev pub left_after : List Edit → ℕ → ℕ
left_after [] left = left
left_after (edit ∷ edits) left = left - 1

abbrev pub is_the_one : List Edit → ℕ → Bool
is_the_one [] left = false
is_the_one (edit ∷ edits) left = left == 1

-- the one is refused and counted, and nothing is done
abbrev pub IsFailed : {X : Type 0} → Failing → Failing → Result X Fault → Type 0
IsFailed old new result = (result ≡ Err faults.StoreRefused) × (new ≡ record old { left = 0; refusals = old.refusals + 1 })

-- any other is done by the others, with their answer
abbrev pub IsHandedOn : {X : Type 0} → List Edit → Failing → Failing → Result X Fault → Type 0
IsHandedOn edits old new result = Commits edits old.inner new.inner result × (new.left ≡ left_after edits old.left)

abbrev pub FailsIf : {X : Type 0} → Bool → List Edit → Failing → Failing → Result X Fault → Type 0
FailsIf true edits old new result = IsFailed old new result
FailsIf false edits old new result = IsHandedOn edits old new result
