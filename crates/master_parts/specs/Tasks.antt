-- How the deletions of nodes that wait are found.
use Rattle.std.specs.Prelude.{◌≡◌, ℕ, ◌==◌, Bool, false, cond, List, count_by, Option, Some, None}
use Rattle.gate_core.specs.declared.pending.Waiting.{Waiting}
use Rattle.gate_core.specs.Waking.{is_listed}
use Rattle.master_parts.specs.declared.pending.Task.{Task}
use Rattle.master_parts.specs.Ephemerals.{tidies}

-- the change that deletes this instance, or none, is one that deletes the other
abbrev pub is_tidied : ℕ → Option ℕ → Bool
is_tidied instance (Some tidied) = tidied == instance
is_tidied instance None = false

-- how often an instance is listed
abbrev pub count_listed : ℕ → List (ℕ × Unit {0}) → ℕ
count_listed instance instances = cond (is_listed instance instances) 1 0

-- how many of the changes delete an instance
abbrev pub count_tidying : ℕ → List (Waiting Task) → ℕ
count_tidying instance waiting = count_by (λ w. tidies instance w.change.body) waiting

-- each instance is listed as often as changes delete it: once, or not at all
abbrev pub AreTidied : List (ℕ × Unit {0}) → List (Waiting Task) → Type 0
AreTidied instances waiting = (instance : ℕ) → count_tidying instance waiting ≡ count_listed instance instances
