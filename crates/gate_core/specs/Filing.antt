-- The changes that wait, as a gate keeps them: by number, beside how often each name is touched.
use Rattle.std.specs.Prelude.{◌≡◌, ℕ, ◌+◌, Option, Some, None, List, [], ◌∷◌, count_by}
use Rattle.std.specs.Map.{lookup, values_of}
use Rattle.std.specs.Str.{bytes_eq}
use Rattle.gate_core.specs.declared.pending.Waiting.{Waiting}
use Rattle.gate_core.specs.Gate.{IsOrderly}

abbrev pub or_zero : Option ℕ → ℕ
or_zero None = 0
or_zero (Some count) = count

abbrev pub count_in : List ℕ → List (List ℕ × ℕ) → ℕ
count_in name touched = or_zero (lookup (bytes_eq name) touched)

module _ {T : Type 0} where
  -- how often a name stands among those that the changes touch
  abbrev pub occurring : List ℕ → List (Waiting T) → ℕ
  occurring name [] = 0
  occurring name (w ∷ ws) = count_by (bytes_eq name) w.change.touched + occurring name ws

  -- each stands under its own number
  abbrev pub AreKeyed : List (ℕ × Waiting T) → Type 0
  AreKeyed [] = Unit {0}
  AreKeyed (e ∷ es) = record { same : e.0 ≡ e.1.number; rest : AreKeyed es }

pub record IsFiled {T : Type 0} (entries : List (ℕ × Waiting T)) (touched : List (List ℕ × ℕ)) (pushed : ℕ) : Type 0 where
  pub orderly : IsOrderly (record { waiting = values_of entries; pushed = pushed })
  pub keyed : AreKeyed entries
  pub counted : (name : List ℕ) → count_in name touched ≡ occurring name (values_of entries)
