-- A number, and what one stands for, as SQL has it.
use Rattle.std.specs.Prelude.{◌≡◌, ℕ, ℤ, Option, Some}
use Rattle.sqlite_value.specs.declared.value.ValueRef.{ValueRef}
use Rattle.sqlite_value.specs.declared.value.ValueRef.TheVariants.{Int}
use Rattle.rows_sql.specs.Decode.{count_of}

-- an integer that is read as this
abbrev pub IsReadAs : {X : Type 0} → (ℤ → Option X) → ValueRef → X → Type 0
IsReadAs read v x = (n : ℤ) × (v ≡ Int n) × (read n ≡ Some x)

abbrev pub IsNumber : ValueRef → ℕ → Type 0
IsNumber v x = IsReadAs count_of v x
