-- What is known of the next instance.
use Rattle.std.specs.Prelude.{◌≡◌, ℕ, Option, Some}
use Rattle.rows_cell.specs.declared.tables.Rows.{Rows}
use Rattle.rows_cell.specs.declared.tables.Edit.{Edit}
use Rattle.rows_cell.specs.declared.tables.Edit.TheVariants.{NextInstance}

-- the rows have this next instance, if one is known
abbrev pub HasNext : Rows → Option ℕ → Type 0
HasNext rows known = (n : ℕ) → known ≡ Some n → rows.next_instance ≡ n

-- the edit says the one that is known
pub record IsSaid (edit : Edit) (known : Option ℕ) : Type 0 where
  pub n : ℕ
  pub said : edit ≡ NextInstance n
  pub same : known ≡ Some n
