-- What a load comes to that goes well.
use Rattle.std.proofs.Common.{◌≡◌, ◌≤◌, ℕ, true, List, refl, sym, subst, arith, Result, Ok}
use Rattle.rows_cell.specs.declared.tables.Rows.{Rows}
use Rattle.rows_cell.specs.declared.records.StoreFault.{StoreFault}
use Rattle.rows_cell.specs.Sound.{sound}
use Rattle.rows_cell.specs.Stores.{Store, Loads, told}

abbrev pub at : List ℕ → Rows → List Rows → ℕ → ℕ → Store
at cell rows leave refusals doubt = record { cell = cell; rows = rows; may_leave = leave; refusals = refusals; doubt = doubt }

module _ (cell : List ℕ) (rows : Rows) (leave : List Rows) (n d e : ℕ) (rises : d ≤ e) where
  none_before : e ≡ 0 → e ≡ d
  none_before none = omega (arith, none, rises)

  pub loads_read : (read : Rows) (result : Result Rows StoreFault) → result ≡ Ok read → sound cell read ≡ true → (e ≡ 0 → read ≡ rows) → Loads (at cell rows leave n d) (at cell read leave n e) (told result)
  loads_read read result is fits same =
      subst (λ r. Loads (at cell rows leave n d) (at cell read leave n e) (told r)) (sym is)
      (refl, fits, record { cell = refl; counted = refl; doubted = rises; same = λ none. λ i. at cell (same none i) leave n (none_before none i) })
