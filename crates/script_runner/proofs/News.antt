-- A script over the rows of a new cell in lists.
use Rattle.std.proofs.Common.{◌≡◌, inl, ℕ, List, [], ◌∷◌, Option, Result, Ok, Err, sym, ap, ◌∙◌, subst}
use Rattle.rows_cell.specs.Settings.{Settled, standard, terms_of}
use Rattle.rows_cell.specs.declared.tables.Rows.{Rows}
use Rattle.rows_cell.specs.Opening.{opening}
use Rattle.rows_cell.specs.Stores.{Store}
use Rattle.world_steps.specs.World.{opened}
use Rattle.scripts.specs.Ran.{RunsSurely}
use Rattle.script_runner.specs.Runs.{Runs}

abbrev store_of : Rows → Store
store_of rows = record { cell = rows.cell; rows = rows; may_leave = rows ∷ []; refusals = 0; doubt = 0 }

abbrev settled_in : {E : Type 0} → Settled → Result Settled E → Settled
settled_in other (Ok settings) = settings
settled_in other (Err e) = other

pub same_settings : {E : Type 0} (a b : Settled) (r : Result Settled E) → r ≡ Ok a → r ≡ Ok b → b ≡ a
same_settings a b r p q = sym (ap (settled_in a) q) ∙ ap (settled_in a) p

pub runs_new : (status : ℕ) (rows : Rows) (settings : Settled) (text before after : Option (List ℕ)) → rows ≡ opening settings → settings ≡ standard
    → RunsSurely status text (opened (store_of rows) (terms_of settings)) before after → Runs status text before after
runs_new status rows settings text before after is same ran =
    let P : Rows → Type 0 = λ r. RunsSurely status text (opened (store_of r) (terms_of settings)) before after in
    let Q : Settled → Type 0 = λ s. RunsSurely status text (opened (store_of (opening s)) (terms_of s)) before after in
    inl (subst Q same (subst P is ran))
