-- A new client for a holder.
use Rattle.std.specs.Prelude.{ℕ, List, Result, Ok, Err, if◌then◌else◌}
use Rattle.names_cell.specs.Text.{is_component}
use Rattle.tags_cell.specs.Numbers.{is_client_number}
use Rattle.client_core.specs.State.{new_client}
use Rattle.codec.specs.declared.faults.WireFault.{WireFault}
use Rattle.codec.specs.declared.faults.WireFault.TheVariants.{BadNumber, BadText}
use Rattle.client_exports.specs.States.{HeldState, new_held}

abbrev pub opened_for : ℕ → List ℕ → Result HeldState WireFault
opened_for number principal = if is_component principal then Ok (new_held (new_client number principal)) else Err BadText

-- first the number, and then the principal
abbrev pub opened : ℕ → List ℕ → Result HeldState WireFault
opened number principal = if is_client_number number then opened_for number principal else Err BadNumber
