use Rattle.std.proofs.Common.{◌≡◌, take}
use Rattle.rows_cell.specs.Settings.{base_of}
use Rattle.rows_cell.proofs.settings.base_of.Given as goal

abbrev pub invariant-loop-principal : goal.invariant-loop-principal
invariant-loop-principal l = l.text.items ≡ base_of (take l.principal-index l.principals)
