use Rattle.std.proofs.Common.{◌≡◌, true}
use Rattle.names_cell.specs.Text.{is_component}
use Rattle.rows_cell.proofs.OpeningRows.{opening_sound}
use Rattle.rows_cell.proofs.lists.ListRecords.new.Goals as goal

pub invariant_of-result : goal.invariant_of-result
invariant_of-result c =
    let cell : is_component c.args.settings.now.cell ≡ true = rw c.cell.ensures at c.as_str-cell.ensures.component in
    record { sound_rows = rw c.in_ok-rows.ensures (opening_sound c.args.settings.now cell c.base-base.ensures.fits) }
