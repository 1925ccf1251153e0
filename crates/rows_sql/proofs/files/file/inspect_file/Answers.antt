use Rattle.std.proofs.Common.{◌≡◌, ℕ, true, false, List, Err, refl}
use Rattle.std.specs.Prelude.{IfOk}
use Rattle.sqlite_wal.specs.Recovery.{Image}
use Rattle.rows_cell.specs.Counts.{counts_of}
use Rattle.rows_cell.specs.Sound.{sound}
use Rattle.rows_cell.specs.declared.tables.Rows.{Rows}
use Rattle.rows_cell.specs.declared.records.StoreFault.TheVariants.{Damaged}
use Rattle.rows_sql.specs.Found.{FindsRows, HoldsRows}
use Rattle.rows_sql.proofs.Inspections.{at_bytes}
use Rattle.rows_sql.proofs.files.file.inspect_file.Goals as goal

pub returns-clause-sound : goal.returns-clause-sound
returns-clause-sound c =
    let r = c.inspect_files.result in
    let cell = c.args.cell.now in
    at_bytes (λ (image : Image). IfOk r (λ counts. (rows : Rows) × FindsRows image rows × (sound cell rows ≡ true) × (counts ≡ counts_of rows))) _ _ c.args.log.now c.args.database.now c.in_ok-files.ensures.log.1 c.in_ok-files.ensures.db.1
    (c.inspect_files.ensures.sound (λ file. refl))

pub returns-clause-damaged : goal.returns-clause-damaged
returns-clause-damaged c is =
    let cell = c.args.cell.now in
    at_bytes (λ (image : Image). (rows : Rows) → HoldsRows image rows → sound cell rows ≡ false) _ _ c.args.log.now c.args.database.now c.in_ok-files.ensures.log.1 c.in_ok-files.ensures.db.1
    (c.inspect_files.ensures.damaged (λ file. refl) is)
