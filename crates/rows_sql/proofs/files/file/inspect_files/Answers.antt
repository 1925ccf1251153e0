use Rattle.std.proofs.Common.{◌≡◌}
use Rattle.rows_cell.specs.declared.records.StoreFault.TheVariants.{Damaged}
use Rattle.sqlite_wal.specs.Reads.{tally_of_files}
use Rattle.sqlite.specs.Files.{tally_left}
use Rattle.rows_sql.proofs.Inspections.{clean_conn, clean_left, settled, finds_in, not_sound, holds_none, none_of}
use Rattle.rows_sql.proofs.files.file.inspect_files.Goals as goal

pub returns-in-Ok-clause-sound : goal.returns-in-Ok-clause-sound
returns-in-Ok-clause-sound g c always =
    let files = c.args.files in
    let conn = c.in-Ok.conn in
    let opened = c.in-Ok.ensures.opened in
    let found = c.in-Ok.ensures.found in
    let cell = c.args.cell.now in
    finds_in always files conn opened found cell c.inspect.result (c.inspect.ensures.sound (clean_conn always c.inspect.new.conn) (settled always files conn opened found cell))

pub returns-in-Ok-clause-damaged : goal.returns-in-Ok-clause-damaged
returns-in-Ok-clause-damaged g c always is =
    let files = c.args.files in
    let conn = c.in-Ok.conn in
    let opened = c.in-Ok.ensures.opened in
    let found = c.in-Ok.ensures.found in
    let cell = c.args.cell.now in
    not_sound always files conn opened found cell (c.inspect.ensures.damaged (clean_conn always c.inspect.new.conn) (settled always files conn opened found cell) is)

pub returns-in-Err-clause-damaged : goal.returns-in-Err-clause-damaged
returns-in-Err-clause-damaged g c always is =
    let files = c.args.files in
    let damaged : c.open_fault.result ≡ Damaged = cc in
    let why = none_of _ (tally_of_files g.D.Disk (files.log, files.db)) (tally_left c.in-Err.left) c.in-Err.error c.tally-before.ensures (c.open_fault.ensures.none damaged) in
    holds_none g.D.Disk files c.in-Err.left c.in-Err.error c.args.cell.now (c.in-Err.ensures.cause (clean_left always c.in-Err.left)) why
