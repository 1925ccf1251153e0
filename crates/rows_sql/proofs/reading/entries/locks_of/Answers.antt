use Rattle.std.proofs.Common.{◌≡◌, ◌<◌, length, Some, None, rules}
use Rattle.std.specs.Map.{lookup}
use Rattle.std.specs.BTreeMap.{is_at, insert_entry}
use Rattle.rows_cell.specs.Keys.{lock_order}
use Rattle.rows_sql.specs.Decode.{lock_in}
use Rattle.rows_sql.proofs.ReadLoops.{locks_total, none_at, twice_at, more_at}
use Rattle.rows_sql.proofs.reading.entries.locks_of.Goals as goal

pub returns-in_default : goal.returns-in_default
returns-in_default c =
    let low : c.loop-row.row-index < length c.args.rows.now = search rules in
    let none : lock_in c.row-item.result ≡ None = search rules in
    none_at lock_order locks_total lock_in c.args.rows.now c.loop-row.row-index c.row-item.result low c.row-item.is none

pub returns-then-is_some : goal.returns-then-is_some
returns-then-is_some c =
    let low : c.loop-row.row-index < length c.args.rows.now = search rules in
    let said : lock_in c.row-item.result ≡ Some (c.in-Some.key, c.in-Some.lock) = search rules in
    let found : c.in_ok-put.field-0 ≡ lookup (is_at (lock_order c.in-Some.key)) c.loop-row.locks = search rules in
    twice_at lock_order locks_total lock_in c.args.rows.now c.loop-row.row-index c.row-item.result low c.row-item.is c.loop-row.locks c.in-Some.key c.in-Some.lock c.in_ok-put.field-0 c.loop-row.invariant said found (search rules)

pub loop-row-preserved : goal.loop-row-preserved
loop-row-preserved c =
    let low : c.loop-row.row-index < length c.args.rows.now = search rules in
    let said : lock_in c.row-item.result ≡ Some (c.in-Some.key, c.in-Some.lock) = search rules in
    let found : c.in_ok-put.field-0 ≡ lookup (is_at (lock_order c.in-Some.key)) c.loop-row.locks = search rules in
    let new_is : c.put.new.self ≡ insert_entry lock_order c.loop-row.locks c.in-Some.key c.in-Some.lock = search rules in
    more_at lock_order locks_total lock_in c.args.rows.now c.loop-row.row-index c.row-item.result low c.row-item.is c.loop-row.locks c.put.new.self c.in-Some.key c.in-Some.lock c.in_ok-put.field-0 c.loop-row.invariant said found (search rules) new_is
