use Rattle.std.proofs.Common.{◌≡◌, false, Err, inl, sym, ap, ◌∙◌, subst, arith}
use Rattle.sqlite.specs.State.{HasCleanDisk}
use Rattle.sqlite.specs.Held.{state}
use Rattle.rows_cell.specs.declared.tables.Rows.{Rows}
use Rattle.rows_cell.specs.declared.records.StoreFault.{StoreFault}
use Rattle.rows_sql.specs.Keeping.{Stood, stood, Keeps}
use Rattle.rows_sql.specs.Adopting.{Adopts}
use Rattle.rows_sql.proofs.Keepings.{some_is}
use Rattle.rows_sql.proofs.NextKnown.{next_known}
use Rattle.rows_sql.proofs.Adoptions.{keeps_taken, adopts, not_other, is_other, is_full}
use Rattle.rows_sql.proofs.records.SqlRecords.adopt.Goals as goal

pub invariant_of-result : goal.invariant_of-result
invariant_of-result g c =
    let new = c.take_over.new.conn in
    let kept = keeps_taken g.S.Store c.args.settings.now c.in-Ok-last_committed.conn new c.in-Ok-take_over.rows c.in-Ok-take_over.ensures.ok (λ db o m. g.met.S.Store.settled new.store db o m) in
    let is : (stood c.noted-past.result.items).rows ≡ c.in-Ok-take_over.rows = ap (λ (t : Stood). t.rows) c.noted-past.ensures in
    (subst (λ (t : Stood). Keeps (state g.S.Store new) false t.rows t.left) (sym c.noted-past.ensures) kept, omega arith, λ rows some. some_is rows c.in-Ok-take_over.rows (sym some ∙ c.rows_in.ensures) ∙ sym is, next_known _ c.in-Ok-take_over.rows is)

pub returns-in-Ok-take_over-clause-rows : goal.returns-in-Ok-take_over-clause-rows
returns-in-Ok-take_over-clause-rows g c clean =
    let mid = state g.S.Store c.in-Ok-last_committed.conn in
    let taken = c.in-Ok-take_over.ensures.ok in
    let opened = c.in-Ok-last_committed.ensures.ok in
    let was : HasCleanDisk mid = omega (arith, taken.clean, clean) in
    let is : (stood c.noted-past.result.items).rows ≡ c.in-Ok-take_over.rows = ap (λ (t : Stood). t.rows) c.noted-past.ensures in
    subst (λ (r : Rows). Adopts c.args.settings.now (state g.S.Store c.args.conn) r) (sym is) (adopts g.S.Store c.args.settings.now c.args.conn c.in-Ok-last_committed.conn c.in-Ok-take_over.rows opened was (taken.takes clean))

pub returns-in-Ok-take_over-clause-ours : goal.returns-in-Ok-take_over-clause-ours
returns-in-Ok-take_over-clause-ours g c clean =
    let mid = state g.S.Store c.in-Ok-last_committed.conn in
    let taken = c.in-Ok-take_over.ensures.ok in
    let was : HasCleanDisk mid = omega (arith, taken.clean, clean) in
    not_other c.args.settings.now (state g.S.Store c.args.conn) c.in-Ok-take_over.rows (adopts g.S.Store c.args.settings.now c.args.conn c.in-Ok-last_committed.conn c.in-Ok-take_over.rows c.in-Ok-last_committed.ensures.ok was (taken.takes clean))

pub returns-in-Err-take_over-clause-damaged : goal.returns-in-Err-take_over-clause-damaged
returns-in-Err-take_over-clause-damaged g c clean is =
    let mid = state g.S.Store c.in-Ok-last_committed.conn in
    let left = c.in-Err-take_over.ensures.err in
    let quiet = c.into_store-in-Err-take_over.ensures.quiet in
    let opened = c.in-Ok-last_committed.ensures.ok in
    let then : HasCleanDisk (state g.S.Store c.take_over.new.conn) = omega (arith, quiet.clean, clean) in
    let was : HasCleanDisk mid = omega (arith, left.clean, then) in
    is_other g.S.Store c.args.settings.now.cell c.args.conn c.in-Ok-last_committed.conn opened was (c.take_over.ensures.why then (c.in-Err-take_over.is ∙ ap (λ (f : StoreFault). Err f) is))

pub returns-in-Err-take_over-clause-full : goal.returns-in-Err-take_over-clause-full
returns-in-Err-take_over-clause-full g c clean is =
    let mid = state g.S.Store c.in-Ok-last_committed.conn in
    let left = c.in-Err-take_over.ensures.err in
    let quiet = c.into_store-in-Err-take_over.ensures.quiet in
    let opened = c.in-Ok-last_committed.ensures.ok in
    let then : HasCleanDisk (state g.S.Store c.take_over.new.conn) = omega (arith, quiet.clean, clean) in
    let was : HasCleanDisk mid = omega (arith, left.clean, then) in
    is_full g.S.Store c.args.settings.now.cell c.args.conn c.in-Ok-last_committed.conn opened was (c.take_over.ensures.full then (c.in-Err-take_over.is ∙ ap (λ (f : StoreFault). Err f) is))

pub returns-in-Ok-take_over-clause-doubted : goal.returns-in-Ok-take_over-clause-doubted
returns-in-Ok-take_over-clause-doubted g c = omega (arith, c.in-Ok-last_committed.ensures.ok.clean, c.in-Ok-take_over.ensures.ok.clean)

pub returns-in-Ok-take_over-clause-undoubted : goal.returns-in-Ok-take_over-clause-undoubted
returns-in-Ok-take_over-clause-undoubted g c always = always c.take_over.new.conn.store

pub returns-in-Err-last_committed-clause-back : goal.returns-in-Err-last_committed-clause-back
returns-in-Err-last_committed-clause-back g c = record { clean = c.in-Err-last_committed.ensures.err.0; crash = λ clean db may. inl (c.in-Err-last_committed.ensures.err.1 clean db may) }
