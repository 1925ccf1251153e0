use Rattle.std.proofs.Common.{◌≡◌, false, sym, ◌∙◌, subst, []}
use Rattle.sqlite.specs.Held.{state}
use Rattle.rows_cell.specs.declared.tables.Rows.{Rows}
use Rattle.rows_cell.specs.Sound.{sound}
use Rattle.rows_sql.specs.declared.schema.ours.Version.TheVariants.{Third}
use Rattle.rows_sql.specs.Ready.{tables_of}
use Rattle.rows_sql.proofs.SaidTables.{one_said}
use Rattle.rows_sql.proofs.steps.load_sound.Goals as goal

pub returns-then-not-branch-clause-damaged : goal.returns-then-not-branch-clause-damaged
returns-then-not-branch-clause-damaged g c clean ready is rows says =
    let read = c.in_ok-rows.rows in
    let same = one_said Third (tables_of (state g.S.Store c.args.conn.now).now.trees) read rows [] [] (c.in_ok-rows.ensures.rows clean ready) says in
    subst (λ (r : Rows). sound c.args.cell.now r ≡ false) same (sym c.in_ok-is_sound.ensures ∙ c.if-not-branch.true)
