use Rattle.std.proofs.Common.{◌≡◌, ℕ, List, false, sym, ap, ◌∙◌, subst}
use Rattle.sqlite.specs.Held.{state}
use Rattle.rows_cell.specs.declared.tables.Rows.{Rows}
use Rattle.rows_cell.specs.Sound.{sound}
use Rattle.rows_sql.specs.Children.{children_for}
use Rattle.rows_sql.specs.Ready.{tables_as}
use Rattle.rows_sql.proofs.SaidTables.{one_said}
use Rattle.rows_sql.proofs.carrying.load_sound_as.Goals as goal

pub returns-then-not-branch-clause-damaged : goal.returns-then-not-branch-clause-damaged
returns-then-not-branch-clause-damaged g c clean ready is rows says =
    let read = c.in_ok-rows.rows in
    let cell = c.args.settings.now.cell in
    let version = c.args.version in
    let same = one_said version (tables_as version (state g.S.Store c.args.conn.now).now.trees) read rows (children_for version read.nodes) (children_for version rows.nodes) (c.in_ok-rows.ensures.rows clean ready) says in
    subst (λ (r : Rows). sound cell r ≡ false) same (ap (λ (n : List ℕ). sound n read) (sym c.cell.ensures) ∙ sym c.in_ok-is_sound.ensures ∙ c.if-not-branch.true)
