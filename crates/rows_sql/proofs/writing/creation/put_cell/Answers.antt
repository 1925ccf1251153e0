use Rattle.std.proofs.Common.{◌≡◌, ℕ, List, [], ◌∷◌, length, true, ap, ◌∙◌, subst}
use Rattle.names_cell.specs.Text.{is_component}
use Rattle.sqlite_value.specs.declared.value.Value.TheVariants.{Text, Blob}
use Rattle.sqlite_value.specs.Order.{Row}
use Rattle.sqlite.specs.Held.{state}
use Rattle.rows_sql.specs.Creation.{put_cell_text}
use Rattle.rows_sql.specs.Ongoing.{RanInside}
use Rattle.rows_sql.proofs.WriteSteps.{ok_then}
use Rattle.rows_sql.proofs.PutCell.{cell_there}
use Rattle.rows_sql.proofs.writing.creation.put_cell.Goals as goal

pub returns-clause-ok : goal.returns-clause-ok
returns-clause-ok g c clean =
    let old = state g.S.Store c.args.tx.now.conn.now in
    let new = state g.S.Store c.run.new.tx.conn.now in
    let cell = ap Text (c.as_bytes-cell.ensures.value ∙ c.as_str.ensures.text ∙ c.cell.ensures) in
    let secret = ap Blob (c.as_bytes-secret.ensures.bytes ∙ c.secret.ensures) in
    ok_then c.run.result
    (λ run. cell_there c.args.settings.now (subst (λ (t : List ℕ). is_component t ≡ true) c.cell.ensures c.as_str.ensures.component) (subst (λ (t : List ℕ). length t ≡ 32) c.secret.ensures c.as_bytes-secret.ensures.length) old new (subst (λ (p : Row). RanInside put_cell_text p old new) (λ j. cell j ∷ secret j ∷ []) run))
    (c.run.ensures.ok clean)
