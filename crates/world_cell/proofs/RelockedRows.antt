-- Rows in which locks changed: no name shows it, and no session.
use Rattle.std.proofs.Common.{◌≡◌, ℕ, List, [], ◌∷◌, ◌++◌, ap, ◌∙◌}
use Rattle.std.specs.BTreeMap.{insert_entry}
use Rattle.std.specs.Ordering.{nat_cmp}
use Rattle.rows_cell.specs.declared.tables.SessionRow as of_rows
use Rattle.rows_cell.specs.declared.tables.Rows.{Rows}
use Rattle.rows_cell.specs.declared.tables.Edit.TheVariants.{PutSession}
use Rattle.rows_cell.specs.Rows.{changed_rows, map_of}
use Rattle.rows_cell.specs.LockRows.{LockChange, locks_edits}
use Rattle.rows_cell.proofs.LockChanges.{nodes_behind, locks_behind, locks_edits_done, changes_map, expiry_done}

-- other rows of the same cell: its secret, its epoch, whose sessions have ended, and what its names show
pub record IsBeside (rows new : Rows) : Type 0 where
  pub map : map_of new ≡ map_of rows
  pub secret : new.secret ≡ rows.secret
  pub epoch : new.epoch ≡ rows.epoch
  pub ended_below : new.ended_below ≡ rows.ended_below

-- with a session's row
pub record HasRow (rows new : Rows) (client : ℕ) (row : of_rows.SessionRow) : Type 0 where
  pub beside : IsBeside rows new
  pub sessions : new.sessions ≡ insert_entry nat_cmp rows.sessions client row

row_behind : (rows new : Rows) (changes : List LockChange) (client : ℕ) (row : of_rows.SessionRow)
    → new ≡ record rows { nodes = nodes_behind rows.nodes changes; locks = locks_behind rows.locks changes; sessions = insert_entry nat_cmp rows.sessions client row } → HasRow rows new client row
row_behind rows new changes client row is = record {
  beside = record { map = ap (λ r. map_of r) is ∙ changes_map rows.nodes changes; secret = ap (λ r. r.secret) is; epoch = ap (λ r. r.epoch) is; ended_below = ap (λ r. r.ended_below) is };
  sessions = ap (λ r. r.sessions) is;
}

pub let_go : (rows : Rows) (changes : List LockChange) (client : ℕ) (row : of_rows.SessionRow) → HasRow rows (changed_rows rows (locks_edits changes ++ PutSession client row ∷ [])) client row
let_go rows changes client row =
    row_behind rows (changed_rows rows (locks_edits changes ++ PutSession client row ∷ [])) changes client row (expiry_done rows changes client row)

-- with no session's
pub record IsRelocked (rows new : Rows) : Type 0 where
  pub beside : IsBeside rows new
  pub sessions : new.sessions ≡ rows.sessions

locks_behind_them : (rows new : Rows) (changes : List LockChange) → new ≡ record rows { nodes = nodes_behind rows.nodes changes; locks = locks_behind rows.locks changes } → IsRelocked rows new
locks_behind_them rows new changes is = record {
  beside = record { map = ap (λ r. map_of r) is ∙ changes_map rows.nodes changes; secret = ap (λ r. r.secret) is; epoch = ap (λ r. r.epoch) is; ended_below = ap (λ r. r.ended_below) is };
  sessions = ap (λ r. r.sessions) is;
}

pub relocked_rows : (rows : Rows) (changes : List LockChange) → IsRelocked rows (changed_rows rows (locks_edits changes))
relocked_rows rows changes = locks_behind_them rows (changed_rows rows (locks_edits changes)) changes (locks_edits_done rows changes)
