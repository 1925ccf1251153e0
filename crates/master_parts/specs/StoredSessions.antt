-- Sessions as rows.
use Rattle.std.specs.Prelude.{ℕ, List, map}
use Rattle.rows_cell.specs.declared.tables.Rows.{Rows}
use Rattle.session_core.specs.declared.records.Session.{Session}
use Rattle.session_core.specs.Session.{recovered_session}
use Rattle.session_core.specs.Sessions.{SessionTable}
use Rattle.tags_cell.specs.declared.messages.outs.Reply.{Reply}
use Rattle.rows_cell.specs.declared.tables.SessionRow as stored

-- a session of the rows lives for the recovery timeout at least
abbrev pub taken_over : ℕ → ℕ × stored.SessionRow → ℕ × Session Reply
taken_over now entry = (entry.0, recovered_session entry.1.principal entry.1.live now)

abbrev pub sessions_of : Rows → ℕ → ℕ → SessionTable Reply
sessions_of rows lease now = record { lease = lease; sessions = map (taken_over now) rows.sessions }

-- what the rows hold of a session
abbrev pub row_of : Session Reply → stored.SessionRow
row_of session = record { principal = session.principal; live = session.live }

abbrev pub session_rows : SessionTable Reply → List (ℕ × stored.SessionRow)
session_rows table = map (λ entry. (entry.0, row_of entry.1)) table.sessions
