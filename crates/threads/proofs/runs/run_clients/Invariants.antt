use Rattle.watch_cell.specs.Views.{watched}
use Rattle.threads.proofs.runs.run_clients.Given as goal

-- the cell and the blanks that are handed in
abbrev pub ghosts-run_with-O-Opening : goal.ghosts-run_with-O-Opening
ghosts-run_with-O-Opening g a = record { opening = watched a.cell; seats = a.clients }

abbrev pub ghosts-run_with-I-Ledger : goal.ghosts-run_with-I-Ledger
ghosts-run_with-I-Ledger g a = record { name = a.blanks.issued.name; parts = a.blanks.issued.parts }

abbrev pub ghosts-run_with-A-Ledger : goal.ghosts-run_with-A-Ledger
ghosts-run_with-A-Ledger g a = record { name = a.blanks.acknowledged.name; parts = a.blanks.acknowledged.parts }

abbrev pub ghosts-run_with-E-Ledger : goal.ghosts-run_with-E-Ledger
ghosts-run_with-E-Ledger g a = record { name = a.blanks.expired.name; parts = a.blanks.expired.parts }

abbrev pub ghosts-run_with-C-Ledger : goal.ghosts-run_with-C-Ledger
ghosts-run_with-C-Ledger g a = record { name = a.blanks.calls.name; parts = a.blanks.calls.parts }
