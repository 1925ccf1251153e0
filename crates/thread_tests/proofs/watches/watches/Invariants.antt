use Rattle.watch_cell.specs.Views.{watched}
use Rattle.thread_tests.proofs.watches.watches.Given as goal

-- the cell and the blanks that are handed in
abbrev pub ghosts-on_watch-O-Opening : goal.ghosts-on_watch-O-Opening
ghosts-on_watch-O-Opening g a = record { opening = watched a.cell; seats = a.seats }

abbrev pub ghosts-on_watch-I-Ledger : goal.ghosts-on_watch-I-Ledger
ghosts-on_watch-I-Ledger g a = record { name = a.blanks.issued.name; parts = a.blanks.issued.parts }

abbrev pub ghosts-on_watch-A-Ledger : goal.ghosts-on_watch-A-Ledger
ghosts-on_watch-A-Ledger g a = record { name = a.blanks.acknowledged.name; parts = a.blanks.acknowledged.parts }

abbrev pub ghosts-on_watch-E-Ledger : goal.ghosts-on_watch-E-Ledger
ghosts-on_watch-E-Ledger g a = record { name = a.blanks.expired.name; parts = a.blanks.expired.parts }

abbrev pub ghosts-on_watch-C-Ledger : goal.ghosts-on_watch-C-Ledger
ghosts-on_watch-C-Ledger g a = record { name = a.blanks.calls.name; parts = a.blanks.calls.parts }
