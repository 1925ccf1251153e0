use Rattle.sqlite.specs.Files.{file_state}
use Rattle.cellctl.specs.Taken.{IsAdopted}
use Rattle.cellctl.proofs.Lefts.{given_back}
use Rattle.cellctl.proofs.admission.take_over.Goals as goal

pub returns-then-is_ours-clause-ok : goal.returns-then-is_ours-clause-ok
returns-then-is_ours-clause-ok g c = record { fresh = record { cell = c.in-Ok.ensures.cell; left = c.in-Ok.ensures.left; none = c.in-Ok.ensures.counted }; doubted = c.in-Ok.ensures.doubted; adopts = c.in-Ok.ensures.rows }

pub returns-clause-err : goal.returns-clause-err
returns-clause-err g c =
    let is : IsAdopted c.args.chosen.now.settings (file_state c.args.conn) c.in-Ok.records = record { fresh = record { cell = c.in-Ok.ensures.cell; left = c.in-Ok.ensures.left; none = c.in-Ok.ensures.counted }; doubted = c.in-Ok.ensures.doubted; adopts = c.in-Ok.ensures.rows } in
    given_back c.args.chosen.now.settings (file_state c.args.conn) c.in-Ok.records c.given_back.result is c.given_back.ensures.sure c.given_back.ensures.left

pub returns-in-Err-clause-err : goal.returns-in-Err-clause-err
returns-in-Err-clause-err g c = record { back = c.in-Err.ensures.back; damaged = c.in-Err.ensures.damaged; full = c.in-Err.ensures.full }
