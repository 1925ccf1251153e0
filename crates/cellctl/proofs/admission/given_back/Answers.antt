use Rattle.std.proofs.Common.{arith, sym, ◌∙◌}
use Rattle.sqlite.specs.State.{HasCleanDisk}
use Rattle.sqlite.specs.Files.{file_state}
use Rattle.cellctl.proofs.admission.given_back.Goals as goal

pub returns-clause-sure : goal.returns-clause-sure
returns-clause-sure g c clean =
    let quiet = c.into_store.ensures.quiet in
    let doubted = c.release.ensures.doubted in
    omega (arith, quiet.clean, doubted, clean)

pub returns-clause-left : goal.returns-clause-left
returns-clause-left g c clean db may =
    let quiet = c.into_store.ensures.quiet in
    let before : HasCleanDisk (file_state c.release.result) = omega (arith, quiet.clean, clean) in
    c.release.ensures.left before db (quiet.outcomes db may)
