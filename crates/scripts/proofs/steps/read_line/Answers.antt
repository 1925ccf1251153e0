use Rattle.std.proofs.Common.{◌≡◌, sym, subst, ◌∙◌}
use Rattle.std.specs.Prelude.{IfOk}
use Rattle.std.proofs.lemmas.Str.{utf8_lossy-IsUtf8}
use Rattle.std.specs.Str.Lossy.{utf8_lossy}
use Rattle.scripts.specs.Readings.{IsParsed}
use Rattle.scripts.proofs.steps.read_line.Goals as goal

pub returns-in-Ok : goal.returns-in-Ok
returns-in-Ok c =
    let whole : utf8_lossy c.args.line.now ≡ c.args.line.now = utf8_lossy-IsUtf8 c.args.line.now c.in-Ok.ensures.cases.1 in
    subst (λ l. IfOk c.read_step.result (IsParsed l)) (c.in-Ok.ensures.cases.0 ∙ sym whole) c.read_step.ensures

pub returns-in_ok-from_utf8_lossy-in-Err : goal.returns-in_ok-from_utf8_lossy-in-Err
returns-in_ok-from_utf8_lossy-in-Err c =
    subst (λ l. IfOk c.read_step-in-Err.result (IsParsed l)) (c.as_str.ensures.value ∙ c.in_ok-from_utf8_lossy-in-Err.ensures.lossy) c.read_step-in-Err.ensures
