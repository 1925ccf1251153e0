use Rattle.hosting.specs.declared.tellings.MasterFrame.TheVariants.{Touches}
use Rattle.hosting.proofs.Hearings.{text_made, text_refused}
use Rattle.hosting.proofs.heard.read_name.Goals as goal

pub returns-in-Ok : goal.returns-in-Ok
returns-in-Ok c = text_made Touches _ _ c.in-Ok.ensures

pub returns-in-Err : goal.returns-in-Err
returns-in-Err c = λ other. text_refused Touches _ _ (c.in-Err.ensures other)
