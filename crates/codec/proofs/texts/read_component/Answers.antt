use Rattle.names_cell.specs.Text.{is_component}
use Rattle.codec.specs.Fields.{block, component}
use Rattle.codec.proofs.TextLaws.{no_text, utf8_of_component}
use Rattle.codec.proofs.texts.read_component.Goals as goal

pub returns-in_default : goal.returns-in_default
unfolding component
returns-in_default c = λ other. no_text is_component block _ _ _ c.in_ok-bytes.ensures utf8_of_component c.in_default.ensures.cases.0
