use Rattle.names_cell.specs.Text.{is_name}
use Rattle.tags_cell.proofs.NameTexts.{utf8_of_name}
use Rattle.codec.specs.Fields.{block, name}
use Rattle.codec.proofs.TextLaws.{no_text}
use Rattle.codec.proofs.texts.read_name.Goals as goal

pub returns-in_default : goal.returns-in_default
unfolding name
returns-in_default c = λ other. no_text is_name block _ _ _ c.in_ok-bytes.ensures utf8_of_name c.in_default.ensures.cases.0
