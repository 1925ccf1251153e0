use Rattle.std.proofs.Common.{◌∙◌}
use Rattle.names_cell.proofs.Subtrees.{answer_some, answer_none}
use Rattle.names_cell.proofs.paths.Name.is_under.Goals as goal

pub returns-in-Some : goal.returns-in-Some
returns-in-Some c =
    answer_some c.args.top.now c.args.self.now _ _ c.in-Some.rest.now c.starts_with.result (c.as_bytes-top.ensures.value ∙ c.as_str.ensures.text)
    (c.as_bytes.ensures.value ∙ c.as_str-2.ensures.text) c.in-Some.ensures.cases.0 c.in-Some.ensures.cases.1 c.starts_with.ensures.value

pub returns-in-None : goal.returns-in-None
returns-in-None c =
    answer_none c.args.top.now c.args.self.now _ _ (c.as_bytes-top.ensures.value ∙ c.as_str.ensures.text) (c.as_bytes.ensures.value ∙ c.as_str-2.ensures.text) c.in-None.ensures.cases
