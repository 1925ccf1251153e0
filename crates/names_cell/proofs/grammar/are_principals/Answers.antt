use Rattle.std.proofs.Common.{rules, tests}
use Rattle.std.proofs.lemmas.Iterator.Search.{all_from_yields_List}
use Rattle.std.proofs.lemmas.Iterator.Splits.{YieldsList-from_slice_split}
use Rattle.names_cell.specs.Text.{is_component, is_line_feed}
use Rattle.names_cell.proofs.grammar.are_principals.Goals as goal

pub returns : goal.returns
returns c =
    all_from_yields_List is_component _ _ _ c.all.ensures.ran
    (YieldsList-from_slice_split _ is_line_feed c.args.lines.now c.split.ensures.rest c.split.ensures.done c.split.ensures.closure (λ x b q k. search (rules, tests)))
    (λ x b q k. search (rules, tests))
