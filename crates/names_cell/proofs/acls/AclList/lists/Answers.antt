use Rattle.std.proofs.Common.{rules, tests, ◌∙◌, ap, sym, List, ℕ, Bool}
use Rattle.std.specs.List.{list_any, slice_split}
use Rattle.std.specs.Str.{bytes_eq}
use Rattle.std.proofs.lemmas.Iterator.Search.{any_from_yields_List}
use Rattle.std.proofs.lemmas.Iterator.Splits.{YieldsList-from_slice_split}
use Rattle.names_cell.specs.Text.{is_line_feed}
use Rattle.names_cell.proofs.Lines.{any_line}
use Rattle.names_cell.proofs.ComponentLemmas.{no_component}
use Rattle.names_cell.proofs.acls.AclList.lists.Goals as goal

pub returns : goal.returns
returns c =
    let test : List ℕ → Bool = λ line. bytes_eq line c.args.principal.now in
    let found = any_from_yields_List test _ _ _ c.any.ensures.ran
    (YieldsList-from_slice_split _ is_line_feed c.self.inside.content.now c.split.ensures.rest c.split.ensures.done c.split.ensures.closure (λ x b q k. search (rules, tests)))
    (λ x b q k. search (rules, tests)) in
    found ∙ sym (any_line test (no_component c.args.principal.now c.as_str.ensures.component) (slice_split is_line_feed c.self.inside.content.now)) ∙ ap (list_any test) c.self.view_is
