use Rattle.std.proofs.Common.{◌≡◌, ◌+◌, ◌∷◌, ◌++◌, true, length, drop, sym, ap, ◌∙◌}
use Rattle.names_cell.specs.Text.{is_under}
use Rattle.names_cell.proofs.Children.{joined_under, cut_behind}
use Rattle.names_cell.proofs.paths.Name.behind.Goals as goal

pub range_from-requires : goal.range_from-requires
range_from-requires c =
    let under : is_under c.as_str-text.result.now c.as_str.result.now ≡ true =
    ap (λ t. is_under t c.as_str.result.now) c.as_str-text.ensures.text ∙ ap (is_under c.args.self.now) c.as_str.ensures.text ∙ c.requires in
    λ some. cut_behind c.as_str.result.now c.as_str-text.result.now under c.as_str-text.utf8

pub returns : goal.returns
returns c = record {
  joined =
      joined_under c.args.top.now c.args.self.now c.requires
      ∙ ap (λ t. c.args.top.now ++ 47 ∷ t)
      (sym (c.range_from.ensures.value ∙ ap (λ t. drop (length t + 1) c.as_str-text.result.now) c.as_str.ensures.text ∙ ap (drop (length c.args.top.now + 1)) c.as_str-text.ensures.text));
  name = c.as_str-text.ensures.name;
  above = c.as_str.ensures.name;
}
