use Rattle.std.proofs.Common.{Some, None, lit<, sym, ◌∙◌}
use Rattle.std.proofs.lemmas.Str.Pattern.{rfind_char}
use Rattle.names_cell.proofs.Lasts.{last_at, last_none}
use Rattle.names_cell.proofs.grammar.last_of.Goals as goal

pub returns-in-Some : goal.returns-in-Some
returns-in-Some c =
    let h = rfind_char 47 c.args.path.now (Some c.in-Some.at) c.in-Some.ensures.cases (lit< tt) in
    c.range_from.ensures.value ∙ sym (last_at c.args.path.now c.in-Some.at h.0 h.1 h.2)

pub returns-in-None : goal.returns-in-None
returns-in-None c = sym (last_none c.args.path.now (rfind_char 47 c.args.path.now None c.in-None.ensures.cases (lit< tt)))
