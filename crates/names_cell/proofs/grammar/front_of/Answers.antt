use Rattle.std.proofs.Common.{◌≡◌, take, Some, None, lit<, ap, sym, ◌∙◌, arith}
use Rattle.std.specs.List.{slice_range}
use Rattle.std.proofs.lemmas.Grind.{common_steps}
use Rattle.std.proofs.lemmas.Str.Pattern.{rfind_char}
use Rattle.names_cell.proofs.Fronts.{front_at, front_none}
use Rattle.names_cell.proofs.grammar.front_of.Goals as goal

pub returns-in_err-at : goal.returns-in_err-at
returns-in_err-at c =
    rw c.from_residual.ensures (sym (front_none c.args.path.now (rfind_char 47 c.args.path.now None c.in_err-at.ensures.cases (lit< tt))))

pub returns : goal.returns
returns c =
    let h = rfind_char 47 c.args.path.now (Some c.in_ok-at.at) c.in_ok-at.ensures.cases (lit< tt) in
    let same : slice_range c.args.path.now 0 c.in_ok-at.at ≡ take c.in_ok-at.at c.args.path.now = grind (arith, common_steps) in
    ap Some (c.range.ensures.value ∙ same) ∙ sym (front_at c.args.path.now c.in_ok-at.at h.0 h.1 h.2)
