-- Lines that pass a test, counted one by one.
use Rattle.std.proofs.Common.{◌≡◌, ℕ, ◌+◌, ◌<◌, List, length, drop, get_or, Bool, cond, sym, ap, ◌∙◌}
use Rattle.std.specs.Prelude.{count_by}
use Rattle.std.proofs.lemmas.List.Sums.{sum_by-drop_more}
use Rattle.node_core.specs.declared.lines.Line.{Line}

pub count_more : (p : Line → Bool) (xs : List Line) (i : ℕ) (x : Line) → i < length xs → x ≡ get_or xs i x → count_by p (drop i xs) ≡ cond (p x) 1 0 + count_by p (drop (i + 1) xs)
count_more p xs i x lt at = sum_by-drop_more (λ l. cond (p l) 1 0) xs i x lt ∙ ap (λ w. cond (p w) 1 0 + count_by p (drop (i + 1) xs)) (sym at)
