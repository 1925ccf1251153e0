-- Lines as bytes, one after the other.
use Rattle.std.proofs.Common.{◌≡◌, ℕ, suc, ◌+◌, ◌<◌, ◌≤◌, List, [], ◌∷◌, ◌++◌, length, get_or, take, refl, sym, ap, ◌∙◌, append_assoc, arith}
use Rattle.std.proofs.lemmas.List.{take_all}
use Rattle.std.proofs.Math.Seq.{take-suc}
use Rattle.node_core.specs.Texts.{line_text}
use Rattle.node_core.specs.declared.lines.Line.{Line}
use Rattle.client_exports.specs.Shows.{lines_bytes}

both_bytes : (a b : List Line) → lines_bytes (a ++ b) ≡ lines_bytes a ++ lines_bytes b
both_bytes [] b = refl
both_bytes (line ∷ a) b = ap (λ rest. line_text line ++ (10 ∷ rest)) (both_bytes a b) ∙ sym (append_assoc (line_text line) (10 ∷ lines_bytes a) (lines_bytes b))

take_next : (xs : List Line) (i : ℕ) (x : Line) → i < length xs → x ≡ get_or xs i x → take (i + 1) xs ≡ take i xs ++ x ∷ []
take_next xs i x less at =
    let next : i + 1 ≡ suc i = omega arith in
    ap (λ (n : ℕ). take n xs) next ∙ take-suc xs i x less ∙ ap (λ (y : Line). take i xs ++ y ∷ []) (sym at)

-- after one more
pub bytes_next : (xs : List Line) (i : ℕ) (x : Line) (old new : List ℕ) → i < length xs → x ≡ get_or xs i x → old ≡ lines_bytes (take i xs) → new ≡ old ++ lines_bytes (x ∷ []) → new ≡ lines_bytes (take (i + 1) xs)
bytes_next xs i x old new less at before put =
    put ∙ ap (λ (front : List ℕ). front ++ lines_bytes (x ∷ [])) before ∙ sym (ap lines_bytes (take_next xs i x less at) ∙ both_bytes (take i xs) (x ∷ []))

pub bytes_all : (xs : List Line) (i : ℕ) (out : List ℕ) → length xs ≤ i → out ≡ lines_bytes (take i xs) → out ≡ lines_bytes xs
bytes_all xs i out le is = is ∙ ap lines_bytes (take_all i xs le)
