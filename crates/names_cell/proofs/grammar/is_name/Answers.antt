use Rattle.std.proofs.Common.{◌≡◌, ◌≤◌, ◌∷◌, ℕ, List, length, drop, arith, sym, ap, subst, ◌∙◌, refl}
use Rattle.std.specs.Prelude.{nat_le, true}
use Rattle.std.specs.List.{list_all, slice_split}
use Rattle.std.proofs.lemmas.Bool.Decides.{nat_tests}
use Rattle.names_cell.specs.Text.{is_name, is_component, is_slash}
use Rattle.names_cell.proofs.grammar.is_name.Goals as goal

test_le : (m n : ℕ) → m ≤ n → nat_le m n ≡ true
test_le m n h = grind (arith, nat_tests)

behind_prefix : (rest : List ℕ) → length (47 ∷ 108 ∷ 115 ∷ 47 ∷ rest) ≤ 512 → is_name (47 ∷ 108 ∷ 115 ∷ 47 ∷ rest) ≡ list_all is_component (slice_split is_slash rest)
behind_prefix rest h = let e = test_le _ _ h in rw e refl

behind : (text path : List ℕ) (x : ℕ) → text ≡ 47 ∷ 108 ∷ 115 ∷ 47 ∷ drop x text → path ≡ drop x text → length text ≤ 512 → is_name text ≡ list_all is_component (slice_split is_slash path)
behind text path x e p h =
    ap is_name e ∙ behind_prefix (drop x text) (let P : List ℕ → Type 0 = λ t. length t ≤ 512 in subst P e h)
    ∙ ap (λ r. list_all is_component (slice_split is_slash r)) (sym p)

pub returns : goal.returns
returns c =
    let h = c.in-Some.ensures.cases in
    c.are_components.ensures ∙ sym (behind c.args.text.now c.in-Some.path.now h.0 h.1.1 h.2 c.if-text-gt512.false)
