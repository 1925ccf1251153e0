-- The lines of an ACL file.
use Rattle.std.proofs.Common.{◌≡◌, ℕ, zero, suc, ◌+◌, List, [], ◌∷◌, ◌++◌, length, get_or, take, Bool, true, false, cond, eqb, refl, sym, ap, ◌∙◌, arith}
use Rattle.std.specs.Prelude.{◌≢◌, ◌||◌}
use Rattle.std.specs.List.{slice_split, onto_first, list_any}
use Rattle.std.proofs.lemmas.List.{take_more}
use Rattle.std.proofs.lemmas.Bool.Decides.{nat_tests}
use Rattle.std.proofs.lemmas.Grind.{common_steps}
use Rattle.names_cell.specs.Text.{is_line_feed, lines_of_parts, text_lines}

-- there is always a first part
first_part : (bs : List ℕ) → (part : List ℕ) × (parts : List (List ℕ)) × (slice_split is_line_feed bs ≡ part ∷ parts)
first_part [] = ([], [], refl)
first_part (b ∷ bs) =
    let t = first_part bs in
    elim (is_line_feed b) as (λ v. (part : List ℕ) × (parts : List (List ℕ)) × (cond v ([] ∷ slice_split is_line_feed bs) (onto_first b (slice_split is_line_feed bs)) ≡ part ∷ parts))
    [ true ↦ ([], slice_split is_line_feed bs, refl) | false ↦ (b ∷ t.0, t.1, ap (onto_first b) t.2) ]

-- and a second one where an LF ends the text
two_parts : (bs : List ℕ) → (part next : List ℕ) × (parts : List (List ℕ)) × (slice_split is_line_feed (bs ++ 10 ∷ []) ≡ part ∷ next ∷ parts)
two_parts [] = ([], [], [], refl)
two_parts (b ∷ bs) =
    let t = two_parts bs in
    elim (is_line_feed b) as (λ v. (part next : List ℕ) × (parts : List (List ℕ)) × (cond v ([] ∷ slice_split is_line_feed (bs ++ 10 ∷ [])) (onto_first b (slice_split is_line_feed (bs ++ 10 ∷ []))) ≡ part ∷ next ∷ parts))
    [ true ↦ ([], t.0, t.1 ∷ t.2, ap (λ ps. [] ∷ ps) t.3) | false ↦ (b ∷ t.0, t.1, t.2, ap (onto_first b) t.3) ]

in_front : (b : ℕ) (v : Bool) (p q : List ℕ) (ps rest : List (List ℕ)) → lines_of_parts (p ∷ q ∷ ps) ≡ rest → lines_of_parts (cond v ([] ∷ p ∷ q ∷ ps) (onto_first b (p ∷ q ∷ ps))) ≡ cond v ([] ∷ rest) (onto_first b rest)
in_front b true p q ps rest h = ap (λ ls. [] ∷ ls) h
in_front b false p q ps rest h = ap (onto_first b) h

-- the LF at the end is no line of its own
ended : (bs : List ℕ) → lines_of_parts (slice_split is_line_feed (bs ++ 10 ∷ [])) ≡ slice_split is_line_feed bs
ended [] = refl
ended (b ∷ bs) =
    let t = two_parts bs in
    let h : lines_of_parts (t.0 ∷ t.1 ∷ t.2) ≡ slice_split is_line_feed bs = ap lines_of_parts (sym t.3) ∙ ended bs in
    ap (λ ps. lines_of_parts (cond (is_line_feed b) ([] ∷ ps) (onto_first b ps))) t.3 ∙ in_front b (is_line_feed b) t.0 t.1 t.2 (slice_split is_line_feed bs) h

more_in_front : (b : ℕ) (v : Bool) (p : List ℕ) (ps : List (List ℕ)) → lines_of_parts (p ∷ ps) ≡ p ∷ ps → lines_of_parts (cond v ([] ∷ p ∷ ps) (onto_first b (p ∷ ps))) ≡ cond v ([] ∷ p ∷ ps) (onto_first b (p ∷ ps))
more_in_front b true p ps h = ap (λ ls. [] ∷ ls) h
more_in_front b false p [] h = refl
more_in_front b false p (q ∷ ps) h = let e : lines_of_parts (q ∷ ps) ≡ q ∷ ps = cc in ap (λ ls. (b ∷ p) ∷ ls) e

-- where another byte ends the text each part is a line
pub not_ended : (bs : List ℕ) (n : ℕ) → n + 1 ≡ length bs → get_or bs n 0 ≢ 10 → text_lines bs ≡ slice_split is_line_feed bs
not_ended [] n h other = absurd (omega arith)
not_ended (b ∷ []) zero h other = let e : eqb b 10 ≡ false = grind (arith, nat_tests) in rw e refl
not_ended (b ∷ []) (suc n) h other = absurd (omega arith)
not_ended (b ∷ c ∷ bs) zero h other = absurd (omega arith)
not_ended (b ∷ c ∷ bs) (suc n) h other =
    let t = first_part (c ∷ bs) in
    let l : text_lines (c ∷ bs) ≡ slice_split is_line_feed (c ∷ bs) = not_ended (c ∷ bs) n (omega arith) other in
    let e : lines_of_parts (t.0 ∷ t.1) ≡ t.0 ∷ t.1 = ap lines_of_parts (sym t.2) ∙ l ∙ t.2 in
    let step : List (List ℕ) → List (List ℕ) = λ ps. cond (is_line_feed b) ([] ∷ ps) (onto_first b ps) in
    ap (λ ps. lines_of_parts (step ps)) t.2 ∙ more_in_front b (is_line_feed b) t.0 t.1 e ∙ ap step (sym t.2)

front_and_last : (bs : List ℕ) (n : ℕ) → n + 1 ≡ length bs → bs ≡ take n bs ++ get_or bs n 0 ∷ []
front_and_last bs n h = grind (arith, common_steps, take_more bs n 0)

pub ended_at : (bs : List ℕ) (n : ℕ) → n + 1 ≡ length bs → get_or bs n 0 ≡ 10 → text_lines bs ≡ slice_split is_line_feed (take n bs)
ended_at bs n h at =
    let e : bs ≡ take n bs ++ 10 ∷ [] = front_and_last bs n h ∙ ap (λ b. take n bs ++ b ∷ []) at in
    ap text_lines e ∙ ended (take n bs)

-- an empty last part is none that is looked for
pub any_line : (test : List ℕ → Bool) → test [] ≡ false → (parts : List (List ℕ)) → list_any test (lines_of_parts parts) ≡ list_any test parts
any_line test h [] = refl
any_line test h ([] ∷ []) = rw h refl
any_line test h ((b ∷ bs) ∷ []) = refl
any_line test h (x ∷ y ∷ more) = ap (λ v. test x || v) (any_line test h (y ∷ more))
